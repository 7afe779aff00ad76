-- The status of a run is a function of the bytes that were left
use Rattle.std.proofs.Common.{◌≡◌, ℕ, ◌≤◌, min, List, Bool, true, false, IsTrue, length, sym, ap, ap₂, ◌∙◌, refl, inl, inr, ◌⊎◌, subst, Result}
use Rattle.ag_io.specs.Counts.{Rose}
use Rattle.ag_io.specs.Views.{SinkView}
use Rattle.command_words.specs.declared.words.Command.{Command}
use Rattle.command_words.specs.declared.words.Command.TheVariants.{Member, Points, Params, Bound, Check, Encode, Decode, Votes, Trial, Erase, Design}
use Rattle.command_words.specs.declared.words.Words.{Words}
use Rattle.command_words.specs.Lines.{IsCommandLine}
use Rattle.stored_form.specs.Form.{Form}
use Rattle.stream_codec.specs.Encoded.{encode_answer}
use Rattle.stream_codec.specs.Decoding.{answer_to, NoneRose}
use Rattle.stream_codec.specs.Salvaging.{salvage_answer_to}
use Rattle.stream_codec.specs.declared.limits.TheConstants.{MOST_BYTES}
use Rattle.code_descriptor.specs.declared.DescCause.{DescCause}
use Rattle.code_descriptor.specs.Parts.{Parts}
use Rattle.descriptor_code.specs.Plain.{plain_form}
use Rattle.agcode_top.specs.declared.status.Status.{Status}
use Rattle.agcode_top.specs.declared.status.Status.TheVariants.{Done, NotCodeword, Beyond, Ragged, Framing, TableRefused, WordLength, Salvaged, BadMark, NoCodeword, Ambiguous, NoDesign, Usage, Descriptor, TooLong, DescFault, InputFault, OutFault, ReportFault, NoMemory}
use Rattle.agcode_top.specs.Calls.{Call, SourceCall, SinkCall, until, NoneFailed}
use Rattle.agcode_top.specs.Statuses.{is_streamed, IsAnswer, IsOwn, CanSay, CanStop, CanEnd}
use Rattle.agcode_top.specs.Commands.{Accepts, Refuses, Says, PassesAt, most_taken}
use Rattle.agcode_top.specs.Streams.{Encoded, Decoded, SalvagedText, encode_status, decode_status, salvage_status, decode_of}
use Rattle.agcode_top.specs.Headline.{AnswersOver, IsLike, Yields, EncodedOver, DecodedOver, SalvagedOver}
use Rattle.agcode_top.specs.Pieces.{RunSays, IsWhole, SameBytes, PiecesLaw}
use Rattle.agcode_top.proofs.EndLemmas.{stayed-front, same-parts, refused-accepted}

-- ---- kinds of statuses
abbrev IsFault : Status → Type 0
IsFault s = (s ≡ DescFault) ⊎ (s ≡ InputFault) ⊎ (s ≡ OutFault) ⊎ (s ≡ ReportFault)

no-fault : (texts : List (List ℕ)) (c : Call) (s : Status) → RunSays texts c s → IsWhole c → IsFault s → ⊥
no-fault texts c s h whole (inl e) = whole.none.desc (h.desc_fault e)
no-fault texts c s h whole (inr (inl e)) = whole.none.input (h.input_fault e)
no-fault texts c s h whole (inr (inr (inl e))) = whole.none.out (h.out_fault e)
no-fault texts c s h whole (inr (inr (inr e))) = whole.none.report (h.report_fault e)

said-answer : (s : Status) (command : Command) → CanSay s command → IsAnswer s
said-answer Done command h = tt
said-answer NotCodeword command h = tt
said-answer (Beyond group word) command h = tt
said-answer (Ragged extra) command h = tt
said-answer Framing command h = tt
said-answer (TableRefused line) command h = tt
said-answer (WordLength taken) command h = tt
said-answer Salvaged command h = tt
said-answer (BadMark place) command h = tt
said-answer NoCodeword command h = tt
said-answer (Ambiguous place) command h = tt
said-answer (NoDesign most) command h = tt
said-answer (TooLong taken) command h = tt
said-answer Usage command h = h
said-answer (Descriptor cause) command h = h
said-answer DescFault command h = h
said-answer InputFault command h = h
said-answer OutFault command h = h
said-answer ReportFault command h = h
said-answer NoMemory command h = h

answer-own : (s : Status) → IsAnswer s → IsOwn s
answer-own Done h = tt
answer-own NotCodeword h = tt
answer-own (Beyond group word) h = tt
answer-own (Ragged extra) h = tt
answer-own Framing h = tt
answer-own (TableRefused line) h = tt
answer-own (WordLength taken) h = tt
answer-own Salvaged h = tt
answer-own (BadMark place) h = tt
answer-own NoCodeword h = tt
answer-own (Ambiguous place) h = tt
answer-own (NoDesign most) h = tt
answer-own (TooLong taken) h = tt
answer-own Usage h = h
answer-own (Descriptor cause) h = h
answer-own DescFault h = h
answer-own InputFault h = tt
answer-own OutFault h = tt
answer-own ReportFault h = tt
answer-own NoMemory h = h

abbrev IsStop : Status → Type 0
IsStop s = ((cause : DescCause) × (s ≡ Descriptor cause)) ⊎ IsFault s ⊎ (s ≡ NoMemory)

stops : (s : Status) (command : Command) → CanStop s command → IsStop s
stops (Descriptor cause) command h = inl (cause, refl)
stops DescFault command h = inr (inl (inl refl))
stops InputFault command h = inr (inl (inr (inl refl)))
stops OutFault command h = inr (inl (inr (inr (inl refl))))
stops ReportFault command h = inr (inl (inr (inr (inr refl))))
stops NoMemory command h = inr (inr refl)
stops Done command h = absurd h
stops NotCodeword command h = absurd h
stops (Beyond group word) command h = absurd h
stops (Ragged extra) command h = absurd h
stops Framing command h = absurd h
stops (TableRefused line) command h = absurd h
stops (WordLength taken) command h = absurd h
stops Salvaged command h = absurd h
stops (BadMark place) command h = absurd h
stops NoCodeword command h = absurd h
stops (Ambiguous place) command h = absurd h
stops (NoDesign most) command h = absurd h
stops (TooLong taken) command h = absurd h
stops Usage command h = absurd h

yields : (command : Command) (said s : Status) → Yields command said s → IsFault s ⊎ (s ≡ NoMemory)
yields command said DescFault h = inl (inl refl)
yields command said InputFault h = inl (inr (inl refl))
yields command said OutFault h = inl (inr (inr (inl refl)))
yields command said ReportFault h = inl (inr (inr (inr refl)))
yields command said NoMemory h = inr refl
yields command said Done h = absurd h
yields command said NotCodeword h = absurd h
yields command said (Beyond group word) h = absurd h
yields command said (Ragged extra) h = absurd h
yields command said Framing h = absurd h
yields command said (TableRefused line) h = absurd h
yields command said (WordLength taken) h = absurd h
yields command said Salvaged h = absurd h
yields command said (BadMark place) h = absurd h
yields command said NoCodeword h = absurd h
yields command said (Ambiguous place) h = absurd h
yields command said (NoDesign most) h = absurd h
yields command said (TooLong taken) h = absurd h
yields command said Usage h = absurd h
yields command said (Descriptor cause) h = absurd h

data Kind (command : Command) : Type 0 where
  one_text : is_streamed command ≡ false → Kind command
  encodes : command ≡ Encode → Kind command
  decodes : command ≡ Decode → Kind command

kind-of : (command : Command) → Kind command
kind-of Member = one_text refl
kind-of Points = one_text refl
kind-of Params = one_text refl
kind-of Bound = one_text refl
kind-of Check = one_text refl
kind-of Encode = encodes refl
kind-of Decode = decodes refl
kind-of Votes = one_text refl
kind-of Trial = one_text refl
kind-of Erase = one_text refl
kind-of Design = one_text refl

flag-of : (b : Bool) → (b ≡ false) ⊎ (b ≡ true)
flag-of true = inr refl
flag-of false = inl refl

-- ---- the number taken past a limit
same-long : (taken other : ℕ) (s t : Status) → s ≡ TooLong taken → t ≡ TooLong other → taken ≡ other → s ≡ t
same-long taken other s t e f n = e ∙ ap (λ (x : ℕ). TooLong x) n ∙ sym f

-- one status, or memory was wanting
abbrev EndsAlike : Status → Status → Type 0
EndsAlike s t = (s ≡ t) ⊎ (s ≡ NoMemory) ⊎ (t ≡ NoMemory)

module _ (texts : List (List ℕ)) (w : Words) (a b : Call) (s t : Status) (line : IsCommandLine texts w) (ha : RunSays texts a s) (hb : RunSays texts b t) (wa : IsWhole a) (wb : IsWhole b) (same : SameBytes a b) where
  like : (p : Parts) → PassesAt (most_taken w.command p) a.input s → IsLike (most_taken w.command p) b.input s t → EndsAlike s t
  like p passes (inl e) = inl (sym e)
  like p passes (inr k) =
      let here : k.0 ≡ min (length a.input.before.left) (most_taken w.command p) = subst (λ (x : Status). PassesAt (most_taken w.command p) a.input x) k.2 passes wa.input_told wa.none.input in
      let there : k.1 ≡ min (length b.input.before.left) (most_taken w.command p) = k.4 wb.input_told wb.none.input in
      inl (same-long k.0 k.1 s t k.2 k.3 (here ∙ ap (λ (left : List ℕ). min (length left) (most_taken w.command p)) same.input ∙ sym there))

  -- a refused descriptor is refused again
  from-refused : (cause : DescCause) → s ≡ Descriptor cause → (t ≡ Descriptor cause) ⊎ (t ≡ DescFault) ⊎ (t ≡ NoMemory) → EndsAlike s t
  from-refused cause e (inl f) = inl (e ∙ sym f)
  from-refused cause e (inr (inl f)) = absurd (no-fault texts b t hb wb (inl f))
  from-refused cause e (inr (inr f)) = inr (inr f)

  refused-again : (cause : DescCause) → s ≡ Descriptor cause → EndsAlike s t
  refused-again cause e =
      from-refused cause e (hb.refused w line cause wb.desc_told (subst (λ (text : List ℕ). Refuses w.command text cause) same.desc (ha.descriptor w line cause e wa.desc_told)))

  accepted-again : (p : Parts) → Accepts w.command a.desc.before.left p → Accepts w.command b.desc.before.left p
  accepted-again p h = subst (λ (text : List ℕ). Accepts w.command text p) same.desc h

  -- and where it is accepted, the other run ends by what its command says
  from-stop : (p : Parts) → Accepts w.command a.desc.before.left p → IsStop t → t ≡ NoMemory
  from-stop p h (inl f) = absurd (refused-accepted w.command b.desc.before.left p f.0 (accepted-again p h) (hb.descriptor w line f.0 f.1 wb.desc_told))
  from-stop p h (inr (inl f)) = absurd (no-fault texts b t hb wb f)
  from-stop p h (inr (inr f)) = f

  from-end : (p : Parts) → Accepts w.command a.desc.before.left p → CanEnd t w.command → CanSay t w.command ⊎ (t ≡ NoMemory)
  from-end p h (inl k) = inl k
  from-end p h (inr k) = inr (from-stop p h (stops t w.command k))

  said-again : (p : Parts) → Accepts w.command a.desc.before.left p → CanSay t w.command ⊎ (t ≡ NoMemory)
  said-again p h = from-end p h (hb.own w line)

  from-yield : IsFault t ⊎ (t ≡ NoMemory) → EndsAlike s t
  from-yield (inl f) = absurd (no-fault texts b t hb wb f)
  from-yield (inr f) = inr (inr f)

  from-exactly : (p : Parts) → PassesAt (most_taken w.command p) a.input s → IsLike (most_taken w.command p) b.input s t ⊎ Yields w.command s t → EndsAlike s t
  from-exactly p passes (inl l) = like p passes l
  from-exactly p passes (inr y) = from-yield (yields w.command s t y)

  text-again : is_streamed w.command ≡ false → CanSay s w.command → EndsAlike s t
  text-again n can =
      let k : AnswersOver w a s = ha.answer w line (said-answer s w.command can) n wa.desc_told (λ _. wa.input_told) in
      from-exactly k.parts k.passes (hb.exactly w line n wb.desc_told (λ _. wb.input_told) k.parts s k.text k.told (accepted-again k.parts k.accepted)
      (subst (λ (input : List ℕ). Says w w.command k.parts input s k.text k.told) same.input k.says))

  own-said : (x : Status) → CanSay x w.command → IsOwn x
  own-said x can = answer-own x (said-answer x w.command can)

  one-parts : (p q : Parts) → Accepts w.command a.desc.before.left p → Accepts w.command b.desc.before.left q → p ≡ q
  one-parts p q h k = same-parts w.command b.desc.before.left p q (accepted-again p h) k

  accepted-as : (x : Command) (text : List ℕ) (p : Parts) → w.command ≡ x → Accepts x text p → Accepts w.command text p
  accepted-as x text p c h = subst (λ (y : Command). Accepts y text p) (sym c) h

  -- what both streams answer
  both-encode : (x : EncodedOver a s) (y : EncodedOver b t) → x.parts ≡ y.parts → s ≡ t
  both-encode x y e =
      let first : s ≡ encode_status (encode_answer (plain_form x.parts) MOST_BYTES a.input.before.left) = x.encoded.status_is ∙ ap encode_status (x.encoded.complete wa.input_told wa.none.input wa.none.out) in
      let second : t ≡ encode_status (encode_answer (plain_form y.parts) MOST_BYTES b.input.before.left) = y.encoded.status_is ∙ ap encode_status (y.encoded.complete wb.input_told wb.none.input wb.none.out) in
      first ∙ ap₂ (λ (p : Parts) (left : List ℕ). encode_status (encode_answer (plain_form p) MOST_BYTES left)) e same.input ∙ sym second

  decoded-whole : (c : Call) (u : Status) (x : DecodedOver c u) → IsWhole c → NoneRose (decode_of (plain_form x.parts) c.input c.out (until c.report x.told))
  decoded-whole c u x whole = record {
    source = whole.none.input;
    out = whole.none.out;
    report = stayed-front c.report.before.faults x.told.faults c.report.after.faults x.decoded.decoded.report_counted x.counted whole.none.report;
  }

  both-decode : (x : DecodedOver a s) (y : DecodedOver b t) → x.parts ≡ y.parts → s ≡ t
  both-decode x y e =
      let first : s ≡ decode_status (answer_to (plain_form x.parts) MOST_BYTES a.input.before.left) = x.decoded.status_is ∙ ap decode_status (x.decoded.complete wa.input_told (decoded-whole a s x wa)) in
      let second : t ≡ decode_status (answer_to (plain_form y.parts) MOST_BYTES b.input.before.left) = y.decoded.status_is ∙ ap decode_status (y.decoded.complete wb.input_told (decoded-whole b t y wb)) in
      first ∙ ap₂ (λ (p : Parts) (left : List ℕ). decode_status (answer_to (plain_form p) MOST_BYTES left)) e same.input ∙ sym second

  salvaged-whole : (c : Call) (u : Status) (x : SalvagedOver c u) → IsWhole c → NoneRose (decode_of (plain_form x.parts) c.input c.out (until c.report x.told))
  salvaged-whole c u x whole = record {
    source = whole.none.input;
    out = whole.none.out;
    report = stayed-front c.report.before.faults x.told.faults c.report.after.faults x.salvaged.salvaged.report_counted x.counted whole.none.report;
  }

  both-salvage : (x : SalvagedOver a s) (y : SalvagedOver b t) → x.parts ≡ y.parts → s ≡ t
  both-salvage x y e =
      let first : s ≡ salvage_status (salvage_answer_to (plain_form x.parts) MOST_BYTES a.input.before.left) = x.salvaged.status_is ∙ ap salvage_status (x.salvaged.complete wa.input_told (salvaged-whole a s x wa)) in
      let second : t ≡ salvage_status (salvage_answer_to (plain_form y.parts) MOST_BYTES b.input.before.left) = y.salvaged.status_is ∙ ap salvage_status (y.salvaged.complete wb.input_told (salvaged-whole b t y wb)) in
      first ∙ ap₂ (λ (p : Parts) (left : List ℕ). salvage_status (salvage_answer_to (plain_form p) MOST_BYTES left)) e same.input ∙ sym second

  from-encode : (x : EncodedOver a s) → w.command ≡ Encode → CanSay t w.command ⊎ (t ≡ NoMemory) → EndsAlike s t
  from-encode x c (inr f) = inr (inr f)
  from-encode x c (inl k) =
      let y : EncodedOver b t = hb.encoded w line c (own-said t k) wb.desc_told in
      inl (both-encode x y (one-parts x.parts y.parts (accepted-as Encode a.desc.before.left x.parts c x.accepted) (accepted-as Encode b.desc.before.left y.parts c y.accepted)))

  from-decode : (x : DecodedOver a s) → w.command ≡ Decode → w.salvage ≡ false → CanSay t w.command ⊎ (t ≡ NoMemory) → EndsAlike s t
  from-decode x c flag (inr f) = inr (inr f)
  from-decode x c flag (inl k) =
      let y : DecodedOver b t = hb.decoded w line c flag (own-said t k) wb.desc_told in
      inl (both-decode x y (one-parts x.parts y.parts (accepted-as Decode a.desc.before.left x.parts c x.accepted) (accepted-as Decode b.desc.before.left y.parts c y.accepted)))

  from-salvage : (x : SalvagedOver a s) → w.command ≡ Decode → w.salvage ≡ true → CanSay t w.command ⊎ (t ≡ NoMemory) → EndsAlike s t
  from-salvage x c flag (inr f) = inr (inr f)
  from-salvage x c flag (inl k) =
      let y : SalvagedOver b t = hb.salvaged w line c flag (own-said t k) wb.desc_told in
      inl (both-salvage x y (one-parts x.parts y.parts (accepted-as Decode a.desc.before.left x.parts c x.accepted) (accepted-as Decode b.desc.before.left y.parts c y.accepted)))

  encode-again : w.command ≡ Encode → CanSay s w.command → EndsAlike s t
  encode-again c can =
      let x : EncodedOver a s = ha.encoded w line c (own-said s can) wa.desc_told in
      from-encode x c (said-again x.parts (accepted-as Encode a.desc.before.left x.parts c x.accepted))

  decode-again : w.command ≡ Decode → CanSay s w.command → (w.salvage ≡ false) ⊎ (w.salvage ≡ true) → EndsAlike s t
  decode-again c can (inl flag) =
      let x : DecodedOver a s = ha.decoded w line c flag (own-said s can) wa.desc_told in
      from-decode x c flag (said-again x.parts (accepted-as Decode a.desc.before.left x.parts c x.accepted))
  decode-again c can (inr flag) =
      let x : SalvagedOver a s = ha.salvaged w line c flag (own-said s can) wa.desc_told in
      from-salvage x c flag (said-again x.parts (accepted-as Decode a.desc.before.left x.parts c x.accepted))

  by-kind : CanSay s w.command → Kind w.command → EndsAlike s t
  by-kind can (one_text n) = text-again n can
  by-kind can (encodes c) = encode-again c can
  by-kind can (decodes c) = decode-again c can (flag-of w.salvage)

  by-stop : IsStop s → EndsAlike s t
  by-stop (inl f) = refused-again f.0 f.1
  by-stop (inr (inl f)) = absurd (no-fault texts a s ha wa f)
  by-stop (inr (inr f)) = inr (inl f)

  by-end : CanEnd s w.command → EndsAlike s t
  by-end (inl can) = by-kind can (kind-of w.command)
  by-end (inr k) = by-stop (stops s w.command k)

  pub run-again : EndsAlike s t
  run-again = by-end (ha.own w line)

pub pieces_law : PiecesLaw
pieces_law texts w a b s t line ha hb wa wb same = run-again texts w a b s t line ha hb wa wb same
