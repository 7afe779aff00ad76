-- How a command ends, by what its own function leaves
use Rattle.std.proofs.Common.{◌≡◌, ℕ, ◌-◌, ◌^◌, ◌<◌, ◌≤◌, List, true, false, IsTrue, sym, ap, ◌∙◌, refl, inl, inr, ◌⊎◌, subst, arith, Result, Ok, Err}
use Rattle.std.proofs.lemmas.Bool.{cases_lt}
use Rattle.ag_io.specs.Counts.{Rose}
use Rattle.ag_io.specs.Views.{SinkView}
use Rattle.command_words.specs.declared.words.Command.{Command}
use Rattle.command_words.specs.declared.words.Words.{Words}
use Rattle.command_words.specs.Lines.{IsCommandLine}
use Rattle.command_words.proofs.LineLemmas.{line-says}
use Rattle.command_words.specs.declared.words.Command.TheVariants.{Member, Points, Params, Bound, Check, Encode, Decode, Votes, Trial, Erase, Design}
use Rattle.stream_codec.specs.declared.encode.EncodeCounts.{EncodeCounts}
use Rattle.stream_codec.specs.declared.encode.EncodeFault.{EncodeFault}
use Rattle.stream_codec.specs.declared.encode.EncodeFault.TheVariants as encoding
use Rattle.stream_codec.specs.declared.decode.DecodeCounts.{DecodeCounts}
use Rattle.stream_codec.specs.declared.decode.DecodeFault.{DecodeFault}
use Rattle.stream_codec.specs.declared.decode.DecodeFault.TheVariants as decoding
use Rattle.stream_codec.specs.Encoded.{Encode as EncodeCall, EncodeFaultAs}
use Rattle.stream_codec.specs.Decoding.{Decode as DecodeCall, FaultAs}
use Rattle.stream_codec.specs.declared.salvage.SalvageCounts.{SalvageCounts}
use Rattle.stream_codec.specs.Salvaging.{plain}
use Rattle.code_descriptor.specs.declared.DescCause.{DescCause}
use Rattle.code_descriptor.specs.Parts.{Parts}
use Rattle.code_descriptor.proofs.OneMeaning.{one_meaning}
use Rattle.descriptor_code.specs.Plain.{plain_form}
use Rattle.code_descriptor.specs.declared.DescCause.TheVariants.{TooLarge, NotToml, BadKey, BadField, BadSpace, BadDegrees, BadTerm, MissingLead, BadPoint, BadWeight, BadImproved, BadLayout, BadDepth, NoPoints, NothingFree}
use Rattle.agcode_top.specs.declared.status.Status.{Status}
use Rattle.agcode_top.specs.declared.status.Status.TheVariants.{TooLong, Usage, Descriptor, DescFault, InputFault, OutFault, ReportFault, NoMemory}
use Rattle.agcode_top.specs.Calls.{Call, SourceCall, SinkCall, until, ReadFailed, WriteFailed}
use Rattle.agcode_top.specs.Statuses.{IsOwn, is_streamed, tells_report, reads_input, CanSay, CanStop, CanEnd}
use Rattle.agcode_top.specs.Commands.{has_points, Refuses, RefusesParts, Accepts}
use Rattle.agcode_top.specs.Streams.{encode_status, decode_status, salvage_status, encode_of, decode_of}
use Rattle.agcode_top.proofs.SalvageLemmas.{not-salvaged, like-status, fault-plain}
use Rattle.agcode_top.specs.Leaves.{AnswerLeaves, said, out_stopped, report_stopped, input_stopped, wanting, EncodeLeaves, encoded, unencoded, DecodeLeaves, decoded, salvaged, undecoded, ServeLeaves, ServesDescribed, CarryOutLeaves, unread, refused, unserved, served, ObeyLeaves}

-- two statuses that are one, but for the number taken where both pass a limit
abbrev pub Alike : Status → Status → Type 0
Alike s t = (t ≡ s) ⊎ ((taken other : ℕ) × (s ≡ TooLong taken) × (t ≡ TooLong other))

-- a run whose last write tells the line of the status, after which report is seen so
abbrev pub with_line : Call → SinkView → Call
with_line run last = record { desc = run.desc; input = run.input; out = run.out; report = until run.report last }

-- report over that write
abbrev pub line_call : SinkCall → SinkView → SinkCall
line_call s last = record { tells = s.tells; before = s.after; after = last }

-- counts of faults over more than one call
pub stayed-top : (a b c : ℕ) → a ≤ b → b ≤ c → b ≡ 2 ^ 64 - 1 → (a < c) ⊎ (c ≡ 2 ^ 64 - 1)
stayed-top a b c l m h = elim (cases_lt b c) [
  | inl k ↦ inl (omega arith)
  | inr k ↦ inr (let e : c ≡ b = omega arith in e ∙ h)
]

pub stayed-front : (a b c : ℕ) → a ≤ b → b ≤ c → (Rose a c → ⊥) → Rose a b → ⊥
stayed-front a b c l m s (inl h) = s (inl (omega arith))
stayed-front a b c l m s (inr h) =
    let tops : (a < c) ⊎ (c ≡ 2 ^ 64 - 1) = stayed-top a b c l m h in
    s tops

-- which command it is
pub data Served (ws : Words) (command : Command) (p : Parts) (i : SourceCall) (o r : SinkCall) (s : Status) : Type 0 where
  one_text : is_streamed command ≡ false → AnswerLeaves ws command p i o r s → Served ws command p i o r s
  encodes : command ≡ Encode → EncodeLeaves p i o r s → Served ws command p i o r s
  decodes : command ≡ Decode → DecodeLeaves ws p i o r s → Served ws command p i o r s

pub serves : (ws : Words) (command : Command) (p : Parts) (i : SourceCall) (o r : SinkCall) (s : Status) → ServeLeaves ws command p i o r s → Served ws command p i o r s
serves ws Member p i o r s h = one_text refl h
serves ws Points p i o r s h = one_text refl h
serves ws Params p i o r s h = one_text refl h
serves ws Bound p i o r s h = one_text refl h
serves ws Check p i o r s h = one_text refl h
serves ws Encode p i o r s h = encodes refl h
serves ws Decode p i o r s h = decodes refl h
serves ws Votes p i o r s h = one_text refl h
serves ws Trial p i o r s h = one_text refl h
serves ws Erase p i o r s h = one_text refl h
serves ws Design p i o r s h = one_text refl h

pub serves-text : (ws : Words) (command : Command) (p : Parts) (i : SourceCall) (o r : SinkCall) (s : Status) → is_streamed command ≡ false → Served ws command p i o r s → AnswerLeaves ws command p i o r s
serves-text ws command p i o r s e (one_text n h) = h
serves-text ws command p i o r s e (encodes c h) = absurd (let k : true ≡ false = ap is_streamed (sym c) ∙ e in let z : ⊥ = cc in z)
serves-text ws command p i o r s e (decodes c h) = absurd (let k : true ≡ false = ap is_streamed (sym c) ∙ e in let z : ⊥ = cc in z)

-- how a command ends
abbrev pub Ends : Status → Command → Type 0
Ends s command = CanSay s command ⊎ (s ≡ OutFault) ⊎ (s ≡ NoMemory) ⊎ ((s ≡ InputFault) × (reads_input command ≡ true)) ⊎ ((s ≡ ReportFault) × (tells_report command ≡ true))

pub answer-ends : (ws : Words) (command : Command) (p : Parts) (i : SourceCall) (o r : SinkCall) (s : Status) → AnswerLeaves ws command p i o r s → Ends s command
answer-ends ws command p i o r s (said h) = inl h.saying.can
answer-ends ws command p i o r s (out_stopped h) = inr (inl h.status_is)
answer-ends ws command p i o r s (report_stopped h) = inr (inr (inr (inr (h.status_is, h.tells))))
answer-ends ws command p i o r s (input_stopped h) = inr (inr (inr (inl (h.status_is, h.reads))))
answer-ends ws command p i o r s (wanting h) = inr (inr (inl h.status_is))

pub encode-ends : (answer : Result EncodeCounts EncodeFault) → Ends (encode_status answer) Encode
encode-ends (Ok counts) = inl tt
encode-ends (Err encoding.InputFault) = inr (inr (inr (inl (refl, refl))))
encode-ends (Err encoding.OutFault) = inr (inl refl)
encode-ends (Err (encoding.TooLong taken)) = inl (inr (inl refl))

pub decode-ends : (answer : Result DecodeCounts DecodeFault) → Ends (decode_status answer) Decode
decode-ends (Ok counts) = inl tt
decode-ends (Err decoding.InputFault) = inr (inr (inr (inl (refl, refl))))
decode-ends (Err decoding.OutFault) = inr (inl refl)
decode-ends (Err decoding.ReportFault) = inr (inr (inr (inr (refl, refl))))
decode-ends (Err (decoding.TooLong taken)) = inl (inr (inr refl))
decode-ends (Err (decoding.Beyond group word)) = inl (inl refl)
decode-ends (Err (decoding.Ragged extra)) = inl refl
decode-ends (Err decoding.Framing) = inl refl

pub salvage-ends : (answer : Result SalvageCounts DecodeFault) → Ends (salvage_status answer) Decode
salvage-ends answer = elim (like-status answer) [
  | inl e ↦ subst (λ (t : Status). Ends t Decode) (sym e) (inl refl)
  | inr e ↦ subst (λ (t : Status). Ends t Decode) (sym e) (decode-ends (plain answer))
]

pub ends-at : (s t : Status) (command x : Command) → s ≡ t → command ≡ x → Ends t x → Ends s command
ends-at s t command x e c h = subst (λ (y : Command). Ends s y) (sym c) (subst (λ (y : Status). Ends y x) (sym e) h)

pub served-ends : (ws : Words) (command : Command) (p : Parts) (i : SourceCall) (o r : SinkCall) (s : Status) → Served ws command p i o r s → Ends s command
served-ends ws command p i o r s (one_text n h) = answer-ends ws command p i o r s h
served-ends ws command p i o r s (encodes c (encoded h still)) = ends-at s (encode_status h.answer) command Encode h.status_is c (encode-ends h.answer)
served-ends ws command p i o r s (encodes c (unencoded e still)) = inr (inr (inl e))
served-ends ws command p i o r s (decodes c (decoded flag h)) = ends-at s (decode_status h.answer) command Decode h.status_is c (decode-ends h.answer)
served-ends ws command p i o r s (decodes c (salvaged flag h)) = ends-at s (salvage_status h.answer) command Decode h.status_is c (salvage-ends h.answer)
served-ends ws command p i o r s (decodes c (undecoded e still)) = inr (inr (inl e))

pub ends-can : (s : Status) (command : Command) → Ends s command → CanEnd s command
ends-can s command (inl h) = inl h
ends-can s command (inr (inl e)) = inr (subst (λ (t : Status). CanStop t command) (sym e) tt)
ends-can s command (inr (inr (inl e))) = inr (subst (λ (t : Status). CanStop t command) (sym e) tt)
ends-can s command (inr (inr (inr (inl e)))) = inr (subst (λ (t : Status). CanStop t command) (sym e.0) e.1)
ends-can s command (inr (inr (inr (inr e)))) = inr (subst (λ (t : Status). CanStop t command) (sym e.0) e.1)

pub ends-own : (s : Status) (command : Command) → Ends s command → (s ≡ Usage) ⊎ (s ≡ DescFault) ⊎ ((cause : DescCause) × (s ≡ Descriptor cause)) → ⊥
ends-own s command (inl h) (inl e) = subst (λ (t : Status). CanSay t command) e h
ends-own s command (inl h) (inr (inl e)) = subst (λ (t : Status). CanSay t command) e h
ends-own s command (inl h) (inr (inr e)) = subst (λ (t : Status). CanSay t command) e.1 h
ends-own s command (inr (inl h)) (inl e) = let k : OutFault ≡ Usage = sym h ∙ e in let z : ⊥ = cc in z
ends-own s command (inr (inl h)) (inr (inl e)) = let k : OutFault ≡ DescFault = sym h ∙ e in let z : ⊥ = cc in z
ends-own s command (inr (inl h)) (inr (inr e)) = let k : OutFault ≡ Descriptor e.0 = sym h ∙ e.1 in let z : ⊥ = cc in z
ends-own s command (inr (inr (inl h))) (inl e) = let k : NoMemory ≡ Usage = sym h ∙ e in let z : ⊥ = cc in z
ends-own s command (inr (inr (inl h))) (inr (inl e)) = let k : NoMemory ≡ DescFault = sym h ∙ e in let z : ⊥ = cc in z
ends-own s command (inr (inr (inl h))) (inr (inr e)) = let k : NoMemory ≡ Descriptor e.0 = sym h ∙ e.1 in let z : ⊥ = cc in z
ends-own s command (inr (inr (inr (inl h)))) (inl e) = let k : InputFault ≡ Usage = sym h.0 ∙ e in let z : ⊥ = cc in z
ends-own s command (inr (inr (inr (inl h)))) (inr (inl e)) = let k : InputFault ≡ DescFault = sym h.0 ∙ e in let z : ⊥ = cc in z
ends-own s command (inr (inr (inr (inl h)))) (inr (inr e)) = let k : InputFault ≡ Descriptor e.0 = sym h.0 ∙ e.1 in let z : ⊥ = cc in z
ends-own s command (inr (inr (inr (inr h)))) (inl e) = let k : ReportFault ≡ Usage = sym h.0 ∙ e in let z : ⊥ = cc in z
ends-own s command (inr (inr (inr (inr h)))) (inr (inl e)) = let k : ReportFault ≡ DescFault = sym h.0 ∙ e in let z : ⊥ = cc in z
ends-own s command (inr (inr (inr (inr h)))) (inr (inr e)) = let k : ReportFault ≡ Descriptor e.0 = sym h.0 ∙ e.1 in let z : ⊥ = cc in z

-- what each fault says
pub encode-InputFault : (e : EncodeCall) (answer : Result EncodeCounts EncodeFault) → InputFault ≡ encode_status answer → EncodeFaultAs e answer → Rose e.source.faults e.source_after.faults
encode-InputFault e (Ok counts) is h = let z : ⊥ = cc in absurd z
encode-InputFault e (Err encoding.InputFault) is h = h.1
encode-InputFault e (Err encoding.OutFault) is h = let z : ⊥ = cc in absurd z
encode-InputFault e (Err (encoding.TooLong taken)) is h = let z : ⊥ = cc in absurd z

pub decode-InputFault : (d : DecodeCall) (answer : Result DecodeCounts DecodeFault) → InputFault ≡ decode_status answer → FaultAs d answer → Rose d.source.faults d.source_after.faults
decode-InputFault d (Ok counts) is h = let z : ⊥ = cc in absurd z
decode-InputFault d (Err decoding.InputFault) is h = h.1
decode-InputFault d (Err decoding.OutFault) is h = let z : ⊥ = cc in absurd z
decode-InputFault d (Err decoding.ReportFault) is h = let z : ⊥ = cc in absurd z
decode-InputFault d (Err (decoding.TooLong taken)) is h = let z : ⊥ = cc in absurd z
decode-InputFault d (Err (decoding.Beyond group word)) is h = let z : ⊥ = cc in absurd z
decode-InputFault d (Err (decoding.Ragged extra)) is h = let z : ⊥ = cc in absurd z
decode-InputFault d (Err decoding.Framing) is h = let z : ⊥ = cc in absurd z

pub encode-OutFault : (e : EncodeCall) (answer : Result EncodeCounts EncodeFault) → OutFault ≡ encode_status answer → EncodeFaultAs e answer → Rose e.out.faults e.out_after.faults
encode-OutFault e (Ok counts) is h = let z : ⊥ = cc in absurd z
encode-OutFault e (Err encoding.InputFault) is h = let z : ⊥ = cc in absurd z
encode-OutFault e (Err encoding.OutFault) is h = h.0
encode-OutFault e (Err (encoding.TooLong taken)) is h = let z : ⊥ = cc in absurd z

pub decode-OutFault : (d : DecodeCall) (answer : Result DecodeCounts DecodeFault) → OutFault ≡ decode_status answer → FaultAs d answer → Rose d.out.faults d.out_after.faults
decode-OutFault d (Ok counts) is h = let z : ⊥ = cc in absurd z
decode-OutFault d (Err decoding.InputFault) is h = let z : ⊥ = cc in absurd z
decode-OutFault d (Err decoding.OutFault) is h = h.1
decode-OutFault d (Err decoding.ReportFault) is h = let z : ⊥ = cc in absurd z
decode-OutFault d (Err (decoding.TooLong taken)) is h = let z : ⊥ = cc in absurd z
decode-OutFault d (Err (decoding.Beyond group word)) is h = let z : ⊥ = cc in absurd z
decode-OutFault d (Err (decoding.Ragged extra)) is h = let z : ⊥ = cc in absurd z
decode-OutFault d (Err decoding.Framing) is h = let z : ⊥ = cc in absurd z

pub encode-ReportFault : (answer : Result EncodeCounts EncodeFault) → ReportFault ≡ encode_status answer → ⊥
encode-ReportFault (Ok counts) is = let z : ⊥ = cc in z
encode-ReportFault (Err encoding.InputFault) is = let z : ⊥ = cc in z
encode-ReportFault (Err encoding.OutFault) is = let z : ⊥ = cc in z
encode-ReportFault (Err (encoding.TooLong taken)) is = let z : ⊥ = cc in z

pub decode-ReportFault : (d : DecodeCall) (answer : Result DecodeCounts DecodeFault) → ReportFault ≡ decode_status answer → FaultAs d answer → Rose d.report.faults d.report_after.faults
decode-ReportFault d (Ok counts) is h = let z : ⊥ = cc in absurd z
decode-ReportFault d (Err decoding.InputFault) is h = let z : ⊥ = cc in absurd z
decode-ReportFault d (Err decoding.OutFault) is h = let z : ⊥ = cc in absurd z
decode-ReportFault d (Err decoding.ReportFault) is h = h.1
decode-ReportFault d (Err (decoding.TooLong taken)) is h = let z : ⊥ = cc in absurd z
decode-ReportFault d (Err (decoding.Beyond group word)) is h = let z : ⊥ = cc in absurd z
decode-ReportFault d (Err (decoding.Ragged extra)) is h = let z : ⊥ = cc in absurd z
decode-ReportFault d (Err decoding.Framing) is h = let z : ⊥ = cc in absurd z

pub said-not : (s t : Status) (command : Command) {X : Type 0} → CanSay s command → s ≡ t → (CanSay t command → ⊥) → X
said-not s t command h e none = absurd (none (subst (λ (x : Status). CanSay x command) e h))

pub answer-InputFault : (ws : Words) (command : Command) (p : Parts) (i : SourceCall) (o r : SinkCall) (s : Status) → AnswerLeaves ws command p i o r s → s ≡ InputFault → ReadFailed i
answer-InputFault ws command p i o r s (said h) e = said-not s InputFault command h.saying.can e (λ z. z)
answer-InputFault ws command p i o r s (out_stopped h) e = absurd (let k : OutFault ≡ InputFault = sym h.status_is ∙ e in let z : ⊥ = cc in z)
answer-InputFault ws command p i o r s (report_stopped h) e = absurd (let k : ReportFault ≡ InputFault = sym h.status_is ∙ e in let z : ⊥ = cc in z)
answer-InputFault ws command p i o r s (input_stopped h) e = h.failed
answer-InputFault ws command p i o r s (wanting h) e = absurd (let k : NoMemory ≡ InputFault = sym h.status_is ∙ e in let z : ⊥ = cc in z)

pub serve-InputFault : (ws : Words) (command : Command) (p : Parts) (i : SourceCall) (o r : SinkCall) (s : Status) → Served ws command p i o r s → s ≡ InputFault → ReadFailed i
serve-InputFault ws command p i o r s (one_text n h) e = answer-InputFault ws command p i o r s h e
serve-InputFault ws command p i o r s (encodes c (encoded h still)) e = encode-InputFault (encode_of (plain_form p) i o) h.answer (sym e ∙ h.status_is) h.encoded.fault
serve-InputFault ws command p i o r s (encodes c (unencoded k still)) e = absurd (let l : NoMemory ≡ InputFault = sym k ∙ e in let z : ⊥ = cc in z)
serve-InputFault ws command p i o r s (decodes c (decoded flag h)) e = decode-InputFault (decode_of (plain_form p) i o r) h.answer (sym e ∙ h.status_is) h.decoded.fault
serve-InputFault ws command p i o r s (decodes c (salvaged flag h)) e =
    decode-InputFault (decode_of (plain_form p) i o r) (plain h.answer) (not-salvaged h.answer InputFault (sym e ∙ h.status_is) (λ k. let z : ⊥ = cc in z)) (fault-plain (decode_of (plain_form p) i o r) h.answer h.salvaged.fault)
serve-InputFault ws command p i o r s (decodes c (undecoded k still)) e = absurd (let l : NoMemory ≡ InputFault = sym k ∙ e in let z : ⊥ = cc in z)

pub answer-OutFault : (ws : Words) (command : Command) (p : Parts) (i : SourceCall) (o r : SinkCall) (s : Status) → AnswerLeaves ws command p i o r s → s ≡ OutFault → WriteFailed o
answer-OutFault ws command p i o r s (said h) e = said-not s OutFault command h.saying.can e (λ z. z)
answer-OutFault ws command p i o r s (out_stopped h) e = h.written.failed
answer-OutFault ws command p i o r s (report_stopped h) e = absurd (let k : ReportFault ≡ OutFault = sym h.status_is ∙ e in let z : ⊥ = cc in z)
answer-OutFault ws command p i o r s (input_stopped h) e = absurd (let k : InputFault ≡ OutFault = sym h.status_is ∙ e in let z : ⊥ = cc in z)
answer-OutFault ws command p i o r s (wanting h) e = absurd (let k : NoMemory ≡ OutFault = sym h.status_is ∙ e in let z : ⊥ = cc in z)

pub serve-OutFault : (ws : Words) (command : Command) (p : Parts) (i : SourceCall) (o r : SinkCall) (s : Status) → Served ws command p i o r s → s ≡ OutFault → WriteFailed o
serve-OutFault ws command p i o r s (one_text n h) e = answer-OutFault ws command p i o r s h e
serve-OutFault ws command p i o r s (encodes c (encoded h still)) e = encode-OutFault (encode_of (plain_form p) i o) h.answer (sym e ∙ h.status_is) h.encoded.fault
serve-OutFault ws command p i o r s (encodes c (unencoded k still)) e = absurd (let l : NoMemory ≡ OutFault = sym k ∙ e in let z : ⊥ = cc in z)
serve-OutFault ws command p i o r s (decodes c (decoded flag h)) e = decode-OutFault (decode_of (plain_form p) i o r) h.answer (sym e ∙ h.status_is) h.decoded.fault
serve-OutFault ws command p i o r s (decodes c (salvaged flag h)) e =
    decode-OutFault (decode_of (plain_form p) i o r) (plain h.answer) (not-salvaged h.answer OutFault (sym e ∙ h.status_is) (λ k. let z : ⊥ = cc in z)) (fault-plain (decode_of (plain_form p) i o r) h.answer h.salvaged.fault)
serve-OutFault ws command p i o r s (decodes c (undecoded k still)) e = absurd (let l : NoMemory ≡ OutFault = sym k ∙ e in let z : ⊥ = cc in z)

pub answer-ReportFault : (ws : Words) (command : Command) (p : Parts) (i : SourceCall) (o r : SinkCall) (s : Status) → AnswerLeaves ws command p i o r s → s ≡ ReportFault → WriteFailed r
answer-ReportFault ws command p i o r s (said h) e = said-not s ReportFault command h.saying.can e (λ z. z)
answer-ReportFault ws command p i o r s (out_stopped h) e = absurd (let k : OutFault ≡ ReportFault = sym h.status_is ∙ e in let z : ⊥ = cc in z)
answer-ReportFault ws command p i o r s (report_stopped h) e = h.reported.failed
answer-ReportFault ws command p i o r s (input_stopped h) e = absurd (let k : InputFault ≡ ReportFault = sym h.status_is ∙ e in let z : ⊥ = cc in z)
answer-ReportFault ws command p i o r s (wanting h) e = absurd (let k : NoMemory ≡ ReportFault = sym h.status_is ∙ e in let z : ⊥ = cc in z)

pub serve-ReportFault : (ws : Words) (command : Command) (p : Parts) (i : SourceCall) (o r : SinkCall) (s : Status) → Served ws command p i o r s → s ≡ ReportFault → WriteFailed r
serve-ReportFault ws command p i o r s (one_text n h) e = answer-ReportFault ws command p i o r s h e
serve-ReportFault ws command p i o r s (encodes c (encoded h still)) e = absurd (encode-ReportFault h.answer (sym e ∙ h.status_is))
serve-ReportFault ws command p i o r s (encodes c (unencoded k still)) e = absurd (let l : NoMemory ≡ ReportFault = sym k ∙ e in let z : ⊥ = cc in z)
serve-ReportFault ws command p i o r s (decodes c (decoded flag h)) e = decode-ReportFault (decode_of (plain_form p) i o r) h.answer (sym e ∙ h.status_is) h.decoded.fault
serve-ReportFault ws command p i o r s (decodes c (salvaged flag h)) e =
    decode-ReportFault (decode_of (plain_form p) i o r) (plain h.answer) (not-salvaged h.answer ReportFault (sym e ∙ h.status_is) (λ k. let z : ⊥ = cc in z)) (fault-plain (decode_of (plain_form p) i o r) h.answer h.salvaged.fault)
serve-ReportFault ws command p i o r s (decodes c (undecoded k still)) e = absurd (let l : NoMemory ≡ ReportFault = sym k ∙ e in let z : ⊥ = cc in z)

pub same-parts : (command : Command) (text : List ℕ) (p q : Parts) → Accepts command text p → Accepts command text q → p ≡ q
same-parts command text p q a b = (one_meaning text).one_code p q a.described b.described

pub refused-accepted : (command : Command) (text : List ℕ) (p : Parts) (cause : DescCause) → Accepts command text p → Refuses command text cause → ⊥
refused-accepted command text p cause a (inl h) = (one_meaning text).not_both cause p h a.described
refused-accepted command text p cause a (inr h) =
    a.accepted cause (subst (λ (q : Parts). RefusesParts command q cause) ((one_meaning text).one_code h.0 p h.1 a.described) h.2)

-- one text has one meaning
pub parts-cause : (command : Command) (p : Parts) (cause : DescCause) → RefusesParts command p cause → ((cause ≡ NoPoints) × (has_points p.points ≡ false)) ⊎ ((cause ≡ NothingFree) × (has_points p.points ≡ true))
parts-cause command p NoPoints h = inl (refl, h.1)
parts-cause command p NothingFree h = inr (refl, h.1)
parts-cause command p TooLarge h = absurd h
parts-cause command p NotToml h = absurd h
parts-cause command p (BadKey key) h = absurd h
parts-cause command p BadField h = absurd h
parts-cause command p BadSpace h = absurd h
parts-cause command p BadDegrees h = absurd h
parts-cause command p (BadTerm index) h = absurd h
parts-cause command p MissingLead h = absurd h
parts-cause command p (BadPoint index) h = absurd h
parts-cause command p BadWeight h = absurd h
parts-cause command p BadImproved h = absurd h
parts-cause command p BadLayout h = absurd h
parts-cause command p BadDepth h = absurd h

pub one-part-cause : (command : Command) (p : Parts) (c d : DescCause) → RefusesParts command p c → RefusesParts command p d → c ≡ d
one-part-cause command p c d h k = elim (parts-cause command p c h) [
  | inl a ↦ elim (parts-cause command p d k) [
    | inl b ↦ a.0 ∙ sym b.0
    | inr b ↦ absurd (let l : false ≡ true = sym a.1 ∙ b.1 in let z : ⊥ = cc in z)
  ]
  | inr a ↦ elim (parts-cause command p d k) [
    | inl b ↦ absurd (let l : true ≡ false = sym a.1 ∙ b.1 in let z : ⊥ = cc in z)
    | inr b ↦ a.0 ∙ sym b.0
  ]
]

pub one-cause : (command : Command) (text : List ℕ) (c d : DescCause) → Refuses command text c → Refuses command text d → c ≡ d
one-cause command text c d (inl h) (inl k) = (one_meaning text).one_cause c d h k
one-cause command text c d (inl h) (inr k) = absurd ((one_meaning text).not_both c k.0 h k.1)
one-cause command text c d (inr h) (inl k) = absurd ((one_meaning text).not_both d h.0 k h.1)
one-cause command text c d (inr h) (inr k) =
    one-part-cause command k.0 c d (subst (λ (q : Parts). RefusesParts command q c) ((one_meaning text).one_code h.0 k.0 h.1 k.1) h.2) k.2

-- over a descriptor that is accepted and read without a fault, the command did its work or memory was wanting
pub carried-served : (ws : Words) (command : Command) (p : Parts) (run : Call) (s : Status) → CarryOutLeaves ws command run s → IsTrue run.desc.tells → (ReadFailed run.desc → ⊥) → Accepts command run.desc.before.left p → (s ≡ NoMemory) ⊎ ServesDescribed ws command run s
carried-served ws command p run s (unread e failed still) told sd a = absurd (sd failed)
carried-served ws command p run s (refused cause e why well still) told sd a = absurd (refused-accepted command run.desc.before.left p cause a (why told))
carried-served ws command p run s (unserved e well still) told sd a = inl e
carried-served ws command p run s (served h) told sd a = inr h

-- for each reading of the words
pub obeyed-carried : (texts : List (List ℕ)) (run : Call) (s : Status) → ObeyLeaves texts run s → (v : Words) → IsCommandLine texts v → CarryOutLeaves v v.command run s
obeyed-carried texts run s (inl u) v k = absurd (u.nobody v k)
obeyed-carried texts run s (inr w) v k = subst (λ (x : Words). CarryOutLeaves x x.command run s) (line-says texts w.words v w.line k) w.leaves

pub described-ends : (ws : Words) (command : Command) (run : Call) (s : Status) → ServesDescribed ws command run s → Ends s command
described-ends ws command run s h = served-ends ws command h.parts run.input run.out run.report s (serves ws command h.parts run.input run.out run.report s h.leaves)

pub carried-not-Usage : (ws : Words) (command : Command) (run : Call) (s : Status) → CarryOutLeaves ws command run s → s ≡ Usage → ⊥
carried-not-Usage ws command run s (unread k failed still) e = let l : DescFault ≡ Usage = sym k ∙ e in let z : ⊥ = cc in z
carried-not-Usage ws command run s (refused cause k why well still) e = let l : Descriptor cause ≡ Usage = sym k ∙ e in let z : ⊥ = cc in z
carried-not-Usage ws command run s (unserved k well still) e = let l : NoMemory ≡ Usage = sym k ∙ e in let z : ⊥ = cc in z
carried-not-Usage ws command run s (served h) e = ends-own s command (described-ends ws command run s h) (inl e)

-- where out or report failed
pub described-at : (ws : Words) (command : Command) (run : Call) (s t : Status) → CarryOutLeaves ws command run s → s ≡ t → IsOwn t → ServesDescribed ws command run s
described-at ws command run s t (unread k failed still) e q = absurd (subst (λ (x : Status). IsOwn x) (sym e ∙ k) q)
described-at ws command run s t (refused cause k why well still) e q = absurd (subst (λ (x : Status). IsOwn x) (sym e ∙ k) q)
described-at ws command run s t (unserved k well still) e q = absurd (subst (λ (x : Status). IsOwn x) (sym e ∙ k) q)
described-at ws command run s t (served h) e q = h
