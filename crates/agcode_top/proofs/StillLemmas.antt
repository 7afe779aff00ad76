-- What a run leaves untouched, takes and counts, and the line of its status
use Rattle.std.proofs.Common.{◌≡◌, ℕ, ◌+◌, ◌-◌, ◌<◌, ◌≤◌, List, [], ◌++◌, ◌∷◌, take, length, Bool, true, false, IsTrue, sym, ap, ◌∙◌, refl, inl, inr, ◌⊎◌, subst, arith, Result, Ok, Err, append-nil, length-append}
use Rattle.ag_io.specs.Counts.{Rose}
use Rattle.ag_io.specs.Views.{SourceView, SinkView, GaveFront}
use Rattle.command_words.specs.declared.words.Command.{Command}
use Rattle.command_words.specs.declared.words.Words.{Words}
use Rattle.command_words.specs.declared.words.Command.TheVariants.{Encode, Decode}
use Rattle.stream_codec.specs.declared.encode.EncodeCounts.{EncodeCounts}
use Rattle.stream_codec.specs.declared.encode.EncodeFault.{EncodeFault}
use Rattle.stream_codec.specs.declared.encode.EncodeFault.TheVariants as encoding
use Rattle.stream_codec.specs.declared.decode.DecodeCounts.{DecodeCounts}
use Rattle.stream_codec.specs.declared.decode.DecodeFault.{DecodeFault}
use Rattle.stream_codec.specs.declared.decode.DecodeFault.TheVariants as decoding
use Rattle.stored_form.specs.Frame.{group_bytes}
use Rattle.stream_codec.specs.declared.limits.TheConstants.{PIECE}
use Rattle.std.proofs.lemmas.List.{length-take-le}
use Rattle.std.proofs.lemmas.Bool.{cond-true, cond-false}
use Rattle.stream_codec.specs.Taking.{taken_from, most_taken as most_of_pieces}
use Rattle.stream_codec.specs.Encoded.{EncodeToldAs, EncodeFaultAs}
use Rattle.stream_codec.specs.Decoding.{ToldAs, FaultAs}
use Rattle.stream_codec.specs.declared.salvage.SalvageCounts.{SalvageCounts}
use Rattle.stream_codec.specs.Salvaging.{plain, SalvagedToldAs}
use Rattle.code_descriptor.specs.Parts.{Parts}
use Rattle.descriptor_code.specs.Plain.{plain_form}
use Rattle.stream_codec.specs.declared.limits.TheConstants.{MOST_BYTES}
use Rattle.agcode_top.specs.declared.status.Status.{Status}
use Rattle.agcode_top.specs.declared.status.Status.TheVariants.{Done, NotCodeword, Beyond, Ragged, Framing, TableRefused, WordLength, Salvaged, BadMark, NoCodeword, Ambiguous, NoDesign, Usage, Descriptor, TooLong, DescFault, InputFault, OutFault, ReportFault, NoMemory}
use Rattle.agcode_top.specs.Calls.{Call, SourceCall, SinkCall, Untouched, until, IsUngiven, ReadsWell, WritesWell, GivesOrFails, TakesJust, TakesAtMost}
use Rattle.agcode_top.specs.Statuses.{OnWords, IsEarly, IsOwn, IsQuiet, is_streamed, is_passing, is_ahead, reads_ahead, has_text, TellsMore, CanSay}
use Rattle.agcode_top.specs.Commands.{Accepts, TakesFor, most_taken}
use Rattle.agcode_top.specs.Lines.{line_of}
use Rattle.agcode_top.specs.Streams.{encode_status, decode_status, salvage_status, encode_of, decode_of}
use Rattle.agcode_top.proofs.SalvageLemmas.{not-salvaged, salvage-IsOwn}
use Rattle.agcode_top.specs.Leaves.{AnswerLeaves, said, out_stopped, report_stopped, input_stopped, wanting, encoded, unencoded, decoded, salvaged, undecoded, CarryOutLeaves, unread, refused, unserved, served, ObeyLeaves}
use Rattle.agcode_top.specs.Headline.{LeavesUntouched, LeavesUnread, TellsLine, TakesWithin, TellsNumber, KeepsCounts}
use Rattle.agcode_top.proofs.EndLemmas.{with_line, line_call, Served, one_text, encodes, decodes, serves, serves-text, Ends, served-ends, ends-own, said-not, same-parts, obeyed-carried, described-ends, carried-not-Usage}

-- what is left untouched
pub unread-still : (before after : SourceView) → after ≡ before → after.left ≡ before.left
unread-still before after e = ap (λ (v : SourceView). v.left) e

pub ungiven-still : (before after : SinkView) → after ≡ before → after.given ≡ before.given
ungiven-still before after e = ap (λ (v : SinkView). v.given) e

pub read-still : (s : SourceCall) → s.after ≡ s.before → ReadsWell s
read-still s e = ap (λ (v : SourceView). v.faults) e

pub write-still : (s : SinkCall) → s.after ≡ s.before → WritesWell s
write-still s e = ap (λ (v : SinkView). v.faults) e

pub carried-early : (ws : Words) (command : Command) (run : Call) (s : Status) → CarryOutLeaves ws command run s → IsEarly s → Untouched run.input run.out run.report
carried-early ws command run s (unread k failed still) q = still
carried-early ws command run s (refused cause k why well still) q = still
carried-early ws command run s (unserved k well still) q = still
carried-early ws command run s (served h) q = absurd (ends-own s command (described-ends ws command run s h) q)

pub answer-wanting : (ws : Words) (command : Command) (p : Parts) (i : SourceCall) (o r : SinkCall) (s : Status) → AnswerLeaves ws command p i o r s → s ≡ NoMemory → o.after ≡ o.before
answer-wanting ws command p i o r s (said h) e = said-not s NoMemory command h.saying.can e (λ z. z)
answer-wanting ws command p i o r s (out_stopped h) e = absurd (let k : OutFault ≡ NoMemory = sym h.status_is ∙ e in let z : ⊥ = cc in z)
answer-wanting ws command p i o r s (report_stopped h) e = absurd (let k : ReportFault ≡ NoMemory = sym h.status_is ∙ e in let z : ⊥ = cc in z)
answer-wanting ws command p i o r s (input_stopped h) e = h.out_still
answer-wanting ws command p i o r s (wanting h) e = h.out_still

pub encode-NoMemory : (answer : Result EncodeCounts EncodeFault) {X : Type 0} → NoMemory ≡ encode_status answer → X
encode-NoMemory (Ok counts) is = let z : ⊥ = cc in absurd z
encode-NoMemory (Err encoding.InputFault) is = let z : ⊥ = cc in absurd z
encode-NoMemory (Err encoding.OutFault) is = let z : ⊥ = cc in absurd z
encode-NoMemory (Err (encoding.TooLong taken)) is = let z : ⊥ = cc in absurd z

pub decode-NoMemory : (answer : Result DecodeCounts DecodeFault) {X : Type 0} → NoMemory ≡ decode_status answer → X
decode-NoMemory (Ok counts) is = let z : ⊥ = cc in absurd z
decode-NoMemory (Err decoding.InputFault) is = let z : ⊥ = cc in absurd z
decode-NoMemory (Err decoding.OutFault) is = let z : ⊥ = cc in absurd z
decode-NoMemory (Err decoding.ReportFault) is = let z : ⊥ = cc in absurd z
decode-NoMemory (Err (decoding.TooLong taken)) is = let z : ⊥ = cc in absurd z
decode-NoMemory (Err (decoding.Beyond group word)) is = let z : ⊥ = cc in absurd z
decode-NoMemory (Err (decoding.Ragged extra)) is = let z : ⊥ = cc in absurd z
decode-NoMemory (Err decoding.Framing) is = let z : ⊥ = cc in absurd z

pub streamed-wanting : (ws : Words) (command : Command) (p : Parts) (i : SourceCall) (o r : SinkCall) (s : Status) → Served ws command p i o r s → is_streamed command ≡ true → s ≡ NoMemory → Untouched i o r
streamed-wanting ws command p i o r s (one_text n h) t e = absurd (let k : true ≡ false = sym t ∙ n in let z : ⊥ = cc in z)
streamed-wanting ws command p i o r s (encodes c (encoded h still)) t e = encode-NoMemory h.answer (sym e ∙ h.status_is)
streamed-wanting ws command p i o r s (encodes c (unencoded k still)) t e = still
streamed-wanting ws command p i o r s (decodes c (decoded flag h)) t e = decode-NoMemory h.answer (sym e ∙ h.status_is)
streamed-wanting ws command p i o r s (decodes c (salvaged flag h)) t e = decode-NoMemory (plain h.answer) (not-salvaged h.answer NoMemory (sym e ∙ h.status_is) (λ k. let z : ⊥ = cc in z))
streamed-wanting ws command p i o r s (decodes c (undecoded k still)) t e = still

pub serve-wanting : (ws : Words) (command : Command) (p : Parts) (i : SourceCall) (o r : SinkCall) (s : Status) → Served ws command p i o r s → s ≡ NoMemory → o.after ≡ o.before
serve-wanting ws command p i o r s (one_text n h) e = answer-wanting ws command p i o r s h e
serve-wanting ws command p i o r s (encodes c (encoded h still)) e = encode-NoMemory h.answer (sym e ∙ h.status_is)
serve-wanting ws command p i o r s (encodes c (unencoded k still)) e = still.out_still
serve-wanting ws command p i o r s (decodes c (decoded flag h)) e = decode-NoMemory h.answer (sym e ∙ h.status_is)
serve-wanting ws command p i o r s (decodes c (salvaged flag h)) e = decode-NoMemory (plain h.answer) (not-salvaged h.answer NoMemory (sym e ∙ h.status_is) (λ k. let z : ⊥ = cc in z))
serve-wanting ws command p i o r s (decodes c (undecoded k still)) e = still.out_still

pub carried-wanting : (ws : Words) (command : Command) (run : Call) (s : Status) → CarryOutLeaves ws command run s → s ≡ NoMemory → run.out.after ≡ run.out.before
carried-wanting ws command run s (unread k failed still) e = still.out_still
carried-wanting ws command run s (refused cause k why well still) e = still.out_still
carried-wanting ws command run s (unserved k well still) e = still.out_still
carried-wanting ws command run s (served h) e = serve-wanting ws command h.parts run.input run.out run.report s (serves ws command h.parts run.input run.out run.report s h.leaves) e

pub run-early : (texts : List (List ℕ)) (run : Call) (s : Status) (last : SinkView) → ObeyLeaves texts run s → LeavesUntouched (with_line run last) s
run-early texts run s last (inl u) = record {
  desc = λ e told. unread-still run.desc.before run.desc.after u.desc_still;
  input = λ q told. unread-still run.input.before run.input.after u.still.input_still;
  out = λ q told. ungiven-still run.out.before run.out.after u.still.out_still;
  desc_well = λ e. read-still run.desc u.desc_still;
  input_well = λ q. read-still run.input u.still.input_still;
  out_well = λ q. write-still run.out u.still.out_still;
}
run-early texts run s last (inr w) = record {
  desc = λ e. absurd (carried-not-Usage w.words w.words.command run s w.leaves e);
  input = λ q told. unread-still run.input.before run.input.after (carried-early w.words w.words.command run s w.leaves q).input_still;
  out = λ q told. ungiven-still run.out.before run.out.after (still-out q);
  desc_well = λ e. absurd (carried-not-Usage w.words w.words.command run s w.leaves e);
  input_well = λ q. read-still run.input (carried-early w.words w.words.command run s w.leaves q).input_still;
  out_well = λ q. write-still run.out (still-out q);
}
  where
    still-out : IsEarly s ⊎ (s ≡ NoMemory) → run.out.after ≡ run.out.before
    still-out (inl q) = (carried-early w.words w.words.command run s w.leaves q).out_still
    still-out (inr e) = carried-wanting w.words w.words.command run s w.leaves e

pub carried-unread : (ws : Words) (command : Command) (run : Call) (s : Status) → CarryOutLeaves ws command run s → is_streamed command ≡ true → s ≡ NoMemory → Untouched run.input run.out run.report
carried-unread ws command run s (unread k failed still) t e = still
carried-unread ws command run s (refused cause k why well still) t e = still
carried-unread ws command run s (unserved k well still) t e = still
carried-unread ws command run s (served h) t e = streamed-wanting ws command h.parts run.input run.out run.report s (serves ws command h.parts run.input run.out run.report s h.leaves) t e

pub run-unread : (texts : List (List ℕ)) (run : Call) (s : Status) → ObeyLeaves texts run s → OnWords texts (λ w. LeavesUnread w.command run.input s)
run-unread texts run s h v k t e told = unread-still run.input.before run.input.after (carried-unread v v.command run s (obeyed-carried texts run s h v k) t e).input_still

pub answer-quiet : (ws : Words) (command : Command) (p : Parts) (i : SourceCall) (o r : SinkCall) (s : Status) → AnswerLeaves ws command p i o r s → IsQuiet s → IsUngiven o
answer-quiet ws command p i o r s (said h) q = λ told. h.written.given told ∙ ap (λ (t : List ℕ). o.before.given ++ t) (h.saying.bare q.0) ∙ append-nil o.before.given
answer-quiet ws command p i o r s (out_stopped h) q = absurd (q.1 h.status_is)
answer-quiet ws command p i o r s (report_stopped h) q = absurd (q.2 h.status_is)
answer-quiet ws command p i o r s (input_stopped h) q = λ told. ungiven-still o.before o.after h.out_still
answer-quiet ws command p i o r s (wanting h) q = λ told. ungiven-still o.before o.after h.out_still

pub carried-quiet : (ws : Words) (command : Command) (run : Call) (s : Status) → CarryOutLeaves ws command run s → is_streamed command ≡ false → IsQuiet s → IsUngiven run.out
carried-quiet ws command run s (unread k failed still) n q = λ told. ungiven-still run.out.before run.out.after still.out_still
carried-quiet ws command run s (refused cause k why well still) n q = λ told. ungiven-still run.out.before run.out.after still.out_still
carried-quiet ws command run s (unserved k well still) n q = λ told. ungiven-still run.out.before run.out.after still.out_still
carried-quiet ws command run s (served h) n q =
    answer-quiet ws command h.parts run.input run.out run.report s (serves-text ws command h.parts run.input run.out run.report s n (serves ws command h.parts run.input run.out run.report s h.leaves)) q

pub run-quiet : (texts : List (List ℕ)) (run : Call) (s : Status) → ObeyLeaves texts run s → OnWords texts (λ w. is_streamed w.command ≡ false → IsQuiet s → IsUngiven run.out)
run-quiet texts run s h v k n q = carried-quiet v v.command run s (obeyed-carried texts run s h v k) n q

-- the report before the line of the status
pub record IsSilent (s : SinkCall) : Type 0 where
  pub ungiven : IsUngiven s
  pub well : WritesWell s

pub silent-still : (s : SinkCall) → s.after ≡ s.before → IsSilent s
silent-still s e = record { ungiven = λ told. ungiven-still s.before s.after e; well = ap (λ (v : SinkView). v.faults) e }

pub decode-IsOwn : (answer : Result DecodeCounts DecodeFault) → IsOwn (decode_status answer)
decode-IsOwn (Ok counts) = tt
decode-IsOwn (Err decoding.InputFault) = tt
decode-IsOwn (Err decoding.OutFault) = tt
decode-IsOwn (Err decoding.ReportFault) = tt
decode-IsOwn (Err (decoding.TooLong taken)) = tt
decode-IsOwn (Err (decoding.Beyond group word)) = tt
decode-IsOwn (Err (decoding.Ragged extra)) = tt
decode-IsOwn (Err decoding.Framing) = tt

pub answer-silent : (ws : Words) (command : Command) (p : Parts) (i : SourceCall) (o r : SinkCall) (s : Status) → AnswerLeaves ws command p i o r s → (TellsMore command s → ⊥) → IsSilent r
answer-silent ws command p i o r s (said h) n = record {
  ungiven = λ told. h.reported.given told ∙ ap (λ (t : List ℕ). r.before.given ++ t) (h.saying.plain n) ∙ append-nil r.before.given;
  well = h.reported.well;
}
answer-silent ws command p i o r s (out_stopped h) n = silent-still r h.report_still
answer-silent ws command p i o r s (report_stopped h) n = absurd (n (subst (λ (t : Status). TellsMore command t) (sym h.status_is) h.more))
answer-silent ws command p i o r s (input_stopped h) n = silent-still r h.report_still
answer-silent ws command p i o r s (wanting h) n = silent-still r h.report_still

pub serve-silent : (ws : Words) (command : Command) (p : Parts) (i : SourceCall) (o r : SinkCall) (s : Status) → Served ws command p i o r s → (TellsMore command s → ⊥) → IsSilent r
serve-silent ws command p i o r s (one_text k h) n = answer-silent ws command p i o r s h n
serve-silent ws command p i o r s (encodes c (encoded h still)) n = silent-still r still
serve-silent ws command p i o r s (encodes c (unencoded e still)) n = silent-still r still.report_still
serve-silent ws command p i o r s (decodes c (decoded flag h)) n =
    absurd (n (subst (λ (x : Command). TellsMore x s) (sym c) (subst (λ (t : Status). IsOwn t) (sym h.status_is) (decode-IsOwn h.answer))))
serve-silent ws command p i o r s (decodes c (salvaged flag h)) n =
    absurd (n (subst (λ (x : Command). TellsMore x s) (sym c) (subst (λ (t : Status). IsOwn t) (sym h.status_is) (salvage-IsOwn h.answer decode-IsOwn))))
serve-silent ws command p i o r s (decodes c (undecoded e still)) n = silent-still r still.report_still

pub carried-silent : (ws : Words) (command : Command) (run : Call) (s : Status) → CarryOutLeaves ws command run s → (TellsMore command s → ⊥) → IsSilent run.report
carried-silent ws command run s (unread k failed still) n = silent-still run.report still.report_still
carried-silent ws command run s (refused cause k why well still) n = silent-still run.report still.report_still
carried-silent ws command run s (unserved k well still) n = silent-still run.report still.report_still
carried-silent ws command run s (served h) n = serve-silent ws command h.parts run.input run.out run.report s (serves ws command h.parts run.input run.out run.report s h.leaves) n

pub gives-later : (s : SinkCall) (last : SinkView) (text : List ℕ) → IsSilent s → GivesOrFails (line_call s last) text → GivesOrFails (until s last) text
gives-later s last text still (inl h) = inl (record { given = λ told. h.given told ∙ ap (λ (t : List ℕ). t ++ text) (still.ungiven told); well = h.well ∙ still.well })
gives-later s last text still (inr h) = inr (record {
  given = λ told. subst (λ (t : List ℕ). GaveFront t last.given text) (still.ungiven told) (h.given told);
  fewer = λ told. subst (λ (t : List ℕ). length last.given < length t + length text) (still.ungiven told) (h.fewer told);
  failed = subst (λ (n : ℕ). Rose n last.faults) still.well h.failed;
})

pub run-line : (texts : List (List ℕ)) (run : Call) (s : Status) (last : SinkView) → ObeyLeaves texts run s →
    GivesOrFails (line_call run.report last) (line_of s) → OnWords texts (λ w. TellsLine w.command (until run.report last) s)
run-line texts run s last h t v k n = gives-later run.report last (line_of s) (carried-silent v v.command run s (obeyed-carried texts run s h v k) n) t

pub run-usage_line : (texts : List (List ℕ)) (run : Call) (s : Status) (last : SinkView) → ObeyLeaves texts run s →
    GivesOrFails (line_call run.report last) (line_of s) → s ≡ Usage → GivesOrFails (until run.report last) (line_of s)
run-usage_line texts run s last (inl u) t e = gives-later run.report last (line_of s) (silent-still run.report u.still.report_still) t
run-usage_line texts run s last (inr w) t e = absurd (carried-not-Usage w.words w.words.command run s w.leaves e)

-- how much was taken
pub still-most : (s : SourceCall) (most : ℕ) → s.after ≡ s.before → TakesAtMost most s
still-most s most e = λ told. let k : length s.after.left ≡ length s.before.left = ap (λ (v : SourceView). length v.left) e in omega arith

pub answer-most : (ws : Words) (command : Command) (p : Parts) (i : SourceCall) (o r : SinkCall) (s : Status) → AnswerLeaves ws command p i o r s → TakesAtMost (most_taken command p) i
answer-most ws command p i o r s (said h) = h.saying.most
answer-most ws command p i o r s (out_stopped h) = h.saying.most
answer-most ws command p i o r s (report_stopped h) = h.saying.most
answer-most ws command p i o r s (input_stopped h) = h.most
answer-most ws command p i o r s (wanting h) = h.most

pub most-at : (command x : Command) (p : Parts) (i : SourceCall) → command ≡ x → TakesAtMost (most_taken x p) i → TakesAtMost (most_taken command p) i
most-at command x p i e h = subst (λ (y : Command). TakesAtMost (most_taken y p) i) (sym e) h

pub most-long : (s : SourceCall) (most : ℕ) → (IsTrue s.tells → length (taken_from s.before s.after) ≤ most) → TakesAtMost most s
most-long s most h = λ told.
    let k : length (take (length s.before.left - length s.after.left) s.before.left) ≡ length s.before.left - length s.after.left = length-take-le (length s.before.left - length s.after.left) s.before.left (omega arith) in
    let l : length (taken_from s.before s.after) ≤ most = h told in
    omega arith

pub serve-most : (ws : Words) (command : Command) (p : Parts) (i : SourceCall) (o r : SinkCall) (s : Status) → Served ws command p i o r s → TakesAtMost (most_taken command p) i
serve-most ws command p i o r s (one_text n h) = answer-most ws command p i o r s h
serve-most ws command p i o r s (encodes c (encoded h still)) = most-at command Encode p i c (most-long i (most_of_pieces PIECE MOST_BYTES) h.encoded.most)
serve-most ws command p i o r s (encodes c (unencoded e still)) = still-most i (most_taken command p) still.input_still
serve-most ws command p i o r s (decodes c (decoded flag h)) = most-at command Decode p i c (most-long i (most_of_pieces (group_bytes (plain_form p)) MOST_BYTES) h.decoded.most)
serve-most ws command p i o r s (decodes c (salvaged flag h)) = most-at command Decode p i c (most-long i (most_of_pieces (group_bytes (plain_form p)) MOST_BYTES) h.salvaged.most)
serve-most ws command p i o r s (decodes c (undecoded e still)) = still-most i (most_taken command p) still.input_still

pub carried-most : (ws : Words) (command : Command) (run : Call) (s : Status) (p : Parts) → CarryOutLeaves ws command run s → IsTrue run.desc.tells → Accepts command run.desc.before.left p → TakesAtMost (most_taken command p) run.input
carried-most ws command run s p (unread k failed still) told a = still-most run.input (most_taken command p) still.input_still
carried-most ws command run s p (refused cause k why well still) told a = still-most run.input (most_taken command p) still.input_still
carried-most ws command run s p (unserved k well still) told a = still-most run.input (most_taken command p) still.input_still
carried-most ws command run s p (served h) told a =
    subst (λ (q : Parts). TakesAtMost (most_taken command q) run.input) (same-parts command run.desc.before.left h.parts p (h.accepted told) a)
    (serve-most ws command h.parts run.input run.out run.report s (serves ws command h.parts run.input run.out run.report s h.leaves))

pub run-taken : (texts : List (List ℕ)) (run : Call) (s : Status) (last : SinkView) → ObeyLeaves texts run s → OnWords texts (λ w. TakesWithin w.command (with_line run last))
run-taken texts run s last h v k told p a = carried-most v v.command run s p (obeyed-carried texts run s h v k) told a

-- a status that tells a number
pub just-append : (s : SourceCall) (x : List ℕ) (taken : ℕ) → s.before.left ≡ x ++ s.after.left → taken ≡ length x → length s.before.left ≡ length s.after.left + taken
just-append s x taken e l = let k : length s.before.left ≡ length x + length s.after.left = ap length e ∙ length-append x s.after.left in omega arith

pub same-taken : (a b : ℕ) → TooLong a ≡ TooLong b → a ≡ b
same-taken a b e = cc

pub just-same : (s : SourceCall) (a b : ℕ) → a ≡ b → TakesJust a s → TakesJust b s
just-same s a b e h = subst (λ (n : ℕ). TakesJust n s) e h

pub number-answer : (ws : Words) (command : Command) (p : Parts) (i : SourceCall) (o r : SinkCall) (s : Status) (taken : ℕ) → AnswerLeaves ws command p i o r s → (s ≡ TooLong taken) ⊎ (s ≡ WordLength taken) → TakesJust taken i
number-answer ws command p i o r s taken (said h) (inl e) = subst (λ (t : Status). TakesFor command t i) e h.saying.taken
number-answer ws command p i o r s taken (said h) (inr e) = subst (λ (t : Status). TakesFor command t i) e h.saying.taken
number-answer ws command p i o r s taken (out_stopped h) (inl e) = absurd (let k : OutFault ≡ TooLong taken = sym h.status_is ∙ e in let z : ⊥ = cc in z)
number-answer ws command p i o r s taken (out_stopped h) (inr e) = absurd (let k : OutFault ≡ WordLength taken = sym h.status_is ∙ e in let z : ⊥ = cc in z)
number-answer ws command p i o r s taken (report_stopped h) (inl e) = absurd (let k : ReportFault ≡ TooLong taken = sym h.status_is ∙ e in let z : ⊥ = cc in z)
number-answer ws command p i o r s taken (report_stopped h) (inr e) = absurd (let k : ReportFault ≡ WordLength taken = sym h.status_is ∙ e in let z : ⊥ = cc in z)
number-answer ws command p i o r s taken (input_stopped h) (inl e) = absurd (let k : InputFault ≡ TooLong taken = sym h.status_is ∙ e in let z : ⊥ = cc in z)
number-answer ws command p i o r s taken (input_stopped h) (inr e) = absurd (let k : InputFault ≡ WordLength taken = sym h.status_is ∙ e in let z : ⊥ = cc in z)
number-answer ws command p i o r s taken (wanting h) (inl e) = absurd (let k : NoMemory ≡ TooLong taken = sym h.status_is ∙ e in let z : ⊥ = cc in z)
number-answer ws command p i o r s taken (wanting h) (inr e) = absurd (let k : NoMemory ≡ WordLength taken = sym h.status_is ∙ e in let z : ⊥ = cc in z)

pub number-encode : (p : Parts) (i : SourceCall) (o : SinkCall) (taken : ℕ) (answer : Result EncodeCounts EncodeFault) → (IsTrue i.tells → EncodeToldAs (encode_of (plain_form p) i o) answer) → TooLong taken ≡ encode_status answer → TakesJust taken i
number-encode p i o taken (Ok counts) h e = absurd (let z : ⊥ = cc in z)
number-encode p i o taken (Err encoding.InputFault) h e = absurd (let z : ⊥ = cc in z)
number-encode p i o taken (Err encoding.OutFault) h e = absurd (let z : ⊥ = cc in z)
number-encode p i o taken (Err (encoding.TooLong other)) h e = just-same i other taken (sym (same-taken taken other e)) (λ told. just-append i (taken_from i.before i.after) other (h told).left (h told).count_is)

pub number-decode : (p : Parts) (i : SourceCall) (o r : SinkCall) (taken : ℕ) (answer : Result DecodeCounts DecodeFault) → (IsTrue i.tells → ToldAs (decode_of (plain_form p) i o r) answer) → TooLong taken ≡ decode_status answer → TakesJust taken i
number-decode p i o r taken (Ok counts) h e = absurd (let z : ⊥ = cc in z)
number-decode p i o r taken (Err decoding.InputFault) h e = absurd (let z : ⊥ = cc in z)
number-decode p i o r taken (Err decoding.OutFault) h e = absurd (let z : ⊥ = cc in z)
number-decode p i o r taken (Err decoding.ReportFault) h e = absurd (let z : ⊥ = cc in z)
number-decode p i o r taken (Err (decoding.TooLong other)) h e =
    just-same i other taken (sym (same-taken taken other e)) (λ told. just-append i (taken_from i.before i.after) other (h told).left (h told).count_is)
number-decode p i o r taken (Err (decoding.Beyond group word)) h e = absurd (let z : ⊥ = cc in z)
number-decode p i o r taken (Err (decoding.Ragged extra)) h e = absurd (let z : ⊥ = cc in z)
number-decode p i o r taken (Err decoding.Framing) h e = absurd (let z : ⊥ = cc in z)

pub number-salvage : (p : Parts) (i : SourceCall) (o r : SinkCall) (taken : ℕ) (answer : Result SalvageCounts DecodeFault) → (IsTrue i.tells → SalvagedToldAs (decode_of (plain_form p) i o r) answer) → TooLong taken ≡ salvage_status answer → TakesJust taken i
number-salvage p i o r taken (Ok counts) h e = absurd (let k : TooLong taken ≡ Done = not-salvaged (Ok counts) (TooLong taken) e (λ k. let z : ⊥ = cc in z) in let z : ⊥ = cc in z)
number-salvage p i o r taken (Err decoding.InputFault) h e = absurd (let z : ⊥ = cc in z)
number-salvage p i o r taken (Err decoding.OutFault) h e = absurd (let z : ⊥ = cc in z)
number-salvage p i o r taken (Err decoding.ReportFault) h e = absurd (let z : ⊥ = cc in z)
number-salvage p i o r taken (Err (decoding.TooLong other)) h e =
    just-same i other taken (sym (same-taken taken other e)) (λ told. just-append i (taken_from i.before i.after) other (h told).left (h told).count_is)
number-salvage p i o r taken (Err (decoding.Beyond group word)) h e = absurd (let z : ⊥ = cc in z)
number-salvage p i o r taken (Err (decoding.Ragged extra)) h e = absurd (let z : ⊥ = cc in z)
number-salvage p i o r taken (Err decoding.Framing) h e = absurd (let z : ⊥ = cc in z)

pub no-word-length : (s : Status) (command x : Command) (taken : ℕ) {X : Type 0} → Ends s command → command ≡ x → (CanSay (WordLength taken) x → ⊥) → s ≡ WordLength taken → X
no-word-length s command x taken (inl h) c none e = absurd (none (subst (λ (y : Command). CanSay (WordLength taken) y) c (subst (λ (t : Status). CanSay t command) e h)))
no-word-length s command x taken (inr (inl h)) c none e = absurd (let k : OutFault ≡ WordLength taken = sym h ∙ e in let z : ⊥ = cc in z)
no-word-length s command x taken (inr (inr (inl h))) c none e = absurd (let k : NoMemory ≡ WordLength taken = sym h ∙ e in let z : ⊥ = cc in z)
no-word-length s command x taken (inr (inr (inr (inl h)))) c none e = absurd (let k : InputFault ≡ WordLength taken = sym h.0 ∙ e in let z : ⊥ = cc in z)
no-word-length s command x taken (inr (inr (inr (inr h)))) c none e = absurd (let k : ReportFault ≡ WordLength taken = sym h.0 ∙ e in let z : ⊥ = cc in z)

pub encode-no-word : (taken : ℕ) → CanSay (WordLength taken) Encode → ⊥
encode-no-word taken (inl e) = let z : ⊥ = cc in z
encode-no-word taken (inr (inl e)) = let z : ⊥ = cc in z
encode-no-word taken (inr (inr e)) = let z : ⊥ = cc in z

pub decode-no-word : (taken : ℕ) → CanSay (WordLength taken) Decode → ⊥
decode-no-word taken (inl e) = let z : ⊥ = cc in z
decode-no-word taken (inr (inl e)) = let z : ⊥ = cc in z
decode-no-word taken (inr (inr e)) = let z : ⊥ = cc in z

pub number-served : (ws : Words) (command : Command) (p : Parts) (i : SourceCall) (o r : SinkCall) (s : Status) (taken : ℕ) → Served ws command p i o r s → (s ≡ TooLong taken) ⊎ (s ≡ WordLength taken) → TakesJust taken i
number-served ws command p i o r s taken (one_text n h) e = number-answer ws command p i o r s taken h e
number-served ws command p i o r s taken (encodes c (encoded h still)) (inl e) = number-encode p i o taken h.answer h.encoded.told (sym e ∙ h.status_is)
number-served ws command p i o r s taken (encodes c (encoded h still)) (inr e) = no-word-length s command Encode taken (served-ends ws command p i o r s (encodes c (encoded h still))) c (encode-no-word taken) e
number-served ws command p i o r s taken (encodes c (unencoded k still)) (inl e) = absurd (let l : NoMemory ≡ TooLong taken = sym k ∙ e in let z : ⊥ = cc in z)
number-served ws command p i o r s taken (encodes c (unencoded k still)) (inr e) = absurd (let l : NoMemory ≡ WordLength taken = sym k ∙ e in let z : ⊥ = cc in z)
number-served ws command p i o r s taken (decodes c (decoded flag h)) (inl e) = number-decode p i o r taken h.answer h.decoded.told (sym e ∙ h.status_is)
number-served ws command p i o r s taken (decodes c (decoded flag h)) (inr e) = no-word-length s command Decode taken (served-ends ws command p i o r s (decodes c (decoded flag h))) c (decode-no-word taken) e
number-served ws command p i o r s taken (decodes c (salvaged flag h)) (inl e) = number-salvage p i o r taken h.answer h.salvaged.told (sym e ∙ h.status_is)
number-served ws command p i o r s taken (decodes c (salvaged flag h)) (inr e) = no-word-length s command Decode taken (served-ends ws command p i o r s (decodes c (salvaged flag h))) c (decode-no-word taken) e
number-served ws command p i o r s taken (decodes c (undecoded k still)) (inl e) = absurd (let l : NoMemory ≡ TooLong taken = sym k ∙ e in let z : ⊥ = cc in z)
number-served ws command p i o r s taken (decodes c (undecoded k still)) (inr e) = absurd (let l : NoMemory ≡ WordLength taken = sym k ∙ e in let z : ⊥ = cc in z)

pub number-carried : (ws : Words) (command : Command) (run : Call) (s : Status) (taken : ℕ) → CarryOutLeaves ws command run s → (s ≡ TooLong taken) ⊎ (s ≡ WordLength taken) → TakesJust taken run.input
number-carried ws command run s taken (unread k failed still) (inl e) = absurd (let l : DescFault ≡ TooLong taken = sym k ∙ e in let z : ⊥ = cc in z)
number-carried ws command run s taken (unread k failed still) (inr e) = absurd (let l : DescFault ≡ WordLength taken = sym k ∙ e in let z : ⊥ = cc in z)
number-carried ws command run s taken (refused cause k why well still) (inl e) = absurd (let l : Descriptor cause ≡ TooLong taken = sym k ∙ e in let z : ⊥ = cc in z)
number-carried ws command run s taken (refused cause k why well still) (inr e) = absurd (let l : Descriptor cause ≡ WordLength taken = sym k ∙ e in let z : ⊥ = cc in z)
number-carried ws command run s taken (unserved k well still) (inl e) = absurd (let l : NoMemory ≡ TooLong taken = sym k ∙ e in let z : ⊥ = cc in z)
number-carried ws command run s taken (unserved k well still) (inr e) = absurd (let l : NoMemory ≡ WordLength taken = sym k ∙ e in let z : ⊥ = cc in z)
number-carried ws command run s taken (served h) e =
    number-served ws command h.parts run.input run.out run.report s taken (serves ws command h.parts run.input run.out run.report s h.leaves) e

pub run-number : (texts : List (List ℕ)) (run : Call) (s : Status) → ObeyLeaves texts run s → TellsNumber run.input s
run-number texts run s (inl u) taken (inl e) = absurd (let k : Usage ≡ TooLong taken = sym u.status_is ∙ e in let z : ⊥ = cc in z)
run-number texts run s (inl u) taken (inr e) = absurd (let k : Usage ≡ WordLength taken = sym u.status_is ∙ e in let z : ⊥ = cc in z)
run-number texts run s (inr w) taken e = number-carried w.words w.words.command run s taken w.leaves e

-- counts of faults
pub record Kept (ahead : Bool) (s : Status) (i : SourceCall) (o r : SinkCall) : Type 0 where
  pub input : (s ≡ InputFault → ⊥) → ahead ≡ false → ReadsWell i
  pub out : (s ≡ OutFault → ⊥) → WritesWell o
  pub report : (s ≡ ReportFault → ⊥) → WritesWell r

pub untouched-kept : (ahead : Bool) (s : Status) (i : SourceCall) (o r : SinkCall) → Untouched i o r → Kept ahead s i o r
untouched-kept ahead s i o r h = record { input = λ n q. read-still i h.input_still; out = λ n. write-still o h.out_still; report = λ n. write-still r h.report_still }

pub not-passing : (s : Status) → has_text s ≡ true → is_passing s ≡ false
not-passing Done e = refl
not-passing NotCodeword e = refl
not-passing (TooLong taken) e = absurd (let z : ⊥ = cc in z)
not-passing (Beyond group word) e = refl
not-passing (Ragged extra) e = refl
not-passing Framing e = refl
not-passing (TableRefused line) e = refl
not-passing (WordLength taken) e = refl
not-passing Salvaged e = refl
not-passing (BadMark place) e = refl
not-passing NoCodeword e = refl
not-passing (Ambiguous place) e = refl
not-passing (NoDesign most) e = refl
not-passing Usage e = refl
not-passing (Descriptor cause) e = refl
not-passing DescFault e = refl
not-passing InputFault e = refl
not-passing OutFault e = refl
not-passing ReportFault e = refl
not-passing NoMemory e = refl

pub answer-kept : (ws : Words) (command : Command) (p : Parts) (i : SourceCall) (o r : SinkCall) (s : Status) → AnswerLeaves ws command p i o r s → Kept (is_passing s) s i o r
answer-kept ws command p i o r s (said h) = record { input = λ n q. h.saying.read_well q; out = λ n. h.written.well; report = λ n. h.reported.well }
answer-kept ws command p i o r s (out_stopped h) = record { input = λ n q. h.saying.read_well (not-passing h.answer h.has); out = λ n. absurd (n h.status_is); report = λ n. write-still r h.report_still }
answer-kept ws command p i o r s (report_stopped h) = record { input = λ n q. h.saying.read_well (not-passing h.answer h.has); out = λ n. h.written.well; report = λ n. absurd (n h.status_is) }
answer-kept ws command p i o r s (input_stopped h) = record { input = λ n q. absurd (n h.status_is); out = λ n. write-still o h.out_still; report = λ n. write-still r h.report_still }
answer-kept ws command p i o r s (wanting h) = record { input = λ n q. h.read_well; out = λ n. write-still o h.out_still; report = λ n. write-still r h.report_still }

-- what a stream answers, by the counts that it kept
encode-kept : (p : Parts) (i : SourceCall) (o r : SinkCall) (answer : Result EncodeCounts EncodeFault) → EncodeFaultAs (encode_of (plain_form p) i o) answer → r.after ≡ r.before → Kept (is_ahead (encode_status answer)) (encode_status answer) i o r
encode-kept p i o r (Ok counts) h e = record { input = λ n q. h.1; out = λ n. h.0; report = λ n. write-still r e }
encode-kept p i o r (Err encoding.InputFault) h e = record { input = λ n q. absurd (n refl); out = λ n. h.0; report = λ n. write-still r e }
encode-kept p i o r (Err encoding.OutFault) h e = record { input = λ n q. absurd (let z : ⊥ = cc in z); out = λ n. absurd (n refl); report = λ n. write-still r e }
encode-kept p i o r (Err (encoding.TooLong taken)) h e = record { input = λ n q. absurd (let z : ⊥ = cc in z); out = λ n. h.0; report = λ n. write-still r e }

fault-kept : (C : Type 0) (p : Parts) (i : SourceCall) (o r : SinkCall) (fault : DecodeFault) → FaultAs {C = C} (decode_of (plain_form p) i o r) (Err fault) → Kept (is_ahead (decode_status (Err fault))) (decode_status (Err fault)) i o r
fault-kept C p i o r decoding.InputFault h = record { input = λ n q. absurd (n refl); out = λ n. h.0.0; report = λ n. h.0.1 }
fault-kept C p i o r decoding.OutFault h = record { input = λ n q. absurd (let z : ⊥ = cc in z); out = λ n. absurd (n refl); report = λ n. h.0 }
fault-kept C p i o r decoding.ReportFault h = record { input = λ n q. absurd (let z : ⊥ = cc in z); out = λ n. h.0; report = λ n. absurd (n refl) }
fault-kept C p i o r (decoding.TooLong taken) h = record { input = λ n q. absurd (let z : ⊥ = cc in z); out = λ n. h.0.0; report = λ n. h.0.1 }
fault-kept C p i o r (decoding.Beyond group word) h = record { input = λ n q. absurd (let z : ⊥ = cc in z); out = λ n. h.0; report = λ n. h.1 }
fault-kept C p i o r (decoding.Ragged extra) h = record { input = λ n q. h.1; out = λ n. h.0.0; report = λ n. h.0.1 }
fault-kept C p i o r decoding.Framing h = record { input = λ n q. h.1; out = λ n. h.0.0; report = λ n. h.0.1 }

decode-kept : (p : Parts) (i : SourceCall) (o r : SinkCall) (answer : Result DecodeCounts DecodeFault) → FaultAs (decode_of (plain_form p) i o r) answer → Kept (is_ahead (decode_status answer)) (decode_status answer) i o r
decode-kept p i o r (Ok counts) h = record { input = λ n q. h.1; out = λ n. h.0.0; report = λ n. h.0.1 }
decode-kept p i o r (Err fault) h = fault-kept DecodeCounts p i o r fault h

salvage-kept : (p : Parts) (i : SourceCall) (o r : SinkCall) (answer : Result SalvageCounts DecodeFault) → FaultAs (decode_of (plain_form p) i o r) answer → Kept (is_ahead (salvage_status answer)) (salvage_status answer) i o r
salvage-kept p i o r (Ok counts) h = record { input = λ n q. h.1; out = λ n. h.0.0; report = λ n. h.0.1 }
salvage-kept p i o r (Err fault) h = fault-kept SalvageCounts p i o r fault h

kept-at : (s t : Status) (i : SourceCall) (o r : SinkCall) → s ≡ t → Kept (is_ahead t) t i o r → Kept (is_ahead s) s i o r
kept-at s t i o r e h = subst (λ (x : Status). Kept (is_ahead x) x i o r) (sym e) h

ahead-is : (command : Command) (s : Status) (i : SourceCall) (o r : SinkCall) (ahead : Bool) → reads_ahead command s ≡ ahead → Kept ahead s i o r → Kept (reads_ahead command s) s i o r
ahead-is command s i o r ahead e h = subst (λ (b : Bool). Kept b s i o r) (sym e) h

streamed-ahead : (command x : Command) (s : Status) → command ≡ x → is_streamed x ≡ true → reads_ahead command s ≡ is_ahead s
streamed-ahead command x s c t = cond-true (is_streamed command) (is_ahead s) (is_passing s) (ap is_streamed c ∙ t)

pub serve-kept : (ws : Words) (command : Command) (p : Parts) (i : SourceCall) (o r : SinkCall) (s : Status) → Served ws command p i o r s → Kept (reads_ahead command s) s i o r
serve-kept ws command p i o r s (one_text n h) = ahead-is command s i o r (is_passing s) (cond-false (is_streamed command) (is_ahead s) (is_passing s) n) (answer-kept ws command p i o r s h)
serve-kept ws command p i o r s (encodes c (encoded h still)) =
    ahead-is command s i o r (is_ahead s) (streamed-ahead command Encode s c refl) (kept-at s (encode_status h.answer) i o r h.status_is (encode-kept p i o r h.answer h.encoded.fault still))
serve-kept ws command p i o r s (encodes c (unencoded e still)) = untouched-kept (reads_ahead command s) s i o r still
serve-kept ws command p i o r s (decodes c (decoded flag h)) =
    ahead-is command s i o r (is_ahead s) (streamed-ahead command Decode s c refl) (kept-at s (decode_status h.answer) i o r h.status_is (decode-kept p i o r h.answer h.decoded.fault))
serve-kept ws command p i o r s (decodes c (salvaged flag h)) =
    ahead-is command s i o r (is_ahead s) (streamed-ahead command Decode s c refl) (kept-at s (salvage_status h.answer) i o r h.status_is (salvage-kept p i o r h.answer h.salvaged.fault))
serve-kept ws command p i o r s (decodes c (undecoded e still)) = untouched-kept (reads_ahead command s) s i o r still

pub kept-line : (command : Command) (run : Call) (s : Status) (last : SinkView) → ((s ≡ DescFault → ⊥) → ReadsWell run.desc) → Kept (reads_ahead command s) s run.input run.out run.report →
    (line_of s ≡ [] → last.faults ≡ run.report.after.faults) → KeepsCounts command (with_line run last) s
kept-line command run s last desc h quiet = record { desc = desc; input = h.input; out = h.out; report = λ n e. quiet e ∙ h.report n }

pub carried-kept : (ws : Words) (command : Command) (run : Call) (s : Status) (last : SinkView) → CarryOutLeaves ws command run s → (line_of s ≡ [] → last.faults ≡ run.report.after.faults) → KeepsCounts command (with_line run last) s
carried-kept ws command run s last (unread k failed still) quiet = kept-line command run s last (λ other. absurd (other k)) (untouched-kept (reads_ahead command s) s run.input run.out run.report still) quiet
carried-kept ws command run s last (refused cause k why well still) quiet = kept-line command run s last (λ _. well) (untouched-kept (reads_ahead command s) s run.input run.out run.report still) quiet
carried-kept ws command run s last (unserved k well still) quiet = kept-line command run s last (λ _. well) (untouched-kept (reads_ahead command s) s run.input run.out run.report still) quiet
carried-kept ws command run s last (served h) quiet =
    kept-line command run s last (λ _. h.desc_well) (serve-kept ws command h.parts run.input run.out run.report s (serves ws command h.parts run.input run.out run.report s h.leaves)) quiet

pub run-kept : (texts : List (List ℕ)) (run : Call) (s : Status) (last : SinkView) → ObeyLeaves texts run s → (line_of s ≡ [] → last.faults ≡ run.report.after.faults) → OnWords texts (λ w. KeepsCounts w.command (with_line run last) s)
run-kept texts run s last h quiet v k = carried-kept v v.command run s last (obeyed-carried texts run s h v k) quiet

-- a line that has no bytes
pub line-nothing : (before after text : List ℕ) → text ≡ [] → after ≡ before ++ text → after ≡ before
line-nothing before after text e h = h ∙ ap (λ (t : List ℕ). before ++ t) e ∙ append-nil before

pub front-nil : (front rest : List ℕ) → [] ≡ front ++ rest → front ≡ []
front-nil [] rest e = refl
front-nil (x ∷ front) rest e = absurd (let z : ⊥ = cc in z)

pub front-nothing : (before after text : List ℕ) → text ≡ [] → GaveFront before after text → after ≡ before
front-nothing before after text e h = h.after_is ∙ ap (λ (t : List ℕ). before ++ t) (front-nil h.front h.rest (sym e ∙ h.bytes_are)) ∙ append-nil before

pub no-line : (s : SinkCall) (last : SinkView) (line : List ℕ) → line ≡ [] → GivesOrFails (line_call s last) line → IsTrue s.tells → last.given ≡ s.after.given
no-line s last line e (inl h) told = line-nothing s.after.given last.given line e (h.given told)
no-line s last line e (inr h) told = front-nothing s.after.given last.given line e (h.given told)
