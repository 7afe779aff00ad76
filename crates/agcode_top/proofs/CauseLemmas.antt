-- Each status of a run by its cause, and completeness
use Rattle.std.proofs.Common.{◌≡◌, ℕ, ◌≤◌, ◌↔◌, List, [], Bool, nat_le, if◌then◌else◌, length, false, IsTrue, sym, ap, ◌∙◌, refl, inl, inr, ◌⊎◌, subst, arith, Ok, Err}
use Rattle.ag_io.specs.Counts.{Rose}
use Rattle.ag_io.specs.Views.{SinkView}
use Rattle.command_words.specs.declared.words.Command.{Command}
use Rattle.command_words.specs.declared.words.Words.{Words}
use Rattle.command_words.specs.declared.words.Command.TheVariants.{Member, Points, Params, Bound, Check, Encode, Decode, Votes, Trial, Erase, Design}
use Rattle.stored_form.specs.Form.{Form}
use Rattle.stored_form.specs.Reading.{Reading, File, reading}
use Rattle.stream_codec.specs.declared.decode.DecodeFault.TheVariants as decoding
use Rattle.stored_form.specs.Frame.{group_bytes}
use Rattle.stream_codec.specs.Decoding.{answer_by, answer_to, read_bytes}
use Rattle.stream_codec.specs.Taking.{taken_past}
use Rattle.std.proofs.lemmas.Bool.{le-leb, cond-true}
use Rattle.stream_codec.specs.Report.{counts_of}
use Rattle.code_descriptor.specs.declared.DescCause.{DescCause}
use Rattle.code_descriptor.specs.Parts.{Parts}
use Rattle.block_theory.specs.Checks.{IsInCode}
use Rattle.descriptor_code.specs.Plain.{checks, plain_form}
use Rattle.stream_codec.specs.declared.limits.TheConstants.{MOST_BYTES}
use Rattle.agcode_top.specs.declared.limit.TheConstants.{MOST_TABLE}
use Rattle.agcode_top.specs.declared.status.Status.{Status}
use Rattle.agcode_top.specs.declared.status.Status.TheVariants.{Done, Usage, Descriptor, DescFault, InputFault, OutFault, ReportFault, NoMemory}
use Rattle.agcode_top.specs.Calls.{Call, SourceCall, SinkCall, ReadFailed, WriteFailed, NoneFailed}
use Rattle.agcode_top.specs.Statuses.{OnWords, is_streamed, CanStop, CanEnd}
use Rattle.agcode_top.specs.Commands.{IsNearCode, Refuses, Accepts, Says, SaysMember, SaysCheck, SaysVotes, is_in_code, not_in_code, not_long, is_table, no_table, too_long, is_near, is_far, not_n_long, IsInputTold}
use Rattle.agcode_top.specs.Lines.{line_of}
use Rattle.agcode_top.specs.Streams.{Encoded, Decoded, encode_status, decode_status}
use Rattle.agcode_top.proofs.SalvageLemmas.{file-none, plain-decoded}
use Rattle.agcode_top.specs.Leaves.{AnswerLeaves, said, out_stopped, report_stopped, input_stopped, wanting, encoded, unencoded, decoded, salvaged, undecoded, CarryOutLeaves, unread, refused, unserved, served, ObeyLeaves}
use Rattle.descriptor_design.specs.Plans.{HasMany}
use Rattle.descriptor_design.proofs.Once.{some_design}
use Rattle.agcode_top.specs.Design.{SaysDesign, has_plans, no_plan}
use Rattle.agcode_top.specs.Headline.{IsTableText, RefusesBy, RefusesExactly, AcceptsFirst, IsFileText, IsValid, Completes}
use Rattle.agcode_top.proofs.EraseLemmas.{valid-erase}
use Rattle.agcode_top.proofs.EndLemmas.{with_line, stayed-front, Served, one_text, encodes, decodes, serves, ends-can, ends-own, serve-InputFault, serve-OutFault, serve-ReportFault, same-parts, refused-accepted, one-cause, carried-served, obeyed-carried, described-ends, described-at, carried-not-Usage}

-- how a command ends on a valid input
pub valid-member : (p : Parts) (input : List ℕ) (status : Status) (text : List ℕ) → IsInCode (checks p) input → SaysMember p input status text → status ≡ Done
valid-member p input status text v (is_in_code e good t) = e
valid-member p input status text v (not_in_code e long other t) = absurd (other v)
valid-member p input status text v (not_long taken e none t) = absurd (none.other_length v.is_word.n_long)

pub valid-votes : (p : Parts) (input : List ℕ) (status : Status) (text : List ℕ) → IsNearCode p input → SaysVotes p input status text → status ≡ Done
valid-votes p input status text v (is_near e long votes) = e
valid-votes p input status text v (is_far e long far t) = absurd (far v.word v.near)
valid-votes p input status text v (not_n_long taken e none t) = absurd (none.other_length v.n_long)

pub valid-check : (p : Parts) (input : List ℕ) (status : Status) (text : List ℕ) → IsTableText p input → SaysCheck p input status text → status ≡ Done
valid-check p input status text v (is_table e few good) = e
valid-check p input status text v (no_table line e few bad t) = absurd (bad.not_table v.table)
valid-check p input status text v (too_long taken e passed most t) = absurd (let within : length input ≤ MOST_TABLE = v.within in let z : ⊥ = omega arith in z)

pub valid-design : (p : Parts) (want : ℕ) (status : Status) (text : List ℕ) → HasMany p want → SaysDesign p want status text → status ≡ Done
valid-design p want status text v (has_plans e plans) = e
valid-design p want status text v (no_plan most e none t) = absurd (some_design p want most v none)

pub valid-done : (ws : Words) (command : Command) (p : Parts) (input : List ℕ) (status : Status) (text told : List ℕ) → is_streamed command ≡ false → IsValid ws command p input → Says ws command p input status text told → status ≡ Done
valid-done ws Member p input status text told e v s = valid-member p input status text v s.0
valid-done ws Points p input status text told e v s = s.0.0
valid-done ws Params p input status text told e v s = s.0.0
valid-done ws Bound p input status text told e v s = s.0.0
valid-done ws Votes p input status text told e v s = valid-votes p input status text v s.0
valid-done ws Check p input status text told e v s = valid-check p input status text v s.0
valid-done ws Encode p input status text told e v s = absurd (let z : ⊥ = cc in z)
valid-done ws Decode p input status text told e v s = absurd (let z : ⊥ = cc in z)
valid-done ws Trial p input status text told e v s = s.0.0
valid-done ws Erase p input status text told e v s = valid-erase p input status text told v s
valid-done ws Design p input status text told e v s = valid-design p ws.want status text v s.0

pub answer-done : (ws : Words) (command : Command) (p : Parts) (i : SourceCall) (o r : SinkCall) (s : Status) → is_streamed command ≡ false → AnswerLeaves ws command p i o r s → IsInputTold command i.tells → (ReadFailed i → ⊥) → (WriteFailed o → ⊥) → (WriteFailed r → ⊥) → IsValid ws command p i.before.left →
    (s ≡ Done) ⊎ (s ≡ NoMemory)
answer-done ws command p i o r s e (said h) it si so sr v = inl (valid-done ws command p i.before.left s h.text h.told e v (h.saying.says it))
answer-done ws command p i o r s e (out_stopped h) it si so sr v = absurd (so h.written.failed)
answer-done ws command p i o r s e (report_stopped h) it si so sr v = absurd (sr h.reported.failed)
answer-done ws command p i o r s e (input_stopped h) it si so sr v = absurd (si h.failed)
answer-done ws command p i o r s e (wanting h) it si so sr v = inr h.status_is

pub encode-done : (p : Parts) (i : SourceCall) (o : SinkCall) (s : Status) → Encoded p i o s → IsTrue i.tells → (ReadFailed i → ⊥) → (WriteFailed o → ⊥) → length i.before.left ≤ MOST_BYTES → s ≡ Done
encode-done p i o s h told si so l =
    h.status_is ∙ ap encode_status (h.complete told si so ∙ cond-true (nat_le (length i.before.left) MOST_BYTES) _ _ (le-leb (length i.before.left) MOST_BYTES l))

pub file-answer : (F : Form) (limit : ℕ) (z x : List ℕ) → reading F z ≡ File x → length z ≤ limit → answer_to F limit z ≡ Ok (counts_of F z x)
file-answer F limit z x e l =
    ap (λ (r : Reading). if nat_le (read_bytes F z r) limit then answer_by F z r else Err (decoding.TooLong (taken_past (group_bytes F) limit (length z)))) e
    ∙ ap (λ (b : Bool). if b then Ok (counts_of F z x) else Err (decoding.TooLong (taken_past (group_bytes F) limit (length z)))) (le-leb (length z) limit l)

pub decode-answer : (p : Parts) (i : SourceCall) (o r : SinkCall) (s : Status) (h : Decoded p i o r s) (x : List ℕ) → IsTrue i.tells → (ReadFailed i → ⊥) → (WriteFailed o → ⊥) → (WriteFailed r → ⊥) → length i.before.left ≤ MOST_BYTES →
    reading (plain_form p) i.before.left ≡ File x → h.answer ≡ Ok (counts_of (plain_form p) i.before.left x)
decode-answer p i o r s h x told si so sr l e = h.complete told (record { source = si; out = so; report = sr }) ∙ file-answer (plain_form p) MOST_BYTES i.before.left x e l

pub decode-done : (p : Parts) (i : SourceCall) (o r : SinkCall) (s : Status) → Decoded p i o r s → IsTrue i.tells → (ReadFailed i → ⊥) → (WriteFailed o → ⊥) → (WriteFailed r → ⊥) → IsFileText p i.before.left → s ≡ Done
decode-done p i o r s h told si so sr v = h.status_is ∙ ap decode_status (decode-answer p i o r s h v.file told si so sr v.within v.reads)

pub serve-done : (ws : Words) (command : Command) (p : Parts) (i : SourceCall) (o r : SinkCall) (s : Status) → Served ws command p i o r s → IsInputTold command i.tells → (ReadFailed i → ⊥) → (WriteFailed o → ⊥) → (WriteFailed r → ⊥) → IsValid ws command p i.before.left → (s ≡ Done) ⊎ (s ≡ NoMemory)
serve-done ws command p i o r s (one_text e h) it si so sr v = answer-done ws command p i o r s e h it si so sr v
serve-done ws command p i o r s (encodes c (encoded h still)) it si so sr v =
    inl (encode-done p i o s h (subst (λ (x : Command). IsInputTold x i.tells) c it refl) si so (subst (λ (x : Command). IsValid ws x p i.before.left) c v))
serve-done ws command p i o r s (encodes c (unencoded e still)) it si so sr v = inr e
serve-done ws command p i o r s (decodes c (decoded flag h)) it si so sr v =
    inl (decode-done p i o r s h (subst (λ (x : Command). IsInputTold x i.tells) c it refl) si so sr (subst (λ (x : Command). IsValid ws x p i.before.left) c v))
serve-done ws command p i o r s (decodes c (salvaged flag h)) it si so sr v =
    let file = subst (λ (x : Command). IsValid ws x p i.before.left) c v in
    let told = subst (λ (x : Command). IsInputTold x i.tells) c it refl in
    inl (decode-done p i o r s (plain-decoded p i o r s h told (file-none (plain_form p) i.before.left file.file file.reads)) told si so sr file)
serve-done ws command p i o r s (decodes c (undecoded e still)) it si so sr v = inr e

pub run-usage : (texts : List (List ℕ)) (run : Call) (s : Status) → ObeyLeaves texts run s → (s ≡ Usage) ↔ OnWords texts (λ w. ⊥)
run-usage texts run s (inl u) = (λ e. u.nobody, λ n. u.status_is)
run-usage texts run s (inr w) = (λ e. absurd (carried-not-Usage w.words w.words.command run s w.leaves e), λ n. absurd (n w.words w.line))

pub run-own : (texts : List (List ℕ)) (run : Call) (s : Status) → ObeyLeaves texts run s → OnWords texts (λ w. CanEnd s w.command)
run-own texts run s h v k = go (obeyed-carried texts run s h v k)
  where
    go : CarryOutLeaves v v.command run s → CanEnd s v.command
    go (unread e failed still) = inr (subst (λ (t : Status). CanStop t v.command) (sym e) tt)
    go (refused cause e why well still) = inr (subst (λ (t : Status). CanStop t v.command) (sym e) tt)
    go (unserved e well still) = inr (subst (λ (t : Status). CanStop t v.command) (sym e) tt)
    go (served d) = ends-can s v.command (described-ends v v.command run s d)

pub carried-desc_fault : (ws : Words) (command : Command) (run : Call) (s : Status) → CarryOutLeaves ws command run s → s ≡ DescFault → ReadFailed run.desc
carried-desc_fault ws command run s (unread k failed still) e = failed
carried-desc_fault ws command run s (refused cause k why well still) e = absurd (let l : Descriptor cause ≡ DescFault = sym k ∙ e in let z : ⊥ = cc in z)
carried-desc_fault ws command run s (unserved k well still) e = absurd (let l : NoMemory ≡ DescFault = sym k ∙ e in let z : ⊥ = cc in z)
carried-desc_fault ws command run s (served h) e = absurd (ends-own s command (described-ends ws command run s h) (inr (inl e)))

pub run-desc_fault : (texts : List (List ℕ)) (run : Call) (s : Status) → ObeyLeaves texts run s → s ≡ DescFault → ReadFailed run.desc
run-desc_fault texts run s (inl u) e = absurd (let k : Usage ≡ DescFault = sym u.status_is ∙ e in let z : ⊥ = cc in z)
run-desc_fault texts run s (inr w) e = carried-desc_fault w.words w.words.command run s w.leaves e

pub run-input_fault : (texts : List (List ℕ)) (run : Call) (s : Status) → ObeyLeaves texts run s → s ≡ InputFault → ReadFailed run.input
run-input_fault texts run s (inl u) e = absurd (let k : Usage ≡ InputFault = sym u.status_is ∙ e in let z : ⊥ = cc in z)
run-input_fault texts run s (inr w) e = go w.leaves
  where
    go : CarryOutLeaves w.words w.words.command run s → ReadFailed run.input
    go (unread k failed still) = absurd (let l : DescFault ≡ InputFault = sym k ∙ e in let z : ⊥ = cc in z)
    go (refused cause k why well still) = absurd (let l : Descriptor cause ≡ InputFault = sym k ∙ e in let z : ⊥ = cc in z)
    go (unserved k well still) = absurd (let l : NoMemory ≡ InputFault = sym k ∙ e in let z : ⊥ = cc in z)
    go (served h) = serve-InputFault w.words w.words.command h.parts run.input run.out run.report s (serves w.words w.words.command h.parts run.input run.out run.report s h.leaves) e

pub run-out_fault : (texts : List (List ℕ)) (run : Call) (s : Status) → ObeyLeaves texts run s → s ≡ OutFault → WriteFailed run.out
run-out_fault texts run s (inl u) e = absurd (let k : Usage ≡ OutFault = sym u.status_is ∙ e in let z : ⊥ = cc in z)
run-out_fault texts run s (inr w) e = go w.leaves
  where
    go : CarryOutLeaves w.words w.words.command run s → WriteFailed run.out
    go (unread k failed still) = absurd (let l : DescFault ≡ OutFault = sym k ∙ e in let z : ⊥ = cc in z)
    go (refused cause k why well still) = absurd (let l : Descriptor cause ≡ OutFault = sym k ∙ e in let z : ⊥ = cc in z)
    go (unserved k well still) = absurd (let l : NoMemory ≡ OutFault = sym k ∙ e in let z : ⊥ = cc in z)
    go (served h) = serve-OutFault w.words w.words.command h.parts run.input run.out run.report s (serves w.words w.words.command h.parts run.input run.out run.report s h.leaves) e

pub run-report_fault : (texts : List (List ℕ)) (run : Call) (s : Status) (faults : ℕ) → ObeyLeaves texts run s → (line_of s ≡ [] → faults ≡ run.report.after.faults) → s ≡ ReportFault → Rose run.report.before.faults faults
run-report_fault texts run s faults (inl u) q e = absurd (let k : Usage ≡ ReportFault = sym u.status_is ∙ e in let z : ⊥ = cc in z)
run-report_fault texts run s faults (inr w) q e = subst (λ (n : ℕ). Rose run.report.before.faults n) (sym (q (ap line_of e))) (go w.leaves)
  where
    go : CarryOutLeaves w.words w.words.command run s → WriteFailed run.report
    go (unread k failed still) = absurd (let l : DescFault ≡ ReportFault = sym k ∙ e in let z : ⊥ = cc in z)
    go (refused cause k why well still) = absurd (let l : Descriptor cause ≡ ReportFault = sym k ∙ e in let z : ⊥ = cc in z)
    go (unserved k well still) = absurd (let l : NoMemory ≡ ReportFault = sym k ∙ e in let z : ⊥ = cc in z)
    go (served h) = serve-ReportFault w.words w.words.command h.parts run.input run.out run.report s (serves w.words w.words.command h.parts run.input run.out run.report s h.leaves) e

pub same-cause : (c d : DescCause) → Descriptor c ≡ Descriptor d → c ≡ d
same-cause c d e = cc

pub carried-descriptor : (ws : Words) (command : Command) (run : Call) (s : Status) (cause : DescCause) → CarryOutLeaves ws command run s → s ≡ Descriptor cause → IsTrue run.desc.tells → Refuses command run.desc.before.left cause
carried-descriptor ws command run s cause (unread k failed still) e told = absurd (let l : DescFault ≡ Descriptor cause = sym k ∙ e in let z : ⊥ = cc in z)
carried-descriptor ws command run s cause (refused other k why well still) e told = subst (λ (x : DescCause). Refuses command run.desc.before.left x) (same-cause other cause (sym k ∙ e)) (why told)
carried-descriptor ws command run s cause (unserved k well still) e told = absurd (let l : NoMemory ≡ Descriptor cause = sym k ∙ e in let z : ⊥ = cc in z)
carried-descriptor ws command run s cause (served h) e told = absurd (ends-own s command (described-ends ws command run s h) (inr (inr (cause, e))))

pub run-descriptor : (texts : List (List ℕ)) (run : Call) (s : Status) → ObeyLeaves texts run s → OnWords texts (λ w. RefusesBy w.command run.desc s)
run-descriptor texts run s h v k cause e told = carried-descriptor v v.command run s cause (obeyed-carried texts run s h v k) e told

pub carried-refused : (ws : Words) (command : Command) (run : Call) (s : Status) (cause : DescCause) → CarryOutLeaves ws command run s → IsTrue run.desc.tells → Refuses command run.desc.before.left cause → (s ≡ Descriptor cause) ⊎ (s ≡ DescFault) ⊎ (s ≡ NoMemory)
carried-refused ws command run s cause (unread k failed still) told r = inr (inl k)
carried-refused ws command run s cause (refused other k why well still) told r = inl (k ∙ ap (λ (x : DescCause). Descriptor x) (one-cause command run.desc.before.left other cause (why told) r))
carried-refused ws command run s cause (unserved k well still) told r = inr (inr k)
carried-refused ws command run s cause (served h) told r = absurd (refused-accepted command run.desc.before.left h.parts cause (h.accepted told) r)

pub run-refused : (texts : List (List ℕ)) (run : Call) (s : Status) → ObeyLeaves texts run s → OnWords texts (λ w. RefusesExactly w.command run.desc s)
run-refused texts run s h v k cause told r = carried-refused v v.command run s cause (obeyed-carried texts run s h v k) told r

pub run-accepted : (texts : List (List ℕ)) (run : Call) (s : Status) → ObeyLeaves texts run s → OnWords texts (λ w. AcceptsFirst w.command run.desc s)
run-accepted texts run s h v k own told =
    let d = described-at v v.command run s s (obeyed-carried texts run s h v k) refl own in
    (d.parts, d.accepted told)

-- no count rose over the first part of a run
pub none-first : (run : Call) (last : SinkView) → run.report.before.faults ≤ run.report.after.faults → run.report.after.faults ≤ last.faults → NoneFailed (with_line run last) → NoneFailed run
none-first run last l k n = record {
  desc = n.desc;
  input = n.input;
  out = n.out;
  report = stayed-front run.report.before.faults run.report.after.faults last.faults l k n.report;
}

pub command-done : (ws : Words) (command : Command) (run : Call) (s : Status) → CarryOutLeaves ws command run s → IsTrue run.desc.tells → IsInputTold command run.input.tells → NoneFailed run → (p : Parts) →
    Accepts command run.desc.before.left p → IsValid ws command p run.input.before.left → (s ≡ Done) ⊎ (s ≡ NoMemory)
command-done ws command run s h told it n p a v = elim (carried-served ws command p run s h told n.desc a) [
  | inl e ↦ inr e
  | inr g ↦ serve-done ws command g.parts run.input run.out run.report s (serves ws command g.parts run.input run.out run.report s g.leaves) it n.input n.out n.report
      (subst (λ (q : Parts). IsValid ws command q run.input.before.left) (same-parts command run.desc.before.left p g.parts a (g.accepted told)) v)
]

pub run-complete : (texts : List (List ℕ)) (run : Call) (s : Status) (last : SinkView) → ObeyLeaves texts run s → run.report.before.faults ≤ run.report.after.faults → run.report.after.faults ≤ last.faults →
    OnWords texts (λ w. Completes w (with_line run last) s)
run-complete texts run s last h l k v q told it n p a w =
    command-done v v.command run s (obeyed-carried texts run s h v q) told it (none-first run last l k n) p a w
