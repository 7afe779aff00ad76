-- What the commands that write one text say
use Rattle.std.proofs.Common.{◌≡◌, ℕ, ◌+◌, ◌^◌, ◌<◌, ◌≤◌, List, [], ◌++◌, length, true, false, IsTrue, sym, ap, ◌∙◌, inl, inr, ◌⊎◌, subst, arith}
use Rattle.ag_io.specs.Counts.{Rose}
use Rattle.ag_io.specs.Views.{SinkView, GaveFront}
use Rattle.command_words.specs.declared.words.Command.{Command}
use Rattle.command_words.specs.declared.words.Words.{Words}
use Rattle.command_words.specs.declared.words.Command.TheVariants.{Member, Points, Params, Bound, Check, Encode, Decode, Votes, Trial, Erase, Design}
use Rattle.std.proofs.Math.Pow.{pow_mono}
use Rattle.order_bound.proofs.OneLine.{one_line_law}
use Rattle.code_descriptor.specs.Parts.{Parts, IsDescriptor}
use Rattle.code_descriptor.proofs.Sound.{described_sound}
use Rattle.descriptor_code.specs.Codes.{domain_of}
use Rattle.descriptor_code.proofs.Spaces.{bits_in}
use Rattle.agcode_top.specs.declared.limit.TheConstants.{MOST_TABLE}
use Rattle.agcode_top.specs.declared.status.Status.{Status}
use Rattle.agcode_top.specs.declared.status.Status.TheVariants.{WordLength, TableRefused, Descriptor, DescFault, InputFault, OutFault, ReportFault, NoMemory, NoDesign}
use Rattle.agcode_top.specs.Calls.{Call, SourceCall, SinkCall, until, once_given, Writes, StopsAt, GivesOrFails}
use Rattle.agcode_top.specs.Statuses.{OnWords, IsAnswer, has_text}
use Rattle.agcode_top.specs.Commands.{Accepts, Says, SaysMember, SaysCheck, SaysVotes, is_in_code, not_in_code, not_long, is_table, no_table, too_long, is_near, is_far, not_n_long, IsNoWord, IsInputTold, RefusesTable, PassesAt, most_taken}
use Rattle.agcode_top.specs.Lines.{line_of}
use Rattle.agcode_top.specs.Leaves.{AnswerLeaves, said, out_stopped, report_stopped, input_stopped, wanting, ServesDescribed, CarryOutLeaves, unread, refused, unserved, served, ObeyLeaves}
use Rattle.descriptor_design.proofs.Once.{one_most, not_both}
use Rattle.agcode_top.specs.Design.{SaysDesign, has_plans, no_plan}
use Rattle.agcode_top.specs.Headline.{Answers, AnswersOver, AnswersPart, AnswersInPart, AnswersUntold, AnswersInText, AnswersExactly, Yields, IsLike}
use Rattle.agcode_top.proofs.EraseLemmas.{one-erase}
use Rattle.agcode_top.proofs.EndLemmas.{Alike, with_line, line_call, serves, serves-text, said-not, same-parts, refused-accepted, obeyed-carried, described-at}
use Rattle.agcode_top.proofs.StillLemmas.{no-line}

-- commands that write one text
pub gives-told : (s : SinkCall) (last : SinkView) (told line : List ℕ) → Writes s told → GivesOrFails (line_call s last) line → GivesOrFails (once_given (until s last) told) line
gives-told s last told line w (inl h) = inl (record { given = λ t. h.given t ∙ ap (λ (x : List ℕ). x ++ line) (w.given t); well = h.well ∙ w.well })
gives-told s last told line w (inr h) = inr (record {
  given = λ t. subst (λ (x : List ℕ). GaveFront x last.given line) (w.given t) (h.given t);
  fewer = λ t. subst (λ (x : List ℕ). length last.given < length x + length line) (w.given t) (h.fewer t);
  failed = subst (λ (n : ℕ). Rose n last.faults) w.well h.failed;
})

pub not-answer : (s t : Status) {X : Type 0} → IsAnswer s → s ≡ t → (IsAnswer t → ⊥) → X
not-answer s t q e none = absurd (none (subst (λ (x : Status). IsAnswer x) e q))

pub answered : (ws : Words) (run : Call) (last : SinkView) (s : Status) (p : Parts) → AnswerLeaves ws ws.command p run.input run.out run.report s → IsAnswer s → Accepts ws.command run.desc.before.left p → IsInputTold ws.command run.input.tells →
    GivesOrFails (line_call run.report last) (line_of s) → AnswersOver ws (with_line run last) s
answered ws run last s p (said h) q a it t = record {
  parts = p;
  accepted = a;
  text = h.text;
  told = h.told;
  says = h.saying.says it;
  taken = h.saying.taken;
  passes = h.saying.passes;
  written = h.written;
  reported = gives-told run.report last h.told (line_of s) h.reported t;
}
answered ws run last s p (out_stopped h) q a it t = not-answer s OutFault q h.status_is (λ z. z)
answered ws run last s p (report_stopped h) q a it t = not-answer s ReportFault q h.status_is (λ z. z)
answered ws run last s p (input_stopped h) q a it t = not-answer s InputFault q h.status_is (λ z. z)
answered ws run last s p (wanting h) q a it t = not-answer s NoMemory q h.status_is (λ z. z)

pub run-answer : (texts : List (List ℕ)) (run : Call) (s : Status) (last : SinkView) → ObeyLeaves texts run s → GivesOrFails (line_call run.report last) (line_of s) → OnWords texts (λ w. Answers w (with_line run last) s)
run-answer texts run s last h t v k q n told it = go (obeyed-carried texts run s h v k)
  where
    go : CarryOutLeaves v v.command run s → AnswersOver v (with_line run last) s
    go (unread e failed still) = not-answer s DescFault q e (λ z. z)
    go (refused cause e why well still) = not-answer s (Descriptor cause) q e (λ z. z)
    go (unserved e well still) = not-answer s NoMemory q e (λ z. z)
    go (served d) = answered v run last s d.parts (serves-text v v.command d.parts run.input run.out run.report s n (serves v v.command d.parts run.input run.out run.report s d.leaves)) q (d.accepted told) it t

pub part-of : (ws : Words) (run : Call) (last : SinkView) (s : Status) (p : Parts) → AnswerLeaves ws ws.command p run.input run.out run.report s → s ≡ OutFault → Accepts ws.command run.desc.before.left p → IsInputTold ws.command run.input.tells → AnswersInPart ws (with_line run last)
part-of ws run last s p (said h) e a it = said-not s OutFault ws.command h.saying.can e (λ z. z)
part-of ws run last s p (out_stopped h) e a it = record { parts = p; accepted = a; status = h.answer; text = h.text; told = h.told; says = h.saying.says it; has = h.has; taken = h.saying.taken; written = h.written }
part-of ws run last s p (report_stopped h) e a it = absurd (let k : ReportFault ≡ OutFault = sym h.status_is ∙ e in let z : ⊥ = cc in z)
part-of ws run last s p (input_stopped h) e a it = absurd (let k : InputFault ≡ OutFault = sym h.status_is ∙ e in let z : ⊥ = cc in z)
part-of ws run last s p (wanting h) e a it = absurd (let k : NoMemory ≡ OutFault = sym h.status_is ∙ e in let z : ⊥ = cc in z)

pub run-part : (texts : List (List ℕ)) (run : Call) (s : Status) (last : SinkView) → ObeyLeaves texts run s → OnWords texts (λ w. AnswersPart w (with_line run last) s)
run-part texts run s last h v k e n told it =
    let d : ServesDescribed v v.command run s = described-at v v.command run s OutFault (obeyed-carried texts run s h v k) e tt in
    part-of v run last s d.parts (serves-text v v.command d.parts run.input run.out run.report s n (serves v v.command d.parts run.input run.out run.report s d.leaves)) e (d.accepted told) it

pub stops-line : (s : SinkCall) (last : SinkView) (told : List ℕ) → (IsTrue s.tells → last.given ≡ s.after.given) → StopsAt s told → last.faults ≡ s.after.faults → StopsAt (until s last) told
stops-line s last told same h f = record {
  given = λ t. subst (λ (x : List ℕ). GaveFront s.before.given x told) (sym (same t)) (h.given t);
  fewer = λ t. subst (λ (x : List ℕ). length x < length s.before.given + length told) (sym (same t)) (h.fewer t);
  failed = subst (λ (n : ℕ). Rose s.before.faults n) (sym f) h.failed;
}

pub untold-of : (ws : Words) (run : Call) (last : SinkView) (s : Status) (p : Parts) → AnswerLeaves ws ws.command p run.input run.out run.report s → s ≡ ReportFault → Accepts ws.command run.desc.before.left p → IsInputTold ws.command run.input.tells →
    GivesOrFails (line_call run.report last) (line_of s) → last.faults ≡ run.report.after.faults → AnswersInText ws (with_line run last)
untold-of ws run last s p (said h) e a it t f = said-not s ReportFault ws.command h.saying.can e (λ z. z)
untold-of ws run last s p (out_stopped h) e a it t f = absurd (let k : OutFault ≡ ReportFault = sym h.status_is ∙ e in let z : ⊥ = cc in z)
untold-of ws run last s p (report_stopped h) e a it t f = record { parts = p; accepted = a; status = h.answer; text = h.text; told = h.told; says = h.saying.says it; taken = h.saying.taken; written = h.written; reported = stops-line run.report last h.told (no-line run.report last (line_of s) (ap line_of e) t) h.reported f }
untold-of ws run last s p (input_stopped h) e a it t f = absurd (let k : InputFault ≡ ReportFault = sym h.status_is ∙ e in let z : ⊥ = cc in z)
untold-of ws run last s p (wanting h) e a it t f = absurd (let k : NoMemory ≡ ReportFault = sym h.status_is ∙ e in let z : ⊥ = cc in z)

pub run-untold : (texts : List (List ℕ)) (run : Call) (s : Status) (last : SinkView) → ObeyLeaves texts run s → GivesOrFails (line_call run.report last) (line_of s) → (line_of s ≡ [] → last.faults ≡ run.report.after.faults) →
    OnWords texts (λ w. AnswersUntold w (with_line run last) s)
run-untold texts run s last h t quiet v k e n told it =
    let d : ServesDescribed v v.command run s = described-at v v.command run s ReportFault (obeyed-carried texts run s h v k) e tt in
    untold-of v run last s d.parts (serves-text v v.command d.parts run.input run.out run.report s n (serves v v.command d.parts run.input run.out run.report s d.leaves)) e (d.accepted told) it t (quiet (ap line_of e))

-- what a command says is one answer
pub same-word : (p : Parts) (input : List ℕ) (a b : ℕ) (s t : Status) → IsNoWord p input a → IsNoWord p input b → s ≡ WordLength a → t ≡ WordLength b → Alike s t
same-word p input a b s t h k e f = inl (f ∙ ap (λ (n : ℕ). WordLength n) (k.taken_is ∙ sym h.taken_is) ∙ sym e)

pub one-member : (p : Parts) (input : List ℕ) (s t : Status) (text other : List ℕ) → SaysMember p input s text → SaysMember p input t other → Alike s t
one-member p input s t text other (is_in_code e good x) (is_in_code f good' y) = inl (f ∙ sym e)
one-member p input s t text other (is_in_code e good x) (not_in_code f long none y) = absurd (none good)
one-member p input s t text other (is_in_code e good x) (not_long taken f none y) = absurd (none.other_length good.is_word.n_long)
one-member p input s t text other (not_in_code e long none x) (is_in_code f good y) = absurd (none good)
one-member p input s t text other (not_in_code e long none x) (not_in_code f long' none' y) = inl (f ∙ sym e)
one-member p input s t text other (not_in_code e long none x) (not_long taken f wrong y) = absurd (wrong.other_length long)
one-member p input s t text other (not_long taken e none x) (is_in_code f good y) = absurd (none.other_length good.is_word.n_long)
one-member p input s t text other (not_long taken e none x) (not_in_code f long wrong y) = absurd (none.other_length long)
one-member p input s t text other (not_long taken e none x) (not_long taken' f none' y) = same-word p input taken taken' s t none none' e f

pub one-votes : (p : Parts) (input : List ℕ) (s t : Status) (text other : List ℕ) → SaysVotes p input s text → SaysVotes p input t other → Alike s t
one-votes p input s t text other (is_near e long votes) (is_near f long' votes') = inl (f ∙ sym e)
one-votes p input s t text other (is_near e long votes) (is_far f long' far y) = absurd (far votes.word votes.near)
one-votes p input s t text other (is_near e long votes) (not_n_long taken f none y) = absurd (none.other_length long)
one-votes p input s t text other (is_far e long far x) (is_near f long' votes) = absurd (far votes.word votes.near)
one-votes p input s t text other (is_far e long far x) (is_far f long' far' y) = inl (f ∙ sym e)
one-votes p input s t text other (is_far e long far x) (not_n_long taken f none y) = absurd (none.other_length long)
one-votes p input s t text other (not_n_long taken e none x) (is_near f long votes) = absurd (none.other_length long)
one-votes p input s t text other (not_n_long taken e none x) (is_far f long far y) = absurd (none.other_length long)
one-votes p input s t text other (not_n_long taken e none x) (not_n_long taken' f none' y) = same-word p input taken taken' s t none none' e f

pub not-passed : (input : List ℕ) (taken : ℕ) → length input ≤ MOST_TABLE → MOST_TABLE < taken → taken ≤ length input → ⊥
not-passed input taken few passed most = omega arith

-- a text is refused at one line
one-line : (p : Parts) (input : List ℕ) (line other : ℕ) → IsDescriptor p → RefusesTable p input line → RefusesTable p input other → line ≡ other
one-line p input line other sound h k =
    let wide : (domain_of p).bits ≤ 8 = omega (arith, bits_in p sound, sound.field.at_most_eight) in
    let small : 2 ^ (domain_of p).bits ≤ 2 ^ 8 = pow_mono wide in
    (one_line_law (domain_of p) p.modulus p.points p.rule input line (omega arith) sound.points.few h.refused).once other k.refused

pub one-check : (p : Parts) (input : List ℕ) (s t : Status) (text other : List ℕ) → IsDescriptor p → SaysCheck p input s text → SaysCheck p input t other → Alike s t
one-check p input s t text other sound (is_table e few good) (is_table f few' good') = inl (f ∙ sym e)
one-check p input s t text other sound (is_table e few good) (no_table line f few' bad y) = absurd (bad.not_table good.is_table)
one-check p input s t text other sound (is_table e few good) (too_long taken f passed most y) = absurd (not-passed input taken few passed most)
one-check p input s t text other sound (no_table line e few bad x) (is_table f few' good) = absurd (bad.not_table good.is_table)
one-check p input s t text other sound (no_table line e few bad x) (no_table line' f few' bad' y) = inl (f ∙ ap (λ (n : ℕ). TableRefused n) (one-line p input line' line sound bad' bad) ∙ sym e)
one-check p input s t text other sound (no_table line e few bad x) (too_long taken f passed most y) = absurd (not-passed input taken few passed most)
one-check p input s t text other sound (too_long taken e passed most x) (is_table f few good) = absurd (not-passed input taken few passed most)
one-check p input s t text other sound (too_long taken e passed most x) (no_table line f few bad y) = absurd (not-passed input taken few passed most)
one-check p input s t text other sound (too_long taken e passed most x) (too_long taken' f passed' most' y) = inr (taken, taken', e, f)

pub one-design : (p : Parts) (want : ℕ) (s t : Status) (text other : List ℕ) → SaysDesign p want s text → SaysDesign p want t other → Alike s t
one-design p want s t text other (has_plans e plans) (has_plans f plans') = inl (f ∙ sym e)
one-design p want s t text other (has_plans e plans) (no_plan most f none y) = absurd (not_both p want text most plans none)
one-design p want s t text other (no_plan most e none x) (has_plans f plans) = absurd (not_both p want other most plans none)
one-design p want s t text other (no_plan most e none x) (no_plan most' f none' y) = inl (f ∙ ap (λ (n : ℕ). NoDesign n) (one_most p most' most none'.is_most none.is_most) ∙ sym e)

pub one-answer : (ws : Words) (command : Command) (p : Parts) (input : List ℕ) (s t : Status) (text told other tells : List ℕ) → IsDescriptor p → Says ws command p input s text told → Says ws command p input t other tells → Alike s t
one-answer ws Member p input s t text told other tells sound h k = one-member p input s t text other h.0 k.0
one-answer ws Points p input s t text told other tells sound h k = inl (k.0.0 ∙ sym h.0.0)
one-answer ws Params p input s t text told other tells sound h k = inl (k.0.0 ∙ sym h.0.0)
one-answer ws Bound p input s t text told other tells sound h k = inl (k.0.0 ∙ sym h.0.0)
one-answer ws Check p input s t text told other tells sound h k = one-check p input s t text other sound h.0 k.0
one-answer ws Encode p input s t text told other tells sound h k = absurd h.0
one-answer ws Decode p input s t text told other tells sound h k = absurd h.0
one-answer ws Votes p input s t text told other tells sound h k = one-votes p input s t text other h.0 k.0
one-answer ws Trial p input s t text told other tells sound h k = inl (k.0.0 ∙ sym h.0.0)
one-answer ws Erase p input s t text told other tells sound h k = one-erase p input s t text told other tells h k
one-answer ws Design p input s t text told other tells sound h k = one-design p ws.want s t text other h.0 k.0

pub like-text : (s t : Status) → Alike s t → has_text t ≡ true → has_text s ≡ true
like-text s t (inl e) h = ap has_text (sym e) ∙ h
like-text s t (inr k) h = absurd (let l : false ≡ true = sym (ap has_text k.3) ∙ h in let z : ⊥ = cc in z)

-- .. with the number that was taken
passes-like : (most : ℕ) (i : SourceCall) (asked s : Status) → PassesAt most i s → Alike asked s → IsLike most i asked s
passes-like most i asked s h (inl e) = inl e
passes-like most i asked s h (inr k) = inr (k.0, k.1, k.2, k.3, subst (λ (x : Status). PassesAt most i x) k.3 h)

pub yields-at : (command : Command) (asked s t : Status) → s ≡ t → Yields command asked t → Yields command asked s
yields-at command asked s t e h = subst (λ (x : Status). Yields command asked x) (sym e) h

pub exactly-of : (ws : Words) (command : Command) (p : Parts) (i : SourceCall) (o r : SinkCall) (s asked : Status) (text told : List ℕ) → IsDescriptor p → AnswerLeaves ws command p i o r s → IsInputTold command i.tells →
    Says ws command p i.before.left asked text told → IsLike (most_taken command p) i asked s ⊎ Yields command asked s
exactly-of ws command p i o r s asked text told sound (said h) it k =
    inl (passes-like (most_taken command p) i asked s h.saying.passes (one-answer ws command p i.before.left asked s text told h.text h.told sound k (h.saying.says it)))
exactly-of ws command p i o r s asked text told sound (out_stopped h) it k =
    inr (yields-at command asked s OutFault h.status_is (like-text asked h.answer (one-answer ws command p i.before.left asked h.answer text told h.text h.told sound k (h.saying.says it)) h.has))
exactly-of ws command p i o r s asked text told sound (report_stopped h) it k = inr (yields-at command asked s ReportFault h.status_is h.tells)
exactly-of ws command p i o r s asked text told sound (input_stopped h) it k = inr (yields-at command asked s InputFault h.status_is h.reads)
exactly-of ws command p i o r s asked text told sound (wanting h) it k = inr (yields-at command asked s NoMemory h.status_is tt)

pub run-exactly : (texts : List (List ℕ)) (run : Call) (s : Status) (last : SinkView) → ObeyLeaves texts run s → OnWords texts (λ w. AnswersExactly w (with_line run last) s)
run-exactly texts run s last h v k n told it p asked text more a says = go (obeyed-carried texts run s h v k)
  where
    most : ℕ
    most = most_taken v.command p

    go : CarryOutLeaves v v.command run s → IsLike most run.input asked s ⊎ Yields v.command asked s
    go (unread e failed still) = inr (yields-at v.command asked s DescFault e tt)
    go (refused cause e why well still) = absurd (refused-accepted v.command run.desc.before.left p cause a (why told))
    go (unserved e well still) = inr (yields-at v.command asked s NoMemory e tt)
    go (served d) =
        let same : d.parts ≡ p = same-parts v.command run.desc.before.left d.parts p (d.accepted told) a in
        exactly-of v v.command p run.input run.out run.report s asked text more (described_sound run.desc.before.left p a.described)
        (subst (λ (q : Parts). AnswerLeaves v v.command q run.input run.out run.report s) same
        (serves-text v v.command d.parts run.input run.out run.report s n (serves v v.command d.parts run.input run.out run.report s d.leaves))) it says
