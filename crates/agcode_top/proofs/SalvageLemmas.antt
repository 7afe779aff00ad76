-- What a salvage says, and that it is a decoding where no codeword is lost
use Rattle.std.proofs.Common.{◌≡◌, ℕ, zero, suc, ◌<◌, ◌≤◌, Bool, true, false, cond, nat_eq, nat_le, List, [], ◌∷◌, length, count_by, is_none, IsTrue, All, Option, Some, sym, ap, ◌∙◌, refl, inl, inr, ◌⊎◌, subst, arith, Result, Ok, Err}
use Rattle.std.proofs.lemmas.Bool.{cond-true, cond-false, eqb-true, ne_eqb, le-leb}
use Rattle.std.proofs.lemmas.List.Elements.{All-head, All-tail}
use Rattle.std.proofs.lemmas.List.Sums.{sum_by-cons}
use Rattle.stored_form.specs.Form.{Form}
use Rattle.stored_form.specs.Frame.{group_bytes}
use Rattle.stored_form.specs.Reading.{File, kept, blocks, reading, AllNear}
use Rattle.stored_form.specs.Salvage.{lost_count}
use Rattle.stored_form.proofs.ConverseLemmas.{read_as_file, all_near_from}
use Rattle.stream_codec.specs.declared.decode.DecodeCounts.{DecodeCounts}
use Rattle.stream_codec.specs.declared.decode.DecodeFault.{DecodeFault}
use Rattle.stream_codec.specs.declared.decode.DecodeFault.TheVariants as decoding
use Rattle.stream_codec.specs.declared.salvage.SalvageCounts.{SalvageCounts}
use Rattle.stream_codec.specs.declared.salvage.SalvageEnd.{SalvageEnd}
use Rattle.stream_codec.specs.declared.salvage.SalvageEnd.TheVariants as ending
use Rattle.stream_codec.specs.Decoding.{Decode as DecodeCall, FaultAs, NoneRose}
use Rattle.stream_codec.specs.Salvaging.{answer_at, salvage_counts, salvage_answer, plain, SalvagesText, SalvagedToldAs}
use Rattle.stream_codec.specs.Taking.{taken_past}
use Rattle.stream_codec.specs.declared.limits.TheConstants.{MOST_BYTES}
use Rattle.stream_codec.proofs.DecodedLemmas.{complete_from}
use Rattle.code_descriptor.specs.Parts.{Parts}
use Rattle.descriptor_code.specs.Plain.{plain_form}
use Rattle.agcode_top.specs.declared.status.Status.{Status}
use Rattle.agcode_top.specs.declared.status.Status.TheVariants.{Done, Salvaged}
use Rattle.agcode_top.specs.Calls.{SourceCall, SinkCall}
use Rattle.agcode_top.specs.Statuses.{IsRead, IsOwn}
use Rattle.agcode_top.specs.Streams.{Decoded, SalvagedText, decode_status, salvage_status, decode_of}

-- ---- statuses
-- where codewords are lost it is Salvaged, else that of the decoding
chosen : (b : Bool) → (cond b Done Salvaged ≡ Salvaged) ⊎ (cond b Done Salvaged ≡ Done)
chosen true = inr refl
chosen false = inl refl

pub like-status : (answer : Result SalvageCounts DecodeFault) → (salvage_status answer ≡ Salvaged) ⊎ (salvage_status answer ≡ decode_status (plain answer))
like-status (Ok counts) = chosen (nat_eq counts.lost 0)
like-status (Err fault) = inr refl

pub not-salvaged : (answer : Result SalvageCounts DecodeFault) (t : Status) → t ≡ salvage_status answer → (Salvaged ≡ t → ⊥) → t ≡ decode_status (plain answer)
not-salvaged answer t e n = elim (like-status answer) [
  | inl s ↦ absurd (n (sym s ∙ sym e))
  | inr s ↦ e ∙ s
]

pub salvage-IsOwn : (answer : Result SalvageCounts DecodeFault) → ((a : Result DecodeCounts DecodeFault) → IsOwn (decode_status a)) → IsOwn (salvage_status answer)
salvage-IsOwn answer own = elim (like-status answer) [
  | inl s ↦ subst IsOwn (sym s) tt
  | inr s ↦ subst IsOwn (sym s) (own (plain answer))
]

pub fault-plain : (d : DecodeCall) (answer : Result SalvageCounts DecodeFault) → FaultAs d answer → FaultAs d (plain answer)
fault-plain d (Ok counts) h = h
fault-plain d (Err decoding.InputFault) h = h
fault-plain d (Err decoding.OutFault) h = h
fault-plain d (Err decoding.ReportFault) h = h
fault-plain d (Err (decoding.TooLong taken)) h = h
fault-plain d (Err (decoding.Beyond group word)) h = h
fault-plain d (Err (decoding.Ragged extra)) h = h
fault-plain d (Err decoding.Framing) h = h

-- ---- the number of lost codewords
-- counts of an answer that is Ok are those of the text
ok-at : (counts c : SalvageCounts) (b : Bool) (e : SalvageEnd) → Ok counts ≡ cond b (answer_at c e) (Ok c) → counts ≡ c
ok-at counts c true ending.File is = let k : counts ≡ c = cc in k
ok-at counts c true (ending.Ragged extra) is = absurd (let z : ⊥ = cc in z)
ok-at counts c true ending.Framing is = absurd (let z : ⊥ = cc in z)
ok-at counts c false e is = let k : counts ≡ c = cc in k

ok-lost : (F : Form) (z : List ℕ) (counts : SalvageCounts) → Ok counts ≡ salvage_answer F z → counts.lost ≡ lost_count F z
ok-lost F z counts is =
    let c = salvage_counts F z in
    ap (λ (v : SalvageCounts). v.lost) (ok-at counts c (nat_eq c.lost 0) c.end is)

-- an answer that is an error comes only where none is lost
err-at : (fault : DecodeFault) (c : SalvageCounts) (b : Bool) → nat_eq c.lost 0 ≡ b → Err fault ≡ cond b (answer_at c c.end) (Ok c) → c.lost ≡ 0
err-at fault c true e is = eqb-true c.lost 0 e
err-at fault c false e is = absurd (let z : ⊥ = cc in z)

err-lost : (F : Form) (z : List ℕ) (fault : DecodeFault) → Err fault ≡ salvage_answer F z → lost_count F z ≡ 0
err-lost F z fault is = let c = salvage_counts F z in err-at fault c (nat_eq c.lost 0) refl is

-- a text that is read as a file has none
count-none : (F : Form) (ys : List (List ℕ)) → All (λ y. F.near y ≡ Some (kept F y)) ys → count_by (λ y. is_none (F.near y)) ys ≡ 0
count-none F [] near = refl
count-none F (y ∷ ys) near =
    let counted = λ (v : List ℕ). cond {A = ℕ} (is_none (F.near v)) 1 0 in
    let here : counted y ≡ 0 = ap (λ (o : Option (List ℕ)). cond {A = ℕ} (is_none o) 1 0) (All-head (λ v. F.near v ≡ Some (kept F v)) y ys near) in
    let rest = count-none F ys (All-tail (λ v. F.near v ≡ Some (kept F v)) y ys near) in
    let all = sum_by-cons counted y ys in
    omega (arith, here, rest, all)

pub file-none : (F : Form) (z x : List ℕ) → reading F z ≡ File x → lost_count F z ≡ 0
unfolding AllNear
file-none F z x e = count-none F (blocks F z) (all_near_from F z (read_as_file F x z e).all_near)

-- ---- a salvage that is a decoding
status-alike : (d : DecodeCall) (answer : Result SalvageCounts DecodeFault) → SalvagedToldAs d answer → lost_count d.form d.source.left ≡ 0 → salvage_status answer ≡ decode_status (plain answer)
status-alike d (Ok counts) h none =
    ap (λ n. cond (nat_eq n 0) Done Salvaged) (ok-lost d.form d.source.left counts h.answers ∙ none)
status-alike d (Err fault) h none = refl

pub plain-decoded : (p : Parts) (i : SourceCall) (o r : SinkCall) (s : Status) → SalvagedText p i o r s → IsTrue i.tells → lost_count (plain_form p) i.before.left ≡ 0 → Decoded p i o r s
plain-decoded p i o r s h told none =
    let d = decode_of (plain_form p) i o r in
    let alike = h.alike told none in
    record {
      sound = h.sound;
      answer = plain h.answer;
      status_is = h.status_is ∙ status-alike d h.answer (h.salvaged.told told) none;
      decoded = alike;
      complete = complete_from d (plain h.answer) h.sound alike;
    }

-- a status of a reading comes only where none is lost
read-chosen : (n : ℕ) (b : Bool) → nat_eq n 0 ≡ b → IsRead (cond b Done Salvaged) → n ≡ 0
read-chosen n true e q = eqb-true n 0 e
read-chosen n false e q = absurd q

read-lost : (d : DecodeCall) (answer : Result SalvageCounts DecodeFault) → SalvagedToldAs d answer → IsRead (salvage_status answer) → lost_count d.form d.source.left ≡ 0
read-lost d (Ok counts) h q = sym (ok-lost d.form d.source.left counts h.answers) ∙ read-chosen counts.lost (nat_eq counts.lost 0) refl q
read-lost d (Err (decoding.Ragged extra)) h q = err-lost d.form d.source.left (decoding.Ragged extra) h.answers
read-lost d (Err decoding.Framing) h q = err-lost d.form d.source.left decoding.Framing h.answers
read-lost d (Err (decoding.Beyond group word)) h q = absurd h
read-lost d (Err decoding.InputFault) h q = absurd q
read-lost d (Err decoding.OutFault) h q = absurd q
read-lost d (Err decoding.ReportFault) h q = absurd q
read-lost d (Err (decoding.TooLong taken)) h q = absurd q

pub read-none : (p : Parts) (i : SourceCall) (o r : SinkCall) (s : Status) → SalvagedText p i o r s → IsTrue i.tells → IsRead s → lost_count (plain_form p) i.before.left ≡ 0
read-none p i o r s h told q = read-lost (decode_of (plain_form p) i o r) h.answer (h.salvaged.told told) (subst IsRead h.status_is q)

-- ---- Salvaged
salvaged-chosen : (n : ℕ) (b : Bool) → nat_eq n 0 ≡ b → Salvaged ≡ cond b Done Salvaged → 0 < n
salvaged-chosen n true e is = absurd (let z : ⊥ = cc in z)
salvaged-chosen zero false e is = absurd (let z : ⊥ = cc in z)
salvaged-chosen (suc n) false e is = omega arith

pub record Rescued (p : Parts) (d : DecodeCall) : Type 0 where
  pub counts : SalvageCounts
  pub text : SalvagesText d (Ok counts)
  pub lost : 0 < lost_count d.form d.source.left

salvaged-told : (p : Parts) (d : DecodeCall) (answer : Result SalvageCounts DecodeFault) → SalvagedToldAs d answer → Salvaged ≡ salvage_status answer → Rescued p d
salvaged-told p d (Ok counts) h is = record {
  counts = counts;
  text = h;
  lost = subst (λ n. 0 < n) (ok-lost d.form d.source.left counts h.answers) (salvaged-chosen counts.lost (nat_eq counts.lost 0) refl is);
}
salvaged-told p d (Err (decoding.Ragged extra)) h is = absurd (let z : ⊥ = cc in z)
salvaged-told p d (Err decoding.Framing) h is = absurd (let z : ⊥ = cc in z)
salvaged-told p d (Err (decoding.Beyond group word)) h is = absurd h
salvaged-told p d (Err decoding.InputFault) h is = absurd (let z : ⊥ = cc in z)
salvaged-told p d (Err decoding.OutFault) h is = absurd (let z : ⊥ = cc in z)
salvaged-told p d (Err decoding.ReportFault) h is = absurd (let z : ⊥ = cc in z)
salvaged-told p d (Err (decoding.TooLong taken)) h is = absurd (let z : ⊥ = cc in z)

pub rescued : (p : Parts) (i : SourceCall) (o r : SinkCall) (s : Status) → SalvagedText p i o r s → IsTrue i.tells → s ≡ Salvaged → Rescued p (decode_of (plain_form p) i o r)
rescued p i o r s h told e = salvaged-told p (decode_of (plain_form p) i o r) h.answer (h.salvaged.told told) (sym e ∙ h.status_is)

-- a decoding is none
pub decode-Salvaged : (answer : Result DecodeCounts DecodeFault) {X : Type 0} → Salvaged ≡ decode_status answer → X
decode-Salvaged (Ok counts) is = let z : ⊥ = cc in absurd z
decode-Salvaged (Err decoding.InputFault) is = let z : ⊥ = cc in absurd z
decode-Salvaged (Err decoding.OutFault) is = let z : ⊥ = cc in absurd z
decode-Salvaged (Err decoding.ReportFault) is = let z : ⊥ = cc in absurd z
decode-Salvaged (Err (decoding.TooLong taken)) is = let z : ⊥ = cc in absurd z
decode-Salvaged (Err (decoding.Beyond group word)) is = let z : ⊥ = cc in absurd z
decode-Salvaged (Err (decoding.Ragged extra)) is = let z : ⊥ = cc in absurd z
decode-Salvaged (Err decoding.Framing) is = let z : ⊥ = cc in absurd z

-- where a codeword is lost and no count rises, it is Salvaged
lost-chosen : (c : SalvageCounts) → 0 < c.lost → salvage_status (cond (nat_eq c.lost 0) (answer_at c c.end) (Ok c)) ≡ Salvaged
lost-chosen c some =
    let other = ne_eqb c.lost 0 (λ e. omega arith) in
    ap salvage_status (cond-false (nat_eq c.lost 0) (answer_at c c.end) (Ok c) other) ∙ cond-false (nat_eq c.lost 0) Done Salvaged other

pub salvages-all : (p : Parts) (i : SourceCall) (o r : SinkCall) (s : Status) → SalvagedText p i o r s → IsTrue i.tells → NoneRose (decode_of (plain_form p) i o r) → 0 < lost_count (plain_form p) i.before.left → length i.before.left ≤ MOST_BYTES → s ≡ Salvaged
salvages-all p i o r s h told none some within =
    let F = plain_form p in
    let z = i.before.left in
    let answer_is : h.answer ≡ salvage_answer F z =
    h.complete told none ∙ cond-true (nat_le (length z) MOST_BYTES) (salvage_answer F z) (Err (decoding.TooLong (taken_past (group_bytes F) MOST_BYTES (length z)))) (le-leb (length z) MOST_BYTES within) in
    h.status_is ∙ ap salvage_status answer_is ∙ lost-chosen (salvage_counts F z) some
