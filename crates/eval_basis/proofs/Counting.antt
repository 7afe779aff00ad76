-- How many sums are the index of a member
use Rattle.std.proofs.Common.{◌≡◌, ◌≢◌, ℕ, suc, ◌+◌, ◌<◌, ◌≤◌, eqb, List, length, get_or, take, replicate, slice_index, sym, ◌∙◌, ap, subst, inl, inr, arith, count_by}
use Rattle.std.proofs.Math.ListN.{set}
use Rattle.std.proofs.lemmas.Bool.{cases_eq, eq-eqb, ne_eqb}
use Rattle.std.proofs.lemmas.List.{get_or-set_same, get_or-set_other, get_or-replicate, length-replicate, length-set, get_or_default, take_all}
use Rattle.std.proofs.lemmas.List.Sums.{count_by_more_yes, count_by_more_no}
use Rattle.field_theory.proofs.Sums.{eq_or_below}
use Rattle.eval_basis.specs.Flat.{IsList}

-- the numbers of the members before k stand at their indices, and n at the others
pub record AreNumbered (n : ℕ) (ranks numbers : List ℕ) (k : ℕ) : Type 0 where
  pub member : (i : ℕ) → i < k → slice_index numbers (slice_index ranks i) ≡ i
  pub found : (s : ℕ) → s < length numbers → slice_index numbers s < n → (slice_index numbers s < k) × (slice_index ranks (slice_index numbers s) ≡ s)

pub numbered_none : (n count : ℕ) (ranks numbers : List ℕ) → numbers ≡ replicate count n → AreNumbered n ranks numbers 0
numbered_none n count ranks numbers e = record {
  member = λ i l. absurd (omega arith);
  found = λ s ls l.
      let long : length numbers ≡ count = ap length e ∙ length-replicate count n in
      let is : slice_index numbers s ≡ n = ap (λ (xs : List ℕ). get_or xs s 0) e ∙ get_or-replicate count s n 0 (omega arith) in
      absurd (omega arith);
}

pub numbered_more : (n : ℕ) (ranks numbers : List ℕ) (k : ℕ) → k < n → slice_index ranks k < length numbers → ((i j : ℕ) → i < j → j < n → slice_index ranks i < slice_index ranks j)
    → AreNumbered n ranks numbers k → AreNumbered n ranks (set numbers (slice_index ranks k) k) (k + 1)
numbered_more n ranks numbers k few low rising h = record {
  member = λ i l. elim (eq_or_below i k (let w : i < suc k = omega arith in w)) [
    | inl e ↦ subst (λ (j : ℕ). slice_index (set numbers (slice_index ranks k) k) (slice_index ranks j) ≡ j) (sym e) (get_or-set_same numbers (slice_index ranks k) k 0 low)
    | inr b ↦
        get_or-set_other numbers (slice_index ranks k) (slice_index ranks i) k 0 (λ e. let u : slice_index ranks i < slice_index ranks k = rising i k b few in omega arith)
        ∙ h.member i b
  ];
  found = λ s ls l. elim (cases_eq s (slice_index ranks k)) [
    | inl e ↦
        let is : slice_index (set numbers (slice_index ranks k) k) s ≡ k = ap (λ (i : ℕ). slice_index (set numbers (slice_index ranks k) k) i) e ∙ get_or-set_same numbers (slice_index ranks k) k 0 low in
        (omega arith, ap (λ (i : ℕ). slice_index ranks i) is ∙ sym e)
    | inr d ↦
        let is : slice_index (set numbers (slice_index ranks k) k) s ≡ slice_index numbers s = get_or-set_other numbers (slice_index ranks k) s k 0 d in
        let w : (slice_index numbers s < k) × (slice_index ranks (slice_index numbers s) ≡ s) = h.found s (omega (arith, length-set numbers (slice_index ranks k) k)) (omega arith) in
        (let u : slice_index numbers s < k = w.0 in omega arith, ap (λ (i : ℕ). slice_index ranks i) is ∙ w.1)
  ];
}

-- ---- the counts among the first sums
pub record AreCounted (ranks sums counts : List ℕ) (i : ℕ) : Type 0 where
  pub long : length counts ≡ length ranks
  pub at : (k : ℕ) → k < length ranks → slice_index counts k ≡ count_by (λ s. eqb s (slice_index ranks k)) (take i sums)
  pub few : (k : ℕ) → k < length ranks → slice_index counts k ≤ i

pub counted_none : (ranks sums counts : List ℕ) → counts ≡ replicate (length ranks) 0 → AreCounted ranks sums counts 0
counted_none ranks sums counts e = record {
  long = ap length e ∙ length-replicate (length ranks) 0;
  at = λ k l. ap (λ (xs : List ℕ). get_or xs k 0) e ∙ get_or-replicate (length ranks) k 0 0 l;
  few = λ k l. let z : slice_index counts k ≡ 0 = ap (λ (xs : List ℕ). get_or xs k 0) e ∙ get_or-replicate (length ranks) k 0 0 l in omega arith;
}

-- a sum that is no member's index
pub counted_other : (ranks sums counts : List ℕ) (i : ℕ) → i < length sums → ((k : ℕ) → k < length ranks → get_or sums i 0 ≢ slice_index ranks k) → AreCounted ranks sums counts i → AreCounted ranks sums counts (i + 1)
counted_other ranks sums counts i l none h = record {
  long = h.long;
  at = λ k lk. h.at k lk ∙ sym (count_by_more_no (λ s. eqb s (slice_index ranks k)) sums i 0 l (ne_eqb (get_or sums i 0) (slice_index ranks k) (none k lk)));
  few = λ k lk. let u : slice_index counts k ≤ i = h.few k lk in omega arith;
}

-- a sum that is the index of member k
pub counted_member : (ranks sums counts : List ℕ) (i k : ℕ) → i < length sums → k < length ranks → get_or sums i 0 ≡ slice_index ranks k → ((j : ℕ) → j < length ranks → j ≢ k → slice_index ranks j ≢ slice_index ranks k)
    → AreCounted ranks sums counts i → AreCounted ranks sums (set counts k (slice_index counts k + 1)) (i + 1)
counted_member ranks sums counts i k l lk is apart h = record {
  long = length-set counts k (slice_index counts k + 1) ∙ h.long;
  at = λ j lj. elim (cases_eq j k) [
    | inl e ↦
        subst (λ (q : ℕ). slice_index (set counts k (slice_index counts k + 1)) q ≡ count_by (λ s. eqb s (slice_index ranks q)) (take (i + 1) sums)) (sym e)
        (get_or-set_same counts k (slice_index counts k + 1) 0 (omega (arith, h.long)) ∙ ap (λ (x : ℕ). x + 1) (h.at k lk)
        ∙ sym (count_by_more_yes (λ s. eqb s (slice_index ranks k)) sums i 0 l (eq-eqb (get_or sums i 0) (slice_index ranks k) is)))
    | inr d ↦
        get_or-set_other counts k j (slice_index counts k + 1) 0 d ∙ h.at j lj
        ∙ sym (count_by_more_no (λ s. eqb s (slice_index ranks j)) sums i 0 l (ne_eqb (get_or sums i 0) (slice_index ranks j) (λ e. apart j lj d (sym e ∙ is))))
  ];
  few = λ j lj. elim (cases_eq j k) [
    | inl e ↦
        let s : slice_index (set counts k (slice_index counts k + 1)) j ≡ slice_index counts k + 1 = ap (λ (q : ℕ). slice_index (set counts k (slice_index counts k + 1)) q) e ∙ get_or-set_same counts k (slice_index counts k + 1) 0 (omega (arith, h.long)) in
        let u : slice_index counts k ≤ i = h.few k lk in
        omega arith
    | inr d ↦
        let s : slice_index (set counts k (slice_index counts k + 1)) j ≡ slice_index counts j = get_or-set_other counts k j (slice_index counts k + 1) 0 d in
        let u : slice_index counts j ≤ i = h.few j lj in
        omega arith
  ];
}

pub counted_all : (ranks sums counts : List ℕ) (i : ℕ) → length sums ≤ i → AreCounted ranks sums counts i → IsList (length ranks) (λ k. count_by (λ s. eqb s (slice_index ranks k)) sums) counts
counted_all ranks sums counts i l h = record {
  long = h.long;
  entries = λ k lk. h.at k lk ∙ ap (λ (xs : List ℕ). count_by (λ s. eqb s (slice_index ranks k)) xs) (take_all i sums l);
}

-- ---- one sum more, looked up among the numbers of the members
module _ (count : ℕ) (ranks numbers sums counts : List ℕ) (i : ℕ) (long : length numbers ≡ count) (below : (k : ℕ) → k < length ranks → slice_index ranks k < count)
    (member : (k : ℕ) → k < length ranks → slice_index numbers (slice_index ranks k) ≡ k)
    (found : (s : ℕ) → s < count → slice_index numbers s < length ranks → slice_index ranks (slice_index numbers s) ≡ s)
    (l : i < length sums) (h : AreCounted ranks sums counts i) where
  pub sum_of_member : (k x : ℕ) → get_or sums i 0 < count → k ≡ get_or numbers (get_or sums i 0) k → k < length ranks → x ≡ get_or counts k x → AreCounted ranks sums (set counts k (x + 1)) (i + 1)
  sum_of_member k x ls is lk ix =
      let number : k ≡ slice_index numbers (get_or sums i 0) = is ∙ get_or_default numbers (get_or sums i 0) k 0 (omega arith) in
      let here : get_or sums i 0 ≡ slice_index ranks k = sym (ap (λ (j : ℕ). slice_index ranks j) number ∙ found (get_or sums i 0) ls (omega arith)) in
      let value : x ≡ slice_index counts k = ix ∙ get_or_default counts k x 0 (omega (arith, h.long)) in
      subst (λ (y : ℕ). AreCounted ranks sums (set counts k (y + 1)) (i + 1)) (sym value)
      (counted_member ranks sums counts i k l lk here (λ j lj d e. d (sym (member j lj) ∙ ap (λ (s : ℕ). slice_index numbers s) e ∙ member k lk)) h)

  pub sum_of_none : (k : ℕ) → get_or sums i 0 < count → k ≡ get_or numbers (get_or sums i 0) k → length ranks ≤ k → AreCounted ranks sums counts (i + 1)
  sum_of_none k ls is past =
      let number : k ≡ slice_index numbers (get_or sums i 0) = is ∙ get_or_default numbers (get_or sums i 0) k 0 (omega arith) in
      counted_other ranks sums counts i l
      (λ j lj e. let at : slice_index numbers (get_or sums i 0) ≡ j = ap (λ (s : ℕ). slice_index numbers s) e ∙ member j lj in omega arith) h

  pub sum_past : count ≤ get_or sums i 0 → AreCounted ranks sums counts (i + 1)
  sum_past past = counted_other ranks sums counts i l (λ j lj e. let u : slice_index ranks j < count = below j lj in omega arith) h
