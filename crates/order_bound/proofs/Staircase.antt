-- The pairs of a function stand on a staircase
use Rattle.std.proofs.Common.{◌≡◌, ◌≢◌, ℕ, zero, suc, ◌+◌, ◌-◌, ◌<◌, ◌≤◌, ◌↔◌, IsTrue, true, false, leb, eqb, leb-true, Some, None, Option, sym, ◌∙◌, ap, subst, refl, inl, inr, arith}
use Rattle.std.specs.Prelude.{◌==◌}
use Rattle.std.specs.Option.{option_eq}
use Rattle.std.proofs.lemmas.Bool.{cases_eq, cases_lt, eq-eqb, eqb-true, le-leb}
use Rattle.field_theory.specs.Sums.{total, one_if, count_pairs}
use Rattle.field_theory.proofs.Sums.{eq_or_below}
use Rattle.field_theory.proofs.Totals.{total_zero}
use Rattle.counting_theory.specs.Votes.{pairs}
use Rattle.order_domain.specs.Domain.{Domain, IsOrderDomain}
use Rattle.order_domain.specs.Values.{sum_or_count}
use Rattle.order_domain.proofs.Values.{sum_or_count-some, sum_or_count-none, sum_or_count-below}
use Rattle.order_bound.specs.Checking.{AreBeyond, AreRowsBeyond}
use Rattle.order_bound.proofs.Counting.{same_test, other_test}

-- how many pairs with a first function below i have the sum r
abbrev pub counted_rows : Domain → (r i : ℕ) → ℕ
counted_rows d r i = total i (λ u. total d.count (λ v. one_if (sum_or_count d u v == r)))

-- only one term of a total
total_only : (n k : ℕ) (f : ℕ → ℕ) → k < n → ((q : ℕ) → q < n → q ≢ k → f q ≡ 0) → total n f ≡ f k
total_only zero k f l h = absurd (omega arith)
total_only (suc n) k f l h = elim (eq_or_below k n l) [
  | inl e ↦
      let none : total n f ≡ 0 = total_zero n f (λ q lq. h q (omega arith) (λ g. omega arith)) in
      let last : f n ≡ f k = ap f (sym e) in
      omega arith
  | inr b ↦
      let rest : total n f ≡ f k = total_only n k f b (λ q lq. h q (omega arith)) in
      let last : f n ≡ 0 = h n (omega arith) (λ g. omega arith) in
      omega arith
]

-- a total whose last terms are 0
total_front : (n i : ℕ) (f : ℕ → ℕ) → i ≤ n → ((q : ℕ) → i ≤ q → q < n → f q ≡ 0) → total n f ≡ total i f
total_front zero i f l h = ap (λ (s : ℕ). total s f) (let e : 0 ≡ i = omega arith in e)
total_front (suc n) i f l h = elim (cases_eq i (suc n)) [
  | inl e ↦ ap (λ (s : ℕ). total s f) (sym e)
  | inr d ↦
      let front : total n f ≡ total i f = total_front n i f (omega arith) (λ q a b. h q a (omega arith)) in
      let last : f n ≡ 0 = h n (omega arith) (omega arith) in
      omega arith
]

pub within_some : (d : Domain) (i j r s : ℕ) → d.sum i j ≡ Some s → IsTrue (leb s r) ↔ (sum_or_count d i j ≤ r)
within_some d i j r s e =
    let is : sum_or_count d i j ≡ s = sum_or_count-some d i j s e in
    (λ t. let l : s ≤ r = leb-true s r t in omega arith, λ l. le-leb s r (omega arith))

pub within_none : (d : Domain) (i j r : ℕ) → r < d.count → d.sum i j ≡ None → IsTrue false ↔ (sum_or_count d i j ≤ r)
within_none d i j r l e =
    let z : sum_or_count d i j ≡ d.count = sum_or_count-none d i j e in
    (λ t. absurd (cc), λ m. absurd (omega arith))

-- whether a sum is function r
option_is : (o : Option ℕ) (r : ℕ) → option_eq eqb o (Some r) ≡ true → o ≡ Some r
option_is None r e = absurd (cc)
option_is (Some s) r e = ap (λ (x : ℕ). let o : Option ℕ = Some x in o) (eqb-true s r e)

pub sum_is : (d : Domain) (i j r : ℕ) → option_eq eqb (d.sum i j) (Some r) ≡ true → sum_or_count d i j ≡ r
sum_is d i j r e = sum_or_count-some d i j r (option_is (d.sum i j) r e)

pub sum_is_other : (d : Domain) (i j r : ℕ) → r < d.count → option_eq eqb (d.sum i j) (Some r) ≡ false → sum_or_count d i j ≢ r
sum_is_other d i j r l e is =
    let has : d.sum i j ≡ Some r = sum_or_count-below d i j (omega arith) ∙ ap (λ (x : ℕ). let o : Option ℕ = Some x in o) is in
    true_false (sym (eq-eqb r r refl) ∙ ap (λ (o : Option ℕ). option_eq eqb o (Some r)) (sym has) ∙ e)
  where
    true_false : true ≡ false → ⊥
    true_false f = cc

-- a number other than 0, and the one before it
pub before_last : (n : ℕ) → n ≢ 0 → n ≡ suc (n - 1)
before_last n d = omega arith

pub beyond_more : (d : Domain) (r i j : ℕ) → AreBeyond d r i (j + 1) → r < sum_or_count d i j → AreBeyond d r i j
beyond_more d r i j h here = record {
  each = λ v up l. elim (cases_eq v j) [
    | inl e ↦ subst (λ (s : ℕ). r < sum_or_count d i s) (sym e) here
    | inr n ↦ h.each v (omega arith) l
  ];
}

module _ (d : Domain) (lawful : IsOrderDomain d) (r : ℕ) (lr : r < d.count) where
  -- a sum that is listed rises with each of its functions
  rises : (u v u' v' : ℕ) → u < d.count → v < d.count → u' ≤ u → v' ≤ v → u' + v' < u + v → sum_or_count d u v < d.count → sum_or_count d u' v' < sum_or_count d u v
  rises u v u' v' lu lv a b less few =
      let w : (s : ℕ) × (d.sum u' v' ≡ Some s) × (s < sum_or_count d u v) = lawful.sums_rise.smaller u v u' v' (sum_or_count d u v) lu lv (sum_or_count-below d u v few) a b less in
      let e : sum_or_count d u' v' ≡ w.0 = sum_or_count-some d u' v' w.0 w.1 in
      let l : w.0 < sum_or_count d u v = w.2 in
      omega arith

  -- a function has no sum before itself
  at_least : (u v : ℕ) → u < d.count → v < d.count → v ≤ sum_or_count d u v
  at_least u v lu lv =
      let first : sum_or_count d 0 v ≡ v = sum_or_count-some d 0 v v (lawful.neutral.sum_zero v lv) in
      elim (cases_eq u 0) [
        | inl e ↦ let same : sum_or_count d u v ≡ sum_or_count d 0 v = ap (λ (s : ℕ). sum_or_count d s v) e in omega arith
        | inr n ↦ elim (cases_lt (sum_or_count d u v) d.count) [
          | inl few ↦ let up : sum_or_count d 0 v < sum_or_count d u v = rises u v 0 v lu lv (omega arith) (omega arith) (omega arith) few in omega arith
          | inr many ↦ omega arith
        ]
      ]

  pub rows_none : AreRowsBeyond d r 0 (r + 1)
  rows_none = record { each = λ u v a lu b lv. let l : v ≤ sum_or_count d u v = at_least u v lu lv in omega arith }

  pub row_of_rows : (i end : ℕ) → i < d.count → AreRowsBeyond d r i end → AreBeyond d r i end
  row_of_rows i end li h = record { each = λ v up l. h.each i v (omega arith) li up l }

  pub rows_more : (i end : ℕ) → AreBeyond d r i end → i < d.count → AreRowsBeyond d r (i + 1) end
  rows_more i end h li = record {
    each = λ u v a lu b lv. elim (cases_lt (sum_or_count d u v) d.count) [
      | inl few ↦
          let up : sum_or_count d i v < sum_or_count d u v = rises u v i v lu lv (omega arith) (omega arith) (omega arith) few in
          let here : r < sum_or_count d i v = h.each v b lv in
          omega arith
      | inr many ↦ omega arith
    ];
  }

  -- ---- the pairs of row i, whose last sum up to r is with function j
  row_pairs : (i j : ℕ) → i < d.count → j < d.count → AreBeyond d r i (suc j) → sum_or_count d i j ≤ r → total d.count (λ v. one_if (sum_or_count d i v == r)) ≡ one_if (sum_or_count d i j == r)
  row_pairs i j li lj h low =
      total_only d.count j (λ v. one_if (sum_or_count d i v == r)) lj
      (λ v lv n. other_test (sum_or_count d i v) r (λ e. elim (cases_lt v j) [
        | inl less ↦ let up : sum_or_count d i v < sum_or_count d i j = rises i j i v li lj (omega arith) (omega arith) (omega arith) (omega arith) in omega arith
        | inr more ↦ let b : r < sum_or_count d i v = h.each v (omega arith) lv in omega arith
      ]))

  pub counted_yes : (count i j : ℕ) → i < d.count → j < d.count → AreBeyond d r i (suc j) → sum_or_count d i j ≤ r → sum_or_count d i j ≡ r → count ≡ counted_rows d r i → count + 1 ≡ counted_rows d r (i + 1)
  counted_yes count i j li lj h low e c =
      let row : total d.count (λ v. one_if (sum_or_count d i v == r)) ≡ one_if (sum_or_count d i j == r) = row_pairs i j li lj h low in
      let one : one_if (sum_or_count d i j == r) ≡ 1 = same_test (sum_or_count d i j) r e in
      let more : counted_rows d r (suc i) ≡ counted_rows d r i + total d.count (λ v. one_if (sum_or_count d i v == r)) = refl in
      (let n : count + 1 ≡ counted_rows d r (suc i) = omega arith in n) ∙ ap (λ (s : ℕ). counted_rows d r s) (let e : suc i ≡ i + 1 = omega arith in e)

  pub counted_no : (count i j : ℕ) → i < d.count → j < d.count → AreBeyond d r i (suc j) → sum_or_count d i j ≤ r → sum_or_count d i j ≢ r → count ≡ counted_rows d r i → count ≡ counted_rows d r (i + 1)
  counted_no count i j li lj h low n c =
      let row : total d.count (λ v. one_if (sum_or_count d i v == r)) ≡ one_if (sum_or_count d i j == r) = row_pairs i j li lj h low in
      let none : one_if (sum_or_count d i j == r) ≡ 0 = other_test (sum_or_count d i j) r n in
      let more : counted_rows d r (suc i) ≡ counted_rows d r i + total d.count (λ v. one_if (sum_or_count d i v == r)) = refl in
      (let m : count ≡ counted_rows d r (suc i) = omega arith in m) ∙ ap (λ (s : ℕ). counted_rows d r s) (let e : suc i ≡ i + 1 = omega arith in e)

  -- where no sum of row i and the later rows is r, all are counted
  pub counted_all : (count i : ℕ) → i ≤ d.count → AreRowsBeyond d r i 0 → count ≡ counted_rows d r i → count ≡ pairs d.count (sum_or_count d) r
  unfolding pairs count_pairs
  counted_all count i li h c =
      c ∙ sym (total_front d.count i (λ u. total d.count (λ v. one_if (sum_or_count d u v == r))) li
      (λ u a lu. total_zero d.count (λ v. one_if (sum_or_count d u v == r))
      (λ v lv. other_test (sum_or_count d u v) r (λ e. let b : r < sum_or_count d u v = h.each u v a lu (omega arith) lv in omega arith))))

  pub rows_from : (i : ℕ) → AreBeyond d r i 0 → i < d.count → AreRowsBeyond d r i 0
  rows_from i h li = record {
    each = λ u v a lu b lv. elim (cases_eq u i) [
      | inl e ↦ subst (λ (s : ℕ). r < sum_or_count d s v) (sym e) (h.each v b lv)
      | inr n ↦ let w : AreRowsBeyond d r (i + 1) 0 = rows_more i 0 h li in w.each u v (omega arith) lu b lv
    ];
  }

  pub counted_end : (count i : ℕ) → i ≡ d.count → count ≡ counted_rows d r i → count ≡ pairs d.count (sum_or_count d) r
  unfolding pairs count_pairs
  counted_end count i e c = c ∙ ap (λ (s : ℕ). counted_rows d r s) e
