-- The dual list and the solution, read off the reduced form of a matrix that was joined with the unit matrix, or with a
-- column of right sides
use Rattle.std.proofs.lemmas.Bool.{cases_order, cases_Bool, eqb-true, eq-eqb, both_ways}
use Rattle.std.proofs.Common.{◌≡◌, ◌≢◌, ℕ, zero, suc, ◌+◌, ◌-◌, ◌<◌, ◌≤◌, true, eqb, sym, ◌∙◌, ap, subst, refl, inl, inr, arith}
use Rattle.field_theory.specs.Field.{IsField}
use Rattle.field_theory.specs.Sums.{any_below, unit}
use Rattle.field_theory.proofs.Sums.{sum-same, sum_below, one_mul-mul}
use Rattle.linear_theory.specs.Linear.{dot, combine, IsCombination, IsDual, IsSolution, IsReduced, IsFree, SameSpan}
use Rattle.linear_theory.proofs.Corners.{rank_rows}
use Rattle.linear_theory.proofs.Duals.{sum_unit}
use Rattle.linear_theory.proofs.Free.{reduced_not_free, free_span}
use Rattle.linear_theory.proofs.Reduced.{Rises}
use Rattle.linear_theory.proofs.Solving.{solution_of, solution_of-pivot, solution_of-free, solution_span, reduced_no_solution, reduced_solution, dual_of_inverse}
use Rattle.linear_theory.proofs.Entries.{dot_entries}
use Rattle.linear_theory.proofs.Spans.{put-same, any_below-yes, any_below-from}
use Rattle.linear_theory.proofs.Steps.{span_flip}

-- n rising numbers below n are the numbers below n
rising_up : (p : ℕ → ℕ) (n : ℕ) → Rises p n → (t : ℕ) → t < n → t ≤ p t
rising_up p n h zero l = omega arith
rising_up p n h (suc t) l = let a : t ≤ p t = rising_up p n h t (omega arith) in let b : p t < p (suc t) = h t (suc t) (omega arith) l in omega arith

rising_far : (p : ℕ → ℕ) (n : ℕ) → Rises p n → (t d : ℕ) → t + d < n → p t + d ≤ p (t + d)
rising_far p n h t zero l = let e : p t ≡ p (t + 0) = ap p (omega arith) in omega arith
rising_far p n h t (suc d) l =
    let a : p t + d ≤ p (t + d) = rising_far p n h t d (omega arith) in
    let b : p (t + d) < p (t + suc d) = h (t + d) (t + suc d) (omega arith) l in
    omega arith

pub rising_all : (p : ℕ → ℕ) (n : ℕ) → Rises p n → ((t : ℕ) → t < n → p t < n) → (t : ℕ) → t < n → p t ≡ t
rising_all p n h below t l =
    let a : t ≤ p t = rising_up p n h t l in
    let b : p t + (n - 1 - t) ≤ p (t + (n - 1 - t)) = rising_far p n h t (n - 1 - t) (omega arith) in
    let c : p (t + (n - 1 - t)) < n = below (t + (n - 1 - t)) (omega arith) in
    omega arith

module _ (size : ℕ) (mul : ℕ → ℕ → ℕ) (field : IsField size mul) where
  -- the dual list of n rows, from the reduced form of the rows with the unit matrix to their right
  pub dual_of_joined : (n : ℕ) (rows joined reduced : ℕ → ℕ → ℕ) → ((i j : ℕ) → rows i j < size)
      → ((i : ℕ) → i < n → (j : ℕ) → j < n → joined i j ≡ rows i j) → ((i : ℕ) → i < n → (j : ℕ) → j < n → joined i (n + j) ≡ unit i j)
      → IsReduced n reduced n n → SameSpan mul (n + n) joined n reduced n → IsDual mul n rows (λ j k. reduced k (n + j))
  dual_of_joined n rows joined reduced b left right h e = dual_of_inverse size mul field n rows (λ k j. reduced k (n + j)) b (λ k lk j lj. joined_unit k lk j lj)
    where
      joined_unit : (k : ℕ) → k < n → (j : ℕ) → j < n → unit k j ≡ combine mul n (λ i. reduced k (n + i)) rows j
      joined_unit k lk j lj =
          let c : IsCombination mul (n + n) joined n (reduced k) = e.back k lk in
          let at : h.pivots j ≡ j = rising_all h.pivots n h.rising h.in_range j lj in
          let here : reduced k j ≡ unit k j = ap (λ q. reduced k q) (sym at) ∙ h.columns k j lk lj in
          let factor : (i : ℕ) → i < n → reduced k (n + i) ≡ mul (c.factors i) 1 =
          λ i li. c.is_sum (n + i) (omega arith) ∙ sum-same n (λ q. mul (c.factors q) (joined q (n + i))) (λ q. mul (c.factors q) (unit q i)) (λ q lq. ap (λ y. mul (c.factors q) y) (right q lq i li))
          ∙ sum_unit size mul field n c.factors i li in
          sym here ∙ c.is_sum j (omega arith)
          ∙ sum-same n (λ i. mul (c.factors i) (joined i j)) (λ i. mul (reduced k (n + i)) (rows i j))
          (λ i li. ap (λ y. mul (c.factors i) y) (left i li j lj)
          ∙ sym (ap (λ y. mul y (rows i j)) (factor i li ∙ field.mul_comm (c.factors i) 1) ∙ one_mul-mul size mul field (c.factors i) (rows i j)))

  -- equations, from the reduced form of the rows with the right sides as a column to their right
  module _ (n r k : ℕ) (rows joined reduced : ℕ → ℕ → ℕ) (rhs : ℕ → ℕ) (b : (i j : ℕ) → joined i j < size) (c : (i j : ℕ) → reduced i j < size)
      (left : (i : ℕ) → i < r → (j : ℕ) → j < n → joined i j ≡ rows i j) (right : (i : ℕ) → i < r → joined i n ≡ rhs i)
      (h : IsReduced (suc n) reduced r k) (e : SameSpan mul (suc n) joined r reduced r) where
    pub joined_none : (t : ℕ) (x : ℕ → ℕ) → t < k → h.pivots t ≡ n → ((i : ℕ) → i < r → dot mul n (rows i) x ≡ rhs i) → ⊥
    joined_none t x l at solves =
        let s : IsSolution mul n joined r x = record {
          solves = λ i li. sum-same n (λ p. mul (joined i p) (x p)) (λ p. mul (rows i p) (x p)) (λ p lp. ap (λ y. mul y (x p)) (left i li p lp)) ∙ solves i li ∙ sym (right i li);
        } in
        reduced_no_solution size mul field n reduced r k t x h l at (solution_span size mul field n joined r reduced r x b c e s)

    pub joined_solves : ((t : ℕ) → t < k → h.pivots t < n) → (i : ℕ) → i < r → dot mul n (rows i) (solution_of size mul field reduced n k h.pivots) ≡ rhs i
    joined_solves low i li =
        let x : ℕ → ℕ = solution_of size mul field reduced n k h.pivots in
        let s : IsSolution mul n joined r x = solution_span size mul field n reduced r joined r x c b (span_flip size mul field e) (reduced_solution size mul field n reduced r k c h low) in
        sum-same n (λ p. mul (rows i p) (x p)) (λ p. mul (joined i p) (x p)) (λ p lp. ap (λ y. mul y (x p)) (sym (left i li p lp))) ∙ s.solves i li ∙ right i li

    pub joined_free : (j : ℕ) → j < n → IsFree size mul rows r j → solution_of size mul field reduced n k h.pivots j ≡ 0
    joined_free j l f =
        let over : IsFree size mul joined r j = record {
          adds_nothing = rank_rows size mul field (suc j) joined rows r (λ i li q lq. left i li q (omega arith)) ∙ f.adds_nothing ∙ sym (rank_rows size mul field j joined rows r (λ i li q lq. left i li q (omega arith)));
        } in
        let free : IsFree size mul reduced r j = free_span size mul field (suc n) joined reduced r r j b c e (omega arith) over in
        solution_of-free size mul field n reduced k h.pivots j (λ t lt d. reduced_not_free size mul field (suc n) reduced r k t h lt (subst (λ (q : ℕ). IsFree size mul reduced r q) (sym d) free))

    -- values that are the last entries of the rows at the pivots, and 0 elsewhere
    module _ (x : ℕ → ℕ) (at_pivots : (t : ℕ) → t < k → x (h.pivots t) ≡ reduced t n) (elsewhere : (j : ℕ) → ((t : ℕ) → t < k → h.pivots t ≢ j) → x j ≡ 0) where
      values_solution : (j : ℕ) → x j ≡ solution_of size mul field reduced n k h.pivots j
      values_solution j = elim (cases_Bool (any_below k (λ t. eqb (h.pivots t) j))) [
        | inl y ↦
            let w : (t : ℕ) × (t < k) × (eqb (h.pivots t) j ≡ true) = any_below-yes k (λ t. eqb (h.pivots t) j) y in
            let d : h.pivots w.0 ≡ j = eqb-true (h.pivots w.0) j w.2 in
            subst (λ (q : ℕ). x q ≡ solution_of size mul field reduced n k h.pivots q) d (at_pivots w.0 w.1 ∙ sym (solution_of-pivot size mul field n reduced r k w.0 c h w.1))
        | inr y ↦
            let apart : (t : ℕ) → t < k → h.pivots t ≢ j = λ t m d. both_ways (any_below k (λ t. eqb (h.pivots t) j)) y (any_below-from k (λ t. eqb (h.pivots t) j) t m (eq-eqb (h.pivots t) j d)) in
            elsewhere j apart ∙ sym (solution_of-free size mul field n reduced k h.pivots j apart)
      ]

      pub values_solve : ((t : ℕ) → t < k → h.pivots t < n) → (i : ℕ) → i < r → dot mul n (rows i) x ≡ rhs i
      values_solve low i li =
          dot_entries mul n (rows i) x (rows i) (solution_of size mul field reduced n k h.pivots) (λ p lp. refl) (λ p lp. values_solution p) ∙ joined_solves low i li

      pub values_free : (j : ℕ) → j < n → IsFree size mul rows r j → x j ≡ 0
      values_free j l f = values_solution j ∙ joined_free j l f

      pub values_below : (j : ℕ) → x j < size
      values_below j = subst (λ (y : ℕ). y < size) (sym (values_solution j)) (sum_below size mul field k (λ t. mul (reduced t n) (unit (h.pivots t) j)) (λ t lt. field.mul_below (reduced t n) (unit (h.pivots t) j)))

-- a row of a reduced form: the first place at which it is not 0 is its pivot
pub lead_is_pivot : (n : ℕ) (rows : ℕ → ℕ → ℕ) (r k t lead : ℕ) (h : IsReduced n rows r k) → t < k → lead ≤ n → ((p : ℕ) → p < lead → rows t p ≡ 0) → (lead < n → rows t lead ≢ 0) → lead ≡ h.pivots t
lead_is_pivot n rows r k t lead h l within before found =
    let low : h.pivots t < n = h.in_range t l in
    let one : rows t (h.pivots t) ≡ 1 = h.columns t t l l ∙ put-same (λ i. 0) t 1 in
    elim (cases_order lead (h.pivots t)) [
      | inl e ↦ e
      | inr w ↦ elim w [
        | inl a ↦ absurd (found (omega arith) (h.before t lead l a))
        | inr a ↦ absurd (let z : rows t (h.pivots t) ≡ 0 = before (h.pivots t) a in omega arith)
      ]
    ]

-- a reduced form, where the number of its columns is written in another way
pub reduced_width : {n : ℕ} {rows : ℕ → ℕ → ℕ} {r k : ℕ} (m : ℕ) → n ≡ m → (h : IsReduced n rows r k) → (g : IsReduced m rows r k) × ((t : ℕ) → g.pivots t ≡ h.pivots t)
reduced_width m e h = (
  record {
    few = h.few;
    pivots = h.pivots;
    in_range = λ t l. let w : h.pivots t < _ = h.in_range t l in omega arith;
    rising = h.rising;
    before = h.before;
    columns = h.columns;
    zeros = λ i j a b u. h.zeros i j a b (omega arith);
  },
  λ t. refl,
)
