-- The columns of rows that a reduced form spans: those without a pivot are combinations of the columns before them, and
-- give a vector that is orthogonal to all rows
use Rattle.std.proofs.lemmas.Bool.{cases_lt, cases_eq, cases_Bool, eqb-true, eq-eqb, both_ways}
use Rattle.std.proofs.Common.{◌≡◌, ◌≢◌, ◌⊎◌, ℕ, zero, suc, ◌+◌, ◌-◌, ◌<◌, ◌≤◌, true, eqb, sym, ◌∙◌, ap, subst, inl, inr, arith, bit_xor}
use Rattle.std.specs.Int.Bits.{xor_zero_r}
use Rattle.field_theory.specs.Field.{IsField}
use Rattle.field_theory.specs.Sums.{xor_sum, any_below, put}
use Rattle.field_theory.proofs.Sums.{sum-same, mul-zero}
use Rattle.linear_theory.specs.Linear.{dot, IsCombination, SameSpan, IsReduced, IsSolution}
use Rattle.linear_theory.proofs.Spans.{put-same, put-other, any_below-yes, any_below-from}
use Rattle.linear_theory.proofs.Steps.{span_flip}
use Rattle.linear_theory.proofs.Duals.{dot_comm}
use Rattle.linear_theory.proofs.Entries.{span_within}
use Rattle.linear_theory.proofs.Solving.{solution-orthogonal, solution_span, solution_of, solution_of-pivot, solution_of-free, reduced_solution, reduced_no_solution}
use Rattle.linear_theory.proofs.Free.{IsFront, front_of, reduced_front, pivots-reduced_front}

-- a sum does not see the terms that are 0
sum-shorter : (m d : ℕ) (f : ℕ → ℕ) → ((q : ℕ) → m ≤ q → q < m + d → f q ≡ 0) → xor_sum (m + d) f ≡ xor_sum m f
sum-shorter m zero f h = ap (λ (k : ℕ). xor_sum k f) (let e : m + 0 ≡ m = omega arith in e)
sum-shorter m (suc d) f h =
    let e : m + suc d ≡ suc (m + d) = omega arith in
    ap (λ (k : ℕ). xor_sum k f) e
    ∙ ap (λ (y : ℕ). bit_xor (xor_sum (m + d) f) y) (h (m + d) (omega arith) (omega arith))
    ∙ xor_zero_r (xor_sum (m + d) f)
    ∙ sum-shorter m d f (λ q a b. h q a (omega arith))

-- whether a column has a pivot
abbrev pub PivotCases : (ℕ → ℕ) → ℕ → ℕ → Type 0
PivotCases pivots k q = ((t : ℕ) × (t < k) × (pivots t ≡ q)) ⊎ ((t : ℕ) → t < k → pivots t ≢ q)

pub cases_pivot : (pivots : ℕ → ℕ) (k q : ℕ) → PivotCases pivots k q
cases_pivot pivots k q = elim (cases_Bool (any_below k (λ t. eqb (pivots t) q))) [
  | inl e ↦
      let w : (t : ℕ) × (t < k) × (eqb (pivots t) q ≡ true) = any_below-yes k (λ t. eqb (pivots t) q) e in
      inl (w.0, w.1, eqb-true (pivots w.0) q w.2)
  | inr e ↦ inr (λ t l d. both_ways (any_below k (λ t. eqb (pivots t) q)) e (any_below-from k (λ t. eqb (pivots t) q) t l (eq-eqb (pivots t) q d)))
]

module _ (size : ℕ) (mul : ℕ → ℕ → ℕ) (field : IsField size mul) where
  -- a solution says how a column is made of those before it, and the other way round
  column_of_solution : (n : ℕ) (rows : ℕ → ℕ → ℕ) (r : ℕ) (x : ℕ → ℕ) → IsSolution mul n rows r x → IsCombination mul r (λ q i. rows i q) n (λ i. rows i n)
  column_of_solution n rows r x h = record { factors = x; is_sum = λ i l. sym (h.solves i l) ∙ dot_comm size mul field n (rows i) x }

  solution_of_column : (n : ℕ) (rows : ℕ → ℕ → ℕ) (r : ℕ) (h : IsCombination mul r (λ q i. rows i q) n (λ i. rows i n)) → IsSolution mul n rows r h.factors
  solution_of_column n rows r h = record { solves = λ i l. dot_comm size mul field n (rows i) h.factors ∙ sym (h.is_sum i l) }

  module _ (n : ℕ) (rows : ℕ → ℕ → ℕ) (r : ℕ) (others : ℕ → ℕ → ℕ) (s k : ℕ) (below : (i j : ℕ) → rows i j < size) (others_below : (i j : ℕ) → others i j < size)
      (h : IsReduced n others s k) (span : SameSpan mul n rows r others s) where
    -- the first j + 1 columns are reduced, and where j has no pivot their pivots are below j
    front_at : (j : ℕ) → j < n → (m : ℕ) × IsFront h.pivots k (suc j) m × (g : IsReduced (suc j) others s m) × ((t : ℕ) → g.pivots t ≡ h.pivots t)
    front_at j l =
        let f : (m : ℕ) × IsFront h.pivots k (suc j) m = front_of h.pivots k (suc j) h.rising in
        (f.0, f.1, reduced_front h (suc j) f.0 l f.1, pivots-reduced_front h (suc j) f.0 l f.1)

    low_pivots :
        (j m : ℕ) → IsFront h.pivots k (suc j) m → (g : IsReduced (suc j) others s m) → ((t : ℕ) → g.pivots t ≡ h.pivots t)
        → ((t : ℕ) → t < k → h.pivots t ≢ j) → (t : ℕ) → t < m → g.pivots t < j
    low_pivots j m f g e apart t l =
        let few : m ≤ k = f.few in
        let u : h.pivots t < suc j = f.below t l in
        let d : h.pivots t ≢ j = apart t (omega arith) in
        let same : g.pivots t ≡ h.pivots t = e t in
        omega arith

    solution_at :
        (j m : ℕ) → j < n → IsFront h.pivots k (suc j) m → (g : IsReduced (suc j) others s m) → ((t : ℕ) → g.pivots t ≡ h.pivots t)
        → ((t : ℕ) → t < k → h.pivots t ≢ j) → IsSolution mul j rows r (solution_of size mul field others j m g.pivots)
    solution_at j m l f g e apart =
        solution_span size mul field j others s rows r (solution_of size mul field others j m g.pivots) others_below below (span_within (suc j) l (span_flip size mul field span))
        (reduced_solution size mul field j others s m others_below g (low_pivots j m f g e apart))

    pub free_column : (j : ℕ) → j < n → ((t : ℕ) → t < k → h.pivots t ≢ j) → IsCombination mul r (λ q i. rows i q) j (λ i. rows i j)
    free_column j l apart =
        let (m, f, g, e) = front_at j l in
        column_of_solution j rows r (solution_of size mul field others j m g.pivots) (solution_at j m l f g e apart)

    pub pivot_column : (t : ℕ) → t < k → IsCombination mul r (λ q i. rows i q) (h.pivots t) (λ i. rows i (h.pivots t)) → ⊥
    pivot_column t l c =
        let low : h.pivots t < n = h.in_range t l in
        let (m, f, g, e) = front_at (h.pivots t) low in
        let within : t < m = elim (cases_lt t m) [ inl a ↦ a | inr a ↦ (let u : suc (h.pivots t) ≤ h.pivots t = f.past t a l in absurd (omega arith)) ] in
        reduced_no_solution size mul field (h.pivots t) others s m t c.factors g within (e t)
        (solution_span size mul field (h.pivots t) rows r others s c.factors below others_below (span_within (suc (h.pivots t)) low span) (solution_of_column (h.pivots t) rows r c))

    -- the vector with a 1 at a column without a pivot, at the pivots the entries of their rows in that column, and else 0
    module _ (j : ℕ) (u : ℕ → ℕ) (l : j < n) (apart : (t : ℕ) → t < k → h.pivots t ≢ j) (one : u j ≡ 1) (at_pivots : (t : ℕ) → t < k → u (h.pivots t) ≡ others t j)
        (elsewhere : (q : ℕ) → q < n → q ≢ j → ((t : ℕ) → t < k → h.pivots t ≢ q) → u q ≡ 0) where
      after_place : (q : ℕ) → j < q → q < n → u q ≡ 0
      after_place q a b = elim (cases_pivot h.pivots k q) [
        | inl w ↦ ap u (sym w.2) ∙ at_pivots w.0 w.1 ∙ h.before w.0 j w.1 (subst (λ (v : ℕ). j < v) (sym w.2) a)
        | inr d ↦ elsewhere q b (omega arith) d
      ]

      before_place :
          (m : ℕ) → IsFront h.pivots k (suc j) m → (g : IsReduced (suc j) others s m) → ((t : ℕ) → g.pivots t ≡ h.pivots t)
          → (p : ℕ) → p < j → u p ≡ solution_of size mul field others j m g.pivots p
      before_place m f g e p lp = elim (cases_pivot h.pivots k p) [
        | inl w ↦
            let at : h.pivots w.0 ≡ p = w.2 in
            let within : w.0 < m = elim (cases_lt w.0 m) [ inl a ↦ a | inr a ↦ (let v : suc j ≤ h.pivots w.0 = f.past w.0 a w.1 in absurd (omega arith)) ] in
            ap u (sym w.2) ∙ at_pivots w.0 w.1 ∙ sym (solution_of-pivot size mul field j others s m w.0 others_below g within)
            ∙ ap (solution_of size mul field others j m g.pivots) (e w.0 ∙ w.2)
        | inr d ↦
            let few : m ≤ k = f.few in
            elsewhere p (omega arith) (omega arith) d
            ∙ sym (solution_of-free size mul field j others m g.pivots p (λ t lt q. d t (omega arith) (sym (e t) ∙ q)))
      ]

      up_to_place :
          (m : ℕ) → IsFront h.pivots k (suc j) m → (g : IsReduced (suc j) others s m) → ((t : ℕ) → g.pivots t ≡ h.pivots t)
          → (p : ℕ) → p < suc j → u p ≡ put (solution_of size mul field others j m g.pivots) j 1 p
      up_to_place m f g e p lp = elim (cases_eq p j) [
        | inl d ↦ ap u d ∙ one ∙ sym (put-same (solution_of size mul field others j m g.pivots) j 1) ∙ ap (put (solution_of size mul field others j m g.pivots) j 1) (sym d)
        | inr d ↦ before_place m f g e p (omega arith) ∙ sym (put-other (solution_of size mul field others j m g.pivots) j 1 p d)
      ]

      pub free_vector : (i : ℕ) → i < r → dot mul n (rows i) u ≡ 0
      free_vector i li =
          let (m, f, g, e) = front_at j l in
          let x : ℕ → ℕ = solution_of size mul field others j m g.pivots in
          ap (λ (v : ℕ). dot mul v (rows i) u) (let w : n ≡ suc j + (n - suc j) = omega arith in w)
          ∙ sum-shorter (suc j) (n - suc j) (λ p. mul (rows i p) (u p)) (λ q a b. ap (λ y. mul (rows i q) y) (after_place q (omega arith) (omega arith)) ∙ mul-zero size mul field (rows i q))
          ∙ sum-same (suc j) (λ p. mul (rows i p) (u p)) (λ p. mul (rows i p) (put x j 1 p)) (λ p lp. ap (λ y. mul (rows i p) y) (up_to_place m f g e p lp))
          ∙ (solution-orthogonal size mul field j rows r x below).0 (solution_at j m l f g e apart) i li
