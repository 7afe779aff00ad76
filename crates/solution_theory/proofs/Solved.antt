-- The solutions of equations, by their reduced form
use Rattle.std.proofs.lemmas.Bool.{cases_eq}
use Rattle.std.proofs.Common.{◌≡◌, ℕ, zero, suc, ◌<◌, ◌≤◌, sym, ◌∙◌, ap, subst, inl, inr, arith, bit_xor}
use Rattle.std.specs.Int.Bits.{xor_zero_r}
use Rattle.field_theory.specs.Field.{IsField}
use Rattle.field_theory.specs.Sums.{unit}
use Rattle.field_theory.proofs.Sums.{sum-same, sum_below, eq_or_below}
use Rattle.linear_theory.specs.Linear.{dot, SameSpan, IsReduced, IsSolution, IsFree}
use Rattle.linear_theory.proofs.Steps.{span_flip}
use Rattle.linear_theory.proofs.Functionals.{dot_xor}
use Rattle.linear_theory.proofs.Solving.{solution_span, solution_of, solution_of-pivot, reduced_solution, reduced_no_solution}
use Rattle.linear_theory.proofs.Free.{free_span, reduced_free, reduced_not_free}
use Rattle.solution_theory.specs.Solutions.{HasPivot, IsZeroSum, HasSolutionAt}
use Rattle.solution_theory.proofs.Homogeneous.{at_free, same_past_free}

-- ---- where each of the first e columns has a pivot, row j has that of column j
module _ (k : ℕ) (pivots : ℕ → ℕ) (rising : (t u : ℕ) → t < u → u < k → pivots t < pivots u) where
  high : (t : ℕ) → t < k → t ≤ pivots t
  high zero l = omega arith
  high (suc t) l = let a : t ≤ pivots t = high t (omega arith) in let c : pivots t < pivots (suc t) = rising t (suc t) (omega arith) l in omega arith

  all_before : (e : ℕ) → ((j : ℕ) → j < e → HasPivot pivots k j) → (j : ℕ) → j ≤ e → (u : ℕ) → u < j → (u < k) × (pivots u ≡ u)
  all_before e all zero a u l = absurd (omega arith)
  all_before e all (suc j) a u l = elim (eq_or_below u j l) [
    | inr m ↦ all_before e all j (omega arith) u m
    | inl d ↦ (let (s, ls, at) = all j (omega arith) in
        let up : s ≤ pivots s = high s ls in
        let is : s ≡ j = elim (cases_eq s j) [
          | inl f ↦ f
          | inr ne ↦ (let w : pivots s ≡ s = (all_before e all j (omega arith) s (omega arith)).1 in absurd (omega arith))
        ] in
        let us : u ≡ s = d ∙ sym is in
        (omega arith, ap pivots us ∙ at ∙ sym d))
  ]

  pub all_pivots : (e : ℕ) → ((j : ℕ) → j < e → HasPivot pivots k j) → (j : ℕ) → j < e → (j < k) × (pivots j ≡ j)
  all_pivots e all j l = all_before e all (suc j) l j (omega arith)

module _ (size : ℕ) (mul : ℕ → ℕ → ℕ) (field : IsField size mul) where
  -- a solution and one of the homogeneous equations
  pub solution_plus : (e r : ℕ) (rows : ℕ → ℕ → ℕ) (x u : ℕ → ℕ) → IsSolution mul e rows r x → IsZeroSum size mul e rows r u → IsSolution mul e rows r (λ p. bit_xor (x p) (u p))
  solution_plus e r rows x u s z = record {
    solves = λ i l.
        dot_xor size mul field e (rows i) x u
        ∙ ap (λ y. bit_xor y (dot mul e (rows i) u)) (s.solves i l)
        ∙ ap (λ y. bit_xor (rows i e) y) (z.zero i l)
        ∙ xor_zero_r (rows i e);
  }

  module _ (e r : ℕ) (rows others : ℕ → ℕ → ℕ) (rb : (i j : ℕ) → rows i j < size) (ob : (i j : ℕ) → others i j < size) (k : ℕ) (h : IsReduced (suc e) others r k)
      (span : SameSpan mul (suc e) rows r others r) where
    pub no_solution : HasPivot h.pivots k e → (x : ℕ → ℕ) → IsSolution mul e rows r x → ⊥
    no_solution (t, lt, at) x s = reduced_no_solution size mul field e others r k t x h lt at (solution_span size mul field e rows r others r x rb ob span s)

    pivot_not_free : (q : ℕ) → q < e → HasPivot h.pivots k q → IsFree size mul rows r q → ⊥
    pivot_not_free q l (t, lt, at) free =
        reduced_not_free size mul field (suc e) others r k t h lt
        (subst (λ (p : ℕ). IsFree size mul others r p) (sym at) (free_span size mul field (suc e) rows others r r q rb ob span (omega arith) free))

    -- past the last column without a pivot all solutions are the same
    pub same_past :
        (start : ℕ) → ((j : ℕ) → start ≤ j → j < e → HasPivot h.pivots k j) → (x z : ℕ → ℕ) → ((j : ℕ) → j < e → x j < size) → ((j : ℕ) → j < e → z j < size)
        → IsSolution mul e rows r x → IsSolution mul e rows r z → (q : ℕ) → start ≤ q → q < e → x q ≡ z q
    same_past start all x z bx bz sx sz q a l =
        same_past_free size mul field e rows r start x z rb (λ p c m free. pivot_not_free p m (all p c m) free) bx bz sx sz q a l

    abbrev pub chosen : ℕ → ℕ
    chosen = solution_of size mul field others e k h.pivots

    pub chosen_below : (j : ℕ) → chosen j < size
    chosen_below j = sum_below size mul field k (λ t. mul (others t e) (unit (h.pivots t) j)) (λ t l. field.mul_below (others t e) (unit (h.pivots t) j))

    -- with no pivot at the right sides there is a solution
    pub chosen_solves : (HasPivot h.pivots k e → ⊥) → IsSolution mul e rows r chosen
    chosen_solves none =
        solution_span size mul field e others r rows r chosen ob rb (span_flip size mul field span)
        (reduced_solution size mul field e others r k ob h
        (λ t l. (let w : h.pivots t < suc e = h.in_range t l in elim (cases_eq (h.pivots t) e) [ inl d ↦ absurd (none (t, l, d)) | inr d ↦ omega arith ])))

    -- with pivots at all columns before them, the right sides are it
    pub right_sides_solve : (HasPivot h.pivots k e → ⊥) → ((j : ℕ) → j < e → HasPivot h.pivots k j) → (x : ℕ → ℕ) → ((j : ℕ) → j < e → x j ≡ others j e) → IsSolution mul e rows r x
    right_sides_solve none all x is = record {
      solves = λ i l.
          sum-same e (λ p. mul (rows i p) (x p)) (λ p. mul (rows i p) (chosen p))
          (λ p lp. ap (λ y. mul (rows i p) y) (let w = all_pivots k h.pivots h.rising e all p lp in
          is p lp ∙ sym (solution_of-pivot size mul field e others r k p ob h w.0) ∙ ap chosen w.1))
          ∙ (chosen_solves none).solves i l;
    }

    -- at a column without a pivot there is another solution
    pub another : (column : ℕ) → column < e → (HasPivot h.pivots k column → ⊥) → HasSolutionAt size mul e rows r column
    another column l none =
        at_free size mul field e rows r column rb l
        (free_span size mul field (suc e) others rows r r column ob rb (span_flip size mul field span) (omega arith)
        (reduced_free size mul field (suc e) others r k column h (omega arith) (λ t lt at. none (t, lt, at))))
