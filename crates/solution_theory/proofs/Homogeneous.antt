-- Free columns, and the solutions of homogeneous equations
use Rattle.std.proofs.lemmas.Bool.{cases_lt, cases_eq, cond-true, cond-false, false_from_ne_true, lt-ltb, ltb-true}
use Rattle.std.proofs.Common.{◌≡◌, ◌≢◌, ℕ, zero, suc, ◌+◌, ◌-◌, ◌<◌, ◌≤◌, cond, nat_lt, sym, ◌∙◌, ap, subst, inl, inr, arith, bit_xor}
use Rattle.std.specs.Int.Bits.{xor_self, xor_zero_r}
use Rattle.field_theory.specs.Field.{IsField}
use Rattle.field_theory.specs.Sums.{xor_sum, put}
use Rattle.field_theory.proofs.Sums.{sum-same, mul-zero, xor_same, xor_below, zero_below}
use Rattle.linear_theory.specs.Linear.{dot, IsCombination, IsFree, IsSolution}
use Rattle.linear_theory.proofs.Spans.{put-same, put-other}
use Rattle.linear_theory.proofs.Ranks.{combination_divide}
use Rattle.linear_theory.proofs.Duals.{dot_comm}
use Rattle.linear_theory.proofs.Functionals.{dot_xor}
use Rattle.linear_theory.proofs.Solving.{augmented}
use Rattle.linear_theory.proofs.Columns.{free_column, chosen_solution}
use Rattle.solution_theory.specs.Solutions.{IsZeroSum, HasSolutionAt}

-- a sum does not see the terms that are 0
sum-shorter : (m d : ℕ) (f : ℕ → ℕ) → ((q : ℕ) → m ≤ q → q < m + d → f q ≡ 0) → xor_sum (m + d) f ≡ xor_sum m f
sum-shorter m zero f h = ap (λ (k : ℕ). xor_sum k f) (let e : m + 0 ≡ m = omega arith in e)
sum-shorter m (suc d) f h =
    let e : m + suc d ≡ suc (m + d) = omega arith in
    ap (λ (k : ℕ). xor_sum k f) e
    ∙ ap (λ (y : ℕ). bit_xor (xor_sum (m + d) f) y) (h (m + d) (omega arith) (omega arith))
    ∙ xor_zero_r (xor_sum (m + d) f)
    ∙ sum-shorter m d f (λ q a b. h q a (omega arith))

module _ (size : ℕ) (mul : ℕ → ℕ → ℕ) (field : IsField size mul) where
  -- a product does not see the places from m on at which x is 0
  pub dot-shorter : (m n : ℕ) (row x : ℕ → ℕ) → m ≤ n → ((q : ℕ) → m ≤ q → q < n → x q ≡ 0) → dot mul n row x ≡ dot mul m row x
  dot-shorter m n row x l z =
      ap (λ (v : ℕ). dot mul v row x) (let w : n ≡ m + (n - m) = omega arith in w)
      ∙ sum-shorter m (n - m) (λ p. mul (row p) (x p)) (λ q a b. ap (λ y. mul (row q) y) (z q a (omega arith)) ∙ mul-zero size mul field (row q))

  -- the first j symbols of x
  front : (ℕ → ℕ) → ℕ → ℕ → ℕ
  front x j q = cond (nat_lt q j) (x q) 0

  front_low : (x : ℕ → ℕ) (j q : ℕ) → q < j → front x j q ≡ x q
  unfolding front
  front_low x j q l = cond-true (nat_lt q j) (x q) 0 (lt-ltb q j l)

  front_high : (x : ℕ → ℕ) (j q : ℕ) → j ≤ q → front x j q ≡ 0
  unfolding front
  front_high x j q l = cond-false (nat_lt q j) (x q) 0 (false_from_ne_true (nat_lt q j) (λ e. let w : q < j = ltb-true q j e in absurd (omega arith)))

  pub at_free : (n : ℕ) (rows : ℕ → ℕ → ℕ) (r j : ℕ) → ((i q : ℕ) → rows i q < size) → j < n → IsFree size mul rows r j → HasSolutionAt size mul n rows r j
  at_free n rows r j b l free =
      let comb : IsCombination mul r (λ q i. rows i q) j (λ i. rows i j) = (free_column size mul field rows r j b).0 free in
      let w : (x : ℕ → ℕ) × ((q : ℕ) → q < j → x q < size) × ((i : ℕ) → i < r → dot mul j (rows i) x ≡ rows i j) × ((q : ℕ) → q < j → IsFree size mul rows r q → x q ≡ 0) =
      chosen_solution size mul field j rows r (λ i. rows i j) comb.factors b (λ i li. dot_comm size mul field j (rows i) comb.factors ∙ sym (comb.is_sum i li)) in
      let u : ℕ → ℕ = put (front w.0 j) j 1 in
      record {
        solution = u;
        solves = record {
          symbols = λ q lq. elim (cases_eq q j) [
            | inl e ↦ subst (λ (y : ℕ). y < size) (sym (ap (put (front w.0 j) j 1) e ∙ put-same (front w.0 j) j 1)) field.one_below
            | inr d ↦ subst (λ (y : ℕ). y < size) (sym (put-other (front w.0 j) j 1 q d)) (elim (cases_lt q j) [
              | inl a ↦ subst (λ (y : ℕ). y < size) (sym (front_low w.0 j q a)) (w.1 q a)
              | inr a ↦ subst (λ (y : ℕ). y < size) (sym (front_high w.0 j q a)) (zero_below size mul field)
            ])
          ];
          zero = λ i li.
              dot-shorter (suc j) n (rows i) u l (λ q a m. put-other (front w.0 j) j 1 q (omega arith) ∙ front_high w.0 j q (omega arith))
              ∙ augmented size mul field j (rows i) (front w.0 j) (b i j)
              ∙ ap (λ y. bit_xor y (rows i j)) (sum-same j (λ p. mul (rows i p) (front w.0 j p)) (λ p. mul (rows i p) (w.0 p)) (λ p a. ap (λ y. mul (rows i p) y) (front_low w.0 j p a)) ∙ w.2 i li)
              ∙ xor_self (rows i j);
        };
        one = put-same (front w.0 j) j 1;
        zero_after = λ q a m. put-other (front w.0 j) j 1 q (omega arith) ∙ front_high w.0 j q (omega arith);
      }

  module _ (n : ℕ) (rows : ℕ → ℕ → ℕ) (r j : ℕ) (x : ℕ → ℕ) (b : (i q : ℕ) → rows i q < size) (none : (q : ℕ) → j ≤ q → q < n → IsFree size mul rows r q → ⊥)
      (z : IsZeroSum size mul n rows r x) where
    -- a column at which x is not 0, with 0 behind it, is free
    last_column : (q : ℕ) → q < n → ((p : ℕ) → q < p → p < n → x p ≡ 0) → x q ≢ 0 → IsFree size mul rows r q
    last_column q l later d =
        (free_column size mul field rows r q b).1 (combination_divide size mul field (x q) (λ i. rows i q) (z.symbols q l) d (λ i. b i q)
        (record {
          factors = x;
          is_sum = λ i li.
              field.mul_comm (x q) (rows i q)
              ∙ sym (xor_same (dot mul q (rows i) x) (mul (rows i q) (x q)) (sym (dot-shorter (suc q) n (rows i) x l (λ p a m. later p a m)) ∙ z.zero i li))
              ∙ dot_comm size mul field q (rows i) x;
        }))

    from_end : (d q : ℕ) → j ≤ q → q < n → n ≤ q + d → x q ≡ 0
    from_end zero q a l m = absurd (omega arith)
    from_end (suc d) q a l m = elim (cases_eq (x q) 0) [
      | inl e ↦ e
      | inr ne ↦ absurd (none q a l (last_column q l (λ p lp lt. from_end d p (omega arith) lt (omega arith)) ne))
    ]

    pub past_free : (q : ℕ) → j ≤ q → q < n → x q ≡ 0
    past_free q a l = from_end n q a l (omega arith)

  pub same_past_free :
      (n : ℕ) (rows : ℕ → ℕ → ℕ) (r start : ℕ) (x z : ℕ → ℕ) → ((i q : ℕ) → rows i q < size) → ((q : ℕ) → start ≤ q → q < n → IsFree size mul rows r q → ⊥)
      → ((q : ℕ) → q < n → x q < size) → ((q : ℕ) → q < n → z q < size) → IsSolution mul n rows r x → IsSolution mul n rows r z → (q : ℕ) → start ≤ q → q < n → x q ≡ z q
  same_past_free n rows r start x z b none bx bz sx sz q a l =
      let sum : IsZeroSum size mul n rows r (λ p. bit_xor (x p) (z p)) = record {
        symbols = λ p lp. xor_below size mul field (x p) (z p) (bx p lp) (bz p lp);
        zero = λ i li.
            dot_xor size mul field n (rows i) x z
            ∙ ap (λ y. bit_xor y (dot mul n (rows i) z)) (sx.solves i li)
            ∙ ap (λ y. bit_xor (rows i n) y) (sz.solves i li)
            ∙ xor_self (rows i n);
      } in
      xor_same (x q) (z q) (past_free n rows r start (λ p. bit_xor (x p) (z p)) b none sum q a l)
