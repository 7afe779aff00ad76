-- The factors at the rows that are combinations of the earlier ones may be chosen; the others follow from them
use Rattle.std.proofs.lemmas.Bool.{cases_eq, cond-true, cond-false, cases_Bool, both_ways}
use Rattle.std.proofs.Common.{◌≡◌, ℕ, zero, suc, ◌+◌, ◌-◌, ◌<◌, sym, ◌∙◌, ap, subst, refl, inl, inr, arith, bit_xor}
use Rattle.std.specs.Int.Bits.{xor_assoc, xor_self, xor_zero_r}
use Rattle.std.proofs.lemmas.Nat.{xor_comm}
use Rattle.field_theory.specs.Field.{IsField}
use Rattle.field_theory.specs.Sums.{xor_sum, put, count_below}
use Rattle.linear_theory.specs.Linear.{combine, IsCombination, rank, in_span}
use Rattle.field_theory.proofs.Sums.{xor_same, xor_mid, xor_mul, sum-same, eq_or_below, xor_below}
use Rattle.linear_theory.proofs.Spans.{put-same, put-other, xor_back, combination_same, combination_xor, combination_scale, combination_split, in_span-from, in_span-yes, cases_span}
use Rattle.linear_theory.proofs.Ranks.{combination_divide, combination_front, rank_zero, rank_same, rank_more}
use Rattle.linear_theory.proofs.Exchange.{combine_put, put_below}
use Rattle.linear_theory.proofs.Steps.{span_after_moves, span_rank}

pub sum-front : (n : ℕ) (g : ℕ → ℕ) → xor_sum (suc n) g ≡ bit_xor (g 0) (xor_sum n (λ i. g (suc i)))
sum-front zero g = sym (xor_zero_r (g 0))
sum-front (suc n) g =
    ap (λ y. bit_xor y (g (suc n))) (sum-front n g) ∙ xor_assoc (g 0) (xor_sum n (λ i. g (suc i))) (g (suc n))

-- a sum in the other direction
pub sum-reverse : (n : ℕ) (g : ℕ → ℕ) → xor_sum n (λ p. g (n - 1 - p)) ≡ xor_sum n g
sum-reverse zero g = refl
sum-reverse (suc n) g =
    sum-front n (λ p. g (suc n - 1 - p))
    ∙ ap (λ y. bit_xor (g (suc n - 1 - 0)) y) (sum-same n (λ p. g (suc n - 1 - suc p)) (λ p. g (n - 1 - p)) (λ p l. ap g (omega arith)) ∙ sum-reverse n g)
    ∙ ap (λ y. bit_xor (g y) (xor_sum n g)) (omega arith) ∙ xor_comm (g n) (xor_sum n g)

-- of two equal sums, the sum of the first parts is the sum of the second parts
xor_cross : (a b c d : ℕ) → bit_xor a b ≡ bit_xor c d → bit_xor a c ≡ bit_xor b d
xor_cross a b c d e = xor_same (bit_xor a c) (bit_xor b d) (xor_mid a c b d ∙ ap (λ y. bit_xor y (bit_xor c d)) e ∙ xor_self (bit_xor c d))

module _ (size : ℕ) (mul : ℕ → ℕ → ℕ) (field : IsField size mul) where
  -- each w in the span is a combination whose factors are x at those rows
  pub completion : (h : ℕ) (rows : ℕ → ℕ → ℕ) (n : ℕ) (x w : ℕ → ℕ) → ((i : ℕ) → x i < size) → IsCombination mul h rows n w
      → (c : ℕ → ℕ) × ((i : ℕ) → i < n → c i < size) × ((i : ℕ) → i < n → IsCombination mul h rows i (rows i) → c i ≡ x i) × ((j : ℕ) → j < h → combine mul n c rows j ≡ w j)
  completion h rows zero x w b g = (λ i. 0, λ i l. absurd (omega arith), λ i l k. absurd (omega arith), λ j l. sym (g.is_sum j l))
  completion h rows (suc n) x w b g = elim (cases_span size mul field h rows n (rows n)) [
    | inl old ↦
        let p : (a : ℕ) × (a < size) × IsCombination mul h rows n (λ j. bit_xor (w j) (mul a (rows n j))) = combination_split size mul field g in
        let lower : IsCombination mul h rows n w = combination_front size mul field w (λ j. mul p.0 (rows n j)) (combination_scale size mul field p.0 old) p.2 in
        completion_with h rows n x w (x n) (b n) (λ k. refl)
        (completion h rows n x (λ j. bit_xor (w j) (mul (x n) (rows n j))) b (combination_xor size mul field lower (combination_scale size mul field (x n) old)))
    | inr new ↦
        let p : (a : ℕ) × (a < size) × IsCombination mul h rows n (λ j. bit_xor (w j) (mul a (rows n j))) = combination_split size mul field g in
        completion_with h rows n x w p.0 p.1 (λ k. absurd (new k)) (completion h rows n x (λ j. bit_xor (w j) (mul p.0 (rows n j))) b p.2)
  ]
    where
      completion_with : (h : ℕ) (rows : ℕ → ℕ → ℕ) (n : ℕ) (x w : ℕ → ℕ) (a : ℕ) → a < size → (IsCombination mul h rows n (rows n) → a ≡ x n)
          → (c : ℕ → ℕ) × ((i : ℕ) → i < n → c i < size) × ((i : ℕ) → i < n → IsCombination mul h rows i (rows i) → c i ≡ x i) × ((j : ℕ) → j < h → combine mul n c rows j ≡ bit_xor (w j) (mul a (rows n j)))
          → (c : ℕ → ℕ) × ((i : ℕ) → i < suc n → c i < size) × ((i : ℕ) → i < suc n → IsCombination mul h rows i (rows i) → c i ≡ x i) × ((j : ℕ) → j < h → combine mul (suc n) c rows j ≡ w j)
      completion_with h rows n x w a la at t = (
        put t.0 n a,
        put_below size mul field n t.0 a la t.1,
        λ i l k. elim (eq_or_below i n l) [
          | inl e ↦ subst (λ (q : ℕ). put t.0 n a q ≡ x q) (sym e) (put-same t.0 n a ∙ at (subst (λ (q : ℕ). IsCombination mul h rows q (rows q)) e k))
          | inr m ↦ put-other t.0 n a i (omega arith) ∙ t.2 i m k
        ],
        λ j l. combine_put size mul field rows n t.0 a j ∙ ap (λ y. bit_xor y (mul a (rows n j))) (t.3 j l) ∙ xor_back (w j) (mul a (rows n j)),
      )

  -- and only one
  pub completion_unique : (h : ℕ) (rows : ℕ → ℕ → ℕ) (n : ℕ) (c d : ℕ → ℕ) → ((i j : ℕ) → rows i j < size) → ((i : ℕ) → i < n → c i < size) → ((i : ℕ) → i < n → d i < size)
      → ((i : ℕ) → i < n → IsCombination mul h rows i (rows i) → c i ≡ d i) → ((j : ℕ) → j < h → combine mul n c rows j ≡ combine mul n d rows j) → (i : ℕ) → i < n → c i ≡ d i
  completion_unique h rows zero c d b sc sd old e i l = absurd (omega arith)
  completion_unique h rows (suc n) c d b sc sd old e i l =
      let last : c n ≡ d n = elim (cases_span size mul field h rows n (rows n)) [
        | inl k ↦ old n (omega arith) k
        | inr new ↦ elim (cases_eq (bit_xor (c n) (d n)) 0) [
          | inl z ↦ xor_same (c n) (d n) z
          | inr ne ↦ absurd (new (combination_divide size mul field (bit_xor (c n) (d n)) (rows n) (xor_below size mul field (c n) (d n) (sc n (omega arith)) (sd n (omega arith))) ne (b n)
              (completion_gap h rows n c d e)))
        ]
      ] in
      let lower : (j : ℕ) → j < h → combine mul n c rows j ≡ combine mul n d rows j = λ j m.
      sym (xor_back (combine mul n c rows j) (mul (c n) (rows n j))) ∙ ap (λ y. bit_xor y (mul (c n) (rows n j))) (e j m)
      ∙ ap (λ y. bit_xor (bit_xor (combine mul n d rows j) (mul (d n) (rows n j))) (mul y (rows n j))) last ∙ xor_back (combine mul n d rows j) (mul (d n) (rows n j)) in
      elim (eq_or_below i n l) [
        | inl f ↦ ap c f ∙ last ∙ ap d (sym f)
        | inr m ↦ completion_unique h rows n c d b (λ q u. sc q (omega arith)) (λ q u. sd q (omega arith)) (λ q u k. old q (omega arith) k) lower i m
      ]
    where
      completion_gap : (h : ℕ) (rows : ℕ → ℕ → ℕ) (n : ℕ) (c d : ℕ → ℕ) → ((j : ℕ) → j < h → combine mul (suc n) c rows j ≡ combine mul (suc n) d rows j) → IsCombination mul h rows n (λ j. mul (bit_xor (c n) (d n)) (rows n j))
      completion_gap h rows n c d e =
          let one : IsCombination mul h rows n (λ j. combine mul n c rows j) = record { factors = c; is_sum = λ j m. refl } in
          let two : IsCombination mul h rows n (λ j. combine mul n d rows j) = record { factors = d; is_sum = λ j m. refl } in
          combination_same size mul field (λ j. mul (bit_xor (c n) (d n)) (rows n j)) (combination_xor size mul field one two)
          (λ j m. xor_cross (combine mul n c rows j) (mul (c n) (rows n j)) (combine mul n d rows j) (mul (d n) (rows n j)) (e j m) ∙ sym (xor_mul size mul field (c n) (d n) (rows n j)))

  -- as many rows are combinations of the earlier ones as the rank leaves
  pub rank-count : (h : ℕ) (rows : ℕ → ℕ → ℕ) (n : ℕ) → rank size mul h rows n + count_below n (λ i. in_span size mul h rows i (rows i)) ≡ n
  rank-count h rows zero = ap (λ (y : ℕ). y + 0) (rank_zero size mul field h rows)
  rank-count h rows (suc n) =
      let ih : rank size mul h rows n + count_below n (λ i. in_span size mul h rows i (rows i)) ≡ n = rank-count h rows n in
      elim (cases_Bool (in_span size mul h rows n (rows n))) [
        | inl e ↦
            let r : rank size mul h rows (suc n) ≡ rank size mul h rows n = rank_same size mul field h rows n (in_span-yes size mul field h rows n (rows n) e) in
            subst (λ (y : ℕ). rank size mul h rows (suc n) + (count_below n (λ i. in_span size mul h rows i (rows i)) + y) ≡ suc n) (sym (cond-true (in_span size mul h rows n (rows n)) 1 0 e)) (omega arith)
        | inr e ↦
            let r : rank size mul h rows (suc n) ≡ rank size mul h rows n + 1 =
            rank_more size mul field h rows n (λ k. both_ways (in_span size mul h rows n (rows n)) e (in_span-from size mul field h rows n (rows n) k)) in
            subst (λ (y : ℕ). rank size mul h rows (suc n) + (count_below n (λ i. in_span size mul h rows i (rows i)) + y) ≡ suc n) (sym (cond-false (in_span size mul h rows n (rows n)) 1 0 e)) (omega arith)
      ]

  -- rows in the other direction have the same rank
  pub rank-reverse : (h : ℕ) (rows : ℕ → ℕ → ℕ) (n : ℕ) → ((i j : ℕ) → rows i j < size) → rank size mul h (λ q. rows (n - 1 - q)) n ≡ rank size mul h rows n
  rank-reverse h rows n b =
      span_rank size mul field (λ i j. b (n - 1 - i) j) b
      (span_after_moves size mul field h (λ q. rows (n - 1 - q)) rows n (λ i j. b (n - 1 - i) j) b
      (λ q l. (n - 1 - q, omega arith, λ j m. ap (λ i. rows i j) (omega arith)))
      (λ q l. (n - 1 - q, omega arith, λ j m. refl)))
