-- The sum of a function with one that is a combination of those before it is such a combination too
use Rattle.std.proofs.Common.{◌+◌, ◌≡◌, ◌≢◌, ℕ, zero, suc, ◌<◌, ◌≤◌, sym, ◌∙◌, ap, arith, bit_xor}
use Rattle.field_theory.specs.Field.{IsField}
use Rattle.linear_theory.specs.Linear.{combine, IsCombination}
use Rattle.field_theory.proofs.Sums.{zero-mul, xor_mul}
use Rattle.linear_theory.proofs.Spans.{xor_back, combination_zero, combination_same, combination_xor, combination_scale, combination_split, combination_row, combination_through}
use Rattle.linear_theory.proofs.Ranks.{combination_rest, combination_divide}
use Rattle.order_theory.specs.Domains.{IsOrdered}

module _ (size : ℕ) (mul : ℕ → ℕ → ℕ) (n count : ℕ) (field : IsField size mul) (ev sum lead' : ℕ → ℕ → ℕ) (o : IsOrdered size mul n count ev sum lead') where
  -- a combination of the functions before r, times function j
  times_function : (r s j : ℕ) (v : ℕ → ℕ) → ((u : ℕ) → u < r → IsCombination mul n ev s (λ p. mul (ev u p) (ev j p))) → IsCombination mul n ev r v → IsCombination mul n ev s (λ p. mul (v p) (ev j p))
  times_function zero s j v all h = combination_zero size mul field n ev s (λ p. mul (v p) (ev j p)) (λ p l. ap (λ (y : ℕ). mul y (ev j p)) (h.is_sum p l) ∙ zero-mul size mul field (ev j p))
  times_function (suc r) s j v all h =
      let parts : (x : ℕ) × (x < size) × IsCombination mul n ev r (λ p. bit_xor (v p) (mul x (ev r p))) = combination_split size mul field h in
      let front : IsCombination mul n ev s (λ p. mul (bit_xor (v p) (mul parts.0 (ev r p))) (ev j p)) = times_function r s j (λ p. bit_xor (v p) (mul parts.0 (ev r p))) (λ u l. all u (omega arith)) parts.2 in
      let last : IsCombination mul n ev s (λ p. mul parts.0 (mul (ev r p) (ev j p))) = combination_scale size mul field parts.0 (all r (omega arith)) in
      combination_same size mul field (λ p. mul (v p) (ev j p)) (combination_xor size mul field front last)
      (λ p l.
      ap (λ (y : ℕ). bit_xor (mul (bit_xor (v p) (mul parts.0 (ev r p))) (ev j p)) y) (sym (field.mul_assoc parts.0 (ev r p) (ev j p)))
      ∙ sym (xor_mul size mul field (bit_xor (v p) (mul parts.0 (ev r p))) (mul parts.0 (ev r p)) (ev j p))
      ∙ ap (λ (y : ℕ). mul y (ev j p)) (xor_back (v p) (mul parts.0 (ev r p))))

  -- the product of two functions is a combination of those up to their sum
  product_within : (u j s : ℕ) → u < count → j < count → sum u j < s → s ≤ count → IsCombination mul n ev s (λ p. mul (ev u p) (ev j p))
  product_within u j s lu lj l ls =
      let rest : IsCombination mul n ev (sum u j) (λ p. bit_xor (mul (ev u p) (ev j p)) (mul (lead' u j) (ev (sum u j) p))) = o.products u j lu lj (omega arith) in
      let wide : IsCombination mul n ev s (λ p. bit_xor (mul (ev u p) (ev j p)) (mul (lead' u j) (ev (sum u j) p))) =
      combination_through size mul field n ev (sum u j) ev s (λ p. bit_xor (mul (ev u p) (ev j p)) (mul (lead' u j) (ev (sum u j) p))) (λ q lq. combination_row size mul field n ev s o.symbols q (omega arith)) rest in
      let last : IsCombination mul n ev s (λ p. mul (lead' u j) (ev (sum u j) p)) = combination_scale size mul field (lead' u j) (combination_row size mul field n ev s o.symbols (sum u j) l) in
      combination_same size mul field (λ p. mul (ev u p) (ev j p)) (combination_xor size mul field wide last) (λ p q. xor_back (mul (ev u p) (ev j p)) (mul (lead' u j) (ev (sum u j) p)))

  pub old_sum : (i j : ℕ) → i < count → j < count → sum i j < count → IsCombination mul n ev i (ev i) → IsCombination mul n ev (sum i j) (ev (sum i j))
  old_sum i j li lj few old =
      let all : (u : ℕ) → u < i → IsCombination mul n ev (sum i j) (λ p. mul (ev u p) (ev j p)) =
      λ u lu. product_within u j (sum i j) (omega arith) lj (o.rise.rises i j u j li lj (omega arith) (omega arith) (omega arith) few) (omega arith) in
      let whole : IsCombination mul n ev (sum i j) (λ p. mul (ev i p) (ev j p)) = times_function i (sum i j) j (ev i) all old in
      let last : IsCombination mul n ev (sum i j) (λ p. mul (lead' i j) (ev (sum i j) p)) =
      combination_rest size mul field (λ p. mul (ev i p) (ev j p)) (λ p. mul (lead' i j) (ev (sum i j) p)) whole (o.products i j li lj few) in
      combination_divide size mul field (lead' i j) (ev (sum i j)) (o.lead_symbols i j) (o.lead_not_zero i j li lj few) (o.symbols (sum i j)) last
