-- Rows and columns have one rank; rows that span all have the greatest rank
use Rattle.std.proofs.Common.{◌≡◌, ℕ, ◌<◌, ◌≤◌, sym, ◌∙◌, ap, arith}
use Rattle.field_theory.specs.Field.{IsField}
use Rattle.field_theory.specs.Sums.{unit}
use Rattle.linear_theory.specs.Linear.{dot, combine, IsCombination, rank, IsDual}
use Rattle.field_theory.proofs.Sums.{sum-same, sum-zero, zero_below, mul-zero, one_mul-mul}
use Rattle.linear_theory.proofs.Ranks.{unit_below, rank-le-rows, rank-le-columns}
use Rattle.linear_theory.proofs.Exchange.{choose_vectors, rank_of_new, new_of_independent}
use Rattle.linear_theory.proofs.Bases.{IsBasis, basis, rank-le-span}
use Rattle.linear_theory.proofs.Duals.{dot_combine, independent_of_dual, unit_sum, unit-flip}

module _ (size : ℕ) (mul : ℕ → ℕ → ℕ) (field : IsField size mul) where
  -- the factors of a combination may be taken below size
  pub combination_symbols : {n : ℕ} {rows : ℕ → ℕ → ℕ} {r : ℕ} {v : ℕ → ℕ} → IsCombination mul n rows r v → (c : ℕ → ℕ) × ((i : ℕ) → c i < size) × ((j : ℕ) → j < n → v j ≡ combine mul r c rows j)
  combination_symbols {rows = rows} {r = r} h = (
    λ i. mul 1 (h.factors i),
    λ i. field.mul_below 1 (h.factors i),
    λ j l. h.is_sum j l ∙ sum-same r (λ i. mul (h.factors i) (rows i j)) (λ i. mul (mul 1 (h.factors i)) (rows i j)) (λ i m. sym (one_mul-mul size mul field (h.factors i) (rows i j))),
  )

  pub flip-le : (n : ℕ) (rows : ℕ → ℕ → ℕ) (r : ℕ) → ((i j : ℕ) → rows i j < size) → rank size mul r (λ j i. rows i j) n ≤ rank size mul n rows r
  flip-le n rows r b =
      let k : ℕ = rank size mul n rows r in
      let p : IsBasis mul n rows r k = basis size mul field n rows r b in
      let pick : (a : ℕ → ℕ → ℕ) × ((i t : ℕ) → a i t < size) × ((i : ℕ) → i < r → (j : ℕ) → j < n → rows i j ≡ combine mul k (a i) (λ t. rows (p.picks t)) j) =
      choose_vectors r (λ f. (t : ℕ) → f t < size) (λ i f. (j : ℕ) → j < n → rows i j ≡ combine mul k f (λ t. rows (p.picks t)) j) (λ t. zero_below size mul field)
      (λ i l. combination_symbols (p.spans i l)) in
      let up : rank size mul r (λ j i. rows i j) n ≤ rank size mul r (λ t i. pick.0 i t) k =
      rank-le-span size mul field r (λ j i. rows i j) n (λ t i. pick.0 i t) k (λ j i. b i j) (λ t i. pick.1 i t)
      (λ j lj. record {
        factors = λ t. rows (p.picks t) j;
        is_sum = λ i li. pick.2 i li j lj ∙ sum-same k (λ t. mul (pick.0 i t) (rows (p.picks t) j)) (λ t. mul (rows (p.picks t) j) (pick.0 i t)) (λ t m. field.mul_comm (pick.0 i t) (rows (p.picks t) j));
      }) in
      let few : rank size mul r (λ t i. pick.0 i t) k ≤ k = rank-le-rows size mul field r (λ t i. pick.0 i t) k in
      omega arith

  -- the rank of the columns is the rank of the rows
  pub rank-flip : (n : ℕ) (rows : ℕ → ℕ → ℕ) (r : ℕ) → ((i j : ℕ) → rows i j < size) → rank size mul r (λ j i. rows i j) n ≡ rank size mul n rows r
  rank-flip n rows r b = omega (arith, flip-le n rows r b, flip-le r (λ j i. rows i j) n (λ j i. b i j))

  -- the unit vectors are their own dual list
  pub units_dual : (n : ℕ) → IsDual mul n unit unit
  units_dual n = record { products = λ i j li lj. unit_sum size mul field n (unit j) i li ∙ field.one_mul (unit j i) (unit_below size mul field j i) ∙ unit-flip j i }

  -- rows that span the unit vectors have rank n
  pub rank_full : (n : ℕ) (rows : ℕ → ℕ → ℕ) (r : ℕ) → ((i j : ℕ) → rows i j < size) → ((k : ℕ) → k < n → IsCombination mul n rows r (unit k)) → rank size mul n rows r ≡ n
  rank_full n rows r b all =
      let low : rank size mul n unit n ≤ rank size mul n rows r = rank-le-span size mul field n unit n rows r (unit_below size mul field) b all in
      let e : rank size mul n unit n ≡ n =
      rank_of_new size mul field n unit n (new_of_independent size mul field n unit n (unit_below size mul field) (independent_of_dual size mul field n unit unit (units_dual n))) in
      let up : rank size mul n rows r ≤ n = rank-le-columns size mul field n rows r b in
      omega arith

  -- what is orthogonal to the rows is orthogonal to their combinations
  pub orthogonal_span : (n : ℕ) (rows : ℕ → ℕ → ℕ) (r : ℕ) (v x : ℕ → ℕ) → ((i : ℕ) → i < r → dot mul n (rows i) x ≡ 0) → IsCombination mul n rows r v → dot mul n v x ≡ 0
  orthogonal_span n rows r v x z h =
      dot_combine size mul field n rows r h.factors v x h.is_sum
      ∙ sum-zero r (λ i. mul (h.factors i) (dot mul n (rows i) x)) (λ i l. ap (λ y. mul (h.factors i) y) (z i l) ∙ mul-zero size mul field (h.factors i))
