-- Free columns, sums of products of columns and rows, inverses, and the chosen solution of equations
use Rattle.std.proofs.Common.{◌≡◌, ◌↔◌, ℕ, suc, ◌<◌, ◌≤◌, sym, ◌∙◌, refl, arith}
use Rattle.field_theory.specs.Field.{IsField}
use Rattle.field_theory.specs.Sums.{xor_sum, unit}
use Rattle.field_theory.proofs.Sums.{sum-same, sum_below, zero_below}
use Rattle.linear_theory.specs.Linear.{dot, combine, IsCombination, AreIndependent, rank, IsFree}
use Rattle.linear_theory.proofs.Ranks.{rank_same_iff, rank-le-rows, unit_below}
use Rattle.linear_theory.proofs.Exchange.{independent_iff_rank}
use Rattle.linear_theory.proofs.Bases.{rank-le-span}
use Rattle.linear_theory.proofs.Flips.{rank-flip, rank_full}
use Rattle.linear_theory.proofs.Duals.{full_spans}
use Rattle.linear_theory.proofs.Completion.{completion, completion_unique}

module _ (size : ℕ) (mul : ℕ → ℕ → ℕ) (field : IsField size mul) where
  pub free_column : (rows : ℕ → ℕ → ℕ) (r j : ℕ) → ((i q : ℕ) → rows i q < size) → IsFree size mul rows r j ↔ IsCombination mul r (λ q i. rows i q) j (λ i. rows i j)
  free_column rows r j b =
      let one : rank size mul r (λ q i. rows i q) (suc j) ≡ rank size mul (suc j) rows r = rank-flip size mul field (suc j) rows r b in
      let two : rank size mul r (λ q i. rows i q) j ≡ rank size mul j rows r = rank-flip size mul field j rows r b in
      let same : (rank size mul r (λ q i. rows i q) (suc j) ≡ rank size mul r (λ q i. rows i q) j) ↔ IsCombination mul r (λ q i. rows i q) j (λ i. rows i j) = rank_same_iff size mul field r (λ q i. rows i q) j in
      (λ h. same.0 (one ∙ h.adds_nothing ∙ sym two), λ h. record { adds_nothing = sym one ∙ same.1 h ∙ two })

  pub products_rank : (k n : ℕ) (columns rows : ℕ → ℕ → ℕ) (r : ℕ) → ((i j : ℕ) → rows i j < size) → rank size mul n (λ i j. xor_sum k (λ p. mul (columns p i) (rows p j))) r ≤ k
  products_rank k n columns rows r b =
      let few : rank size mul n (λ i j. xor_sum k (λ p. mul (columns p i) (rows p j))) r ≤ rank size mul n rows k =
      rank-le-span size mul field n (λ i j. xor_sum k (λ p. mul (columns p i) (rows p j))) r rows k (λ i j. sum_below size mul field k (λ p. mul (columns p i) (rows p j)) (λ p l. field.mul_below (columns p i) (rows p j))) b
      (λ i l. record { factors = λ p. columns p i; is_sum = λ j m. refl }) in
      let most : rank size mul n rows k ≤ k = rank-le-rows size mul field n rows k in
      omega arith

  pub left_inverse : (n : ℕ) (rows : ℕ → ℕ → ℕ) → ((i j : ℕ) → rows i j < size) → AreIndependent size mul n rows n ↔ ((left : ℕ → ℕ → ℕ) × ((k : ℕ) → k < n → (j : ℕ) → j < n → unit k j ≡ combine mul n (left k) rows j))
  left_inverse n rows b = (
    λ h. (λ k. (full_spans size mul field n rows (unit k) b (unit_below size mul field k) h).factors, λ k l j m. (full_spans size mul field n rows (unit k) b (unit_below size mul field k) h).is_sum j m),
    λ w. (independent_iff_rank size mul field n rows n b).1 (rank_full size mul field n rows n b (λ k l. record { factors = w.0 k; is_sum = w.1 k l })),
  )

  -- the products with the rows, as a combination of the columns
  by_columns : (n : ℕ) (rows : ℕ → ℕ → ℕ) (x : ℕ → ℕ) (i : ℕ) → dot mul n (rows i) x ≡ combine mul n x (λ q i. rows i q) i
  by_columns n rows x i = sum-same n (λ p. mul (rows i p) (x p)) (λ p. mul (x p) (rows i p)) (λ p l. field.mul_comm (rows i p) (x p))

  pub chosen_solution : (n : ℕ) (rows : ℕ → ℕ → ℕ) (r : ℕ) (rhs y : ℕ → ℕ) → ((i j : ℕ) → rows i j < size) → ((i : ℕ) → i < r → dot mul n (rows i) y ≡ rhs i)
      → (x : ℕ → ℕ) × ((j : ℕ) → j < n → x j < size) × ((i : ℕ) → i < r → dot mul n (rows i) x ≡ rhs i) × ((j : ℕ) → j < n → IsFree size mul rows r j → x j ≡ 0)
  chosen_solution n rows r rhs y b solves =
      let w : (c : ℕ → ℕ) × ((i : ℕ) → i < n → c i < size) × ((i : ℕ) → i < n → IsCombination mul r (λ q i. rows i q) i (λ j. rows j i) → c i ≡ 0) × ((j : ℕ) → j < r → combine mul n c (λ q i. rows i q) j ≡ rhs j) =
      completion size mul field r (λ q i. rows i q) n (λ j. 0) rhs (λ i. zero_below size mul field) (record { factors = y; is_sum = λ i l. sym (solves i l) ∙ by_columns n rows y i }) in
      (w.0, w.1, λ i l. by_columns n rows w.0 i ∙ w.3 i l, λ j l f. w.2 j l ((free_column rows r j b).0 f))

  pub chosen_solution_unique : (n : ℕ) (rows : ℕ → ℕ → ℕ) (r : ℕ) (rhs x y : ℕ → ℕ) → ((i j : ℕ) → rows i j < size) → ((j : ℕ) → j < n → x j < size) → ((j : ℕ) → j < n → y j < size)
      → ((i : ℕ) → i < r → dot mul n (rows i) x ≡ rhs i) → ((i : ℕ) → i < r → dot mul n (rows i) y ≡ rhs i)
      → ((j : ℕ) → j < n → IsFree size mul rows r j → x j ≡ 0) → ((j : ℕ) → j < n → IsFree size mul rows r j → y j ≡ 0) → (j : ℕ) → j < n → x j ≡ y j
  chosen_solution_unique n rows r rhs x y b sx sy hx hy fx fy =
      completion_unique size mul field r (λ q i. rows i q) n x y (λ q i. b i q) sx sy
      (λ i l k. let free : IsFree size mul rows r i = (free_column rows r i b).1 k in fx i l free ∙ sym (fy i l free))
      (λ j l. sym (by_columns n rows x j) ∙ hx j l ∙ sym (hy j l) ∙ by_columns n rows y j)
