-- AreSymbols          every entry is an element of the field
-- ExchangeLaw         independent lists are no more than lists that span them, nor than their places
-- RowOperationsLaw    what is done to rows and keeps their combinations; and that this keeps the rank
-- RankLaw             the rank is the greatest number of independent rows, and also of independent columns
-- PartsLaw            the ranks of the first rows and columns of a matrix step by 0 or 1
-- ProductsLaw         a matrix that is a sum of k products of a column and a row has rank k at most
-- ResidueLaw          one value at a candidate keeps the rank
-- DualLaw             n independent lists of length n have exactly one dual list
-- InverseLaw          a square matrix has a left inverse exactly where its rows are independent
-- EquationsLaw        equations that have a solution have exactly one that is 0 at the free columns
-- ReducedLaw          there is one reduced row echelon form, and its pivots are the columns that are not free
use Rattle.std.specs.Prelude.{◌≡◌, ◌≢◌, ◌↔◌, ℕ, suc, ◌<◌, ◌≤◌, bit_xor}
use Rattle.field_theory.specs.Sums.{xor_sum, unit}
use Rattle.counting_theory.specs.Ranks.{IsRank}
use Rattle.linear_theory.specs.Linear.{dot, combine, IsCombination, AreIndependent, rank, weight, syndromes, IsDual, SameSpan, IsReduced, IsGreatestNumber, IsFree, IsCandidate, KeepsRank}

abbrev pub AreSymbols : ℕ → (ℕ → ℕ → ℕ) → Type 0
AreSymbols size rows = (i j : ℕ) → rows i j < size

pub record ExchangeLaw (size : ℕ) (mul : ℕ → ℕ → ℕ) : Type 0 where
  pub at_most_as_many : (n : ℕ) (others : ℕ → ℕ → ℕ) (s : ℕ) (rows : ℕ → ℕ → ℕ) (r : ℕ) → AreSymbols size rows → AreIndependent size mul n rows r → ((i : ℕ) → i < r → IsCombination mul n others s (rows i)) → r ≤ s
  pub one_too_many : (n : ℕ) (rows : ℕ → ℕ → ℕ) → AreSymbols size rows → AreIndependent size mul n rows (suc n) → ⊥

pub record RowOperationsLaw (size : ℕ) (mul : ℕ → ℕ → ℕ) : Type 0 where
  -- row k is multiplied by x
  pub scaled : (n : ℕ) (rows others : ℕ → ℕ → ℕ) (r k x : ℕ) → AreSymbols size rows → AreSymbols size others → k < r → x < size → x ≢ 0 → ((j : ℕ) → j < n → others k j ≡ mul x (rows k j))
      → ((q : ℕ) → q < r → q ≢ k → (j : ℕ) → j < n → others q j ≡ rows q j) → SameSpan mul n rows r others r
  -- a multiple of row k is added to each other row
  pub swept : (n : ℕ) (rows others : ℕ → ℕ → ℕ) (r k : ℕ) (x : ℕ → ℕ) → AreSymbols size rows → AreSymbols size others → k < r
      → ((q : ℕ) → q < r → q ≢ k → (j : ℕ) → j < n → others q j ≡ bit_xor (rows q j) (mul (x q) (rows k j))) → ((j : ℕ) → j < n → others k j ≡ rows k j) → SameSpan mul n rows r others r
  -- the rows change places
  pub moved : (n : ℕ) (rows others : ℕ → ℕ → ℕ) (r : ℕ) → AreSymbols size rows → AreSymbols size others
      → ((q : ℕ) → q < r → (p : ℕ) × (p < r) × ((j : ℕ) → j < n → rows p j ≡ others q j)) → ((q : ℕ) → q < r → (p : ℕ) × (p < r) × ((j : ℕ) → j < n → others p j ≡ rows q j)) → SameSpan mul n rows r others r
  pub same_combinations : (n : ℕ) (rows others : ℕ → ℕ → ℕ) (r s : ℕ) (v : ℕ → ℕ) → SameSpan mul n rows r others s → IsCombination mul n rows r v ↔ IsCombination mul n others s v
  pub same_rank : (n : ℕ) (rows others : ℕ → ℕ → ℕ) (r s : ℕ) → AreSymbols size rows → AreSymbols size others → SameSpan mul n rows r others s → rank size mul n rows r ≡ rank size mul n others s

pub record RankLaw (size : ℕ) (mul : ℕ → ℕ → ℕ) : Type 0 where
  pub of_rows : (n : ℕ) (rows : ℕ → ℕ → ℕ) (r : ℕ) → AreSymbols size rows → IsGreatestNumber size mul n rows r (rank size mul n rows r)
  pub of_columns : (n : ℕ) (rows : ℕ → ℕ → ℕ) (r : ℕ) → AreSymbols size rows → rank size mul r (λ j i. rows i j) n ≡ rank size mul n rows r
  pub all_independent : (n : ℕ) (rows : ℕ → ℕ → ℕ) (r : ℕ) → AreSymbols size rows → AreIndependent size mul n rows r ↔ (rank size mul n rows r ≡ r)

-- one more row or column adds 0 or 1, and what a row adds never falls as columns are added
abbrev pub PartsLaw : ℕ → (ℕ → ℕ → ℕ) → Type 0
PartsLaw size mul = (n : ℕ) (rows : ℕ → ℕ → ℕ) → AreSymbols size rows → IsRank n (λ i j. rank size mul j rows i)

pub record ProductsLaw (size : ℕ) (mul : ℕ → ℕ → ℕ) : Type 0 where
  pub at_most : (k n : ℕ) (columns rows : ℕ → ℕ → ℕ) (r : ℕ) → AreSymbols size rows → rank size mul n (λ i j. xor_sum k (λ p. mul (columns p i) (rows p j))) r ≤ k
  pub at_most_weight : (n : ℕ) (error : ℕ → ℕ) (vectors : ℕ → ℕ → ℕ) (i j : ℕ) → rank size mul j (syndromes mul n error vectors) i ≤ weight n error

pub record ResidueLaw (size : ℕ) (mul : ℕ → ℕ → ℕ) : Type 0 where
  pub some_value : (rows : ℕ → ℕ → ℕ) (i j : ℕ) → AreSymbols size rows → IsCandidate size mul rows i j → (x : ℕ) × (x < size) × KeepsRank size mul rows i j x
  pub no_other : (rows : ℕ → ℕ → ℕ) (i j x y : ℕ) → AreSymbols size rows → IsCandidate size mul rows i j → x < size → y < size → KeepsRank size mul rows i j x → KeepsRank size mul rows i j y → x ≡ y

pub record DualLaw (size : ℕ) (mul : ℕ → ℕ → ℕ) : Type 0 where
  pub exists : (n : ℕ) (rows : ℕ → ℕ → ℕ) → AreSymbols size rows → AreIndependent size mul n rows n → (duals : ℕ → ℕ → ℕ) × AreSymbols size duals × IsDual mul n rows duals
  pub no_other : (n : ℕ) (rows duals others : ℕ → ℕ → ℕ) → AreSymbols size duals → AreSymbols size others → IsDual mul n rows duals → IsDual mul n rows others → (j k : ℕ) → j < n → k < n → others j k ≡ duals j k
  pub independent : (n : ℕ) (rows duals : ℕ → ℕ → ℕ) → IsDual mul n rows duals → AreIndependent size mul n rows n
  -- every list is the combination of the dual list by its products with the rows
  pub combination : (n : ℕ) (rows duals : ℕ → ℕ → ℕ) (v : ℕ → ℕ) → AreSymbols size duals → ((j : ℕ) → v j < size) → IsDual mul n rows duals → (k : ℕ) → k < n → v k ≡ combine mul n (λ i. dot mul n v (rows i)) duals k

-- the rows of `left` are factors that make the unit lists
abbrev pub InverseLaw : ℕ → (ℕ → ℕ → ℕ) → Type 0
InverseLaw size mul = (n : ℕ) (rows : ℕ → ℕ → ℕ) → AreSymbols size rows → AreIndependent size mul n rows n ↔ ((left : ℕ → ℕ → ℕ) × ((k : ℕ) → k < n → (j : ℕ) → j < n → unit k j ≡ combine mul n (left k) rows j))

pub record EquationsLaw (size : ℕ) (mul : ℕ → ℕ → ℕ) : Type 0 where
  pub exists : (n : ℕ) (rows : ℕ → ℕ → ℕ) (r : ℕ) (rhs y : ℕ → ℕ) → AreSymbols size rows → ((i : ℕ) → i < r → dot mul n (rows i) y ≡ rhs i)
      → (x : ℕ → ℕ) × ((j : ℕ) → j < n → x j < size) × ((i : ℕ) → i < r → dot mul n (rows i) x ≡ rhs i) × ((j : ℕ) → j < n → IsFree size mul rows r j → x j ≡ 0)
  pub no_other : (n : ℕ) (rows : ℕ → ℕ → ℕ) (r : ℕ) (rhs x y : ℕ → ℕ) → AreSymbols size rows → ((j : ℕ) → j < n → x j < size) → ((j : ℕ) → j < n → y j < size) → ((i : ℕ) → i < r → dot mul n (rows i) x ≡ rhs i) → ((i : ℕ) → i < r → dot mul n (rows i) y ≡ rhs i)
      → ((j : ℕ) → j < n → IsFree size mul rows r j → x j ≡ 0) → ((j : ℕ) → j < n → IsFree size mul rows r j → y j ≡ 0) → (j : ℕ) → j < n → x j ≡ y j
  -- a column is free where it is a combination of the columns before it
  pub free_columns : (rows : ℕ → ℕ → ℕ) (r j : ℕ) → AreSymbols size rows → IsFree size mul rows r j ↔ IsCombination mul r (λ q i. rows i q) j (λ i. rows i j)

pub record ReducedLaw (size : ℕ) (mul : ℕ → ℕ → ℕ) : Type 0 where
  pub no_other : (n : ℕ) (rows others : ℕ → ℕ → ℕ) (r k m : ℕ) → AreSymbols size rows → AreSymbols size others → IsReduced n rows r k → IsReduced n others r m → SameSpan mul n rows r others r → (i j : ℕ) → i < r → j < n → rows i j ≡ others i j
  pub count_is_rank : (n : ℕ) (rows : ℕ → ℕ → ℕ) (r k : ℕ) → IsReduced n rows r k → rank size mul n rows r ≡ k
  pub pivots_not_free : (n : ℕ) (rows : ℕ → ℕ → ℕ) (r k t : ℕ) → (h : IsReduced n rows r k) → t < k → IsFree size mul rows r (h.pivots t) → ⊥
  pub others_free : (n : ℕ) (rows : ℕ → ℕ → ℕ) (r k j : ℕ) → (h : IsReduced n rows r k) → j < n → ((t : ℕ) → t < k → h.pivots t ≢ j) → IsFree size mul rows r j
  -- rows with the same combinations have the same free columns
  pub same_free : (n : ℕ) (rows others : ℕ → ℕ → ℕ) (r s j : ℕ) → AreSymbols size rows → AreSymbols size others → SameSpan mul n rows r others s → j < n → IsFree size mul rows r j → IsFree size mul others s j
