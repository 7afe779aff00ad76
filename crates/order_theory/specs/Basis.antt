-- Basis            n vectors of n symbols, the members, with their dual lists and what their order says of their products
-- rank_at          the index of member k among the functions of the domain
-- label            the label of member k
-- vector           the values of member k at the points
-- dual             the list with product 1 with vector k, and 0 with each other vector
-- pairs_at         how many pairs have member k as their sum
-- sum_at           the index of the sum of members i and j, or `count` or more where they have none
-- lead             the factor of that sum in the product of vectors i and j
-- IsWord           a list of n symbols
-- IsSpannedBelow   a combination of the vectors of the members whose ranks are below s
-- product          the product of vectors i and j, position by position
-- HasShape         the lists have their lengths and symbols, ranks and labels rise, and the dual lists fit
-- HasSums          the sum is symmetric, and a smaller pair has a smaller sum
-- HasLead          what the product of two members is whose sum is member k
-- HasPairs         the number of pairs of member k is as it says, and is at least 1
-- IsSound          a basis whose data fits together, over the field with the product mul
-- times            the product of the field that a basis names by its bits and modulus
-- IsSoundBasis     a basis that is sound over the field that it names
use Rattle.std.specs.Prelude.{◌≡◌, ◌≢◌, ℕ, ◌^◌, ◌<◌, ◌≤◌, bit_xor, List, [], length, slice_index, slice_index_or, All}
use Rattle.field_theory.specs.Field.{IsField}
use Rattle.gf_theory.specs.Field.{gf_mul, IsModulus}
use Rattle.linear_theory.specs.Linear.{combine, IsDual}
use Rattle.counting_theory.specs.Votes.{IsSum, pairs}

-- plain data: `IsSound` says when it fits together
pub record Basis : Type 0 where
  -- the bits of a symbol, and the modulus of the field
  pub bits : ℕ
  pub modulus : ℕ
  -- the number of members, and of the symbols of a vector
  pub n : ℕ
  -- the number of indices; a sum from here up is none
  pub count : ℕ
  -- for each member its index and its label
  pub ranks : List ℕ
  pub labels : List ℕ
  pub vectors : List (List ℕ)
  pub duals : List (List ℕ)
  -- for each member the number of pairs whose sum it is
  pub pair_counts : List ℕ
  -- for each pair of members the index of the sum, and the factor of that sum in the product of the two vectors
  pub sums : List (List ℕ)
  pub leads : List (List ℕ)

abbrev pub rank_at : Basis → ℕ → ℕ
rank_at b k = slice_index b.ranks k

abbrev pub label : Basis → ℕ → ℕ
label b k = slice_index b.labels k

-- symbol p of it
abbrev pub vector : Basis → ℕ → ℕ → ℕ
vector b k p = slice_index (slice_index_or b.vectors k []) p

abbrev pub dual : Basis → ℕ → ℕ → ℕ
dual b k p = slice_index (slice_index_or b.duals k []) p

abbrev pub pairs_at : Basis → ℕ → ℕ
pairs_at b k = slice_index b.pair_counts k

abbrev pub sum_at : Basis → ℕ → ℕ → ℕ
sum_at b i j = slice_index (slice_index_or b.sums i []) j

abbrev pub lead : Basis → ℕ → ℕ → ℕ
lead b i j = slice_index (slice_index_or b.leads i []) j

pub record IsWord (bits n : ℕ) (xs : List ℕ) : Type 0 where
  pub n_long : length xs ≡ n
  pub symbols : All (λ x. x < 2 ^ bits) xs

-- v is such a combination: its factors are 0 at the other members
pub record IsSpannedBelow (mul : ℕ → ℕ → ℕ) (b : Basis) (s : ℕ) (v : ℕ → ℕ) : Type 0 where
  pub factors : ℕ → ℕ
  pub only_below : (k : ℕ) → k < b.n → s ≤ rank_at b k → factors k ≡ 0
  pub is_sum : (p : ℕ) → p < b.n → v p ≡ combine mul b.n factors (vector b) p

abbrev pub product : (ℕ → ℕ → ℕ) → Basis → ℕ → ℕ → ℕ → ℕ
product mul b i j p = mul (vector b i p) (vector b j p)

-- Each list has its length, and symbols where it holds symbols. The ranks and the labels rise, and the ranks are indices.
-- The product of vector i and dual list j is 1 where i is j, and else 0
pub record HasShape (mul : ℕ → ℕ → ℕ) (b : Basis) : Type 0 where
  pub some_members : 1 ≤ b.n
  pub few_members : b.n ≤ 1024
  pub n_ranks : length b.ranks ≡ b.n
  pub n_labels : length b.labels ≡ b.n
  pub n_vectors : length b.vectors ≡ b.n
  pub n_duals : length b.duals ≡ b.n
  pub n_pair_counts : length b.pair_counts ≡ b.n
  pub n_sums : length b.sums ≡ b.n
  pub n_leads : length b.leads ≡ b.n
  pub vector_words : All (IsWord b.bits b.n) b.vectors
  pub dual_words : All (IsWord b.bits b.n) b.duals
  pub lead_words : All (IsWord b.bits b.n) b.leads
  pub sum_rows : All (λ row. length row ≡ b.n) b.sums
  pub ranks_rise : (i j : ℕ) → i < j → j < b.n → rank_at b i < rank_at b j
  pub labels_rise : (i j : ℕ) → i < j → j < b.n → label b i < label b j
  pub ranks_below : (k : ℕ) → k < b.n → rank_at b k < b.count
  pub duals_fit : IsDual mul b.n (vector b) (dual b)

-- The sum of two members is the same in either order. Where a pair has a sum, each smaller pair has a smaller one
pub record HasSums (b : Basis) : Type 0 where
  pub commute : (i j : ℕ) → i < b.n → j < b.n → sum_at b i j ≡ sum_at b j i
  pub rise : IsSum b.n b.count (sum_at b)

-- where the sum of i and j is member k, their product list is the lead, which is not 0, times vector k, plus a combination
-- of the vectors before it
pub record HasLead (mul : ℕ → ℕ → ℕ) (b : Basis) (i j k : ℕ) : Type 0 where
  pub lead_not_zero : lead b i j ≢ 0
  pub rest : IsSpannedBelow mul b (rank_at b k) (λ p. bit_xor (product mul b i j p) (mul (lead b i j) (vector b k p)))

pub record HasPairs (b : Basis) (k : ℕ) : Type 0 where
  pub counted : pairs_at b k ≡ pairs b.n (sum_at b) (rank_at b k)
  pub some_pair : 1 ≤ pairs_at b k

pub record IsSound (mul : ℕ → ℕ → ℕ) (b : Basis) : Type 0 where
  -- the numbers of `bits` bits are a field, with the product mul
  pub field : IsField (2 ^ b.bits) mul
  pub shape : HasShape mul b
  pub sums_order : HasSums b
  pub member_products : (i j k : ℕ) → i < b.n → j < b.n → k < b.n → sum_at b i j ≡ rank_at b k → HasLead mul b i j k
  -- where their sum is an index of no member, the product list is a combination of the vectors whose ranks are below it
  pub other_products : (i j : ℕ) → i < b.n → j < b.n → sum_at b i j < b.count → ((k : ℕ) → k < b.n → sum_at b i j ≢ rank_at b k) → IsSpannedBelow mul b (sum_at b i j) (product mul b i j)
  pub pairs_counted : (k : ℕ) → k < b.n → HasPairs b k

abbrev pub times : Basis → ℕ → ℕ → ℕ
times b = gf_mul b.bits b.modulus

pub record IsSoundBasis (b : Basis) : Type 0 where
  pub modulus : IsModulus b.bits b.modulus
  pub sound : IsSound (times b) b
