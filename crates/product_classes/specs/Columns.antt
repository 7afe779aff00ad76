-- ArePairs         the members of pairs
-- sum_of_class     the sum of the pair of a class
-- AreRising        the sums of the pairs rise with their classes
-- AreOthersKept    all columns but one are kept
-- AreColumns       the products of the first classes at the positions from `first` on, so many at each position
use Rattle.std.specs.Prelude.{◌≡◌, ◌≢◌, ℕ, ◌+◌, ◌<◌, ◌≤◌, List, length, slice_index, All}
use Rattle.order_theory.specs.Basis.{Basis, times, vector, sum_at}
use Rattle.gf_linear.specs.Cells.{cell}

pub record ArePairs (n : ℕ) (lefts rights : List ℕ) : Type 0 where
  pub same : length rights ≡ length lefts
  pub rows : All (λ x. x < n) lefts
  pub columns : All (λ x. x < n) rights

abbrev pub sum_of_class : Basis → List ℕ → List ℕ → ℕ → ℕ
sum_of_class b lefts rights c = sum_at b (slice_index lefts c) (slice_index rights c)

pub record AreRising (b : Basis) (lefts rights : List ℕ) : Type 0 where
  pub rise : (c d : ℕ) → c ≤ d → d < length lefts → sum_of_class b lefts rights c ≤ sum_of_class b lefts rights d

pub record AreOthersKept (width class : ℕ) (columns now : List ℕ) : Type 0 where
  pub kept : (q c : ℕ) → c < width → c ≢ class → cell now width q c ≡ cell columns width q c

pub record AreColumns (b : Basis) (lefts rights : List ℕ) (first width classes : ℕ) (columns : List ℕ) : Type 0 where
  pub at : (q c : ℕ) → first + q < b.n → c < classes → cell columns width q c ≡ times b (vector b (slice_index lefts c) (first + q)) (vector b (slice_index rights c) (first + q))
