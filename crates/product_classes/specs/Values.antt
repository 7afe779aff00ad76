-- IsZeroBefore    the first symbols of a list are 0
-- AreValues       the entries of the matrix of a list at sums below s, by classes
use Rattle.std.specs.Prelude.{◌≡◌, ℕ, ◌<◌, List, slice_index}
use Rattle.order_theory.specs.Basis.{Basis, times, sum_at}
use Rattle.order_theory.specs.Errors.{entry}
use Rattle.product_classes.specs.Table.{ClassTable, class_at}

pub record IsZeroBefore (first : ℕ) (list : List ℕ) : Type 0 where
  pub zeros : (p : ℕ) → p < first → slice_index list p ≡ 0

-- for each pair of members with a sum below s the value of its class is the entry
pub record AreValues (b : Basis) (v : ClassTable) (list values : List ℕ) (s : ℕ) : Type 0 where
  pub at : (i j : ℕ) → i < b.n → j < b.n → sum_at b i j < s → slice_index values (class_at v i j) ≡ entry (times b) b list i j
