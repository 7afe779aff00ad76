-- IsBadMark       the first mark that is neither 0 nor 1
-- lost_by         which positions are lost: those whose mark is 1
-- positions_of    the lost positions, rising
use Rattle.std.specs.Prelude.{ℕ, ◌<◌, ◌≤◌, Bool, nat_eq, List, length, map, filter, slice_index}
use Rattle.std.specs.List.{range_with_len}
use Rattle.erase_code.specs.Filling.{is_lost}

pub record IsBadMark (marks : List ℕ) (place : ℕ) : Type 0 where
  pub position : place < length marks
  pub bad : 1 < slice_index marks place
  pub first : (q : ℕ) → q < place → slice_index marks q ≤ 1

abbrev pub lost_by : List ℕ → List Bool
lost_by marks = map (λ m. nat_eq m 1) marks

abbrev pub positions_of : List Bool → List ℕ
positions_of lost = filter (is_lost lost) (range_with_len 0 (length lost))
