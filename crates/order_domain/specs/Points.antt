-- Point            a point of up to three coordinates
-- origin           the point whose coordinates are all 0
-- point_at         the point at a place of a list, and beyond its end the origin
-- AreDistinct      no two points of a list are the same
-- IsPointList      a list of distinct points, at most MOST_POINTS
use Rattle.std.specs.Prelude.{ℕ, ◌≢◌, ◌≤◌, List, length, AllPairs, slice_index_or}
pub use Rattle.order_domain.specs.declared.Point.{Point}
use Rattle.order_domain.specs.declared.points.TheConstants.{MOST_POINTS}

abbrev pub origin : Point
origin = record { x = 0; y = 0; z = 0 }

abbrev pub point_at : List Point → ℕ → Point
point_at points k = slice_index_or points k origin

abbrev pub AreDistinct : List Point → Type 0
AreDistinct points = AllPairs (λ p q. p ≢ q) points

pub record IsPointList (points : List Point) : Type 0 where
  pub distinct : AreDistinct points
  pub few : length points ≤ MOST_POINTS
