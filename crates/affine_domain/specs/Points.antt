-- is_on_space       whether a point is on a space: its first coordinates, one for each variable, are symbols, and the
--                   others are 0
-- points_of_line    all points with one x and y, by rising z
-- points_of_plane   all points with one x, by rising y, then rising z
-- space_points      all points of the space, by rising x, then rising y, then rising z
use Rattle.std.specs.Prelude.{ℕ, ◌^◌, nat_lt, Bool, ◌&&◌, List, map}
use Rattle.std.specs.List.{range_with_len, flat_map}
use Rattle.theory_affine.specs.Separation.{side}
use Rattle.order_domain.specs.declared.Point.{Point}

-- a coordinate that the space has not is below 1
unfoldable pub is_on_space : (bits vars : ℕ) → Point → Bool
is_on_space bits vars p =
    (nat_lt p.x (side (2 ^ bits) vars 0) && nat_lt p.y (side (2 ^ bits) vars 1)) && nat_lt p.z (side (2 ^ bits) vars 2)

abbrev pub points_of_line : (bits vars x y : ℕ) → List Point
points_of_line bits vars x y = map (λ z. record { x = x; y = y; z = z }) (range_with_len 0 (side (2 ^ bits) vars 2))

abbrev pub points_of_plane : (bits vars x : ℕ) → List Point
points_of_plane bits vars x = flat_map (points_of_line bits vars x) (range_with_len 0 (side (2 ^ bits) vars 1))

unfoldable pub space_points : (bits vars : ℕ) → List Point
space_points bits vars = flat_map (points_of_plane bits vars) (range_with_len 0 (side (2 ^ bits) vars 0))
