-- is_on_curve       whether a point is on the curve: x and y are symbols, z is 0, and the equation has the value 0 there
-- points_of_row     all points with one x and z 0, by rising y
-- points_of_plane   all points with z 0, by rising x, then rising y
-- curve_points      those of them that are on the curve
use Rattle.std.specs.Prelude.{ℕ, ◌^◌, ◌==◌, nat_lt, Bool, ◌&&◌, List, map, filter}
use Rattle.std.specs.List.{range_with_len, flat_map}
use Rattle.gf_theory.specs.Field.{gf_mul}
use Rattle.curve_theory.specs.declared.Term.{Term}
use Rattle.curve_theory.specs.Curve.{value}
use Rattle.order_domain.specs.declared.Point.{Point}

unfoldable pub is_on_curve : (bits modulus : ℕ) → List Term → Point → Bool
is_on_curve bits modulus terms p =
    ((nat_lt p.x (2 ^ bits) && nat_lt p.y (2 ^ bits)) && p.z == 0) && value (gf_mul bits modulus) terms p.x p.y == 0

abbrev pub points_of_row : (size x : ℕ) → List Point
points_of_row size x = map (λ y. record { x = x; y = y; z = 0 }) (range_with_len 0 size)

abbrev pub points_of_plane : (size : ℕ) → List Point
points_of_plane size = flat_map (points_of_row size) (range_with_len 0 size)

unfoldable pub curve_points : (bits modulus : ℕ) → List Term → List Point
curve_points bits modulus terms = filter (is_on_curve bits modulus terms) (points_of_plane (2 ^ bits))
