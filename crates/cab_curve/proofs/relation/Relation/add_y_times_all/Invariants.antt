use Rattle.std.proofs.Common.{◌≡◌, ℕ, get_or}
use Rattle.field_theory.specs.Sums.{xor_sum}
use Rattle.gf_theory.specs.Field.{gf_mul}
use Rattle.curve_theory.specs.Normal.{weight_coefficient}
use Rattle.curve_theory.specs.Weights.{y_times_function}
use Rattle.cab_curve.proofs.relation.Relation.add_y_times_all.Given as goal

abbrev pub invariant-loop-weight : goal.invariant-loop-weight
invariant-loop-weight g l = (w : ℕ) → get_or l.sums w 0
    ≡ xor_sum l.weight
    (λ v. gf_mul (g.F.Field.bits_of l.f) (g.F.Field.modulus_of l.f) (get_or l.combination v 0)
    (weight_coefficient l.self.semi.a l.self.semi.b
    (y_times_function (gf_mul (g.F.Field.bits_of l.f) (g.F.Field.modulus_of l.f)) l.self.semi.a l.self.semi.b l.self.terms.items v) w))
