use Rattle.std.proofs.Common.{◌≡◌, ℕ, take, get_or, bit_xor}
use Rattle.gf_theory.specs.Field.{gf_mul}
use Rattle.curve_theory.specs.Normal.{weight_coefficient, times_monomial}
use Rattle.cab_curve.proofs.relation.Relation.add_y_times.Given as goal

abbrev pub invariant-loop-term : goal.invariant-loop-term
invariant-loop-term g l = (w : ℕ) → get_or l.sums w 0
    ≡ bit_xor (get_or l.initial.sums w 0)
    (gf_mul (g.F.Field.bits_of l.f) (g.F.Field.modulus_of l.f) l.c
    (weight_coefficient l.a l.b (times_monomial (gf_mul (g.F.Field.bits_of l.f) (g.F.Field.modulus_of l.f)) l.i 0 1 (take l.term-index l.self.terms.items)) w))
