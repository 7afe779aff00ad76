use Rattle.std.proofs.Common.{ℕ, subst}
use Rattle.gf_theory.specs.Field.{IsModulus}
use Rattle.cab_curve.proofs.NormalLists.{normal_result}
use Rattle.cab_curve.proofs.equation.Curve.normal.Goals as goal

pub returns : goal.returns
returns g c =
    normal_result c.args.self.now (g.F.Field.modulus_of c.args.f.now) c.args.i c.args.j c.deref.result.now c.raised_terms.result c.a.ensures.curve
    (subst (λ (n : ℕ). IsModulus n (g.F.Field.modulus_of c.args.f.now)) c.requires.bits (g.met.F.Field.is_modulus c.args.f.now))
    (rw c.deref.ensures.value c.in_ok-power.ensures) c.raised_terms.ensures.normal (rw (← c.a.ensures.a) c.raised_terms.ensures.raised)
