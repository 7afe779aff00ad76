use Rattle.std.proofs.Common.{ℕ, ◌^◌, arith}
use Rattle.field_theory.specs.Field.{IsField}
use Rattle.gf_theory.specs.Field.{gf_mul}
use Rattle.gf_theory.proofs.Fields.{field_of_modulus}
use Rattle.curve_theory.proofs.Values.{value-take_more}
use Rattle.cab_curve.proofs.points.value_at.Goals as goal

pub loop-term-preserved : goal.loop-term-preserved
loop-term-preserved g c =
    let m : ℕ = g.F.Field.bits_of c.args.f.now in
    let p : ℕ = g.F.Field.modulus_of c.args.f.now in
    let is = g.met.F.Field.is_modulus c.args.f.now in
    let field : IsField (2 ^ m) (gf_mul m p) = field_of_modulus m p (omega arith) is.irreducible in
    cc (value-take_more (2 ^ m) (gf_mul m p) field c.args.terms.now c.loop-term.term-index (record { i = 0; j = 0; c = 0 }) c.args.p.now.x c.args.p.now.y c.loop-term-test.true)
