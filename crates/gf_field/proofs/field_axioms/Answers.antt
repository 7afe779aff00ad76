use Rattle.std.proofs.Common.{◌≤◌, arith}
use Rattle.gf_theory.specs.Field.{IsModulus}
use Rattle.gf_field.proofs.field_axioms.Goals as goal

pub returns-clause-axioms : goal.returns-clause-axioms
returns-clause-axioms g c =
    let field : IsModulus (g.F.Field.bits_of c.args.f.now) (g.F.Field.modulus_of c.args.f.now) = c.bits.ensures.field in
    let two : 2 ≤ g.F.Field.bits_of c.args.f.now = field.at_least_two in
    c.irreducible_gives_field.ensures.laws _ _ (omega arith) field.irreducible
