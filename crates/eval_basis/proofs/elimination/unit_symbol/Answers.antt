use Rattle.eval_basis.proofs.ListSteps.{one_symbol}
use Rattle.eval_basis.proofs.elimination.unit_symbol.Goals as goal

pub returns-then-q-p-clause-symbol : goal.returns-then-q-p-clause-symbol
returns-then-q-p-clause-symbol g c = one_symbol (g.F.Field.bits_of c.args.f.now) (g.F.Field.modulus_of c.args.f.now) c.bits.ensures.field
