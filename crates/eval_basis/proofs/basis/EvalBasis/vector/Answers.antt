use Rattle.std.proofs.Common.{ap, rules}
use Rattle.order_theory.specs.Basis.{Basis}
use Rattle.eval_basis.proofs.FlatReads.{row_read}
use Rattle.eval_basis.proofs.basis.EvalBasis.vector.Goals as goal

pub returns-clause-value : goal.returns-clause-value
returns-clause-value g c = row_read c.self.inside.n c.args.k _ _ _ (ap (λ (b : Basis). b.vectors) c.self.view_is) c.deref.ensures.value (search rules)
