use Rattle.std.proofs.Common.{ap, rules}
use Rattle.order_theory.specs.Basis.{Basis}
use Rattle.eval_basis.proofs.FlatReads.{entry_read}
use Rattle.eval_basis.proofs.basis.EvalBasis.lead.Goals as goal

pub returns-clause-value : goal.returns-clause-value
returns-clause-value g c = entry_read c.self.inside.n c.args.i c.args.j _ _ _ (ap (λ (b : Basis). b.leads) c.self.view_is) c.self.invariant.n_leads c.index.ensures (search rules) (search rules)
