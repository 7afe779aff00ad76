use Rattle.std.proofs.Common.{arith, ◌^◌, ◌<◌}
use Rattle.std.proofs.lemmas.List.Elements.{AllWithin-more_set}
use Rattle.eval_basis.proofs.Finding.{values_more}
use Rattle.eval_basis.proofs.members.evaluate.Goals as goal

pub loop-p-preserved : goal.loop-p-preserved
loop-p-preserved g c = record {
  values = values_more (g.D.OrderDomain.domain c.args.dom.now) (g.F.Field.modulus_of c.args.f.now) c.args.points.now c.args.i c.loop-p.p c.eval.result c.loop-p.values c.requires.index (omega arith) (omega arith) c.loop-p.invariant.values c.eval.ensures.value;
  symbols = AllWithin-more_set c.loop-p.values c.loop-p.p c.eval.result (omega arith) (λ x. x < 2 ^ g.F.Field.bits_of c.args.f.now) c.loop-p.invariant.symbols c.eval.ensures.symbol;
}
