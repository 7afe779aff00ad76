use Rattle.std.proofs.Common.{refl}
use Rattle.code_design.proofs.Bounds.{improved_serves}
use Rattle.code_design.proofs.Weights.{order_plan, last_alone, of_stop}
use Rattle.code_design.proofs.plans.plan_of.Goals as goal

pub returns-clause-plan : goal.returns-clause-plan
returns-clause-plan g c = record {
  order_is = order_plan c.args.basis.now c.args.want c.stop-stop.result c.weight_of.result c.order_at-order.result.0 c.order_at-order.result.1 c.order_at-order.result.2 c.stop-stop.ensures.stop c.weight_of.ensures c.order_at-order.ensures;
  stop_is = c.stop-stop.ensures.stop;
  pairs_are = refl;
  serves = improved_serves c.args.basis.now c.args.want c.args.bound c.requires.bound;
  checks_are = c.size_by.ensures;
  is_bound = c.requires.bound;
}

pub returns-clause-last_stop : goal.returns-clause-last_stop
returns-clause-last_stop g c = last_alone c.args.basis.now c.args.want _ c.weight_of.result c.stop-stop.ensures.sound c.stop-stop.ensures.stop c.weight_of.ensures c.order_at-order.ensures

pub returns-clause-stop_label : goal.returns-clause-stop_label
returns-clause-stop_label g c = of_stop c.args.basis.now _ c.weight_of.result c.weight_of.ensures c.order_at-order.ensures
