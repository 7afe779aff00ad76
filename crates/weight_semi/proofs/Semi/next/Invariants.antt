use Rattle.std.proofs.Common.{◌-◌, ◌<◌, ◌≤◌}
use Rattle.curve_theory.specs.Semigroup.{next_member}
use Rattle.weight_semi.proofs.Semi.next.Given as goal

abbrev pub invariant-loop-next : goal.invariant-loop-next
invariant-loop-next l = record {
  above : l.w < l.next;
  not_past : l.next ≤ next_member l.self.a l.self.b l.w;
}

abbrev pub decreases-loop-next : goal.decreases-loop-next
decreases-loop-next l = next_member l.self.a l.self.b l.w - l.next
