use Rattle.std.proofs.Common.{◌≡◌, ◌+◌, ◌≤◌, drop}
use Rattle.order_theory.specs.Codes.{distance}
use Rattle.block_code.proofs.correction.count_changes.Given as goal

abbrev pub invariant-loop-p : goal.invariant-loop-p
invariant-loop-p l = record {
  few : l.changes ≤ l.p;
  counted : l.changes + distance (drop l.p l.x) (drop l.p l.y) ≡ distance l.x l.y;
}
