-- The places so far are counted.
use Rattle.std.proofs.Common.{◌+◌, ◌≤◌, ◌≡◌, drop}
use Rattle.stored_form.specs.Form.{distance}
use Rattle.small_block.proofs.distance.Given as goal

abbrev pub invariant-loop-p : goal.invariant-loop-p
invariant-loop-p l = record {
  sum : l.count + distance (drop l.p l.xs) (drop l.p l.ys) ≡ distance l.xs l.ys;
  few : l.count ≤ l.p;
}
