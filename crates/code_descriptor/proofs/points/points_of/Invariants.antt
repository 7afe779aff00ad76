use Rattle.std.proofs.Common.{◌≡◌, None, map, take}
use Rattle.cab_curve.specs.First.{least}
use Rattle.code_descriptor.specs.Built.{space_of}
use Rattle.code_descriptor.specs.Tests.{is_bad_point, plain_point}
use Rattle.code_descriptor.proofs.points.points_of.Given as goal

abbrev pub invariant-loop-k : goal.invariant-loop-k
invariant-loop-k l = record {
  none : least l.k (is_bad_point l.field.bits l.field.modulus (space_of l.space) l.points) ≡ None;
  items : l.plain ≡ map plain_point (take l.k l.points);
}
