use Rattle.std.proofs.Common.{◌≡◌, drop}
use Rattle.code_descriptor.specs.Tests.{has_point}
use Rattle.code_descriptor.proofs.points.has_point.Given as goal

abbrev pub invariant-loop-other : goal.invariant-loop-other
invariant-loop-other l = has_point (drop l.other-index l.points) l.point ≡ has_point l.points l.point
