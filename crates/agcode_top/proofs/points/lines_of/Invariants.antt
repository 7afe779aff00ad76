use Rattle.std.proofs.Common.{◌≡◌, take}
use Rattle.std.specs.List.{flat_map}
use Rattle.agcode_top.specs.Commands.{point_text}
use Rattle.agcode_top.proofs.points.lines_of.Given as goal

abbrev pub invariant-loop-point : goal.invariant-loop-point
invariant-loop-point l = l.text.items ≡ flat_map (point_text l.coordinates) (take l.point-index l.points)
