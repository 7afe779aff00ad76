use Rattle.std.proofs.Common.{◌≡◌}
use Rattle.block_code.specs.Compiled.{numbers_of}
use Rattle.block_example.proofs.rig.are_met_on.Given as goal

abbrev pub invariant-loop-row : goal.invariant-loop-row
invariant-loop-row g l = l.bench.numbers ≡ numbers_of l.code
