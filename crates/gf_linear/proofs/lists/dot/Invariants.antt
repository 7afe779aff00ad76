use Rattle.std.proofs.Common.{◌≡◌, ◌<◌, ◌%◌, ◌^◌, length, slice_index}
use Rattle.linear_theory.specs.Linear.{dot as dot_of}
use Rattle.gf_theory.specs.Field.{gf_mul}
use Rattle.gf_linear.proofs.lists.dot.Given as goal

abbrev pub invariant-loop-bit : goal.invariant-loop-bit
invariant-loop-bit g l = record {
  symbol : l.sum < 2 ^ g.F.Field.bits_of l.f;
  so_far :
      l.sum
      ≡ dot_of (gf_mul (g.F.Field.bits_of l.f) (g.F.Field.modulus_of l.f)) (length l.x) (λ q. slice_index l.x q % 2 ^ l.bit) (slice_index l.y);
}
