use Rattle.std.proofs.Common.{ℕ, ◌≡◌, ◌<◌, ◌^◌, All, length, slice_index}
use Rattle.gf_theory.specs.Field.{gf_mul}
use Rattle.plain_voter.proofs.working.products.Given as goal

abbrev pub invariant-loop-p : goal.invariant-loop-p
invariant-loop-p g l = record {
  long : length l.list.items ≡ length l.x;
  value : (q : ℕ) → q < l.p → slice_index l.list.items q ≡ gf_mul (g.F.Field.bits_of l.f) (g.F.Field.modulus_of l.f) (slice_index l.x q) (slice_index l.y q);
  symbols : All (λ a. a < 2 ^ g.F.Field.bits_of l.f) l.list.items;
}
