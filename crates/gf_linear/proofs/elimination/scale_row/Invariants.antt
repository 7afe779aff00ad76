use Rattle.std.proofs.Common.{ℕ, ◌≡◌, ◌<◌, ◌≤◌, ◌^◌, slice_index, All}
use Rattle.gf_theory.specs.Field.{gf_mul}
use Rattle.gf_linear.proofs.elimination.scale_row.Given as goal

abbrev pub invariant-loop-p : goal.invariant-loop-p
invariant-loop-p g l = record {
  symbols : All (λ a. a < 2 ^ g.F.Field.bits_of l.f) l.row;
  done : (q : ℕ) → q < l.p → slice_index l.row q ≡ gf_mul (g.F.Field.bits_of l.f) (g.F.Field.modulus_of l.f) l.x (slice_index l.fn.row q);
  rest : (q : ℕ) → l.p ≤ q → slice_index l.row q ≡ slice_index l.fn.row q;
}
