use Rattle.std.proofs.Common.{ℕ, ◌≡◌, ◌<◌, ◌≤◌, ◌^◌, slice_index, bit_xor, All}
use Rattle.gf_theory.specs.Field.{gf_mul}
use Rattle.gf_linear.specs.Cells.{cell}
use Rattle.gf_linear.proofs.rows.clear_rows.Given as goal

abbrev pub invariant-loop-q : goal.invariant-loop-q
invariant-loop-q g l = record {
  symbols : All (λ a. a < 2 ^ g.F.Field.bits_of l.f) l.block;
  done : (q p : ℕ) → q < l.q → p < l.cols → cell l.block l.cols q p ≡ bit_xor (cell l.fn.block l.cols q p) (gf_mul (g.F.Field.bits_of l.f) (g.F.Field.modulus_of l.f) (cell l.fn.block l.cols q l.col) (slice_index l.pivot p));
  rest : (q p : ℕ) → l.q ≤ q → p < l.cols → cell l.block l.cols q p ≡ cell l.fn.block l.cols q p;
}
