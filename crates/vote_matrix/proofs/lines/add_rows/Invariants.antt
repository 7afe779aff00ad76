use Rattle.std.proofs.Common.{ℕ, ◌≡◌, ◌+◌, ◌<◌, ◌≤◌, ◌^◌, All, slice_index, bit_xor}
use Rattle.gf_theory.specs.Field.{gf_mul}
use Rattle.vote_matrix.specs.Lines.{line_kept}
use Rattle.vote_matrix.proofs.lines.add_rows.Given as goal

abbrev pub invariant-loop-t : goal.invariant-loop-t
invariant-loop-t g l = record {
  symbols : All (λ x. x < 2 ^ g.F.Field.bits_of l.f) l.line;
  added : (j : ℕ) → l.at ≤ j → j < l.at + l.len → slice_index l.line j
      ≡ bit_xor (slice_index l.fn.line j) (line_kept (gf_mul (g.F.Field.bits_of l.f) (g.F.Field.modulus_of l.f)) l.stride l.t (slice_index l.factors) l.above j);
  before : (p : ℕ) → p < l.at → slice_index l.line p ≡ slice_index l.fn.line p;
  after : (p : ℕ) → l.at + l.len ≤ p → slice_index l.line p ≡ slice_index l.fn.line p;
}
