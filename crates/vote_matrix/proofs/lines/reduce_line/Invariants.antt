use Rattle.std.proofs.Common.{ℕ, ◌≡◌, ◌<◌, ◌≤◌, ◌^◌, All, length, slice_index, bit_xor}
use Rattle.gf_theory.specs.Field.{gf_mul}
use Rattle.vote_matrix.specs.Lines.{AllAbove, line_kept}
use Rattle.vote_matrix.specs.Slots.{slots}
use Rattle.vote_matrix.proofs.lines.reduce_line.Given as goal

abbrev pub invariant-loop-column : goal.invariant-loop-column
invariant-loop-column g l = record {
  symbols : All (λ x. x < 2 ^ g.F.Field.bits_of l.f) l.line;
  own_symbols : All (λ x. x < 2 ^ g.F.Field.bits_of l.f) l.own;
  few : l.span ≤ length l.inverses;
  zeros : (j : ℕ) → j < l.column → slice_index l.line j ≡ 0;
  same : (j : ℕ) → j < l.to → bit_xor (slice_index l.line j) (line_kept (gf_mul (g.F.Field.bits_of l.f) (g.F.Field.modulus_of l.f)) l.stride l.span (slice_index l.own) l.above j)
      ≡ bit_xor (slice_index l.fn.line j) (line_kept (gf_mul (g.F.Field.bits_of l.f) (g.F.Field.modulus_of l.f)) l.stride l.fn.span (slice_index l.fn.own) l.above j);
  rows : (rows : ℕ → ℕ) → (i : ℕ) → ((c : ℕ) → l.from ≤ c → c < l.to → slice_index (slots (length l.numbers) l.numbers) c < length l.numbers → rows (slice_index (slots (length l.numbers) l.numbers) c) < i)
      → AllAbove rows i l.fn.span (slice_index l.fn.own) → AllAbove rows i l.span (slice_index l.own);
}
