use Rattle.std.proofs.Common.{ℕ, ◌≡◌, ◌<◌, length, slice_index}
use Rattle.gf_theory.specs.Field.{gf_mul}
use Rattle.gf_field.proofs.multiples.low_multiples.Given as goal

abbrev pub invariant-loop-i : goal.invariant-loop-i
invariant-loop-i l = record {
  length : length l.table ≡ 16;
  made : (q : ℕ) → q < l.i → slice_index l.table q ≡ gf_mul l.f.bits l.f.modulus l.c q;
}
