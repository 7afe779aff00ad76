use Rattle.std.proofs.Common.{ℕ, ◌≡◌, ◌<◌, length, slice_index}
use Rattle.gf_theory.specs.Field.{gf_mul}
use Rattle.gf_tables.proofs.row_of.Given as goal

abbrev pub invariant-loop-y : goal.invariant-loop-y
invariant-loop-y l = record {
  length : length l.row ≡ 256;
  made : (q : ℕ) → q < l.y → slice_index l.row q ≡ gf_mul l.field.bits l.field.modulus l.x q;
}
