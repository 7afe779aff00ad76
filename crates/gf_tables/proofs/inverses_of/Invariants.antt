use Rattle.std.proofs.Common.{ℕ, ◌≡◌, ◌<◌, ◌^◌, length, slice_index}
use Rattle.gf_theory.specs.Field.{gf_mul}
use Rattle.gf_tables.proofs.inverses_of.Given as goal

abbrev pub invariant-loop-x : goal.invariant-loop-x
invariant-loop-x l = record {
  length : length l.inverses ≡ 256;
  element : (q : ℕ) → 0 < q → q < l.x → slice_index l.inverses q < 2 ^ l.field.bits;
  inverse : (q : ℕ) → 0 < q → q < l.x → gf_mul l.field.bits l.field.modulus q (slice_index l.inverses q) ≡ 1;
}
