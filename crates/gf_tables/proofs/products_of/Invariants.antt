use Rattle.std.proofs.Common.{ℕ, ◌≡◌, ◌<◌, [], length, slice_index_or}
use Rattle.gf_tables.specs.Tables.{IsRow}
use Rattle.gf_tables.proofs.products_of.Given as goal

abbrev pub invariant-loop-x : goal.invariant-loop-x
invariant-loop-x l = record {
  count : length l.rows.items ≡ l.x;
  made : (q : ℕ) → q < l.x → IsRow l.field.bits l.field.modulus q (slice_index_or l.rows.items q []);
}
