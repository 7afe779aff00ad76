use Rattle.std.proofs.Common.{ℕ, ◌≡◌, ◌<◌, length}
use Rattle.gf_field.specs.Multiples.{AreMultiples}
use Rattle.gf_tables.specs.Tables.{table_at}
use Rattle.gf_tables.proofs.multiples_of.Given as goal

abbrev pub invariant-loop-c : goal.invariant-loop-c
invariant-loop-c l = record {
  count : length l.tables.items ≡ l.c;
  made : (q : ℕ) → q < l.c → AreMultiples l.field.bits l.field.modulus q (table_at l.tables.items q).low (table_at l.tables.items q).high;
}
