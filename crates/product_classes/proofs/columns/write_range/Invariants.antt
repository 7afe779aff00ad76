use Rattle.std.proofs.Common.{ℕ, ◌≡◌, ◌<◌, ◌≤◌, ◌^◌, length, slice_index, All}
use Rattle.order_theory.specs.Basis.{times}
use Rattle.order_theory.specs.Errors.{entry}
use Rattle.product_classes.proofs.columns.write_range.Given as goal

abbrev pub invariant-loop-c : goal.invariant-loop-c
invariant-loop-c g l = record {
  most : (c : ℕ) → l.from ≤ c → l.to ≤ c → l.c ≤ c;
  row : length l.row ≡ l.basis.n;
  symbols : All (λ x. x < 2 ^ l.basis.bits) l.initial.values → All (λ x. x < 2 ^ l.basis.bits) l.values;
  written : (c : ℕ) → l.from ≤ c → c < l.c → slice_index l.values c ≡ entry (times l.basis) l.basis l.list (slice_index l.lefts c) (slice_index l.rights c);
  before : (c : ℕ) → c < l.from → slice_index l.values c ≡ slice_index l.initial.values c;
  after : (c : ℕ) → l.c ≤ c → slice_index l.values c ≡ slice_index l.initial.values c;
}
