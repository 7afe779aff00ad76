use Rattle.std.proofs.Common.{ℕ, ◌≡◌, ◌*◌, ◌<◌, ◌≤◌, slice_index, bit_xor}
use Rattle.gf_linear.specs.Nibbles.{looked_up}
use Rattle.gf_linear.proofs.lists.add_wides.Given as goal

abbrev pub invariant-loop-q : goal.invariant-loop-q
invariant-loop-q l = record {
  done : (p : ℕ) → p < l.q * 32 → slice_index l.dst p ≡ bit_xor (slice_index l.initial.dst p) (looked_up l.low l.high (slice_index l.src p));
  rest : (p : ℕ) → l.q * 32 ≤ p → slice_index l.dst p ≡ slice_index l.initial.dst p;
}
