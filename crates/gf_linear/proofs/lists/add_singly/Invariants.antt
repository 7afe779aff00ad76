use Rattle.std.proofs.Common.{ℕ, ◌≡◌, ◌<◌, ◌≤◌, slice_index, bit_xor}
use Rattle.gf_linear.specs.Nibbles.{looked_up}
use Rattle.gf_linear.proofs.lists.add_singly.Given as goal

abbrev pub invariant-loop-p : goal.invariant-loop-p
invariant-loop-p l = record {
  done : (q : ℕ) → q < l.p → slice_index l.dst q ≡ bit_xor (slice_index l.initial.dst q) (looked_up l.low l.high (slice_index l.src q));
  rest : (q : ℕ) → l.p ≤ q → slice_index l.dst q ≡ slice_index l.initial.dst q;
}
