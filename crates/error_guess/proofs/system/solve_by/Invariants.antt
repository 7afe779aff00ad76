use Rattle.std.proofs.Common.{◌≡◌, ◌<◌, ◌≤◌, ℕ, length, slice_index}
use Rattle.error_guess.proofs.system.solve_by.Given as goal

abbrev pub invariant-loop-q : goal.invariant-loop-q
invariant-loop-q g l = record {
  bits : l.system.bits ≡ l.initial.system.bits;
  modulus : l.system.modulus ≡ l.initial.system.modulus;
  n : l.system.n ≡ l.initial.system.n;
  most : l.system.most ≡ l.initial.system.most;
  few : l.system.count ≤ l.q;
  rows : length l.system.known ≡ l.system.n;
  settled : (p : ℕ) → p < l.q → slice_index l.system.known p ≡ length l.line;
  to_come : (p : ℕ) → l.q ≤ p → p < l.system.n → slice_index l.system.known p ≡ 0;
}
