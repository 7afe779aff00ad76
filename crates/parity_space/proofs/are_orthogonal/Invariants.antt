use Rattle.std.proofs.Common.{ℕ, ◌≡◌, ◌<◌, length, slice_index}
use Rattle.linear_theory.specs.Linear.{dot as dot_of}
use Rattle.gf_theory.specs.Field.{gf_mul}
use Rattle.gf_linear.specs.Matrix.{entry}
use Rattle.parity_space.proofs.are_orthogonal.Given as goal

abbrev pub invariant-loop-i : goal.invariant-loop-i
invariant-loop-i g l =
    (q : ℕ) → q < l.i → dot_of (gf_mul (g.F.Field.bits_of l.f) (g.F.Field.modulus_of l.f)) (length l.word) (slice_index l.word) (entry l.rows q) ≡ 0
