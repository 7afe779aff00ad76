-- The first bytes are those of the words.
use Rattle.std.proofs.Common.{◌≡◌, ℕ, ◌+◌, ◌*◌, ◌<◌, get_or, flat_map, true}
use Rattle.stored_form.specs.Group.{stored_blocks}
use Rattle.ag_frame.proofs.packed.unpack_symbols.Given as goal

abbrev pub invariant-loop-c : goal.invariant-loop-c
invariant-loop-c l = (k : ℕ) → k < l.c * l.n → get_or l.words k 0 ≡ get_or (flat_map (λ word. word) (stored_blocks true l.width l.n l.depth l.group)) k 0

abbrev pub invariant-loop-p : goal.invariant-loop-p
invariant-loop-p l = (k : ℕ) → k < l.c * l.n + l.p → get_or l.words k 0 ≡ get_or (flat_map (λ word. word) (stored_blocks true l.width l.n l.depth l.group)) k 0
