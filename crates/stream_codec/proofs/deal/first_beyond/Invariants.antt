-- The codewords so far have nears.
use Rattle.std.proofs.Common.{ℕ, ◌<◌, All, get_or, []}
use Rattle.stored_form.specs.Form.{Form}
use Rattle.stream_codec.specs.Dealing.{IsNear}
use Rattle.stream_codec.specs.Slots.{IsSettled, blocks_of}
use Rattle.stream_codec.proofs.deal.first_beyond.Given as goal

abbrev pub invariant-loop-c : goal.invariant-loop-c
invariant-loop-c g l = (F : Form) → All (IsSettled F) l.slots → (j : ℕ) → j < l.c → IsNear F (get_or (blocks_of l.slots) j [])
