-- The first symbols are written, or wait for their byte.
use Rattle.std.proofs.Common.{◌+◌, ◌*◌}
use Rattle.stored_form.specs.Bits.{whole_pieces}
use Rattle.stored_form.specs.Group.{spread}
use Rattle.ag_frame.proofs.PendingBits.{IsPackedTo}
use Rattle.ag_frame.proofs.packed.pack_symbols.Given as goal

abbrev pub invariant-loop-p : goal.invariant-loop-p
invariant-loop-p l = IsPackedTo l.width (spread l.n (whole_pieces l.n l.words)) (l.p * l.depth) l.group l.pending.place l.pending.have l.pending.bits

abbrev pub invariant-loop-c : goal.invariant-loop-c
invariant-loop-c l = IsPackedTo l.width (spread l.n (whole_pieces l.n l.words)) (l.p * l.depth + l.c) l.group l.pending.place l.pending.have l.pending.bits
