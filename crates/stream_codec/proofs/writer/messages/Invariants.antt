-- The messages so far stand at the front.
use Rattle.std.proofs.Common.{◌≡◌, ◌*◌, take, flat_map}
use Rattle.stored_form.specs.Form.{message_of}
use Rattle.stream_codec.specs.Slots.{words_of}
use Rattle.stream_codec.proofs.writer.messages.Given as goal

abbrev pub invariant-loop-c : goal.invariant-loop-c
invariant-loop-c g l = take (l.c * l.k) l.msg ≡ flat_map (message_of (g.C.BlockCode.form l.code)) (words_of (take l.c l.slots))
