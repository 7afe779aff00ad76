-- The first slots hold their blocks.
use Rattle.std.proofs.Common.{◌≡◌, length, take, All}
use Rattle.stored_form.specs.Form.{Form}
use Rattle.ag_frame.specs.Layouts.{words_of_group}
use Rattle.coded_block.specs.Codes.{BenchNumbers}
use Rattle.stream_codec.specs.Slots.{CanDecode, blocks_of}
use Rattle.stream_codec.proofs.window.load_group.Given as goal

abbrev pub invariant-loop-c : goal.invariant-loop-c
invariant-loop-c g l = record {
  blocks : blocks_of (take l.c l.slots) ≡ take l.c (words_of_group l.layout l.group);
  kept : (F : Form) (numbers : BenchNumbers) → All (CanDecode F numbers) l.initial.slots → All (CanDecode F numbers) l.slots;
  got_long : All (λ s. length s.got ≡ l.layout.n) l.slots;
}
