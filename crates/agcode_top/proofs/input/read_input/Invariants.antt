use Rattle.std.proofs.Common.{◌≡◌, ◌+◌, ◌-◌, ◌%◌, ◌≤◌, ◌++◌, length, IsTrue}
use Rattle.stream_codec.specs.declared.limits.TheConstants.{PIECE}
use Rattle.agcode_top.proofs.input.read_input.Given as goal

abbrev pub invariant-loop-piece : goal.invariant-loop-piece
invariant-loop-piece g l = record {
  read : IsTrue g.I.Source.tells → (g.I.Source.view l.initial.input).left ≡ l.text.items ++ (g.I.Source.view l.input).left;
  within : length l.text.items ≤ l.limit;
  whole : length l.text.items % PIECE ≡ 0;
  wide : length l.piece ≡ PIECE;
  well : (g.I.Source.view l.input).faults ≡ (g.I.Source.view l.initial.input).faults;
}

abbrev pub decreases-loop-piece : goal.decreases-loop-piece
decreases-loop-piece g l = l.limit + PIECE + PIECE - length l.text.items
