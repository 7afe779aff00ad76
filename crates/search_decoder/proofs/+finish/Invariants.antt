use Rattle.std.proofs.Common.{◌-◌, length}
use Rattle.search_decoder.specs.Words.{SameBefore}
use Rattle.search_decoder.proofs.Finishes.{IsTriedBelow}
use Rattle.search_decoder.proofs.+finish.Given as goal

abbrev pub decreases-finish : goal.decreases-finish
decreases-finish g l = length l.got.now - l.place

abbrev pub invariant-loop-symbol : goal.invariant-loop-symbol
invariant-loop-symbol g l = record {
  front : SameBefore l.place l.fn.word l.word;
  tried : IsTriedBelow l.basis l.checked l.got l.fn.word l.place l.left l.symbol;
}
