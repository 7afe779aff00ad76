use Rattle.std.proofs.Common.{◌≡◌, map, take, nat_eq}
use Rattle.erase_code.proofs.marks.lost_of.Given as goal

abbrev pub invariant-loop-mark : goal.invariant-loop-mark
invariant-loop-mark l = l.lost.items ≡ map (λ m. nat_eq m 1) (take l.mark-index l.marks)
