use Rattle.ag_texts.proofs.Digits.{IsWriting}
use Rattle.ag_texts.proofs.buffer.LineBuf.number.Given as goal

abbrev pub decreases-loop-rest : goal.decreases-loop-rest
decreases-loop-rest l = l.rest

abbrev pub invariant-loop-rest : goal.invariant-loop-rest
invariant-loop-rest l = IsWriting l.v l.rest l.at l.digits
