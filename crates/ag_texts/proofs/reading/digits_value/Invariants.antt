use Rattle.ag_texts.proofs.Numbers.{IsReading}
use Rattle.ag_texts.proofs.reading.digits_value.Given as goal

abbrev pub invariant-loop-d : goal.invariant-loop-d
invariant-loop-d l = IsReading l.value l.d-index l.digits
