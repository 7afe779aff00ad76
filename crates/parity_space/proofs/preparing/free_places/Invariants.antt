use Rattle.parity_space.proofs.Scans.{IsMerged}
use Rattle.parity_space.proofs.preparing.free_places.Given as goal

abbrev pub invariant-loop-p : goal.invariant-loop-p
invariant-loop-p l = IsMerged l.e.cols l.pivots l.places.items l.p l.left
