use Rattle.std.proofs.Common.{◌≡◌, length}
use Rattle.vote_core.specs.Voters.{Fits}
use Rattle.bench_decode.proofs.decode.Given as goal

abbrev pub invariant-loop : goal.invariant-loop
invariant-loop g l = record {
  fits : Fits l.voter l.basis;
  room : length l.err ≡ l.basis.n;
}
