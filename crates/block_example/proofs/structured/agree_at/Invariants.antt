use Rattle.std.proofs.Common.{◌≡◌, length}
use Rattle.block_code.specs.Compiled.{numbers_of}
use Rattle.block_example.proofs.structured.agree_at.Given as goal

abbrev pub invariant-loop-more : goal.invariant-loop-more
invariant-loop-more g l = record {
  fits : l.bench.numbers ≡ numbers_of l.code;
  got : length l.got ≡ l.code.basis.n;
  voted : length l.voted ≡ l.code.basis.n;
  word : length l.word ≡ l.code.basis.n;
}
