use Rattle.std.proofs.Common.{◌≡◌, length}
use Rattle.block_code.specs.Compiled.{numbers_of}
use Rattle.block_example.proofs.searched.agreed_up_to.Given as goal

abbrev pub invariant-loop-error : goal.invariant-loop-error
invariant-loop-error g l = record {
  fits : l.bench.numbers ≡ numbers_of l.code;
  got : length l.got ≡ 8;
  expected : length l.expected ≡ 8;
  word : length l.word ≡ 8;
}
