use Rattle.std.proofs.Common.{◌≡◌, length}
use Rattle.block_code.specs.Compiled.{numbers_of}
use Rattle.block_example.proofs.structured.agreed_shapes.Given as goal

abbrev pub invariant-loop-shape : goal.invariant-loop-shape
invariant-loop-shape g l = record {
  fits : l.bench.numbers ≡ numbers_of l.code;
  got : length l.got ≡ l.code.basis.n;
  voted : length l.voted ≡ l.code.basis.n;
  word : length l.word ≡ l.code.basis.n;
  list : length l.places.items ≡ length l.values.items;
}
