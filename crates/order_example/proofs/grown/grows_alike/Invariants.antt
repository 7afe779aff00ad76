use Rattle.std.proofs.Common.{◌≡◌, length}
use Rattle.order_example.proofs.grown.grows_alike.Given as goal

abbrev pub invariant-loop-place : goal.invariant-loop-place
invariant-loop-place l = record {
  bits : l.f.bits ≡ l.growing.bits;
  modulus : l.f.modulus ≡ l.growing.modulus;
  three : l.growing.n ≡ 3;
  room_rows : length l.room.rows ≡ 3;
  room_cols : l.room.cols ≡ 3;
}
