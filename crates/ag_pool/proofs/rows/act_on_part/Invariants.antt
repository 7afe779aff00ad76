use Rattle.std.proofs.Common.{ℕ, ◌≡◌, ◌<◌, ◌+◌, ◌*◌, ◌≤◌, take, drop}
use Rattle.ag_pool.proofs.rows.act_on_part.Given as goal

abbrev pub invariant-loop-q : goal.invariant-loop-q
invariant-loop-q g l = record {
  done : (i : ℕ) → i < l.q → take l.cols (drop (i * l.cols) l.part) ≡ g.W.RowWork.after l.work (l.first + i) (take l.cols (drop (i * l.cols) l.fn.part));
  rest : (i : ℕ) → l.q ≤ i → take l.cols (drop (i * l.cols) l.part) ≡ take l.cols (drop (i * l.cols) l.fn.part);
}
