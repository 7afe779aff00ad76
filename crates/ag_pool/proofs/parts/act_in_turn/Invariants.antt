-- The slots so far are acted on, and the others are as they were
use Rattle.std.proofs.Common.{◌≡◌, ℕ, ◌+◌, ◌<◌, ◌≤◌, length, get_or, All}
use Rattle.ag_pool.proofs.parts.act_in_turn.Given as goal

abbrev pub invariant-loop-k : goal.invariant-loop-k
invariant-loop-k g l = record {
  long : length l.slots ≡ length l.initial.slots;
  done : (j : ℕ) (d : g.row.W-Slot.Denot) → j < l.k → get_or l.slots j d ≡ g.W.Work.after l.work (l.first + j) (get_or l.initial.slots j d);
  rest : (j : ℕ) (d : g.row.W-Slot.Denot) → l.k ≤ j → get_or l.slots j d ≡ get_or l.initial.slots j d;
  ready : All (g.W.Work.ready l.work) l.slots;
}
