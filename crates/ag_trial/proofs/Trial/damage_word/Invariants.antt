use Rattle.std.proofs.Common.{◌≡◌, ◌≢◌, ℕ, ◌+◌, ◌<◌, ◌≤◌, ◌^◌}
use Rattle.ag_frame.specs.Layouts.{fill_of_group}
use Rattle.ag_trial.specs.Damage.{damaged}
use Rattle.ag_trial.specs.Groups.{word_of_group}
use Rattle.ag_trial.proofs.Steps.{IsDamagedTo}
use Rattle.ag_trial.proofs.Trial.damage_word.Given as goal

abbrev pub invariant-loop-p : goal.invariant-loop-p
invariant-loop-p l = record {
  word : IsDamagedTo (2 ^ l.layout.bits) (damaged (2 ^ l.layout.bits) l.t (word_of_group l.layout l.fn.group l.c) l.fn.self) (word_of_group l.layout l.group l.c) l.p l.left l.self;
  others : (k : ℕ) → k < l.layout.depth → k ≢ l.c → word_of_group l.layout l.group k ≡ word_of_group l.layout l.fn.group k;
  fill : fill_of_group l.layout l.group ≡ fill_of_group l.layout l.fn.group;
  enough : l.left + l.p ≤ l.layout.n;
}
