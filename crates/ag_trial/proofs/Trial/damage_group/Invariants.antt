use Rattle.std.proofs.Common.{◌≡◌, ◌+◌, ◌*◌, ◌≤◌, ◌^◌, drop}
use Rattle.ag_frame.specs.Layouts.{words_of_group, fill_of_group}
use Rattle.ag_trial.specs.Damage.{damaged_words, changes_in}
use Rattle.ag_trial.proofs.Steps.{AreDamagedTo}
use Rattle.ag_trial.proofs.Trial.damage_group.Given as goal

abbrev pub invariant-loop-c : goal.invariant-loop-c
invariant-loop-c l = record {
  words : AreDamagedTo (2 ^ l.layout.bits) l.t (damaged_words (2 ^ l.layout.bits) l.t (words_of_group l.layout l.fn.group) l.fn.self)
      (words_of_group l.layout l.fn.group) (words_of_group l.layout l.group) l.c l.self;
  counted : l.changes + changes_in (2 ^ l.layout.bits) l.t (drop l.c (words_of_group l.layout l.fn.group)) l.self
      ≡ changes_in (2 ^ l.layout.bits) l.t (words_of_group l.layout l.fn.group) l.fn.self;
  fill : fill_of_group l.layout l.group ≡ fill_of_group l.layout l.fn.group;
  few : l.changes ≤ l.c * l.t;
}
