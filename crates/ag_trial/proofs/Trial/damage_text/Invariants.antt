use Rattle.std.proofs.Common.{◌≡◌, ◌+◌, ◌*◌, ◌≤◌, ◌^◌, take, drop}
use Rattle.ag_trial.specs.Damage.{damaged_words, changes_in, in_pieces}
use Rattle.ag_trial.specs.Groups.{words_of_text}
use Rattle.ag_frame.specs.Layouts.{words_of_group, fill_of_group, bytes_in_group}
use Rattle.ag_trial.proofs.Groups.{AreGroupsDamagedTo}
use Rattle.ag_trial.proofs.Trial.damage_text.Given as goal

abbrev pub invariant-loop-g : goal.invariant-loop-g
invariant-loop-g l = record {
  groups : AreGroupsDamagedTo (2 ^ l.layout.bits) l.t (words_of_group l.layout) (bytes_in_group l.layout) (damaged_words (2 ^ l.layout.bits) l.t (words_of_text l.layout l.fn.text) l.fn.self)
      l.fn.text l.text (l.g * l.size) l.self;
  counted : l.changes + changes_in (2 ^ l.layout.bits) l.t (words_of_text l.layout (drop (l.g * l.size) l.fn.text)) l.self
      ≡ changes_in (2 ^ l.layout.bits) l.t (words_of_text l.layout l.fn.text) l.fn.self;
  fill : in_pieces (fill_of_group l.layout) (bytes_in_group l.layout) (take (l.g * l.size) l.text) ≡ in_pieces (fill_of_group l.layout) (bytes_in_group l.layout) (take (l.g * l.size) l.fn.text);
  few : l.changes ≤ l.g * (l.layout.n * l.layout.depth);
}
