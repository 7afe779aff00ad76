use Rattle.std.proofs.Common.{◌∙◌, rules}
use Rattle.plain_voter.proofs.Counts.{polled_none, symbols_fit}
use Rattle.plain_voter.proofs.ballot.poll_of.Goals as goal

pub loop-i-init : goal.loop-i-init
loop-i-init g c = record {
  polled = polled_none c.args.basis.now c.args.work.now c.args.k c.in_ok-vec.field-0.items _ (c.in_ok-vec.ensures.items_if_clones_equal (search rules)) (symbols_fit c.bits.result c.args.basis.now.bits (c.bits.ensures.bits ∙ c.field.ensures.bits) (search rules));
  sheet = c.in_ok-sheet.ensures;
}
