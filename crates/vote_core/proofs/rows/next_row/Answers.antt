use Rattle.std.proofs.Common.{ℕ, sym, subst, ◌∙◌}
use Rattle.vote_core.specs.Reading.{IsSettled}
use Rattle.vote_core.proofs.Settled.{settled_rest}
use Rattle.vote_core.proofs.rows.next_row.Goals as goal

pub returns-then-reach-eq0-clause-settled : goal.returns-then-reach-eq0-clause-settled
returns-then-reach-eq0-clause-settled g c =
    subst (λ (i : ℕ). IsSettled c.args.basis.now c.args.matrix.now c.args.limit i) (sym c.n-n.ensures.value)
    (settled_rest c.args.basis.now c.args.matrix.now c.args.limit c.args.i c.n-n.ensures.sound c.requires.limit c.requires.row c.requires.settled (sym c.reach.ensures.reach ∙ c.if-reach-eq0.true))
