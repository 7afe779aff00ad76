use Rattle.std.proofs.Common.{inl, inr}
use Rattle.std.proofs.lemmas.Bool.{cases_lt}
use Rattle.product_classes.proofs.columns.write_range.Goals as goal

pub returns-clause-after : goal.returns-clause-after
returns-clause-after g c = λ k h. elim (cases_lt k c.args.from) [
  | inl u ↦ c.loop-c.invariant.before k u
  | inr u ↦ c.loop-c.invariant.after k (c.loop-c.invariant.most k u h)
]
