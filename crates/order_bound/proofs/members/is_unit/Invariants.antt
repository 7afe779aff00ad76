use Rattle.std.proofs.Common.{ℕ, ◌≡◌, ◌<◌, slice_index}
use Rattle.field_theory.specs.Sums.{unit}
use Rattle.order_bound.proofs.members.is_unit.Given as goal

abbrev pub invariant-loop-q : goal.invariant-loop-q
invariant-loop-q l = (q : ℕ) → q < l.q → slice_index l.products q ≡ unit l.k q
