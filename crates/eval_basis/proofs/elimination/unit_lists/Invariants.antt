use Rattle.std.proofs.Common.{◌<◌, ◌^◌, All}
use Rattle.field_theory.specs.Sums.{unit}
use Rattle.eval_basis.proofs.Pushing.{IsPushed}
use Rattle.eval_basis.proofs.elimination.unit_lists.Given as goal

abbrev pub invariant-loop-p : goal.invariant-loop-p
invariant-loop-p g l = record {
  pushed : IsPushed l.n unit l.symbols.items l.p 0;
  symbols : All (λ x. x < 2 ^ g.F.Field.bits_of l.f) l.symbols.items;
}

abbrev pub invariant-loop-q : goal.invariant-loop-q
invariant-loop-q g l = record {
  pushed : IsPushed l.n unit l.symbols.items l.p l.q;
  symbols : All (λ x. x < 2 ^ g.F.Field.bits_of l.f) l.symbols.items;
}
