use Rattle.std.proofs.Common.{ℕ, ◌≡◌, ◌<◌, ◌^◌, slice_index, All}
use Rattle.gf_theory.specs.Field.{gf_mul}
use Rattle.eval_basis.specs.Lists.{after_takes}
use Rattle.eval_basis.proofs.takes.take_all.Given as goal

abbrev pub invariant-loop-t : goal.invariant-loop-t
invariant-loop-t g l = record {
  symbols : All (λ x. x < 2 ^ g.F.Field.bits_of l.f) l.row;
  so_far : (j : ℕ) → j < l.n →
      slice_index l.row j ≡ after_takes (gf_mul (g.F.Field.bits_of l.f) (g.F.Field.modulus_of l.f)) l.n l.numbers l.factors l.products l.t (slice_index l.fn.row) j;
}
