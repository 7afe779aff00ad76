use Rattle.std.proofs.Common.{◌≡◌, ◌+◌, ◌*◌, ◌<◌, ◌^◌, slice_index}
use Rattle.gf_theory.specs.Field.{gf_mul}
use Rattle.vote_matrix.specs.Lines.{line_kept}
use Rattle.vote_matrix.proofs.tables.kept_entry.Given as goal

abbrev pub invariant-loop-t : goal.invariant-loop-t
invariant-loop-t g l = record {
  symbol : l.sum < 2 ^ g.F.Field.bits_of l.f;
  so_far : l.sum ≡ line_kept (gf_mul (g.F.Field.bits_of l.f) (g.F.Field.modulus_of l.f)) l.stride l.t (λ t. slice_index l.fn.factors (l.i * l.most + t)) l.reduced l.j;
}
