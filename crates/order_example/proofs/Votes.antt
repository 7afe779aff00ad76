-- The votes of two errors on the basis of the small curve, computed from their definitions
use Rattle.std.proofs.Common.{refl}
use Rattle.field_theory.specs.Sums.{count_pairs}
use Rattle.linear_theory.specs.Linear.{rank, in_span}
use Rattle.gf_theory.specs.Polynomial.{clmul, clmul_steps}
use Rattle.gf_theory.specs.Field.{gf_mul, gf_rem, rem_steps, reduce}
use Rattle.counting_theory.specs.Ranks.{candidate, right, wrong}
use Rattle.counting_theory.specs.Votes.{right_votes, wrong_votes}
use Rattle.order_example.specs.SmallCurve.{SmallVotes, OtherVotes}

pub small_votes : SmallVotes
unfolding right_votes wrong_votes count_pairs candidate right wrong rank in_span gf_mul gf_rem rem_steps reduce clmul clmul_steps
small_votes = record {
  at_six = record { label_is = refl; pairs_are = refl; right_is = refl; wrong_is = refl };
  at_seven = record { label_is = refl; pairs_are = refl; right_is = refl; wrong_is = refl };
  at_nine = record { label_is = refl; pairs_are = refl; right_is = refl; wrong_is = refl };
}

pub other_votes : OtherVotes
unfolding right_votes wrong_votes count_pairs candidate right wrong rank in_span gf_mul gf_rem rem_steps reduce clmul clmul_steps
other_votes = record {
  at_six = record { label_is = refl; pairs_are = refl; right_is = refl; wrong_is = refl };
  at_seven = record { label_is = refl; pairs_are = refl; right_is = refl; wrong_is = refl };
  at_nine = record { label_is = refl; pairs_are = refl; right_is = refl; wrong_is = refl };
}
