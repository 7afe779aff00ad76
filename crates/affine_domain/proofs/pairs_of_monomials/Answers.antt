use Rattle.std.proofs.Common.{◌^◌}
use Rattle.counting_theory.specs.Votes.{pairs}
use Rattle.theory_affine.specs.Order.{is_pair, pairs as pairs_of_indices}
use Rattle.theory_affine.proofs.Places.{has_places}
use Rattle.theory_affine.proofs.Pairs.{number_of_pairs}
use Rattle.affine_domain.proofs.pairs_of_monomials.Goals as goal

pub returns : goal.returns
unfolding pairs is_pair pairs_of_indices
returns c = λ bits vars s space l. number_of_pairs (2 ^ bits) vars (has_places vars space.vars_least space.vars_most) s l
