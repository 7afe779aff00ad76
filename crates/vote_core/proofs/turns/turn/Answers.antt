use Rattle.std.proofs.Common.{ℕ, ◌+◌, ◌<◌, subst, sym, arith}
use Rattle.std.proofs.Math.Facts.{Fits-of_lt}
use Rattle.order_theory.specs.Basis.{rank_at}
use Rattle.product_classes.specs.Values.{AreValues}
use Rattle.vote_core.proofs.Tallies.{votes-le}
use Rattle.vote_core.proofs.Valuing.{values_moved}
use Rattle.vote_core.proofs.turns.turn.Goals as goal

pub overflow_add-sum : goal.overflow_add-sum
overflow_add-sum g c =
    let low : rank_at c.args.basis.now c.args.k < c.args.basis.now.count = c.count.ensures.sound.sound.shape.ranks_below c.args.k c.requires.member in
    let small : c.rank_at-sum.result + 1 < 4294967296 = omega (arith, c.rank_at-sum.ensures.value, c.count.ensures.value, c.count.type_inv) in
    Fits-of_lt small

pub overflow_sub-result : goal.overflow_sub-result
overflow_sub-result g c =
    votes-le c.args.basis.now c.args.list.now c.args.k c.rank_at-sum.ensures.sound c.requires.member c.elect-vote.result.votes c.elect-vote.result.candidates c.elect-vote.result.winner c.elect-vote.ensures.votes c.elect-vote.ensures.candidates

pub returns-clause-turn : goal.returns-clause-turn
returns-clause-turn g c =
    let few = votes-le c.args.basis.now c.args.list.now c.args.k c.rank_at-sum.ensures.sound c.requires.member c.elect-vote.result.votes c.elect-vote.result.candidates c.elect-vote.result.winner c.elect-vote.ensures.votes c.elect-vote.ensures.candidates in
    record {
      winner = c.elect-vote.result.winner;
      elected = c.elect-vote.ensures.elected;
      moved = c.conclude.ensures.moved;
      line_label = c.label.ensures.value;
      line_pairs = c.pairs.ensures.value;
      line_right = c.elect-vote.ensures.votes;
      line_all = omega (arith, few, c.elect-vote.ensures.candidates);
    }

pub returns-clause-values : goal.returns-clause-values
returns-clause-values g c =
    let b = c.args.basis.now in
    let before : AreValues b c.args.classes.now c.args.list.now c.args.values.now c.rank_at-sum.result =
    subst (λ (s : ℕ). AreValues b c.args.classes.now c.args.list.now c.args.values.now s) (sym c.rank_at-sum.ensures.value) c.requires.values in
    let here : AreValues b c.args.classes.now c.args.list.now c.write_sums.new.values (rank_at b c.args.k + 1) =
    subst (λ (s : ℕ). AreValues b c.args.classes.now c.args.list.now c.write_sums.new.values (s + 1)) c.rank_at-sum.ensures.value (c.write_sums.ensures.values before) in
    values_moved b c.args.classes.now c.args.list.now c.conclude.new.list c.write_sums.new.values c.args.k c.elect-vote.result.winner c.rank_at-sum.ensures.sound c.requires.word c.conclude.ensures.word c.requires.member c.elect-vote.ensures.elected.symbol c.conclude.ensures.moved here
