use Rattle.std.proofs.Common.{ℕ, ◌≡◌, ◌+◌, ◌<◌, ◌∙◌, get_or, sym, ap, subst, arith}
use Rattle.std.proofs.Math.Facts.{Fits-of_lt}
use Rattle.std.proofs.lemmas.List.{get_or_default}
use Rattle.plain_voter.specs.Ballots.{HasVote, IsPolled}
use Rattle.plain_voter.specs.declared.ballot.Poll.{Poll}
use Rattle.plain_voter.proofs.Counts.{tally_fits, count_fits, polled_same, polled_more, polled_row}
use Rattle.plain_voter.proofs.ballot.poll_row.Goals as goal
use Rattle.plain_voter.proofs.ballot.poll_row.Goals.{in-Some, in_default}

pub overflow_add-index_mut : goal.overflow_add-index_mut
overflow_add-index_mut g c =
    let b = c.args.basis.now in
    let tally = c.loop-j.poll.tally.items in
    let v = c.in-Some.v in
    let lj : c.loop-j.j < c.args.basis.now.n = omega (arith, c.n-j-end.ensures.value) in
    let vote : HasVote b c.args.work.now c.args.k c.args.i c.loop-j.j v = c.in-Some.ensures.vote in
    let polled : IsPolled b c.args.work.now c.args.k tally c.loop-j.poll.candidates c.args.i c.loop-j.j = c.loop-j.invariant.polled in
    let small : get_or tally v 0 + 1 < 4294967296 = tally_fits b c.args.work.now c.args.k tally c.loop-j.poll.candidates c.args.i c.loop-j.j v c.n-j-end.ensures.sound c.requires.row lj vote.symbol polled in
    let here : c.index_mut.result.now ≡ get_or tally v 0 = c.index_mut.ensures.value ∙ sym (get_or_default tally v 0 c.index_mut.result.now (omega (arith, vote.symbol, polled.long))) in
    Fits-of_lt (let f : c.index_mut.result.now + 1 < 4294967296 = omega (arith, here, small) in f)

pub overflow_add-poll : goal.overflow_add-poll
overflow_add-poll g c =
    let lj : c.loop-j.j < c.args.basis.now.n = omega (arith, c.n-j-end.ensures.value) in
    let small : c.loop-j.poll.candidates + 1 < 4294967296 =
    count_fits c.args.basis.now c.args.work.now c.args.k c.loop-j.poll.tally.items c.loop-j.poll.candidates c.args.i c.loop-j.j c.n-j-end.ensures.sound c.requires.row lj c.loop-j.invariant.polled in
    Fits-of_lt small

pub loop-j-preserved : goal.loop-j-preserved
loop-j-preserved g c =
    let b = c.args.basis.now in
    let w = c.args.work.now in
    let tally = c.loop-j.poll.tally.items in
    let count = c.loop-j.poll.candidates in
    let polled : IsPolled b w c.args.k tally count c.args.i c.loop-j.j = c.loop-j.invariant.polled in
    record {
      polled = elim c.match-pair_vote.branch [
        | in-Some w' ↦
            let vote : HasVote b w c.args.k c.args.i c.loop-j.j w'.in-Some.v = w'.in-Some.ensures.vote in
            let here : w'.index_mut.result.now ≡ get_or tally w'.in-Some.v 0 = w'.index_mut.ensures.value ∙ sym (get_or_default tally w'.in-Some.v 0 w'.index_mut.result.now (omega (arith, vote.symbol, polled.long))) in
            subst (λ (p : Poll). IsPolled b w c.args.k p.tally.items p.candidates c.args.i (c.loop-j.j + 1)) (sym w'.poll-is)
            (polled_more b w c.args.k tally count c.args.i c.loop-j.j w'.in-Some.v (w'.index_mut.result.now + 1) vote (ap (λ (x : ℕ). x + 1) here) polled)
        | in_default w' ↦
            subst (λ (p : Poll). IsPolled b w c.args.k p.tally.items p.candidates c.args.i (c.loop-j.j + 1)) (sym w'.poll-is)
            (polled_same b w c.args.k tally count c.args.i c.loop-j.j w'.in_default.ensures.vote polled)
      ];
      sheet = c.pair_vote.ensures.sheet;
    }

pub returns-clause-polled : goal.returns-clause-polled
returns-clause-polled g c =
    let end : c.loop-j.j ≡ c.args.basis.now.n = omega (arith, c.n-j-end.ensures.value) in
    polled_row c.args.basis.now c.args.work.now c.args.k c.loop-j.poll.tally.items c.loop-j.poll.candidates c.args.i c.loop-j.j end c.loop-j.invariant.polled
