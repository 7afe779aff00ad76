use Rattle.std.proofs.Common.{ℕ, ◌≡◌, ◌<◌, ◌≤◌, ◌^◌, ◌∙◌, List, length, sym, ap, subst, arith}
use Rattle.std.proofs.Math.Facts.{Fits-of_lt}
use Rattle.std.proofs.Math.Pow.{pow_mono}
use Rattle.std.specs.List.{IsFirstMaxByKey}
use Rattle.std.proofs.lemmas.List.{get_or_default}
use Rattle.plain_voter.proofs.Counts.{elected, all_counted}
use Rattle.plain_voter.proofs.ballot.elect.Goals as goal

pub returns-clause-elected : goal.returns-clause-elected
returns-clause-elected g c =
    let tally = c.in_ok-poll.poll.tally.items in
    let first : IsFirstMaxByKey (λ x. x) tally (length tally) c.first_most-winner.result =
    subst (λ (xs : List ℕ). IsFirstMaxByKey (λ x. x) xs (length xs) c.first_most-winner.result) c.deref.ensures.value c.first_most-winner.ensures in
    (elected c.args.basis.now c.args.work.now c.args.k tally c.in_ok-poll.poll.candidates c.first_most-winner.result c.in_ok-poll.ensures first).0

pub returns-clause-votes : goal.returns-clause-votes
returns-clause-votes g c =
    let tally = c.in_ok-poll.poll.tally.items in
    let first : IsFirstMaxByKey (λ x. x) tally (length tally) c.first_most-winner.result =
    subst (λ (xs : List ℕ). IsFirstMaxByKey (λ x. x) xs (length xs) c.first_most-winner.result) c.deref.ensures.value c.first_most-winner.ensures in
    c.index.ensures ∙ sym (get_or_default tally c.first_most-winner.result 0 c.index.result.now first.0)
    ∙ (elected c.args.basis.now c.args.work.now c.args.k tally c.in_ok-poll.poll.candidates c.first_most-winner.result c.in_ok-poll.ensures first).1

pub returns-clause-candidates : goal.returns-clause-candidates
returns-clause-candidates g c = all_counted c.args.basis.now c.args.work.now c.args.k c.in_ok-poll.poll.tally.items c.in_ok-poll.poll.candidates c.in_ok-poll.ensures

pub overflow_cast-result : goal.overflow_cast-result
overflow_cast-result g c =
    let small : 2 ^ c.args.basis.now.bits ≤ 2 ^ 8 = pow_mono c.n.ensures.sound.modulus.at_most_eight in
    let long : length c.deref.result.now ≡ 2 ^ c.args.basis.now.bits = ap length c.deref.ensures.value ∙ c.in_ok-poll.ensures.long in
    let low : c.first_most-winner.result < length c.deref.result.now = c.first_most-winner.ensures.0 in
    let lt : c.first_most-winner.result < 2 ^ 8 = omega arith in
    Fits-of_lt lt
