use Rattle.std.proofs.Common.{ℕ, ◌<◌, ◌≡◌, ◌∙◌, sym, ap, subst, inl, inr, bit_xor}
use Rattle.std.proofs.lemmas.Bool.{both_ways}
use Rattle.gf_theory.specs.Field.{gf_mul}
use Rattle.order_theory.specs.Basis.{times, sum_at, rank_at}
use Rattle.order_theory.specs.Errors.{entry}
use Rattle.vote_core.proofs.RowVoting.{column_inside, pair_next, no_pair, no_candidate, vote_is, lead_fits, shown_entry}
use Rattle.vote_core.proofs.ballot.row_vote.Goals as goal
use Rattle.vote_core.proofs.ballot.row_vote.Goals.{then-j-n-via-then-j-n, then-j-n-via-else-j-n+then-sum_at-sum}

pub candidate-requires-clause-next : goal.candidate-requires-clause-next
candidate-requires-clause-next g c =
    let low : c.reach-j.result < c.args.basis.now.n =
    column_inside c.args.basis.now c.args.matrix.now c.args.k c.n.ensures.sound c.requires.member c.requires.settled c.args.i c.reach-j.result c.requires.row c.reach-j.ensures.reach (λ e. c.if-j-n.false (e ∙ sym c.n.ensures.value)) in
    pair_next c.args.basis.now c.args.matrix.now c.args.k c.args.i c.reach-j.result c.n.ensures.sound c.requires.member c.requires.settled.above c.requires.row low c.reach-j.ensures.reach (sym c.sum_at.ensures.value ∙ c.if-sum_at-sum.false ∙ c.rank_at-sum.ensures.value)

pub returns-then-j-n-clause-vote : goal.returns-then-j-n-clause-vote
returns-then-j-n-clause-vote g c = λ w shown. elim c.then-j-n.branch [
  | then-j-n-via-then-j-n z ↦
      no_pair c.args.basis.now c.args.matrix.now c.args.k c.n.ensures.sound c.requires.member c.requires.settled w c.args.i c.reach-j.result c.requires.row c.reach-j.ensures.reach (inl (z.if-j-n.true ∙ c.n.ensures.value))
  | then-j-n-via-else-j-n+then-sum_at-sum z ↦
      no_pair c.args.basis.now c.args.matrix.now c.args.k c.n.ensures.sound c.requires.member c.requires.settled w c.args.i c.reach-j.result c.requires.row c.reach-j.ensures.reach
      (inr (λ e. z.if-sum_at-sum.true (z.sum_at.ensures.value ∙ e ∙ sym c.rank_at-sum.ensures.value)))
]

pub returns-then-not-candidate-clause-vote : goal.returns-then-not-candidate-clause-vote
returns-then-not-candidate-clause-vote g c = λ w shown.
    let low : c.reach-j.result < c.args.basis.now.n =
    column_inside c.args.basis.now c.args.matrix.now c.args.k c.n.ensures.sound c.requires.member c.requires.settled c.args.i c.reach-j.result c.requires.row c.reach-j.ensures.reach (λ e. c.if-j-n.false (e ∙ sym c.n.ensures.value)) in
    no_candidate c.args.basis.now c.args.matrix.now c.args.k c.n.ensures.sound c.requires.member c.requires.settled w c.args.i c.reach-j.result c.requires.row low c.reach-j.ensures.reach
    (sym c.sum_at.ensures.value ∙ c.if-sum_at-sum.false ∙ c.rank_at-sum.ensures.value)
    (λ p. both_ways c.candidate.result c.if-not-candidate.true ((c.candidate.ensures (entry (times c.args.basis.now) c.args.basis.now w) shown.matrix).1 p))

pub residue-kept-requires-clause-next : goal.residue-kept-requires-clause-next
residue-kept-requires-clause-next g c =
    let low : c.reach-j.result < c.args.basis.now.n =
    column_inside c.args.basis.now c.args.matrix.now c.args.k c.n.ensures.sound c.requires.member c.requires.settled c.args.i c.reach-j.result c.requires.row c.reach-j.ensures.reach (λ e. c.if-j-n.false (e ∙ sym c.n.ensures.value)) in
    pair_next c.args.basis.now c.args.matrix.now c.args.k c.args.i c.reach-j.result c.n.ensures.sound c.requires.member c.requires.settled.above c.requires.row low c.reach-j.ensures.reach (sym c.sum_at.ensures.value ∙ c.if-sum_at-sum.false ∙ c.rank_at-sum.ensures.value)

pub inv-inverse-requires-clause-nonzero : goal.inv-inverse-requires-clause-nonzero
inv-inverse-requires-clause-nonzero g c =
    let low : c.reach-j.result < c.args.basis.now.n =
    column_inside c.args.basis.now c.args.matrix.now c.args.k c.n.ensures.sound c.requires.member c.requires.settled c.args.i c.reach-j.result c.requires.row c.reach-j.ensures.reach (λ e. c.if-j-n.false (e ∙ sym c.n.ensures.value)) in
    let x = lead_fits c.args.basis.now c.args.i c.reach-j.result c.args.k c.n.ensures.sound c.requires.row low c.requires.member (sym c.sum_at.ensures.value ∙ c.if-sum_at-sum.false ∙ c.rank_at-sum.ensures.value) in
    subst (λ (y : ℕ). 0 < y) (sym c.lead.ensures.value) x.1

pub returns-clause-vote : goal.returns-clause-vote
returns-clause-vote g c = λ w shown.
    let low : c.reach-j.result < c.args.basis.now.n =
    column_inside c.args.basis.now c.args.matrix.now c.args.k c.n.ensures.sound c.requires.member c.requires.settled c.args.i c.reach-j.result c.requires.row c.reach-j.ensures.reach (λ e. c.if-j-n.false (e ∙ sym c.n.ensures.value)) in
    let sum : sum_at c.args.basis.now c.args.i c.reach-j.result ≡ rank_at c.args.basis.now c.args.k = sym c.sum_at.ensures.value ∙ c.if-sum_at-sum.false ∙ c.rank_at-sum.ensures.value in
    let candidate = (c.candidate.ensures (entry (times c.args.basis.now) c.args.basis.now w) shown.matrix).0 c.if-not-candidate.false in
    vote_is c.args.basis.now c.args.matrix.now c.args.k c.n.ensures.sound c.requires.member c.requires.settled w c.args.i c.reach-j.result
    (g.F.Field.bits_of c.field-f.result.now) (g.F.Field.modulus_of c.field-f.result.now) c.residue-kept.result c.value_at-entry.result c.inv-inverse.result c.args.known c.add-2.result
    c.requires.row low sum candidate c.field-f.ensures.bits c.field-f.ensures.modulus
    c.residue-kept.ensures.symbol (c.residue-kept.ensures.keeps (entry (times c.args.basis.now) c.args.basis.now w) shown.matrix candidate)
    (shown_entry c.args.basis.now c.args.classes.now w c.args.values.now c.args.matrix.now c.args.k c.args.known c.args.i c.reach-j.result c.value_at-entry.result shown c.requires.row low sum c.value_at-entry.ensures.value)
    c.inv-inverse.ensures.result_element
    (ap (λ (y : ℕ). gf_mul (g.F.Field.bits_of c.field-f.result.now) (g.F.Field.modulus_of c.field-f.result.now) y c.inv-inverse.result) (sym c.lead.ensures.value) ∙ c.inv-inverse.ensures.inverse)
    shown.known_is
    (c.add-2.ensures.sum ∙ ap (λ (y : ℕ). bit_xor y c.args.known) (c.mul.ensures.product ∙ ap (λ (y : ℕ). gf_mul (g.F.Field.bits_of c.field-f.result.now) (g.F.Field.modulus_of c.field-f.result.now) c.inv-inverse.result y) c.add.ensures.sum))
    c.add-2.ensures.element
