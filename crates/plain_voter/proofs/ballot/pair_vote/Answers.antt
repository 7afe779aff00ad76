use Rattle.std.proofs.Common.{ℕ, ◌≡◌, ◌<◌, true, List, get_or, sym, ◌∙◌, ap, subst, bit_xor}
use Rattle.gf_theory.specs.Field.{gf_mul}
use Rattle.counting_theory.specs.Ranks.{candidate}
use Rattle.gf_linear.specs.Matrix.{Matrix}
use Rattle.plain_voter.specs.Sheets.{IsTableOf, table_rank}
use Rattle.plain_voter.proofs.Grids.{candidate_agrees, candidate_is, lead_fits, vote_is}
use Rattle.plain_voter.proofs.ballot.pair_vote.Goals as goal

pub returns-then-not-is_candidate-clause-vote : goal.returns-then-not-is_candidate-clause-vote
returns-then-not-is_candidate-clause-vote g c = record {
  none = λ s.
      sym (candidate_agrees c.args.basis.now c.args.work.now c.args.sheet.now.table c.sum_at.ensures.sound c.requires.sheet.table (g.F.Field.bits_of c.field-f.result.now) (g.F.Field.modulus_of c.field-f.result.now) c.field-f.ensures.bits c.field-f.ensures.modulus c.args.i c.args.j c.requires.row c.requires.column)
      ∙ sym c.is_candidate.ensures.value ∙ c.if-not-is_candidate.true;
}

pub part_residue-kept-requires-clause-candidate : goal.part_residue-kept-requires-clause-candidate
part_residue-kept-requires-clause-candidate g c =
    candidate_is (g.F.Field.bits_of c.field-f.result.now) (g.F.Field.modulus_of c.field-f.result.now) c.is_candidate.new.sheet.table c.args.i c.args.j
    (subst (λ (v : Matrix). candidate (table_rank (g.F.Field.bits_of c.field-f.result.now) (g.F.Field.modulus_of c.field-f.result.now) v) c.args.i c.args.j ≡ true) (sym c.is_candidate.ensures.same) (sym c.is_candidate.ensures.value ∙ c.if-not-is_candidate.false))

pub inv-inverse-requires-clause-nonzero : goal.inv-inverse-requires-clause-nonzero
inv-inverse-requires-clause-nonzero g c =
    let s = sym c.sum_at.ensures.value ∙ c.if-sum_at-rank_at.false ∙ c.rank_at.ensures.value in
    let x = lead_fits c.args.basis.now c.args.i c.args.j c.args.k c.sum_at.ensures.sound c.requires.row c.requires.column c.requires.member s in
    subst (λ (y : ℕ). 0 < y) (sym c.lead.ensures.value) x.1

pub returns-clause-vote : goal.returns-clause-vote
returns-clause-vote g c =
    let b = c.args.basis.now in
    let bits = g.F.Field.bits_of c.field-f.result.now in
    let modulus = g.F.Field.modulus_of c.field-f.result.now in
    let m = c.is_candidate.new.sheet.table in
    let table : IsTableOf b c.args.work.now m b.n = subst (λ (v : Matrix). IsTableOf b c.args.work.now v b.n) (sym c.is_candidate.ensures.same) c.requires.sheet.table in
    let tested : candidate (table_rank bits modulus m) c.args.i c.args.j ≡ true =
    subst (λ (v : Matrix). candidate (table_rank bits modulus v) c.args.i c.args.j ≡ true) (sym c.is_candidate.ensures.same) (sym c.is_candidate.ensures.value ∙ c.if-not-is_candidate.false) in
    vote_is b c.args.work.now m c.sum_at.ensures.sound table bits modulus c.field-f.ensures.bits c.field-f.ensures.modulus
    c.args.k c.args.i c.args.j c.part_residue-kept.result (get_or c.row.result.now c.args.j 0) c.inv-inverse.result c.syndrome-known.result c.add-2.result
    c.requires.member c.requires.row c.requires.column (sym c.sum_at.ensures.value ∙ c.if-sum_at-rank_at.false ∙ c.rank_at.ensures.value) tested
    c.part_residue-kept.ensures.symbol c.part_residue-kept.ensures.keeps (ap (λ (xs : List ℕ). get_or xs c.args.j 0) c.row.ensures.row) c.inv-inverse.ensures.result_element
    (ap (λ (y : ℕ). gf_mul bits modulus y c.inv-inverse.result) (sym c.lead.ensures.value) ∙ c.inv-inverse.ensures.inverse)
    c.syndrome-known.ensures.value
    (c.add-2.ensures.sum ∙ ap (λ (y : ℕ). bit_xor y c.syndrome-known.result) (c.mul.ensures.product ∙ ap (λ (y : ℕ). gf_mul bits modulus c.inv-inverse.result y) c.add.ensures.sum))
    c.add-2.ensures.element
