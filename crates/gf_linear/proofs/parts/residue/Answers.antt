use Rattle.std.proofs.Common.{ℕ, ◌≡◌, ◌+◌, ◌*◌, ◌<◌, ◌-◌, ◌∙◌, sym, ap, subst, take, drop, get_or, bit_xor, arith, add-one}
use Rattle.gf_theory.specs.Field.{gf_mul}
use Rattle.gf_linear.specs.Cells.{cell}
use Rattle.gf_linear.specs.Elimination.{residue_of}
use Rattle.gf_linear.proofs.Residues.{residue_lead}
use Rattle.gf_linear.proofs.Steps.{part-row}
use Rattle.gf_linear.proofs.parts.residue.Goals as goal

pub bounds-row-lead : goal.bounds-row-lead
bounds-row-lead g c =
    let cols = c.args.cols in
    let t = c.loop-t.t in
    let h = c.requires.reduced in
    let e : c.lead_of-lead.result ≡ h.pivots t =
    residue_lead c.args.part.now c.args.rows cols c.args.count t (t * cols + cols - t * cols) c.lead_of-lead.result h c.loop-t-test.true c.requires.fits (omega arith)
    c.lead_of-lead.ensures.within c.lead_of-lead.ensures.before c.lead_of-lead.ensures.found in
    let l : h.pivots t < cols = h.in_range t c.loop-t-test.true in
    omega (arith, c.requires.wide)

pub loop-t-preserved : goal.loop-t-preserved
loop-t-preserved g c =
    let f = c.args.f.now in
    let mul : ℕ → ℕ → ℕ = gf_mul (g.F.Field.bits_of f) (g.F.Field.modulus_of f) in
    let cols = c.args.cols in
    let t = c.loop-t.t in
    let s = t * cols + cols - t * cols in
    let wide : s ≡ cols = omega arith in
    let lead = c.lead_of-lead.result in
    record {
      symbol = c.add-sum.ensures.element;
      so_far = λ h.
          let at : lead ≡ h.pivots t =
          residue_lead c.args.part.now c.args.rows cols c.args.count t s lead h c.loop-t-test.true c.requires.fits wide c.lead_of-lead.ensures.within c.lead_of-lead.ensures.before c.lead_of-lead.ensures.found in
          let low : cols - 1 < cols = omega (arith, c.requires.some) in
          subst (λ (n : ℕ). c.add-sum.result ≡ residue_of mul n h.pivots (λ q. get_or c.args.row.now q 0) (cell c.args.part.now cols) (cols - 1)) (sym (add-one t))
          (c.add-sum.ensures.sum ∙ ap (λ x. bit_xor x c.mul.result) (c.loop-t.invariant.so_far h)
          ∙ ap (λ x. bit_xor (residue_of mul t h.pivots (λ q. get_or c.args.row.now q 0) (cell c.args.part.now cols) (cols - 1)) x)
          (c.mul.ensures.product ∙ ap (λ x. mul (get_or c.args.row.now x 0) (get_or (take s (drop (t * cols) c.args.part.now)) (cols - 1) 0)) at
          ∙ ap (λ x. mul (get_or c.args.row.now (h.pivots t) 0) x) (part-row cols t s c.args.part.now (cols - 1) wide low)));
    }
