use Rattle.std.proofs.Common.{ℕ, ◌≡◌, ◌+◌, ◌*◌, ◌<◌, ◌≤◌, ◌-◌, ◌∙◌, length, take, drop, get_or, sym, arith}
use Rattle.linear_theory.specs.Linear.{IsReduced}
use Rattle.linear_theory.proofs.Joined.{lead_is_pivot}
use Rattle.gf_linear.specs.Cells.{cell}
use Rattle.gf_linear.proofs.Steps.{part-row, part-length}
use Rattle.gf_linear.proofs.Sides.{pivots_low, pivots_written, others_zero}
use Rattle.gf_linear.proofs.solutions.read_solution.Goals as goal

pub returns-then-lead-cols-clause-none : goal.returns-then-lead-cols-clause-none
returns-then-lead-cols-clause-none c h =
    let n = length c.args.x.now in
    let wide = n + 1 in
    let t = c.loop-t.t in
    let s = t * wide + wide - t * wide in
    let row = take s (drop (t * wide) c.args.joined.now) in
    let e : s ≡ wide = omega arith in
    let long : length row ≡ s = part-length c.args.rows wide t s c.args.joined.now (omega arith) c.requires.fits e in
    let within : c.lead_of-lead.result ≤ length row = c.lead_of-lead.ensures.within in
    let at : (p : ℕ) → p < wide → get_or row p 0 ≡ cell c.args.joined.now wide t p = λ p l. part-row wide t s c.args.joined.now p e l in
    let lead : c.lead_of-lead.result ≡ h.pivots t =
    lead_is_pivot wide (cell c.args.joined.now wide) c.args.rows c.args.count t c.lead_of-lead.result h c.loop-t-test.true (omega arith)
    (λ p l. sym (at p (omega arith)) ∙ c.lead_of-lead.ensures.before p l) (λ l z. c.lead_of-lead.ensures.found (omega arith) (at c.lead_of-lead.result l ∙ z)) in
    let low : h.pivots t < wide = h.in_range t c.loop-t-test.true in
    (t, c.loop-t-test.true, omega arith)

pub loop-t-preserved : goal.loop-t-preserved
loop-t-preserved c =
    let n = length c.args.x.now in
    let wide = n + 1 in
    let t = c.loop-t.t in
    let s = t * wide + wide - t * wide in
    let row = take s (drop (t * wide) c.args.joined.now) in
    let e : s ≡ wide = omega arith in
    let long : length row ≡ s = part-length c.args.rows wide t s c.args.joined.now (omega arith) c.requires.fits e in
    let within : c.lead_of-lead.result ≤ length row = c.lead_of-lead.ensures.within in
    let at : (p : ℕ) → p < wide → get_or row p 0 ≡ cell c.args.joined.now wide t p = λ p l. part-row wide t s c.args.joined.now p e l in
    let lead : (h : IsReduced wide (cell c.args.joined.now wide) c.args.rows c.args.count) → c.lead_of-lead.result ≡ h.pivots t =
    λ h. lead_is_pivot wide (cell c.args.joined.now wide) c.args.rows c.args.count t c.lead_of-lead.result h c.loop-t-test.true (omega arith)
    (λ p l. sym (at p (omega arith)) ∙ c.lead_of-lead.ensures.before p l) (λ l z. c.lead_of-lead.ensures.found (omega arith) (at c.lead_of-lead.result l ∙ z)) in
    let keep : length c.loop-t.x ≡ n = c.loop-t.auto.x in
    record {
      low = λ h. pivots_low h.pivots n t c.lead_of-lead.result (lead h) c.if-lead-cols.false (c.loop-t.invariant.low h);
      at_pivots = λ h. pivots_written wide c.args.rows c.args.count t c.lead_of-lead.result (get_or row n 0) (cell c.args.joined.now wide) c.loop-t.x h (λ u. cell c.args.joined.now wide u n) c.loop-t-test.true (lead h) (omega arith) (at n (omega arith)) (c.loop-t.invariant.at_pivots h);
      elsewhere = λ h. others_zero h.pivots t c.lead_of-lead.result (get_or row n 0) c.loop-t.x (lead h) (c.loop-t.invariant.elsewhere h);
    }

pub returns-clause-elsewhere : goal.returns-clause-elsewhere
returns-clause-elsewhere c h j d = c.loop-t.invariant.elsewhere h j (λ t l. d t (omega arith))
