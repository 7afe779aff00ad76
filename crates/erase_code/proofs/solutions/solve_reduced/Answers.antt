use Rattle.std.proofs.Common.{ℕ, ◌≡◌, ◌+◌, ◌-◌, ◌<◌, true, sym, subst, arith}
use Rattle.solution_theory.proofs.Scanning.{IsScan, scan_lead, scan_other, end_lead, end_no_lead, end_all, end_gap}
use Rattle.erase_code.proofs.solutions.solve_reduced.Goals as goal
use Rattle.erase_code.proofs.solutions.solve_reduced.Goals.{then-is_lead, else-is_lead}

pub loop-j-preserved : goal.loop-j-preserved
loop-j-preserved c k h =
    let j = c.loop-j.j in
    let width : c.cols-width.result ≡ c.args.e.now.cols = c.cols-width.ensures.cols in
    let test : j < c.cols-width.result - 1 = c.loop-j-test.true in
    let within : j < c.args.e.now.cols = omega arith in
    elim c.if-is_lead.branch [
      | then-is_lead w ↦
          subst (λ (v : ℕ). IsScan k h.pivots (j + 1) v c.if-is_lead.start) (sym w.pivots-is)
          (subst (λ (v : ℕ). IsScan k h.pivots (j + 1) (c.loop-j.pivots + 1) v) (sym w.start-is)
          (scan_lead h j c.loop-j.pivots c.loop-j.start within (c.loop-j.invariant k h) (c.is_lead.ensures.0 w.if-is_lead.true)))
      | else-is_lead w ↦
          subst (λ (v : ℕ). IsScan k h.pivots (j + 1) v c.if-is_lead.start) (sym w.pivots-is)
          (subst (λ (v : ℕ). IsScan k h.pivots (j + 1) c.loop-j.pivots v) (sym w.start-is)
          (scan_other h j c.loop-j.pivots c.loop-j.start within (c.loop-j.invariant k h)
          (λ both. let yes : c.is_lead.result ≡ true = c.is_lead.ensures.1 both in let not = w.if-is_lead.false in absurd (cc))))
    ]

pub returns-then-is_lead-2 : goal.returns-then-is_lead-2
returns-then-is_lead-2 c k h =
    end_lead h c.loop-j.j c.loop-j.pivots c.loop-j.start c.cols-width.result c.requires c.cols-width.ensures.cols c.loop-j.auto.j-end c.loop-j-test.false (c.loop-j.invariant k h)
    (c.is_lead-2.ensures.0 c.if-is_lead-2.true)

pub returns-then-start-eq0 : goal.returns-then-start-eq0
returns-then-start-eq0 c k h = (
  end_no_lead h c.loop-j.j c.loop-j.pivots c.loop-j.start c.cols-width.result c.requires c.cols-width.ensures.cols c.loop-j.auto.j-end c.loop-j-test.false (c.loop-j.invariant k h)
      (λ both. let yes : c.is_lead-2.result ≡ true = c.is_lead-2.ensures.1 both in let not = c.if-is_lead-2.false in absurd (cc)),
  end_all h c.loop-j.j c.loop-j.pivots c.loop-j.start c.cols-width.result c.requires c.cols-width.ensures.cols c.loop-j.auto.j-end c.loop-j-test.false (c.loop-j.invariant k h) c.if-start-eq0.true,
)

pub returns : goal.returns
returns c k h =
    let gap = end_gap h c.loop-j.j c.loop-j.pivots c.loop-j.start c.cols-width.result c.requires c.cols-width.ensures.cols c.loop-j.auto.j-end c.loop-j-test.false (c.loop-j.invariant k h) c.if-start-eq0.false in (
      end_no_lead h c.loop-j.j c.loop-j.pivots c.loop-j.start c.cols-width.result c.requires c.cols-width.ensures.cols c.loop-j.auto.j-end c.loop-j-test.false (c.loop-j.invariant k h)
          (λ both. let yes : c.is_lead-2.result ≡ true = c.is_lead-2.ensures.1 both in let not = c.if-is_lead-2.false in absurd (cc)),
      gap.0,
      gap.1,
      gap.2,
    )
