use Rattle.std.proofs.Common.{◌≡◌, ℕ, ◌+◌, ◌<◌, ◌≤◌, List, length, get_or, ◌∙◌, ap, sym, subst, arith}
use Rattle.erase_code.proofs.Marking.{positions-more, positions-same, pushed-below, pushed-few}
use Rattle.erase_code.proofs.marks.positions.Goals as goal
use Rattle.erase_code.proofs.marks.positions.Goals.{then-lost-p+in_ok-push, else-lost-p}

pub loop-p-preserved : goal.loop-p-preserved
loop-p-preserved c =
    let lost = c.args.lost.now in
    let p : ℕ = c.loop-p.p in
    let before : List ℕ = c.loop-p.positions.items in
    let inv = c.loop-p.invariant in
    elim c.if-lost-p.branch [
      | then-lost-p+in_ok-push w ↦
          let pushed : c.if-lost-p.positions.items ≡ _ = ap (λ v. v.items) w.positions-is ∙ w.in_ok-push.ensures.items in
          record {
            positions = pushed ∙ positions-more lost p before w.if-lost-p.true inv.positions;
            within = pushed-below before c.if-lost-p.positions.items p pushed inv.within;
            few = pushed-few before c.if-lost-p.positions.items p pushed inv.few;
          }
      | else-lost-p w ↦
          let same : c.if-lost-p.positions.items ≡ before = ap (λ v. v.items) w.positions-is in
          record {
            positions = same ∙ positions-same lost p before w.if-lost-p.false inv.positions;
            within = λ i l. subst (λ (v : List ℕ). get_or v i 0 < p + 1) (sym same) (let b : get_or before i 0 < p = inv.within i (subst (λ (v : List ℕ). i < length v) same l) in omega arith);
            few = subst (λ (v : List ℕ). length v ≤ p + 1) (sym same) (let b : length before ≤ p = inv.few in omega arith);
          }
    ]
