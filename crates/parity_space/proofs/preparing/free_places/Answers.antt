use Rattle.std.proofs.Common.{◌≡◌, ℕ, ◌+◌, ◌<◌, ◌≤◌, List, length, ◌-◌, sym, ◌∙◌, ap, subst, arith}
use Rattle.parity_space.proofs.Scans.{IsMerged, listed_within, listed_rise, merged_start, merged_pivot, merged_free, merged_end}
use Rattle.parity_space.proofs.preparing.free_places.Goals as goal
use Rattle.parity_space.proofs.preparing.free_places.Goals.{then-left-gt0+then-pivots-left, else-left-gt0+in_ok-push, else-left-gt0-via-then-left-gt0+else-pivots-left, else-left-gt0-via-else-left-gt0}

pub loop-p-preserved : goal.loop-p-preserved
loop-p-preserved c =
    let n = c.args.e.now.cols in
    let width : c.cols-n.result ≡ n = c.cols-n.ensures.cols in
    let within : c.loop-p.p < n = subst (λ (k : ℕ). c.loop-p.p < k) width c.loop-p-test.true in
    let mirror : c.cols-n.result - 1 - c.loop-p.p ≡ n - 1 - c.loop-p.p = ap (λ (k : ℕ). k - 1 - c.loop-p.p) width in
    let ps = c.args.pivots.now in
    let at : List ℕ → ℕ → Type 0 = λ places left. IsMerged n ps places (c.loop-p.p + 1) left in
    elim c.if-left-gt0.branch [
      | then-left-gt0+then-pivots-left w ↦
          subst (λ (k : ℕ). at c.if-left-gt0.places.items k) (sym w.left-is)
          (subst (λ (v : List ℕ). at v (c.loop-p.left - 1)) (sym (ap (λ v. v.items) w.places-is))
          (merged_pivot n ps c.loop-p.places.items c.loop-p.p c.loop-p.left (listed_rise c.args.e.now ps c.requires) c.loop-p.invariant within w.if-left-gt0.true (w.if-pivots-left.true ∙ mirror)))
      | else-left-gt0+in_ok-push w ↦
          subst (λ (k : ℕ). at c.if-left-gt0.places.items k) (sym w.left-is)
          (subst (λ (v : List ℕ). at v c.loop-p.left) (sym (ap (λ v. v.items) w.places-is ∙ w.in_ok-push.ensures.items))
          (merged_free n ps c.loop-p.places.items c.loop-p.p c.loop-p.left (listed_rise c.args.e.now ps c.requires) c.loop-p.invariant within
          (λ some. elim w.else-left-gt0.branch [
            | else-left-gt0-via-then-left-gt0+else-pivots-left v ↦ λ e. v.if-pivots-left.false (e ∙ sym mirror)
            | else-left-gt0-via-else-left-gt0 v ↦ absurd (omega arith)
          ])))
    ]

pub loop-p-init : goal.loop-p-init
loop-p-init c =
    let n = c.args.e.now.cols in
    let ps = c.args.pivots.now in
    subst (λ (v : List ℕ). IsMerged n ps v 0 (length ps)) (sym c.new-places.ensures.items) (merged_start n ps (listed_within c.args.e.now ps c.requires))

ended : (n m p : ℕ) → m ≡ n → m ≤ p → p ≤ m → p ≡ n
ended n m p e a b = omega arith

pub returns-clause-places : goal.returns-clause-places
returns-clause-places c =
    let n = c.args.e.now.cols in
    (merged_end n c.args.pivots.now c.loop-p.places.items c.loop-p.p c.loop-p.left (ended n c.cols-n.result c.loop-p.p c.cols-n.ensures.cols c.loop-p-test.false c.loop-p.auto.p-end) c.loop-p.invariant).0

pub returns-clause-count : goal.returns-clause-count
returns-clause-count c =
    let n = c.args.e.now.cols in
    (merged_end n c.args.pivots.now c.loop-p.places.items c.loop-p.p c.loop-p.left (ended n c.cols-n.result c.loop-p.p c.cols-n.ensures.cols c.loop-p-test.false c.loop-p.auto.p-end) c.loop-p.invariant).1
