use Rattle.std.proofs.Common.{◌≡◌, ℕ, ◌+◌, ◌<◌, ◌≤◌, List, length, get_or, sym, ◌∙◌, ap, subst, arith}
use Rattle.gf_linear.specs.Matrix.{row, entry}
use Rattle.parity_space.proofs.Scans.{IsScanned, scanned_pivot, scanned_none, scanned_end}
use Rattle.parity_space.proofs.preparing.pivots_of.Goals as goal
use Rattle.parity_space.proofs.preparing.pivots_of.Goals.{then-t-rows+then-row-j-ne0+in_ok-push, else-t-rows, else-t-rows-via-then-t-rows+else-row-j-ne0, else-t-rows-via-else-t-rows}

pub loop-j-preserved : goal.loop-j-preserved
loop-j-preserved c =
    let e = c.args.e.now in
    let ps = c.loop-j.pivots.items in
    let end : c.cols-j-end.result ≡ e.cols = c.cols-j-end.ensures.cols in
    let test : c.loop-j.j < c.cols-j-end.result = c.loop-j-test.true in
    let within : c.loop-j.j < e.cols = omega arith in
    let rows : c.rows.result ≡ length e.rows = c.rows.ensures.rows in
    let number : c.len-t.result ≡ length ps = omega (arith, c.loop-j.pivots.ok.0) in
    elim c.if-t-rows.branch [
      | then-t-rows+then-row-j-ne0+in_ok-push w ↦
          subst (λ (v : List ℕ). IsScanned e.cols (length e.rows) (entry e) v (c.loop-j.j + 1)) (sym (ap (λ v. v.items) w.pivots-is ∙ w.in_ok-push.ensures.items))
          (scanned_pivot e.cols (length e.rows) (entry e) ps c.loop-j.j within c.loop-j.invariant
          (let less : c.len-t.result < c.rows.result = w.if-t-rows.true in omega arith)
          (λ none. w.if-row-j-ne0.true (ap (λ (r : List ℕ). get_or r c.loop-j.j 0) (w.row.ensures.row ∙ ap (row e) number) ∙ none)))
      | else-t-rows w ↦
          subst (λ (v : List ℕ). IsScanned e.cols (length e.rows) (entry e) v (c.loop-j.j + 1)) (sym (ap (λ v. v.items) w.pivots-is))
          (scanned_none e.cols (length e.rows) (entry e) ps c.loop-j.j within c.loop-j.invariant
          (λ room. elim w.else-t-rows.branch [
            | else-t-rows-via-then-t-rows+else-row-j-ne0 v ↦
                sym (ap (λ (r : List ℕ). get_or r c.loop-j.j 0) (v.row.ensures.row ∙ ap (row e) number)) ∙ v.if-row-j-ne0.false
            | else-t-rows-via-else-t-rows v ↦ (let more : c.rows.result ≤ c.len-t.result = v.if-t-rows.false in absurd (omega arith))
          ]))
    ]

pub returns : goal.returns
returns c =
    let end : c.cols-j-end.result ≡ c.args.e.now.cols = c.cols-j-end.ensures.cols in
    let test : c.cols-j-end.result ≤ c.loop-j.j = c.loop-j-test.false in
    scanned_end c.args.e.now c.loop-j.pivots.items c.loop-j.j (omega arith) c.loop-j.invariant c.requires
