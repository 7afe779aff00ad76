use Rattle.std.proofs.Common.{ℕ, ◌≡◌, ◌+◌, ◌*◌, ◌-◌, ◌≤◌, ◌∙◌, length, take, drop, ap, subst, inl, inr, arith}
use Rattle.std.proofs.lemmas.Bool.{cases_lt}
use Rattle.std.proofs.lemmas.List.{length-take-le, length-drop}
use borrow.Rule.Slice.PartMut.{put_mid}
use Rattle.linear_theory.proofs.Tables.{row-put_mid_same, row-put_mid_other}
use Rattle.ag_pool.proofs.Bands.{row_of_part}
use Rattle.ag_pool.proofs.rows.act_on_part.Goals as goal

pub loop-q-preserved : goal.loop-q-preserved
loop-q-preserved g c =
    let cols = c.args.cols in
    let q = c.loop-q.q in
    let k = q * cols + cols - q * cols in
    let xs = c.loop-q.part in
    let ys = c.act.new.row in
    let wide : k ≡ cols = omega arith in
    let keep : length xs ≡ length c.args.part.now = c.loop-q.auto.part in
    let room : q * cols + cols ≤ length xs = rw keep (row_of_part (length c.args.part.now) cols q c.requires.some c.loop-q-test.true) in
    let long : length (take k (drop (q * cols) xs)) ≡ k = length-take-le k (drop (q * cols) xs) (rw length-drop (omega arith)) in
    let fit : length ys ≡ k = c.act.auto.row ∙ long in
    record {
      done = λ i l. elim (cases_lt i q) [
        | inl u ↦ row-put_mid_other cols q k i xs ys wide (omega arith) room fit ∙ c.loop-q.invariant.done i u
        | inr u ↦
            let e : q ≡ i = omega arith in
            subst (λ (n : ℕ). take cols (drop (n * cols) (put_mid (q * cols) k xs ys)) ≡ g.W.RowWork.after c.args.work.now (c.args.first + n) (take cols (drop (n * cols) c.args.part.now))) e
            (row-put_mid_same cols q k xs ys wide room fit ∙ c.act.ensures
            ∙ ap (λ w. g.W.RowWork.after c.args.work.now (c.args.first + q) w) (ap (λ (n : ℕ). take n (drop (q * cols) xs)) wide ∙ c.loop-q.invariant.rest q (omega arith)))
      ];
      rest = λ i l. row-put_mid_other cols q k i xs ys wide (omega arith) room fit ∙ c.loop-q.invariant.rest i (omega arith);
    }
