use Rattle.std.proofs.Common.{ℕ, ◌≡◌, ◌+◌, ◌*◌, ◌<◌, ◌≤◌, ◌-◌, ◌∙◌, Bool, true, false, List, length, take, drop, slice_index, subst, arith}
use Rattle.std.proofs.lemmas.List.{length-take-le, length-drop}
use Rattle.gf_theory.specs.Field.{gf_mul, IsModulus}
use Rattle.linear_theory.proofs.Tables.{row_end}
use Rattle.gf_linear.proofs.Steps.{part-row}
use Rattle.eval_basis.specs.Lists.{AreTakes, IsSettled, lists_after}
use Rattle.eval_basis.specs.Found.{AreSoFar}
use Rattle.eval_basis.proofs.AfterTakes.{row_copied}
use Rattle.eval_basis.proofs.Waiting.{after_last}
use Rattle.eval_basis.proofs.Judging.{IsJudged, judged_new, judged_old, judged_full}
use Rattle.eval_basis.proofs.members.judge.Goals as goal
use Rattle.eval_basis.proofs.members.judge.Goals.{then-len-n+in_ok-step+then-branch+in_ok-push+in_ok-extend_from_slice, then-len-n+in_ok-step+else-branch, else-len-n}

pub loop-b-preserved : goal.loop-b-preserved
loop-b-preserved g c =
    let b = g.F.Field.bits_of c.args.f.now in
    let m = g.F.Field.modulus_of c.args.f.now in
    let d = g.D.OrderDomain.domain c.args.dom.now in
    let points = c.args.points.now in
    let n = length points in
    let q = c.loop-b.b in
    let k = q * n + n - q * n in
    let band = c.args.band.now in
    let values = c.args.values.now in
    let products = c.args.products.now in
    let ns = c.loop-b.takes.numbers.items in
    let fs = c.loop-b.takes.factors.items in
    let t = c.loop-b.takes.products.items in
    let own : List ℕ = take k (drop (q * n) values) in
    let wide : k ≡ n = omega arith in
    let room : q * n + n ≤ length values = row_end (length band) n q (length values) c.loop-b-test.true c.requires.n_values in
    let n_own : length own ≡ n = length-take-le k (drop (q * n) values) (rw length-drop (omega arith)) ∙ wide in
    let modular : IsModulus d.bits m = subst (λ (x : ℕ). IsModulus x m) c.requires.bits c.bits.ensures.field in
    elim c.if-len-n.branch [
      | then-len-n+in_ok-step+then-branch+in_ok-push+in_ok-extend_from_slice w ↦
          let row = w.take_all.new.row in
          let n_room : length w.copy_from_slice.new.self ≡ n = w.copy_from_slice.auto.self ∙ c.loop-b.auto.room ∙ c.requires.room in
          let n_row : length row ≡ n = w.take_all.auto.row ∙ n_room in
          let settled : IsSettled b m (length row) w.len-then-len-n.result row c.loop-b.order ns fs t c.loop-b.used w.step.new.order w.step.new.takes.numbers.items w.step.new.takes.factors.items w.step.new.takes.products.items w.step.new.used true =
          subst (λ (x : Bool). IsSettled b m (length row) w.len-then-len-n.result row c.loop-b.order ns fs t c.loop-b.used w.step.new.order w.step.new.takes.numbers.items w.step.new.takes.factors.items w.step.new.takes.products.items w.step.new.used x) w.if-branch.true w.in_ok-step.ensures.settled in
          let judged : IsJudged d m points w.len-then-len-n.result q band values products row c.loop-b.order ns fs t w.step.new.order w.step.new.takes.numbers.items w.step.new.takes.factors.items w.step.new.takes.products.items c.loop-b.used w.step.new.used true b =
          record {
            at = c.loop-b-test.true;
            below = c.requires.below q c.loop-b-test.true;
            values_are = λ p l. c.requires.values q p c.loop-b-test.true l;
            takes = c.loop-b.invariant.takes;
            row_is = row_copied (gf_mul b m) b n q k products w.copy_from_slice.new.self row ns fs t w.deref.result.now w.deref-then-len-n.result.now w.deref-then-len-n-2.result.now wide n_room w.copy_from_slice.ensures.after
                w.deref.ensures.value w.deref-then-len-n.ensures.value w.deref-then-len-n-2.ensures.value c.loop-b.invariant.takes w.take_all.ensures.value;
            settled = subst (λ (s : ℕ). IsSettled b m s w.len-then-len-n.result row c.loop-b.order ns fs t c.loop-b.used w.step.new.order w.step.new.takes.numbers.items w.step.new.takes.factors.items w.step.new.takes.products.items w.step.new.used true) n_row settled;
          } in
          rw (w.ranks-is, w.vectors-is, w.old-is, w.order-is, w.used-is, w.takes-is) (record {
            numbers = λ i l. subst (λ (s : ℕ). slice_index w.step.new.order i < s) n_row (w.in_ok-step.ensures.numbers i (subst (λ (s : ℕ). i < s) w.step.auto.order l));
            takes = subst (λ (s : ℕ). AreTakes b s w.step.new.takes.numbers.items w.step.new.takes.factors.items w.step.new.takes.products.items) n_row w.in_ok-step.ensures.takes;
            so_far = λ symbols stop pending first.
                judged_new d m points c.bits-2.ensures.lawful modular c.requires.points w.len-then-len-n.result q stop band values products symbols row c.loop-b.order ns fs t w.step.new.order w.step.new.takes.numbers.items w.step.new.takes.factors.items w.step.new.takes.products.items c.loop-b.used w.step.new.used
                b own c.loop-b.ranks.items c.loop-b.vectors.items w.push.new.self.items w.extend_from_slice.new.self.items c.loop-b.old c.requires.bits judged pending
                (omega arith) (omega arith) n_own (λ p l. part-row n q k values p wide l) w.in_ok-push.ensures.items w.in_ok-extend_from_slice.ensures.items
                (c.loop-b.invariant.so_far symbols stop pending first);
          })
      | then-len-n+in_ok-step+else-branch w ↦
          let row = w.take_all.new.row in
          let n_room : length w.copy_from_slice.new.self ≡ n = w.copy_from_slice.auto.self ∙ c.loop-b.auto.room ∙ c.requires.room in
          let n_row : length row ≡ n = w.take_all.auto.row ∙ n_room in
          let settled : IsSettled b m (length row) w.len-then-len-n.result row c.loop-b.order ns fs t c.loop-b.used w.step.new.order w.step.new.takes.numbers.items w.step.new.takes.factors.items w.step.new.takes.products.items w.step.new.used false =
          subst (λ (x : Bool). IsSettled b m (length row) w.len-then-len-n.result row c.loop-b.order ns fs t c.loop-b.used w.step.new.order w.step.new.takes.numbers.items w.step.new.takes.factors.items w.step.new.takes.products.items w.step.new.used x) w.if-branch.false w.in_ok-step.ensures.settled in
          let judged : IsJudged d m points w.len-then-len-n.result q band values products row c.loop-b.order ns fs t w.step.new.order w.step.new.takes.numbers.items w.step.new.takes.factors.items w.step.new.takes.products.items c.loop-b.used w.step.new.used false b =
          record {
            at = c.loop-b-test.true;
            below = c.requires.below q c.loop-b-test.true;
            values_are = λ p l. c.requires.values q p c.loop-b-test.true l;
            takes = c.loop-b.invariant.takes;
            row_is = row_copied (gf_mul b m) b n q k products w.copy_from_slice.new.self row ns fs t w.deref.result.now w.deref-then-len-n.result.now w.deref-then-len-n-2.result.now wide n_room w.copy_from_slice.ensures.after
                w.deref.ensures.value w.deref-then-len-n.ensures.value w.deref-then-len-n-2.ensures.value c.loop-b.invariant.takes w.take_all.ensures.value;
            settled = subst (λ (s : ℕ). IsSettled b m s w.len-then-len-n.result row c.loop-b.order ns fs t c.loop-b.used w.step.new.order w.step.new.takes.numbers.items w.step.new.takes.factors.items w.step.new.takes.products.items w.step.new.used false) n_row settled;
          } in
          rw (w.ranks-is, w.vectors-is, w.old-is, w.order-is, w.used-is, w.takes-is) (record {
            numbers = λ i l. subst (λ (s : ℕ). slice_index w.step.new.order i < s) n_row (w.in_ok-step.ensures.numbers i (subst (λ (s : ℕ). i < s) w.step.auto.order l));
            takes = subst (λ (s : ℕ). AreTakes b s w.step.new.takes.numbers.items w.step.new.takes.factors.items w.step.new.takes.products.items) n_row w.in_ok-step.ensures.takes;
            so_far = λ symbols stop pending first.
                judged_old d m points c.bits-2.ensures.lawful modular c.requires.points w.len-then-len-n.result q stop band values products symbols row c.loop-b.order ns fs t w.step.new.order w.step.new.takes.numbers.items w.step.new.takes.factors.items w.step.new.takes.products.items c.loop-b.used w.step.new.used
                b own c.loop-b.ranks.items c.loop-b.vectors.items c.loop-b.old w.mark_sums.new.old c.requires.bits judged pending
                (omega arith) (λ p l. part-row n q k values p wide l) (record { marked_now = w.mark_sums.ensures; long = w.mark_sums.auto.old })
                (c.loop-b.invariant.so_far symbols stop pending first);
          })
      | else-len-n w ↦
          rw (w.ranks-is, w.vectors-is, w.old-is, w.order-is, w.used-is, w.takes-is) (record {
            numbers = c.loop-b.invariant.numbers;
            takes = c.loop-b.invariant.takes;
            so_far = λ symbols stop pending first.
                judged_full d m points c.bits-2.ensures.lawful modular c.requires.points q stop band values products symbols (lists_after (gf_mul b m) n ns fs t symbols) c.loop-b.order c.loop-b.ranks.items c.loop-b.vectors.items c.loop-b.used c.loop-b.old
                pending c.loop-b-test.true (omega arith) (c.loop-b.invariant.so_far symbols stop pending first);
          })
    ]

pub returns-clause-so_far : goal.returns-clause-so_far
returns-clause-so_far g c = λ symbols stop pending first.
    subst (λ (s : ℕ). AreSoFar (g.D.OrderDomain.domain c.args.dom.now) (g.F.Field.modulus_of c.args.f.now) c.args.points.now s c.loop-b.ranks.items c.loop-b.vectors.items
    (lists_after (gf_mul (g.F.Field.bits_of c.args.f.now) (g.F.Field.modulus_of c.args.f.now)) (length c.args.points.now) c.loop-b.takes.numbers.items c.loop-b.takes.factors.items c.loop-b.takes.products.items symbols) c.loop-b.order c.loop-b.used c.loop-b.old)
    (after_last c.args.band.now c.loop-b.b stop (omega arith))
    (c.loop-b.invariant.so_far symbols stop pending first)
