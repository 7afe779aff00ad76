use Rattle.std.proofs.Common.{◌≡◌, ◌≤◌, ℕ, length, sym, ◌∙◌, ap, arith, take, List, Bool, ◌++◌, ◌∷◌, []}
use Rattle.std.proofs.lemmas.List.{take_all}
use Rattle.block_theory.specs.Marked.{chosen}
use Rattle.descriptor_code.proofs.Lists.{chosen_kept, chosen_left}
use Rattle.descriptor_code.proofs.described.chosen_labels.Goals as goal
use Rattle.descriptor_code.proofs.described.chosen_labels.Goals.{then-holds+in_ok-push, else-holds}

pub loop-k-preserved : goal.loop-k-preserved
loop-k-preserved g c =
    let n_labels : length c.args.basis.now.labels ≡ c.args.basis.now.n = c.n-n.ensures.sound.sound.shape.n_labels in
    let n_is : c.n-n.result ≡ c.args.basis.now.n = c.n-n.ensures.value in
    let n_marks : length c.args.checked.now ≡ c.args.basis.now.n = c.requires in
    elim c.if-holds.branch [
      | then-holds+in_ok-push w ↦
          ap (λ v. v.items) w.labels-is
          ∙ chosen_kept c.args.checked.now c.args.basis.now.labels c.loop-k.k 0 c.loop-k.labels.items w.push.new.self.items (omega (arith, c.loop-k-test.true)) (omega (arith, c.loop-k-test.true))
          (sym c.holds.ensures ∙ w.if-holds.true) c.loop-k.invariant (w.in_ok-push.ensures.items ∙ ap (λ (x : ℕ). c.loop-k.labels.items ++ x ∷ []) w.label.ensures.value)
      | else-holds w ↦
          ap (λ v. v.items) w.labels-is
          ∙ chosen_left c.args.checked.now c.args.basis.now.labels c.loop-k.k 0 c.loop-k.labels.items (omega (arith, c.loop-k-test.true)) (omega (arith, c.loop-k-test.true))
          (sym c.holds.ensures ∙ w.if-holds.false) c.loop-k.invariant
    ]

pub returns : goal.returns
returns g c =
    let n_labels : length c.args.basis.now.labels ≡ c.args.basis.now.n = c.n-n.ensures.sound.sound.shape.n_labels in
    let n_is : c.n-n.result ≡ c.args.basis.now.n = c.n-n.ensures.value in
    let n_marks : length c.args.checked.now ≡ c.args.basis.now.n = c.requires in
    let done : c.n-n.result ≤ c.loop-k.k = c.loop-k-test.false in
    c.loop-k.invariant
    ∙ ap (λ (ms : List Bool). chosen ms (take c.loop-k.k c.args.basis.now.labels)) (take_all c.loop-k.k c.args.checked.now (omega arith))
    ∙ ap (λ (xs : List ℕ). chosen c.args.checked.now xs) (take_all c.loop-k.k c.args.basis.now.labels (omega arith))
