use Rattle.std.proofs.Common.{◌≡◌, ◌≤◌, ℕ, length, sym, ◌∙◌, ap, arith, take, List, [], ◌∷◌, ◌++◌}
use Rattle.std.proofs.lemmas.List.{take_all, take_more}
use Rattle.descriptor_code.proofs.described.member_labels.Goals as goal

pub loop-k-preserved : goal.loop-k-preserved
loop-k-preserved g c =
    let n_labels : length c.args.basis.now.labels ≡ c.args.basis.now.n = c.n-n.ensures.sound.sound.shape.n_labels in
    let n_is : c.n-n.result ≡ c.args.basis.now.n = c.n-n.ensures.value in
    c.in_ok-push.ensures.items
    ∙ ap (λ (xs : List ℕ). xs ++ c.label.result ∷ []) c.loop-k.invariant
    ∙ ap (λ (x : ℕ). take c.loop-k.k c.args.basis.now.labels ++ x ∷ []) c.label.ensures.value
    ∙ sym (take_more c.args.basis.now.labels c.loop-k.k 0 (omega (arith, c.loop-k-test.true)))

pub returns : goal.returns
returns g c =
    let n_labels : length c.args.basis.now.labels ≡ c.args.basis.now.n = c.n-n.ensures.sound.sound.shape.n_labels in
    let n_is : c.n-n.result ≡ c.args.basis.now.n = c.n-n.ensures.value in
    let done : c.n-n.result ≤ c.loop-k.k = c.loop-k-test.false in
    c.loop-k.invariant ∙ take_all c.loop-k.k c.args.basis.now.labels (omega arith)
