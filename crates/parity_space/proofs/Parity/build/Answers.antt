use Rattle.std.proofs.Common.{◌≡◌, ℕ, ◌+◌, ◌-◌, ◌<◌, ◌≤◌, ◌↔◌, List, length, drop, count_by, slice_index, refl, sym, ◌∙◌, ap, subst, arith}
use Rattle.gf_linear.specs.Matrix.{row}
use Rattle.order_theory.specs.Basis.{times}
use Rattle.order_theory.specs.Codes.{IsCodeword}
use Rattle.block_theory.specs.Checks.{ParityChecks, message_places, IsInCode}
use Rattle.block_theory.proofs.Forms.{code_law, members_law}
use Rattle.parity_space.specs.Forms.{free_places, IsUnitWord}
use Rattle.parity_space.proofs.Building.{mirror_symbols, built, checks_are}
use Rattle.parity_space.proofs.Parity.build.Goals as goal

pub echelon-requires : goal.echelon-requires
echelon-requires g c = record {
  symbols =
      mirror_symbols c.args.basis.now.bits c.args.basis.now.n (g.F.Field.bits_of c.field.result.now) c.field.ensures.bits c.in_ok-vectors.vectors c.in_ok-mirror.mirror
      c.in_ok-vectors.ensures.words c.in_ok-mirror.ensures;
}

pub tails_of-requires-clause-few : goal.tails_of-requires-clause-few
tails_of-requires-clause-few g c =
    let few : c.args.basis.now.n ≤ 1024 = c.n-n.ensures.sound.sound.shape.few_members in
    let width : c.in_ok-reduced.reduced.cols ≡ c.args.basis.now.n = c.in_ok-reduced.ensures.same_cols ∙ c.in_ok-mirror.ensures.cols ∙ c.in_ok-vectors.ensures.cols in
    let count : length c.in_ok-places.places.items + length c.deref.result.now ≡ c.in_ok-reduced.reduced.cols = c.in_ok-places.ensures.count in
    let listed : length c.deref-4.result.now ≡ length c.in_ok-places.places.items = ap length c.deref-4.ensures.value in
    omega arith

pub invariant_of-result : goal.invariant_of-result
invariant_of-result g c =
    let b = c.args.basis.now in
    let e = c.in_ok-reduced.reduced in
    let ps = c.in_ok-pivots.pivots.items in
    let places = c.in_ok-places.places.items in
    let first = c.first_check-first.result in
    let tails = c.in_ok-tails.tails in
    built b c.n-n.ensures.sound (g.F.Field.bits_of c.field.result.now) (g.F.Field.modulus_of c.field.result.now) c.field.ensures.bits c.field.ensures.modulus
    c.in_ok-vectors.vectors c.in_ok-mirror.mirror e c.in_ok-vectors.ensures.cols c.in_ok-vectors.ensures.words c.in_ok-mirror.ensures c.in_ok-reduced.ensures ps c.in_ok-pivots.ensures
    _ c.bits.ensures.value c.modulus.ensures.value c.n-n.ensures.value refl
    (c.in_ok-places.ensures.places ∙ ap (free_places e.cols) c.deref.ensures.value)
    c.first_check-first.ensures.within
    (subst (λ (r : List ℕ). (t : ℕ) → t < length r → first ≤ e.cols - 1 - slice_index r t) c.deref-2.ensures.value c.first_check-first.ensures.below)
    (c.in_ok-tails.ensures.rows ∙ ap length c.deref-4.ensures.value)
    c.in_ok-tails.ensures.cols
    (subst (λ (r : List ℕ). (i : ℕ) → i < length r → (word : List ℕ) × IsUnitWord e ps e.cols (slice_index r i) word × (row tails i ≡ drop first word)) c.deref-4.ensures.value
    (subst (λ (r : List ℕ). (i : ℕ) → i < length c.deref-4.result.now → (word : List ℕ) × IsUnitWord e r e.cols (slice_index c.deref-4.result.now i) word × (row tails i ≡ drop first word)) c.deref-3.ensures.value
    c.in_ok-tails.ensures.each))

pub returns-clause-code : goal.returns-clause-code
returns-clause-code g c x =
    let b = c.args.basis.now in
    let marks = c.args.checked.now in
    subst (λ (v : ParityChecks). IsInCode v x ↔ IsCodeword (times b) b marks x)
    (sym (checks_are b marks c.bits.result c.modulus.result c.n-n.result c.in_ok-vectors.vectors.rows c.bits.ensures.value c.modulus.ensures.value c.n-n.ensures.value c.in_ok-vectors.ensures.rows))
    (code_law b marks x c.n-n.ensures.sound c.requires.marks)

pub returns-clause-free : goal.returns-clause-free
returns-clause-free g c =
    let b = c.args.basis.now in
    let marks = c.args.checked.now in
    subst (λ (v : ParityChecks). length (message_places v) + count_by (λ m. m) marks ≡ b.n)
    (sym (checks_are b marks c.bits.result c.modulus.result c.n-n.result c.in_ok-vectors.vectors.rows c.bits.ensures.value c.modulus.ensures.value c.n-n.ensures.value c.in_ok-vectors.ensures.rows))
    (members_law b marks c.n-n.ensures.sound c.requires.marks)
