use Rattle.std.proofs.Common.{ℕ, ◌≡◌, ◌-◌, ◌<◌, ◌≤◌, ◌∙◌, ◌++◌, List, length, take, drop, sym, ap, subst, arith}
use Rattle.std.specs.Prelude.{slice_index}
use Rattle.std.proofs.lemmas.List.{get_or_append_left, get_or-drop, length-drop, length-take-le, take_all}
use Rattle.gf_theory.specs.Field.{gf_mul}
use Rattle.linear_theory.specs.Linear.{combine}
use Rattle.gf_linear.specs.Cells.{cell}
use Rattle.order_theory.specs.Basis.{times}
use Rattle.product_classes.specs.Table.{ClassTable, AreClassesOf, HasColumns}
use Rattle.product_classes.specs.Values.{AreValues, IsZeroBefore}
use Rattle.product_classes.specs.Kept.{table_of}
use Rattle.product_classes.proofs.Moves.{values_combined}
use Rattle.product_classes.proofs.classes.Classes.write_values.Goals as goal

pub returns-clause-values : goal.returns-clause-values
returns-clause-values g c =
    let b = c.args.basis.now in
    let a = c.self.inside in
    let v : ClassTable = table_of c.self.inside in
    let list = c.args.list.now in
    let rest : List ℕ = take (length list - a.first) (drop a.first list) in
    let whole : rest ≡ drop a.first list = take_all (length list - a.first) (drop a.first list) (omega (arith, length-drop a.first list)) in
    let sum = c.combine_rows.new.sum in
    let bits = g.F.Field.bits_of c.field.result.now in
    let modulus = g.F.Field.modulus_of c.field.result.now in
    let now : List ℕ = sum ++ drop a.width c.args.values.now in
    let kept : HasColumns b v = subst (λ (w : ClassTable). HasColumns b w) (sym c.self.view_is) c.requires.columns in
    let size_is : a.size ≡ c.args.self.now.size = ap (λ (w : ClassTable). w.size) c.self.view_is in
    let narrow : a.width ≤ a.size = kept.narrow in
    let width_is : length (take a.width c.args.values.now) ≡ a.width = length-take-le a.width c.args.values.now (omega (arith, size_is, narrow)) in
    let is : (k : ℕ) → k < a.width → slice_index now k ≡ combine (times b) (length rest) (slice_index rest) (cell a.columns.items a.width) k = λ k l.
    get_or_append_left sum (drop a.width c.args.values.now) 0 k (omega (arith, width_is))
    ∙ c.combine_rows.ensures.value k (omega (arith, width_is))
    ∙ ap (λ (w : ℕ). combine (gf_mul bits modulus) (length rest) (slice_index rest) (cell c.deref.result.now w) k) width_is
    ∙ ap (λ (m : ℕ). combine (gf_mul m modulus) (length rest) (slice_index rest) (cell c.deref.result.now a.width) k) c.field.ensures.bits
    ∙ ap (λ (m : ℕ). combine (gf_mul b.bits m) (length rest) (slice_index rest) (cell c.deref.result.now a.width) k) c.field.ensures.modulus
    ∙ ap (λ (xs : List ℕ). combine (times b) (length rest) (slice_index rest) (cell xs a.width) k) c.deref.ensures.value in
    subst (λ (w : ClassTable). AreValues b w list now w.limit) c.self.view_is
    (values_combined b v list rest now (length rest)
    (subst (λ (w : ClassTable). AreClassesOf b w) (sym c.self.view_is) c.requires.classes)
    kept
    (subst (λ (w : ClassTable). IsZeroBefore w.first list) (sym c.self.view_is) c.requires.zeros)
    (ap length whole ∙ length-drop a.first list ∙ ap (λ (n : ℕ). n - a.first) c.requires.word.n_long)
    (λ q. ap (λ (xs : List ℕ). slice_index xs q) whole ∙ get_or-drop a.first list q 0)
    c.n.ensures.sound is)
