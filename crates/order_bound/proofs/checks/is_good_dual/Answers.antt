use Rattle.std.proofs.Common.{ℕ, ◌≡◌, ◌<◌, ◌+◌, ◌*◌, ◌-◌, ◌≤◌, ◌∙◌, length, drop, slice_index, refl, sym, arith}
use Rattle.std.specs.List.{slice_range}
use Rattle.std.proofs.lemmas.List.{length-take-le, length-drop}
use Rattle.linear_theory.proofs.Tables.{row_end}
use Rattle.order_bound.specs.Checking.{IsDualBy, product_of}
use Rattle.order_bound.proofs.Conversions.{products_of, verdict_of}
use Rattle.order_bound.proofs.checks.is_good_dual.Goals as goal

pub returns : goal.returns
returns g c =
    let b = g.F.Field.bits_of c.args.f.now in
    let m = g.F.Field.modulus_of c.args.f.now in
    let n = length c.args.indices.now in
    let k = c.args.k in
    let functions = length c.args.products.now in
    let duals = c.args.duals.now in
    let room : k * n + n ≤ length duals = row_end n n k (length duals) c.requires.line c.requires.lists in
    let long : length (slice_range duals (k * n) (k * n + n)) ≡ n =
    length-take-le (k * n + n - k * n) (drop (k * n) duals) (rw length-drop (omega arith)) ∙ (let e : k * n + n - k * n ≡ n = omega arith in e) in
    let are : (i : ℕ) → i < functions → slice_index c.multiply.new.products i ≡ product_of b m n functions c.args.values.now duals k i =
    products_of b m n functions k c.args.values.now duals (slice_range duals (k * n) (k * n + n)) c.multiply.new.products refl long c.multiply.ensures.products in
    let few : slice_index c.args.indices.now k < functions = c.requires.functions k c.requires.line in
    verdict_of ((j : ℕ) → k < j → j < n → slice_index c.multiply.new.products (slice_index c.args.indices.now j) ≡ 0) (IsDualBy b m n functions c.args.values.now duals c.args.indices.now k) c.vanishes_later.result
    (λ h. record {
      before = record { each = λ i l. sym (are i (omega arith)) ∙ c.if-not-vanishes_before.ensures i l };
      own = sym (are (slice_index c.args.indices.now k) few) ∙ c.if-products-index-ne1.false;
      later = record { each = λ j a l. sym (are (slice_index c.args.indices.now j) (c.requires.functions j l)) ∙ h j a l };
    })
    (λ h j a l. are (slice_index c.args.indices.now j) (c.requires.functions j l) ∙ h.later.each j a l) c.vanishes_later.ensures
