use Rattle.std.proofs.Common.{arith, ◌≡◌, ◌*◌, ◌^◌, ◌<◌, ℕ, List, All, length, sym, ◌∙◌, ap, subst}
use Rattle.std.specs.Prelude.{slice_index}
use Rattle.order_bound.specs.Checking.{AreIndices, IsLabelBy, IsDualBy}
use Rattle.gf_theory.specs.Field.{IsModulus}
use Rattle.order_bound.specs.Looking.{IsTableBy}
use Rattle.order_bound.specs.TableChecks.{AreGood, IsFirstBad}
use Rattle.order_bound.proofs.Quick.{table_accepted, table_bound_fits}
use Rattle.order_bound.proofs.Verdicts.{form_refused, n_lists, n_duals_are, lists_small, label_refused, values_fit, functions_within, dual_refused, head_refused, text_accepted, bound_fits}
use Rattle.order_bound.proofs.table.bound_of.Goals as goal

pub returns-in-Err : goal.returns-in-Err
returns-in-Err g c =
    form_refused (g.D.OrderDomain.domain c.args.dom.now) (g.F.Field.modulus_of c.args.f.now) c.args.points.now c.args.rule c.args.text.now c.symbol_count.result _ (c.symbol_count.ensures.count ∙ ap (λ (b : ℕ). 2 ^ b) c.requires.bits) c.in-Err.ensures

pub is_table-requires-clause-fits : goal.is_table-requires-clause-fits
is_table-requires-clause-fits g c =
    n_duals_are (g.D.OrderDomain.domain c.args.dom.now) (g.F.Field.modulus_of c.args.f.now) c.args.points.now c.args.rule c.args.text.now c.symbol_count.result c.in-Ok.said.checked c.in-Ok.said.bound c.in-Ok.said.entries c.in-Ok.ensures (c.symbol_count.ensures.count ∙ ap (λ (b : ℕ). 2 ^ b) c.requires.bits)
    c.args.functions.now c.requires.functions c.in_ok-indices.indices.items (subst (λ (z : List ℕ). AreIndices z c.in-Ok.said.entries.labels.items c.in_ok-indices.indices.items) c.deref.ensures.value (subst (λ (z : List ℕ). AreIndices c.deref.result.now z c.in_ok-indices.indices.items) c.deref-2.ensures.value c.in_ok-indices.ensures))

pub is_table-requires-clause-symbols : goal.is_table-requires-clause-symbols
is_table-requires-clause-symbols g c =
    lists_small (g.D.OrderDomain.domain c.args.dom.now) (g.F.Field.modulus_of c.args.f.now) c.args.points.now c.args.rule c.args.text.now c.symbol_count.result c.in-Ok.said.checked c.in-Ok.said.bound c.in-Ok.said.entries c.in-Ok.ensures (c.symbol_count.ensures.count ∙ ap (λ (b : ℕ). 2 ^ b) c.requires.bits)
    c.args.functions.now c.requires.functions c.in_ok-indices.indices.items (subst (λ (z : List ℕ). AreIndices z c.in-Ok.said.entries.labels.items c.in_ok-indices.indices.items) c.deref.ensures.value (subst (λ (z : List ℕ). AreIndices c.deref.result.now z c.in_ok-indices.indices.items) c.deref-2.ensures.value c.in_ok-indices.ensures))
    (g.F.Field.bits_of c.args.f.now) c.requires.bits

pub overflow_cast-result : goal.overflow_cast-result
overflow_cast-result g c =
    let low : c.in-Ok.said.bound < 2 ^ 32 =
    table_bound_fits (g.D.OrderDomain.domain c.args.dom.now) (g.F.Field.modulus_of c.args.f.now) c.args.points.now c.args.rule c.args.text.now c.symbol_count.result c.in-Ok.said c.in-Ok.ensures
    (c.symbol_count.ensures.count ∙ ap (λ (b : ℕ). 2 ^ b) c.requires.bits) c.args.functions.now c.requires.functions c.in_ok-indices.indices.items
    (subst (λ (z : List ℕ). AreIndices z c.in-Ok.said.entries.labels.items c.in_ok-indices.indices.items) c.deref.ensures.value (subst (λ (z : List ℕ). AreIndices c.deref.result.now z c.in_ok-indices.indices.items) c.deref-2.ensures.value c.in_ok-indices.ensures))
    c.requires.some_points c.requires.few_points (subst (λ (b : ℕ). IsModulus b (g.F.Field.modulus_of c.args.f.now)) c.requires.bits c.symbol_count.ensures.modulus) c.requires.points
    (subst (λ (z : List ℕ). IsTableBy (g.D.OrderDomain.domain c.args.dom.now) (g.F.Field.modulus_of c.args.f.now) c.args.points.now c.args.rule c.in-Ok.said z) c.deref-3.ensures.value (c.in_ok-is_table.ensures c.if-branch.true)) in
    omega arith

pub returns-then-branch : goal.returns-then-branch
returns-then-branch g c =
    table_accepted (g.D.OrderDomain.domain c.args.dom.now) (g.F.Field.modulus_of c.args.f.now) c.args.points.now c.args.rule c.args.text.now c.symbol_count.result c.in-Ok.said c.in-Ok.ensures
    (c.symbol_count.ensures.count ∙ ap (λ (b : ℕ). 2 ^ b) c.requires.bits) c.args.functions.now c.requires.functions c.in_ok-indices.indices.items
    (subst (λ (z : List ℕ). AreIndices z c.in-Ok.said.entries.labels.items c.in_ok-indices.indices.items) c.deref.ensures.value (subst (λ (z : List ℕ). AreIndices c.deref.result.now z c.in_ok-indices.indices.items) c.deref-2.ensures.value c.in_ok-indices.ensures))
    c.requires.some_points c.requires.few_points (subst (λ (b : ℕ). IsModulus b (g.F.Field.modulus_of c.args.f.now)) c.requires.bits c.symbol_count.ensures.modulus) c.requires.points
    (subst (λ (z : List ℕ). IsTableBy (g.D.OrderDomain.domain c.args.dom.now) (g.F.Field.modulus_of c.args.f.now) c.args.points.now c.args.rule c.in-Ok.said z) c.deref-3.ensures.value (c.in_ok-is_table.ensures c.if-branch.true))

pub returns-in-Some : goal.returns-in-Some
returns-in-Some g c =
    label_refused (g.D.OrderDomain.domain c.args.dom.now) (g.F.Field.modulus_of c.args.f.now) c.args.points.now c.args.rule c.args.text.now c.symbol_count.result c.in-Ok.said.checked c.in-Ok.said.bound c.in-Ok.said.entries c.in-Ok.ensures (c.symbol_count.ensures.count ∙ ap (λ (b : ℕ). 2 ^ b) c.requires.bits)
    c.args.functions.now c.requires.functions c.in_ok-indices.indices.items (subst (λ (z : List ℕ). AreIndices z c.in-Ok.said.entries.labels.items c.in_ok-indices.indices.items) c.deref.ensures.value (subst (λ (z : List ℕ). AreIndices c.deref.result.now z c.in_ok-indices.indices.items) c.deref-2.ensures.value c.in_ok-indices.ensures))
    c.in-Some.k (subst (λ (z : List ℕ). IsFirstBad (length z) (IsLabelBy (g.D.OrderDomain.domain c.args.dom.now) c.args.functions.now c.args.rule c.in-Ok.said.entries.labels.items c.in-Ok.said.entries.pairs.items c.in-Ok.said.entries.marks.items z) c.in-Some.k) c.deref-4.ensures.value c.in-Some.ensures)

pub end_of-end-requires : goal.end_of-end-requires
end_of-end-requires g c =
    subst (λ (z : List ℕ). (j : ℕ) → j < length z → slice_index z j < c.count.result) (sym c.deref-5.ensures.value)
    (subst (λ (x : ℕ). (j : ℕ) → j < length c.in_ok-indices.indices.items → slice_index c.in_ok-indices.indices.items j < x) (sym c.count.ensures)
    (functions_within (g.D.OrderDomain.domain c.args.dom.now) (g.F.Field.modulus_of c.args.f.now) c.args.points.now c.args.rule c.args.text.now c.symbol_count.result c.in-Ok.said.checked c.in-Ok.said.bound c.in-Ok.said.entries c.in-Ok.ensures (c.symbol_count.ensures.count ∙ ap (λ (b : ℕ). 2 ^ b) c.requires.bits)
    c.args.functions.now c.requires.functions c.in_ok-indices.indices.items (subst (λ (z : List ℕ). AreIndices z c.in-Ok.said.entries.labels.items c.in_ok-indices.indices.items) c.deref.ensures.value (subst (λ (z : List ℕ). AreIndices c.deref.result.now z c.in_ok-indices.indices.items) c.deref-2.ensures.value c.in_ok-indices.ensures))
    (subst (λ (z : List ℕ). AreGood (length z) (IsLabelBy (g.D.OrderDomain.domain c.args.dom.now) c.args.functions.now c.args.rule c.in-Ok.said.entries.labels.items c.in-Ok.said.entries.pairs.items c.in-Ok.said.entries.marks.items z)) c.deref-4.ensures.value c.in_default.ensures)))

pub first_bad_dual-requires-clause-functions : goal.first_bad_dual-requires-clause-functions
first_bad_dual-requires-clause-functions g c =
    subst (λ (x : ℕ). (j : ℕ) → j < length c.deref-8.result.now → slice_index c.deref-8.result.now j < x) (let e : c.end_of-end.result ≡ length c.deref_mut.result.now = omega (arith, c.deref_mut.ensures.len, c.in_ok-products.ensures.len) in e)
    (subst (λ (z : List ℕ). (j : ℕ) → j < length z → slice_index z j < c.end_of-end.result) (sym c.deref-8.ensures.value) (subst (λ (z : List ℕ). (j : ℕ) → j < length z → slice_index z j < c.end_of-end.result) c.deref-5.ensures.value c.end_of-end.ensures.above))

pub first_bad_dual-requires-clause-fits : goal.first_bad_dual-requires-clause-fits
first_bad_dual-requires-clause-fits g c =
    ap length c.deref-6.ensures.value
    ∙ values_fit (g.D.OrderDomain.domain c.args.dom.now) (g.F.Field.modulus_of c.args.f.now) c.args.points.now c.args.rule c.args.text.now c.symbol_count.result c.in-Ok.said.checked c.in-Ok.said.bound c.in-Ok.said.entries c.in-Ok.ensures (c.symbol_count.ensures.count ∙ ap (λ (b : ℕ). 2 ^ b) c.requires.bits)
    c.args.functions.now c.requires.functions c.in_ok-indices.indices.items (subst (λ (z : List ℕ). AreIndices z c.in-Ok.said.entries.labels.items c.in_ok-indices.indices.items) c.deref.ensures.value (subst (λ (z : List ℕ). AreIndices c.deref.result.now z c.in_ok-indices.indices.items) c.deref-2.ensures.value c.in_ok-indices.ensures))
    (subst (λ (z : List ℕ). AreGood (length z) (IsLabelBy (g.D.OrderDomain.domain c.args.dom.now) c.args.functions.now c.args.rule c.in-Ok.said.entries.labels.items c.in-Ok.said.entries.pairs.items c.in-Ok.said.entries.marks.items z)) c.deref-4.ensures.value c.in_default.ensures) (g.F.Field.bits_of c.args.f.now) c.requires.bits c.end_of-end.result (subst (λ (z : List ℕ). (j : ℕ) → j < length z → slice_index z j < c.end_of-end.result) c.deref-5.ensures.value c.end_of-end.ensures.above) c.in_ok-values.values.items c.in_ok-values.ensures.values
    ∙ sym (ap (λ (z : List ℕ). length z * c.end_of-end.result) c.deref-8.ensures.value)
    ∙ ap (λ (x : ℕ). length c.deref-8.result.now * x) (let e : c.end_of-end.result ≡ length c.deref_mut.result.now = omega (arith, c.deref_mut.ensures.len, c.in_ok-products.ensures.len) in e)

pub first_bad_dual-requires-clause-lists : goal.first_bad_dual-requires-clause-lists
first_bad_dual-requires-clause-lists g c =
    ap length c.deref-7.ensures.value
    ∙ n_lists (g.D.OrderDomain.domain c.args.dom.now) (g.F.Field.modulus_of c.args.f.now) c.args.points.now c.args.rule c.args.text.now c.symbol_count.result c.in-Ok.said.checked c.in-Ok.said.bound c.in-Ok.said.entries c.in-Ok.ensures (c.symbol_count.ensures.count ∙ ap (λ (b : ℕ). 2 ^ b) c.requires.bits)
    c.args.functions.now c.requires.functions c.in_ok-indices.indices.items (subst (λ (z : List ℕ). AreIndices z c.in-Ok.said.entries.labels.items c.in_ok-indices.indices.items) c.deref.ensures.value (subst (λ (z : List ℕ). AreIndices c.deref.result.now z c.in_ok-indices.indices.items) c.deref-2.ensures.value c.in_ok-indices.ensures))
    ∙ sym (ap (λ (z : List ℕ). length z * length z) c.deref-8.ensures.value)

pub first_bad_dual-requires-clause-duals : goal.first_bad_dual-requires-clause-duals
first_bad_dual-requires-clause-duals g c =
    subst (λ (z : List ℕ). All (λ x. x < 2 ^ (g.F.Field.bits_of c.args.f.now)) z) (sym c.deref-7.ensures.value)
    (lists_small (g.D.OrderDomain.domain c.args.dom.now) (g.F.Field.modulus_of c.args.f.now) c.args.points.now c.args.rule c.args.text.now c.symbol_count.result c.in-Ok.said.checked c.in-Ok.said.bound c.in-Ok.said.entries c.in-Ok.ensures (c.symbol_count.ensures.count ∙ ap (λ (b : ℕ). 2 ^ b) c.requires.bits)
    c.args.functions.now c.requires.functions c.in_ok-indices.indices.items (subst (λ (z : List ℕ). AreIndices z c.in-Ok.said.entries.labels.items c.in_ok-indices.indices.items) c.deref.ensures.value (subst (λ (z : List ℕ). AreIndices c.deref.result.now z c.in_ok-indices.indices.items) c.deref-2.ensures.value c.in_ok-indices.ensures))
    (g.F.Field.bits_of c.args.f.now) c.requires.bits)

pub returns-in-Some-first_bad_dual : goal.returns-in-Some-first_bad_dual
returns-in-Some-first_bad_dual g c =
    dual_refused (g.D.OrderDomain.domain c.args.dom.now) (g.F.Field.modulus_of c.args.f.now) c.args.points.now c.args.rule c.args.text.now c.symbol_count.result c.in-Ok.said.checked c.in-Ok.said.bound c.in-Ok.said.entries c.in-Ok.ensures (c.symbol_count.ensures.count ∙ ap (λ (b : ℕ). 2 ^ b) c.requires.bits)
    c.args.functions.now c.requires.functions c.in_ok-indices.indices.items (subst (λ (z : List ℕ). AreIndices z c.in-Ok.said.entries.labels.items c.in_ok-indices.indices.items) c.deref.ensures.value (subst (λ (z : List ℕ). AreIndices c.deref.result.now z c.in_ok-indices.indices.items) c.deref-2.ensures.value c.in_ok-indices.ensures))
    (subst (λ (z : List ℕ). AreGood (length z) (IsLabelBy (g.D.OrderDomain.domain c.args.dom.now) c.args.functions.now c.args.rule c.in-Ok.said.entries.labels.items c.in-Ok.said.entries.pairs.items c.in-Ok.said.entries.marks.items z)) c.deref-4.ensures.value c.in_default.ensures) (g.F.Field.bits_of c.args.f.now) c.requires.bits c.end_of-end.result (subst (λ (z : List ℕ). (j : ℕ) → j < length z → slice_index z j < c.end_of-end.result) c.deref-5.ensures.value c.end_of-end.ensures.above) c.in_ok-values.values.items c.in_ok-values.ensures.values c.in-Some-first_bad_dual.k
    (subst (λ (z : List ℕ). IsFirstBad (length z) (IsDualBy (g.F.Field.bits_of c.args.f.now) (g.F.Field.modulus_of c.args.f.now) (length z) c.end_of-end.result c.in_ok-values.values.items c.in-Ok.said.entries.duals.items z) c.in-Some-first_bad_dual.k) c.deref-8.ensures.value
    (subst (λ (z : List ℕ). IsFirstBad (length c.deref-8.result.now) (IsDualBy (g.F.Field.bits_of c.args.f.now) (g.F.Field.modulus_of c.args.f.now) (length c.deref-8.result.now) c.end_of-end.result c.in_ok-values.values.items z c.deref-8.result.now) c.in-Some-first_bad_dual.k) c.deref-7.ensures.value
    (subst (λ (z : List ℕ). IsFirstBad (length c.deref-8.result.now) (IsDualBy (g.F.Field.bits_of c.args.f.now) (g.F.Field.modulus_of c.args.f.now) (length c.deref-8.result.now) c.end_of-end.result z c.deref-7.result.now c.deref-8.result.now) c.in-Some-first_bad_dual.k) c.deref-6.ensures.value
    (subst (λ (x : ℕ). IsFirstBad (length c.deref-8.result.now) (IsDualBy (g.F.Field.bits_of c.args.f.now) (g.F.Field.modulus_of c.args.f.now) (length c.deref-8.result.now) x c.deref-6.result.now c.deref-7.result.now c.deref-8.result.now) c.in-Some-first_bad_dual.k) (let e : length c.deref_mut.result.now ≡ c.end_of-end.result = omega (arith, c.deref_mut.ensures.len, c.in_ok-products.ensures.len) in e) c.in-Some-first_bad_dual.ensures))))

pub returns-then-not-is_good_head : goal.returns-then-not-is_good_head
returns-then-not-is_good_head g c =
    head_refused (g.D.OrderDomain.domain c.args.dom.now) (g.F.Field.modulus_of c.args.f.now) c.args.points.now c.args.rule c.args.text.now c.symbol_count.result c.in-Ok.said.checked c.in-Ok.said.bound c.in-Ok.said.entries c.in-Ok.ensures (c.symbol_count.ensures.count ∙ ap (λ (b : ℕ). 2 ^ b) c.requires.bits)
    c.args.functions.now c.requires.functions c.in_ok-indices.indices.items (subst (λ (z : List ℕ). AreIndices z c.in-Ok.said.entries.labels.items c.in_ok-indices.indices.items) c.deref.ensures.value (subst (λ (z : List ℕ). AreIndices c.deref.result.now z c.in_ok-indices.indices.items) c.deref-2.ensures.value c.in_ok-indices.ensures))
    (subst (λ (z : List ℕ). AreGood (length z) (IsLabelBy (g.D.OrderDomain.domain c.args.dom.now) c.args.functions.now c.args.rule c.in-Ok.said.entries.labels.items c.in-Ok.said.entries.pairs.items c.in-Ok.said.entries.marks.items z)) c.deref-4.ensures.value c.in_default.ensures) (g.F.Field.bits_of c.args.f.now) c.requires.bits c.end_of-end.result (subst (λ (z : List ℕ). (j : ℕ) → j < length z → slice_index z j < c.end_of-end.result) c.deref-5.ensures.value c.end_of-end.ensures.above) c.in_ok-values.values.items c.in_ok-values.ensures.values
    (subst (λ (z : List ℕ). AreGood (length z) (IsDualBy (g.F.Field.bits_of c.args.f.now) (g.F.Field.modulus_of c.args.f.now) (length z) c.end_of-end.result c.in_ok-values.values.items c.in-Ok.said.entries.duals.items z)) c.deref-8.ensures.value
    (subst (λ (z : List ℕ). AreGood (length c.deref-8.result.now) (IsDualBy (g.F.Field.bits_of c.args.f.now) (g.F.Field.modulus_of c.args.f.now) (length c.deref-8.result.now) c.end_of-end.result c.in_ok-values.values.items z c.deref-8.result.now)) c.deref-7.ensures.value
    (subst (λ (z : List ℕ). AreGood (length c.deref-8.result.now) (IsDualBy (g.F.Field.bits_of c.args.f.now) (g.F.Field.modulus_of c.args.f.now) (length c.deref-8.result.now) c.end_of-end.result z c.deref-7.result.now c.deref-8.result.now)) c.deref-6.ensures.value
    (subst (λ (x : ℕ). AreGood (length c.deref-8.result.now) (IsDualBy (g.F.Field.bits_of c.args.f.now) (g.F.Field.modulus_of c.args.f.now) (length c.deref-8.result.now) x c.deref-6.result.now c.deref-7.result.now c.deref-8.result.now)) (let e : length c.deref_mut.result.now ≡ c.end_of-end.result = omega (arith, c.deref_mut.ensures.len, c.in_ok-products.ensures.len) in e) c.in_default-first_bad_dual.ensures)))) c.if-not-is_good_head.ensures

pub overflow_cast-result-2 : goal.overflow_cast-result-2
overflow_cast-result-2 g c =
    omega (
      arith,
      bound_fits (g.D.OrderDomain.domain c.args.dom.now) (g.F.Field.modulus_of c.args.f.now) c.args.points.now c.args.rule c.args.text.now c.symbol_count.result c.in-Ok.said.checked c.in-Ok.said.bound c.in-Ok.said.entries c.in-Ok.ensures (c.symbol_count.ensures.count ∙ ap (λ (b : ℕ). 2 ^ b) c.requires.bits)
          c.args.functions.now c.requires.functions c.in_ok-indices.indices.items (subst (λ (z : List ℕ). AreIndices z c.in-Ok.said.entries.labels.items c.in_ok-indices.indices.items) c.deref.ensures.value (subst (λ (z : List ℕ). AreIndices c.deref.result.now z c.in_ok-indices.indices.items) c.deref-2.ensures.value c.in_ok-indices.ensures))
          (subst (λ (z : List ℕ). AreGood (length z) (IsLabelBy (g.D.OrderDomain.domain c.args.dom.now) c.args.functions.now c.args.rule c.in-Ok.said.entries.labels.items c.in-Ok.said.entries.pairs.items c.in-Ok.said.entries.marks.items z)) c.deref-4.ensures.value c.in_default.ensures) c.if-not-is_good_head.ensures,
    )

pub returns : goal.returns
returns g c =
    text_accepted (g.D.OrderDomain.domain c.args.dom.now) (g.F.Field.modulus_of c.args.f.now) c.args.points.now c.args.rule c.args.text.now c.symbol_count.result c.in-Ok.said.checked c.in-Ok.said.bound c.in-Ok.said.entries c.in-Ok.ensures (c.symbol_count.ensures.count ∙ ap (λ (b : ℕ). 2 ^ b) c.requires.bits)
    c.args.functions.now c.requires.functions c.in_ok-indices.indices.items (subst (λ (z : List ℕ). AreIndices z c.in-Ok.said.entries.labels.items c.in_ok-indices.indices.items) c.deref.ensures.value (subst (λ (z : List ℕ). AreIndices c.deref.result.now z c.in_ok-indices.indices.items) c.deref-2.ensures.value c.in_ok-indices.ensures))
    (subst (λ (z : List ℕ). AreGood (length z) (IsLabelBy (g.D.OrderDomain.domain c.args.dom.now) c.args.functions.now c.args.rule c.in-Ok.said.entries.labels.items c.in-Ok.said.entries.pairs.items c.in-Ok.said.entries.marks.items z)) c.deref-4.ensures.value c.in_default.ensures) (g.F.Field.bits_of c.args.f.now) c.requires.bits c.end_of-end.result (subst (λ (z : List ℕ). (j : ℕ) → j < length z → slice_index z j < c.end_of-end.result) c.deref-5.ensures.value c.end_of-end.ensures.above) c.in_ok-values.values.items c.in_ok-values.ensures.values
    (subst (λ (z : List ℕ). AreGood (length z) (IsDualBy (g.F.Field.bits_of c.args.f.now) (g.F.Field.modulus_of c.args.f.now) (length z) c.end_of-end.result c.in_ok-values.values.items c.in-Ok.said.entries.duals.items z)) c.deref-8.ensures.value
    (subst (λ (z : List ℕ). AreGood (length c.deref-8.result.now) (IsDualBy (g.F.Field.bits_of c.args.f.now) (g.F.Field.modulus_of c.args.f.now) (length c.deref-8.result.now) c.end_of-end.result c.in_ok-values.values.items z c.deref-8.result.now)) c.deref-7.ensures.value
    (subst (λ (z : List ℕ). AreGood (length c.deref-8.result.now) (IsDualBy (g.F.Field.bits_of c.args.f.now) (g.F.Field.modulus_of c.args.f.now) (length c.deref-8.result.now) c.end_of-end.result z c.deref-7.result.now c.deref-8.result.now)) c.deref-6.ensures.value
    (subst (λ (x : ℕ). AreGood (length c.deref-8.result.now) (IsDualBy (g.F.Field.bits_of c.args.f.now) (g.F.Field.modulus_of c.args.f.now) (length c.deref-8.result.now) x c.deref-6.result.now c.deref-7.result.now c.deref-8.result.now)) (let e : length c.deref_mut.result.now ≡ c.end_of-end.result = omega (arith, c.deref_mut.ensures.len, c.in_ok-products.ensures.len) in e) c.in_default-first_bad_dual.ensures)))) c.if-not-is_good_head.ensures
