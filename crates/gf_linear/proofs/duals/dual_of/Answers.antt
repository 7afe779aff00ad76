use Rattle.std.proofs.Common.{ℕ, ◌≡◌, ◌*◌, ◌^◌, ◌<◌, ◌∙◌, ap, subst, sym, length, List, All}
use Rattle.std.proofs.lemmas.List.{with_items_is}
use Rattle.gf_theory.specs.Field.{gf_mul}
use Rattle.linear_theory.specs.Linear.{AreIndependent, IsDual}
use Rattle.gf_linear.specs.Cells.{cell}
use Rattle.gf_linear.specs.Matrix.{matrix_of}
use Rattle.gf_linear.specs.Elimination.{IsDualOf}
use Rattle.gf_linear.proofs.Views.{view-symbols, view-rows, view-cols}
use Rattle.gf_linear.proofs.Found.{dependent_found, duals_viewed}
use Rattle.gf_linear.proofs.duals.dual_of.Goals as goal

pub find_duals-requires-clause-fits : goal.find_duals-requires-clause-fits
find_duals-requires-clause-fits g c =
    let a = c.m.inside in
    let e : a.cols ≡ a.rows = view-cols a.rows a.cols a.entries.items c.args.m.now c.m.view_is ∙ sym c.requires.square ∙ sym (view-rows a.rows a.cols a.entries.items c.args.m.now c.m.view_is) in
    ap (λ (w : List ℕ). length w) c.deref.ensures.value ∙ c.m.invariant.2 ∙ ap (λ (n : ℕ). a.rows * n) e

pub find_duals-requires-clause-symbols : goal.find_duals-requires-clause-symbols
find_duals-requires-clause-symbols g c =
    let a = c.m.inside in
    subst (λ (w : List ℕ). All (λ x. x < 2 ^ g.F.Field.bits_of c.args.f.now) w) (sym c.deref.ensures.value) (view-symbols a.rows a.cols a.entries.items c.args.m.now c.m.view_is (g.F.Field.bits_of c.args.f.now) c.requires.symbols c.m.invariant.2)

pub returns-then-not-find_duals : goal.returns-then-not-find_duals
returns-then-not-find_duals g c =
    let f = c.args.f.now in
    let b = g.F.Field.bits_of f in
    let md = g.F.Field.modulus_of f in
    let a = c.m.inside in
    dependent_found b md a.rows a.cols a.entries.items c.args.m.now c.m.view_is (g.met.F.Field.is_modulus f) c.requires.square
    (subst (λ (w : List ℕ). AreIndependent (2 ^ b) (gf_mul b md) a.rows (cell w a.rows) a.rows → ⊥) c.deref.ensures.value c.if-not-find_duals.ensures.dependent)

pub invariant_of-result : goal.invariant_of-result
invariant_of-result g c =
    let a = c.m.inside in
    let ds = c.find_duals.new.duals in
    let e : a.cols ≡ a.rows = view-cols a.rows a.cols a.entries.items c.args.m.now c.m.view_is ∙ sym c.requires.square ∙ sym (view-rows a.rows a.cols a.entries.items c.args.m.now c.m.view_is) in
    let long : length ds ≡ c.in_ok-entries.entries.len = c.find_duals.auto.duals ∙ ap (λ (w : List ℕ). length w) c.deref_mut-2.ensures.value ∙ sym c.in_ok-entries.entries.ok.0 in
    let size : c.in_ok-entries.entries.len ≡ a.rows * a.rows = c.in_ok-entries.ensures.len in
    (c.m.invariant.0, c.m.invariant.1, ap (λ (w : List ℕ). length w) (with_items_is c.in_ok-entries.entries ds long) ∙ long ∙ size ∙ ap (λ (n : ℕ). a.rows * n) (sym e))

pub returns : goal.returns
returns g c =
    let f = c.args.f.now in
    let b = g.F.Field.bits_of f in
    let md = g.F.Field.modulus_of f in
    let a = c.m.inside in
    let ds = c.find_duals.new.duals in
    let long : length ds ≡ c.in_ok-entries.entries.len = c.find_duals.auto.duals ∙ ap (λ (w : List ℕ). length w) c.deref_mut-2.ensures.value ∙ sym c.in_ok-entries.entries.ok.0 in
    let size : c.in_ok-entries.entries.len ≡ a.rows * a.rows = c.in_ok-entries.ensures.len in
    subst (λ (w : List ℕ). IsDualOf b md c.args.m.now (matrix_of a.rows a.cols w)) (sym (with_items_is c.in_ok-entries.entries ds long))
    (duals_viewed b md a.rows a.cols a.entries.items c.args.m.now c.m.view_is (g.met.F.Field.is_modulus f) ds c.requires.square (long ∙ size) c.if-not-find_duals.ensures.symbols
    (subst (λ (w : List ℕ). IsDual (gf_mul b md) a.rows (cell w a.rows) (cell ds a.rows)) c.deref.ensures.value c.if-not-find_duals.ensures.dual))
