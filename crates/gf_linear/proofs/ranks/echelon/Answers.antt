use Rattle.std.proofs.Common.{ℕ, ◌≡◌, ◌*◌, ◌^◌, ◌<◌, ◌∙◌, ap, subst, sym, length, List, All}
use Rattle.std.proofs.lemmas.List.{with_items_is}
use Rattle.gf_theory.specs.Field.{gf_mul}
use Rattle.linear_theory.specs.Linear.{SameSpan}
use Rattle.gf_linear.specs.Cells.{cell}
use Rattle.gf_linear.specs.Matrix.{matrix_of}
use Rattle.gf_linear.specs.Elimination.{IsEchelonOf}
use Rattle.gf_linear.proofs.Views.{view-symbols}
use Rattle.gf_linear.proofs.Found.{echelon_found}
use Rattle.gf_linear.proofs.ranks.echelon.Goals as goal

pub reduce-requires-clause-symbols : goal.reduce-requires-clause-symbols
reduce-requires-clause-symbols g c =
    let a = c.m.inside in
    let same : c.deref_mut.result.now ≡ a.entries.items = c.deref_mut.ensures.value ∙ c.in_ok-entries.ensures.items ∙ c.deref.ensures.value in
    subst (λ (w : List ℕ). All (λ x. x < 2 ^ g.F.Field.bits_of c.args.f.now) w) (sym same) (view-symbols a.rows a.cols a.entries.items c.args.m.now c.m.view_is (g.F.Field.bits_of c.args.f.now) c.requires.symbols c.m.invariant.2)

pub returns : goal.returns
returns g c =
    let f = c.args.f.now in
    let b = g.F.Field.bits_of f in
    let md = g.F.Field.modulus_of f in
    let a = c.m.inside in
    let xs = a.entries.items in
    let ys = c.reduce.new.m in
    let same : c.deref_mut.result.now ≡ xs = c.deref_mut.ensures.value ∙ c.in_ok-entries.ensures.items ∙ c.deref.ensures.value in
    let fit : length ys ≡ a.rows * a.cols = c.reduce.auto.m ∙ ap (λ (w : List ℕ). length w) same ∙ c.m.invariant.2 in
    let long : length ys ≡ c.in_ok-entries.entries.len = c.reduce.auto.m ∙ ap (λ (w : List ℕ). length w) c.deref_mut.ensures.value ∙ sym c.in_ok-entries.entries.ok.0 in
    subst (λ (w : List ℕ). IsEchelonOf b md c.args.m.now (matrix_of a.rows a.cols w)) (sym (with_items_is c.in_ok-entries.entries ys long))
    (echelon_found b md a.rows a.cols xs c.args.m.now c.m.view_is (g.met.F.Field.is_modulus f) c.reduce.result ys fit c.reduce.ensures.symbols c.reduce.ensures.reduced
    (subst (λ (w : List ℕ). SameSpan (gf_mul b md) a.cols (cell w a.cols) a.rows (cell ys a.cols) a.rows) same c.reduce.ensures.span))
