use Rattle.std.proofs.Common.{ℕ, ◌≡◌, ◌^◌, ◌<◌, ◌∙◌, subst, sym, length, List, All}
use Rattle.gf_theory.specs.Field.{gf_mul}
use Rattle.linear_theory.specs.Linear.{SameSpan, rank as rank_of}
use Rattle.gf_linear.specs.Cells.{cell}
use Rattle.gf_linear.specs.Matrix.{entry}
use Rattle.gf_linear.proofs.Views.{view-symbols}
use Rattle.gf_linear.proofs.Found.{rank_found, greatest_found}
use Rattle.gf_linear.proofs.ranks.rank.Goals as goal

pub reduce-requires-clause-symbols : goal.reduce-requires-clause-symbols
reduce-requires-clause-symbols g c =
    let a = c.m.inside in
    let same : c.deref_mut.result.now ≡ a.entries.items = c.deref_mut.ensures.value ∙ c.in_ok-entries.ensures.items ∙ c.deref.ensures.value in
    subst (λ (w : List ℕ). All (λ x. x < 2 ^ g.F.Field.bits_of c.args.f.now) w) (sym same) (view-symbols a.rows a.cols a.entries.items c.args.m.now c.m.view_is (g.F.Field.bits_of c.args.f.now) c.requires.symbols c.m.invariant.2)

pub returns-clause-value : goal.returns-clause-value
returns-clause-value g c =
    let f = c.args.f.now in
    let b = g.F.Field.bits_of f in
    let md = g.F.Field.modulus_of f in
    let a = c.m.inside in
    let xs = a.entries.items in
    let ys = c.reduce.new.m in
    let same : c.deref_mut.result.now ≡ xs = c.deref_mut.ensures.value ∙ c.in_ok-entries.ensures.items ∙ c.deref.ensures.value in
    rank_found b md a.rows a.cols xs c.args.m.now c.m.view_is (g.met.F.Field.is_modulus f) c.reduce.result ys
    (view-symbols a.rows a.cols xs c.args.m.now c.m.view_is b c.requires.symbols c.m.invariant.2) c.reduce.ensures.symbols c.reduce.ensures.reduced
    (subst (λ (w : List ℕ). SameSpan (gf_mul b md) a.cols (cell w a.cols) a.rows (cell ys a.cols) a.rows) same c.reduce.ensures.span)

pub returns-clause-greatest : goal.returns-clause-greatest
returns-clause-greatest g c =
    let f = c.args.f.now in
    let b = g.F.Field.bits_of f in
    let md = g.F.Field.modulus_of f in
    let a = c.m.inside in
    let xs = a.entries.items in
    let ys = c.reduce.new.m in
    let same : c.deref_mut.result.now ≡ xs = c.deref_mut.ensures.value ∙ c.in_ok-entries.ensures.items ∙ c.deref.ensures.value in
    let value : c.reduce.result ≡ rank_of (2 ^ b) (gf_mul b md) c.args.m.now.cols (entry c.args.m.now) (length c.args.m.now.rows) =
    rank_found b md a.rows a.cols xs c.args.m.now c.m.view_is (g.met.F.Field.is_modulus f) c.reduce.result ys
    (view-symbols a.rows a.cols xs c.args.m.now c.m.view_is b c.requires.symbols c.m.invariant.2) c.reduce.ensures.symbols c.reduce.ensures.reduced
    (subst (λ (w : List ℕ). SameSpan (gf_mul b md) a.cols (cell w a.cols) a.rows (cell ys a.cols) a.rows) same c.reduce.ensures.span) in
    greatest_found b md a.rows a.cols xs c.args.m.now c.m.view_is (g.met.F.Field.is_modulus f) c.reduce.result c.requires.symbols value
