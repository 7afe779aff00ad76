use Rattle.std.proofs.Common.{◌<◌, ◌^◌, ◌∙◌, length, slice_index, All, sym, subst}
use Rattle.gf_theory.specs.Field.{gf_mul}
use Rattle.gf_linear.proofs.Views.{view-size, view-combine, view-symbols}
use Rattle.gf_linear.proofs.matrix.Matrix.combine.Goals as goal

pub combine_rows-requires-clause-size : goal.combine_rows-requires-clause-size
combine_rows-requires-clause-size g c =
    let s = c.self.inside in
    view-size s.rows s.cols s.entries.items c.args.self.now c.self.view_is c.deref.result.now (length c.args.factors.now) (length c.args.sum.now)
    c.deref.ensures.value c.requires.count c.requires.width c.self.invariant.2

pub combine_rows-requires-clause-symbols : goal.combine_rows-requires-clause-symbols
combine_rows-requires-clause-symbols g c =
    let s = c.self.inside in
    subst (All (λ a. a < 2 ^ g.F.Field.bits_of c.args.f.now)) (sym c.deref.ensures.value)
    (view-symbols s.rows s.cols s.entries.items c.args.self.now c.self.view_is (g.F.Field.bits_of c.args.f.now) c.requires.over c.self.invariant.2)

pub returns-clause-value : goal.returns-clause-value
returns-clause-value g c q l =
    let s = c.self.inside in
    c.combine_rows.ensures.value q l
    ∙ view-combine s.rows s.cols s.entries.items c.args.self.now c.self.view_is c.deref.result.now (length c.args.factors.now) (length c.args.sum.now)
    c.deref.ensures.value c.requires.count c.requires.width (gf_mul (g.F.Field.bits_of c.args.f.now) (g.F.Field.modulus_of c.args.f.now)) (slice_index c.args.factors.now) q l
