use Rattle.std.proofs.Common.{◌≡◌, ◌∙◌, ℕ, ◌^◌, arith, ap, inl, inr, subst, sym, bit_xor}
use Rattle.std.proofs.lemmas.Bool.{cases_eq}
use Rattle.gf_theory.specs.Field.{gf_mul}
use Rattle.gf_theory.proofs.Fields.{field_of_bits}
use Rattle.gf_theory.proofs.Product.{gf_mul-zero_right}
use Rattle.linear_theory.proofs.Steps.{span_self, span_after_add}
use Rattle.gf_linear.specs.Cells.{cell}
use Rattle.gf_linear.proofs.Forms.{cells_below, raised_entry}
use Rattle.gf_linear.proofs.elimination.raise.Goals as goal

pub returns-then-p-k-clause-pivot : goal.returns-then-p-k-clause-pivot
returns-then-p-k-clause-pivot g c e =
    let f = c.args.f.now in
    let b = g.F.Field.bits_of f in
    let m = g.F.Field.modulus_of f in
    let xs = c.args.m.now in
    let w : cell c.add_row.new.m c.args.cols c.args.k c.args.j ≡ cell xs c.args.cols c.args.p c.args.j =
    raised_entry (2 ^ b) (gf_mul b m) (field_of_bits b m (g.met.F.Field.is_modulus f)) (cell c.add_row.new.m c.args.cols c.args.k c.args.j) (cell xs c.args.cols c.args.k c.args.j) (cell xs c.args.cols c.args.p c.args.j)
    (c.add_row.ensures.row c.args.j c.requires.j_in) (c.requires.before c.args.k (omega arith) (omega arith)) (cells_below b xs c.args.cols c.requires.symbols c.args.p c.args.j) in
    c.requires.found (sym w ∙ e)

pub returns-then-p-k-clause-zeros : goal.returns-then-p-k-clause-zeros
returns-then-p-k-clause-zeros g c i q a l u =
    let f = c.args.f.now in
    let b = g.F.Field.bits_of f in
    let m = g.F.Field.modulus_of f in
    elim (cases_eq i c.args.k) [
      | inr d ↦ c.add_row.ensures.kept.same i l d q (omega arith) ∙ c.requires.zeros i q a l u
      | inl e ↦ subst (λ (t : ℕ). cell c.add_row.new.m c.args.cols t q ≡ 0) (sym e)
          (c.add_row.ensures.row q (omega arith)
          ∙ ap (λ t. bit_xor t (gf_mul b m 1 (cell c.args.m.now c.args.cols c.args.p q))) (c.requires.zeros c.args.k q (omega arith) (omega arith) u)
          ∙ ap (λ t. gf_mul b m 1 t) (c.requires.zeros c.args.p q c.requires.k_in c.requires.p_in u) ∙ gf_mul-zero_right b m 1)
    ]

pub returns-then-p-k-clause-span : goal.returns-then-p-k-clause-span
returns-then-p-k-clause-span g c =
    let f = c.args.f.now in
    let b = g.F.Field.bits_of f in
    let m = g.F.Field.modulus_of f in
    span_after_add (2 ^ b) (gf_mul b m) (field_of_bits b m (g.met.F.Field.is_modulus f)) c.args.cols (cell c.args.m.now c.args.cols) (cell c.add_row.new.m c.args.cols) c.args.rows c.args.k c.args.p 1
    (cells_below b c.args.m.now c.args.cols c.requires.symbols) (cells_below b c.add_row.new.m c.args.cols c.add_row.ensures.symbols) (omega arith) c.requires.p_in (λ e. omega arith)
    c.add_row.ensures.row (λ q l d j lj. c.add_row.ensures.kept.same q l d j lj)

pub returns-else-p-k-clause-span : goal.returns-else-p-k-clause-span
returns-else-p-k-clause-span g c =
    let f = c.args.f.now in
    let b = g.F.Field.bits_of f in
    let m = g.F.Field.modulus_of f in
    span_self (2 ^ b) (gf_mul b m) (field_of_bits b m (g.met.F.Field.is_modulus f)) c.args.cols (cell c.args.m.now c.args.cols) c.args.rows (cells_below b c.args.m.now c.args.cols c.requires.symbols)
