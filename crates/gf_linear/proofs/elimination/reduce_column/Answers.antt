use Rattle.std.proofs.Common.{arith, refl, inl, inr, ◌≡◌, ◌∙◌, ℕ, ◌^◌, ◌<◌}
use Rattle.std.proofs.lemmas.Bool.{cases_eq}
use Rattle.field_theory.specs.Field.{IsField}
use Rattle.gf_theory.specs.Field.{gf_mul}
use Rattle.gf_theory.proofs.Fields.{field_of_bits}
use Rattle.linear_theory.specs.Linear.{SameSpan}
use Rattle.linear_theory.proofs.Steps.{span_self, span_trans, span_after_sweep}
use Rattle.gf_linear.specs.Cells.{cell}
use Rattle.gf_linear.proofs.Forms.{reduced_pivot, cells_below, cleared_entry, before_entry}
use Rattle.gf_linear.proofs.elimination.reduce_column.Goals as goal

pub returns-then-p-rows-clause-span : goal.returns-then-p-rows-clause-span
returns-then-p-rows-clause-span g c =
    let f = c.args.f.now in
    let b = g.F.Field.bits_of f in
    let m = g.F.Field.modulus_of f in
    span_self (2 ^ b) (gf_mul b m) (field_of_bits b m (g.met.F.Field.is_modulus f)) c.args.cols (cell c.args.m.now c.args.cols) c.args.rows (cells_below b c.args.m.now c.args.cols c.requires.symbols)

pub returns-clause-reduced : goal.returns-clause-reduced
returns-clause-reduced g c =
    let f = c.args.f.now in
    let b = g.F.Field.bits_of f in
    let m = g.F.Field.modulus_of f in
    let cols = c.args.cols in
    let k = c.args.k in
    let j = c.args.j in
    let field : IsField (2 ^ b) (gf_mul b m) = field_of_bits b m (g.met.F.Field.is_modulus f) in
    let one : cell c.make_one.new.m cols k j ≡ 1 = c.make_one.ensures.one in
    let same : (i p : ℕ) → i < c.args.rows → p < j → cell c.clear_others.new.m cols i p ≡ cell c.make_one.new.m cols i p =
    λ i p l u. elim (cases_eq i k) [
      | inl e ↦ c.clear_others.ensures.kept.same i l e p (omega arith)
      | inr d ↦ before_entry (2 ^ b) (gf_mul b m) field _ (cell c.make_one.new.m cols i p) (cell c.make_one.new.m cols i j) (cell c.make_one.new.m cols k p) (c.clear_others.ensures.value i p l d (omega arith)) (c.make_one.ensures.zeros k p (omega arith) (omega arith) u)
    ] in
    reduced_pivot c.args.rows cols k j c.args.m.now c.clear_others.new.m (omega arith) c.requires.reduced
    (λ i p a u. same i p (omega arith) u ∙ c.make_one.ensures.kept.same i (omega arith) (omega arith) p (omega arith) ∙ c.raise.ensures.kept.same i (omega arith) a p (omega arith))
    (λ i p a l u. same i p l u ∙ c.make_one.ensures.zeros i p a l u)
    (c.clear_others.ensures.kept.same k (omega arith) refl j c.requires.j_in ∙ one)
    (λ i l d. cleared_entry (2 ^ b) (gf_mul b m) field _ (cell c.make_one.new.m cols i j) (cell c.make_one.new.m cols k j) (c.clear_others.ensures.value i j l d c.requires.j_in) (cells_below b c.make_one.new.m cols c.make_one.ensures.symbols i j) one)

pub returns-clause-span : goal.returns-clause-span
returns-clause-span g c =
    let f = c.args.f.now in
    let b = g.F.Field.bits_of f in
    let m = g.F.Field.modulus_of f in
    let cols = c.args.cols in
    let k = c.args.k in
    let field : IsField (2 ^ b) (gf_mul b m) = field_of_bits b m (g.met.F.Field.is_modulus f) in
    let swept : SameSpan (gf_mul b m) cols (cell c.make_one.new.m cols) c.args.rows (cell c.clear_others.new.m cols) c.args.rows =
    span_after_sweep (2 ^ b) (gf_mul b m) field cols (cell c.make_one.new.m cols) (cell c.clear_others.new.m cols) c.args.rows k (λ q. cell c.make_one.new.m cols q c.args.j)
    (cells_below b c.make_one.new.m cols c.make_one.ensures.symbols) (cells_below b c.clear_others.new.m cols c.clear_others.ensures.symbols) (omega arith)
    (λ q l d p lp. c.clear_others.ensures.value q p l d lp) (λ p lp. c.clear_others.ensures.kept.same k (omega arith) refl p lp) in
    span_trans (2 ^ b) (gf_mul b m) field (span_trans (2 ^ b) (gf_mul b m) field c.raise.ensures.span c.make_one.ensures.span) swept
