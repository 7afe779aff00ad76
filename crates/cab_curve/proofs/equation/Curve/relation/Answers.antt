use Rattle.std.proofs.Common.{ℕ, Vec, Global, sym, ◌∙◌, ap, subst}
use Rattle.gf_theory.specs.Field.{IsModulus}
use Rattle.curve_theory.specs.declared.Term.{Term}
use Rattle.cab_curve.proofs.Calls.{lead-symbol}
use Rattle.cab_curve.proofs.Relations.{scaled_skip, scaled_push, relation_of, weights_of}
use Rattle.cab_curve.proofs.equation.Curve.relation.Goals.{then-not-has_exponents+in_ok-push, else-not-has_exponents}
use Rattle.cab_curve.proofs.equation.Curve.relation.Goals as goal

abbrev nothing : Term
nothing = record { i = 0; j = 0; c = 0 }

pub inv-unit-requires-clause-element : goal.inv-unit-requires-clause-element
inv-unit-requires-clause-element g c =
    let e = c.args.self.now in
    rw (c.requires, c.coefficient.ensures, c.terms-equation.ensures.terms)
    (lead-symbol e c.a-a.ensures.curve (g.F.Field.modulus_of c.args.f.now) (subst (λ (n : ℕ). IsModulus n (g.F.Field.modulus_of c.args.f.now)) c.requires (g.met.F.Field.is_modulus c.args.f.now)) 0 c.a-a.result)

pub loop-term-preserved : goal.loop-term-preserved
loop-term-preserved g c = elim c.if-not-has_exponents.branch [
  | then-not-has_exponents+in_ok-push b ↦
      scaled_push _ c.inv-unit.result c.a-a.result c.loop-term.term-index b.mul.result c.terms-equation.result.now nothing c.loop-term.terms.items _ _ c.loop-term-test.true
      (sym c.has_exponents.ensures ∙ b.if-not-has_exponents.true) b.mul.ensures.product (ap (λ (v : Vec Term Global). v.items) b.terms-is ∙ b.in_ok-push.ensures.items) c.loop-term.invariant
  | else-not-has_exponents b ↦
      rw b.terms-is
      (scaled_skip _ c.inv-unit.result c.a-a.result c.loop-term.term-index c.terms-equation.result.now nothing c.loop-term.terms.items _ c.loop-term-test.true
      (sym c.has_exponents.ensures ∙ b.if-not-has_exponents.false) c.loop-term.invariant)
]

pub returns : goal.returns
returns g c =
    relation_of c.args.self.now _ _ c.in-Some.semi.a c.in-Some.semi.b c.inv-unit.result c.loop-term.term-index c.terms-equation.result.now c.loop-term.terms.items
    c.a-a.ensures.curve c.requires (g.met.F.Field.is_modulus c.args.f.now) (c.in-Some.ensures.generators.0 ∙ c.a-a.ensures.a) (c.in-Some.ensures.generators.1 ∙ c.b.ensures.b) c.terms-equation.ensures.terms
    c.inv-unit.ensures.result_element (rw (c.in-Some.ensures.generators.0, ← c.coefficient.ensures) c.inv-unit.ensures.inverse) c.loop-term-test.false
    (rw c.in-Some.ensures.generators.0 c.loop-term.invariant)

pub invariant_of-result : goal.invariant_of-result
invariant_of-result g c = record {
  weights =
      weights_of c.args.self.now _ _ _ _ c.a-a.ensures.curve (subst (λ (n : ℕ). IsModulus n (g.F.Field.modulus_of c.args.f.now)) c.requires (g.met.F.Field.is_modulus c.args.f.now))
      (relation_of c.args.self.now _ _ c.in-Some.semi.a c.in-Some.semi.b c.inv-unit.result c.loop-term.term-index c.terms-equation.result.now c.loop-term.terms.items
      c.a-a.ensures.curve c.requires (g.met.F.Field.is_modulus c.args.f.now) (c.in-Some.ensures.generators.0 ∙ c.a-a.ensures.a) (c.in-Some.ensures.generators.1 ∙ c.b.ensures.b) c.terms-equation.ensures.terms
      c.inv-unit.ensures.result_element (rw (c.in-Some.ensures.generators.0, ← c.coefficient.ensures) c.inv-unit.ensures.inverse) c.loop-term-test.false
      (rw c.in-Some.ensures.generators.0 c.loop-term.invariant));
}
