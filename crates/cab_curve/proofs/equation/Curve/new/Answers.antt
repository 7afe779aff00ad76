use Rattle.std.proofs.Common.{◌≡◌, ℕ, ◌^◌, length, true, None, List, sym, ◌∙◌, subst, rules, arith}
use Rattle.curve_theory.specs.declared.Term.{Term}
use Rattle.curve_theory.specs.Curve.{has_term}
use Rattle.weight_semi.specs.Generators.{AreGenerators}
use Rattle.weight_semi.proofs.Coprime.{are_generators-decides}
use Rattle.cab_curve.specs.First.{least}
use Rattle.cab_curve.specs.Equation.{IsCurve, is_bad_term}
use Rattle.cab_curve.proofs.Accepted.{accepted}
use Rattle.cab_curve.proofs.equation.Curve.new.Goals as goal
use Rattle.cab_curve.proofs.equation.Curve.new.Goals.{then-has_term, else-has_term}

pub invariant_of-result : goal.invariant_of-result
invariant_of-result g c =
    let a : ℕ = c.args.a in
    let b : ℕ = c.args.b in
    let bits : ℕ = c.bits-bits.result in
    let ts : List Term = c.args.terms.now in
    let none : least (length ts) (is_bad_term (2 ^ bits) a b ts) ≡ None = search rules in
    let same : c.in-Ok.terms.items ≡ ts = search rules in
    let gens : AreGenerators a b = (are_generators-decides a b).0 (search rules) in
    let y_lead : has_term ts 0 a ≡ true = elim c.if-has_term.branch [ then-has_term w ↦ sym c.has_term.ensures ∙ w.if-has_term.true | else-has_term w ↦ absurd (cc) ] in
    let x_lead : has_term ts b 0 ≡ true = elim c.if-has_term.branch [ then-has_term w ↦ (let h = w.has_term-then-has_term.ensures in cc) | else-has_term w ↦ absurd (cc) ] in
    subst (λ (xs : List Term). IsCurve (record { bits = bits; a = a; b = b; terms = xs })) (sym same)
    (accepted bits a b ts (omega arith) (omega arith) gens none y_lead x_lead)
