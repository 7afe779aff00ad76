use Rattle.std.proofs.Common.{◌≡◌, ℕ, ◌≤◌, ◌<◌, ◌^◌, true, false, None, ltb, List, length, ◌∙◌, ap, arith, ltb-true, ltb-false, rules}
use Rattle.std.proofs.Math.Nat.{pow-le-pow_right}
use Rattle.curve_theory.specs.declared.Term.{Term}
use Rattle.weight_semi.specs.Generators.{are_generators}
use Rattle.weight_semi.proofs.Coprime.{are_generators-decides}
use Rattle.cab_curve.specs.Equation.{Equation, curve_refusal}
use Rattle.code_descriptor.proofs.Terms.{accepted_whole, accepted_cut, refused_by_curve}
use Rattle.code_descriptor.proofs.curves.curve_of.Goals as goal

pub returns-in-Ok : goal.returns-in-Ok
returns-in-Ok c =
    let a : ℕ = c.args.degrees.a in
    let b : ℕ = c.args.degrees.b in
    let size : ℕ = 2 ^ c.args.field.now.bits in
    let plain : List Term = c.in_ok-plain.plain.items in
    let good : are_generators a b ≡ true = (are_generators-decides a b).1 c.args.degrees.generators in
    let small : size ≤ 2 ^ 8 = pow-le-pow_right (omega arith) c.args.field.now.is_modulus.at_most_eight in
    let len : c.len-fitting.result ≡ length plain = search rules in
    let len_too : c.len.result ≡ length plain = search rules in
    let lt : length plain < length c.args.terms.now = omega arith in
    let none : curve_refusal size a b plain ≡ None = rw c.as_slice.ensures.value at c.in-Ok.ensures.accepted in
    rw (c.into.ensures, len) (accepted_cut size a b c.args.terms.now plain c.in_ok-plain.ensures good none small lt)

pub returns-in-Ok-2 : goal.returns-in-Ok-2
returns-in-Ok-2 c =
    let a : ℕ = c.args.degrees.a in
    let b : ℕ = c.args.degrees.b in
    let size : ℕ = 2 ^ c.args.field.now.bits in
    let plain : List Term = c.in_ok-plain.plain.items in
    let good : are_generators a b ≡ true = (are_generators-decides a b).1 c.args.degrees.generators in
    let len : c.len.result ≡ length plain = search rules in
    let most : length plain ≤ length c.args.terms.now = c.in_ok-plain.ensures.at_most in
    let whole : length plain ≡ length c.args.terms.now = omega arith in
    let none : curve_refusal size a b plain ≡ None = rw c.as_slice.ensures.value at c.in-Ok.ensures.accepted in
    let all = accepted_whole size a b c.args.terms.now plain c.in_ok-plain.ensures good none whole in
    (all.0, c.in-Ok.ensures.curve ∙ ap (λ (ts : List Term). let e : Equation = record { bits = c.args.field.now.bits; a = a; b = b; terms = ts } in e) (c.as_slice.ensures.value ∙ all.1))

pub returns : goal.returns
returns c =
    let a : ℕ = c.args.degrees.a in
    let b : ℕ = c.args.degrees.b in
    let size : ℕ = 2 ^ c.args.field.now.bits in
    let plain : List Term = c.in_ok-plain.plain.items in
    let good : are_generators a b ≡ true = (are_generators-decides a b).1 c.args.degrees.generators in
    let small : size ≤ 2 ^ 8 = pow-le-pow_right (omega arith) c.args.field.now.is_modulus.at_most_eight in
    let len : c.len-fitting.result ≡ length plain = search rules in
    let len_too : c.len.result ≡ length plain = search rules in
    let most : length plain ≤ length c.args.terms.now = c.in_ok-plain.ensures.at_most in
    let cut = λ (h : ltb c.len.result (length c.args.terms.now) ≡ true). (let lt = ltb-true c.len.result (length c.args.terms.now) h in let r : length plain < length c.args.terms.now = omega arith in r) in
    let uncut = λ (h : ltb c.len.result (length c.args.terms.now) ≡ false). (let le = ltb-false c.len.result (length c.args.terms.now) h in let r : length plain ≡ length c.args.terms.now = omega arith in r) in
    rw (c.error_of.ensures, len)
    (refused_by_curve size a b c.args.terms.now plain c.in_ok-plain.ensures good c.in-Err.fault
    (rw c.as_slice.ensures.value at c.in-Err.ensures.refused) (ltb c.len.result (length c.args.terms.now)) cut uncut small)
