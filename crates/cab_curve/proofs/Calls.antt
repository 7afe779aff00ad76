-- What the calls of a domain answer, by its tables
use Rattle.std.proofs.Common.{◌≡◌, ℕ, ◌+◌, ◌<◌, ◌≤◌, ◌^◌, Bool, true, cond, ltb, leb, ◌&&◌, ◌==◌, IsTrue, List, length, get_or, Bor, Option, Some, None, is_some, sym, ◌∙◌, ap, inl, inr, arith, rules}
use Rattle.std.specs.Prelude.{nat_lt, IfSome}
use Rattle.std.specs.Option.{option_copied}
use Rattle.std.proofs.lemmas.List.{get_or_default}
use Rattle.std.proofs.lemmas.Bool.{cases_lt, cond-true, cond-false, and_parts, ltb-true, lt-ltb, le-ltb, le-leb, lt-leb}
use Rattle.std.proofs.lemmas.List.Elements.{recursion_from_All}
use Rattle.field_theory.specs.Field.{IsField}
use Rattle.field_theory.proofs.Counts.{count_below-le}
use Rattle.gf_theory.specs.Field.{IsModulus, gf_mul}
use Rattle.gf_theory.proofs.Fields.{field_of_modulus}
use Rattle.curve_theory.specs.Curve.{coefficient, value}
use Rattle.curve_theory.specs.declared.Term.{Term}
use Rattle.curve_theory.specs.Semigroup.{is_member, y_exponent, function_count, weight_at, place_of, sum_of}
use Rattle.curve_theory.specs.Normal.{inverse_of, lead_of}
use Rattle.curve_theory.proofs.Normal.{all_weaken}
use Rattle.curve_theory.proofs.Values.{coefficient_below, inverse_of-is}
use Rattle.order_domain.specs.declared.Point.{Point}
use Rattle.cab_curve.specs.declared.functions.Function.{Function}
use Rattle.cab_curve.specs.Equation.{Equation, IsCurve}
use Rattle.cab_curve.specs.Points.{is_on_curve}
use Rattle.cab_curve.specs.Functions.{IsFunctionTable}
use Rattle.cab_curve.specs.Domain.{top_of}

pub field_of : (bits modulus : ℕ) → IsModulus bits modulus → IsField (2 ^ bits) (gf_mul bits modulus)
field_of bits modulus h = let two : 2 ≤ bits = h.at_least_two in field_of_modulus bits modulus (omega arith) h.irreducible

pub top_of-few : (e : Equation) → IsCurve e → top_of e < 10000
top_of-few e h = search rules

pub functions-few : (e : Equation) → IsCurve e → function_count e.a e.b (top_of e) < 10001
unfolding function_count
functions-few e h =
    let top : top_of e < 10000 = top_of-few e h in
    let few : function_count e.a e.b (top_of e) ≤ top_of e + 1 = count_below-le (top_of e + 1) (is_member e.a e.b) in
    omega arith

pub on_curve-symbols : (bits modulus : ℕ) (ts : List Term) (p : Point) → IsTrue (is_on_curve bits modulus ts p) → (p.x < 2 ^ bits) × (p.y < 2 ^ bits)
unfolding is_on_curve
on_curve-symbols bits modulus ts p h =
    let symbols : (nat_lt p.x (2 ^ bits) && nat_lt p.y (2 ^ bits)) ≡ true =
    (and_parts (nat_lt p.x (2 ^ bits) && nat_lt p.y (2 ^ bits)) (p.z == 0)
    (and_parts ((nat_lt p.x (2 ^ bits) && nat_lt p.y (2 ^ bits)) && p.z == 0) (value (gf_mul bits modulus) ts p.x p.y == 0) h).0).0 in
    let both : (nat_lt p.x (2 ^ bits) ≡ true) × (nat_lt p.y (2 ^ bits) ≡ true) = and_parts (nat_lt p.x (2 ^ bits)) (nat_lt p.y (2 ^ bits)) symbols in
    (ltb-true p.x (2 ^ bits) both.0, ltb-true p.y (2 ^ bits) both.1)

-- the coefficients of an equation are symbols
pub lead-symbol : (e : Equation) → IsCurve e → (modulus : ℕ) → IsModulus e.bits modulus → (i j : ℕ) → coefficient e.terms i j < 2 ^ e.bits
lead-symbol e h modulus m i j =
    coefficient_below (2 ^ e.bits) (gf_mul e.bits modulus) (field_of e.bits modulus m) e.terms
    (all_weaken (λ t. (0 < t.c) × (t.c < 2 ^ e.bits)) (λ t. t.c < 2 ^ e.bits) (λ t p. p.1) e.terms (recursion_from_All (λ t. (0 < t.c) × (t.c < 2 ^ e.bits)) e.terms h.equation.symbols)) i j

pub low_lead : (size : ℕ) (mul : ℕ → ℕ → ℕ) (a b : ℕ) (ts : List Term) (u v : ℕ) → y_exponent a b u + y_exponent a b v < a → 1 ≡ lead_of size mul a b ts u v
unfolding lead_of
low_lead size mul a b ts u v l =
    sym (cond-true (ltb (y_exponent a b u + y_exponent a b v) a) 1 (mul (coefficient ts b 0) (inverse_of size mul (coefficient ts 0 a))) (lt-ltb (y_exponent a b u + y_exponent a b v) a l))

pub high_lead : (e : Equation) (modulus u v r : ℕ) → IsCurve e → IsModulus e.bits modulus → e.a ≤ y_exponent e.a e.b u + y_exponent e.a e.b v → r < 2 ^ e.bits →
    gf_mul e.bits modulus (coefficient e.terms 0 e.a) r ≡ 1 → gf_mul e.bits modulus (coefficient e.terms e.b 0) r ≡ lead_of (2 ^ e.bits) (gf_mul e.bits modulus) e.a e.b e.terms u v
unfolding lead_of
high_lead e modulus u v r h m l small one =
    let size : ℕ = 2 ^ e.bits in
    let mul : ℕ → ℕ → ℕ = gf_mul e.bits modulus in
    let is : inverse_of (2 ^ e.bits) (gf_mul e.bits modulus) (coefficient e.terms 0 e.a) ≡ r =
    inverse_of-is (2 ^ e.bits) (gf_mul e.bits modulus) (field_of e.bits modulus m) (coefficient e.terms 0 e.a) r
    (lead-symbol e h modulus m 0 e.a) h.equation.y_lead small one in
    ap (λ (y : ℕ). mul (coefficient e.terms e.b 0) y) (sym is)
    ∙ sym (cond-false (ltb (y_exponent e.a e.b u + y_exponent e.a e.b v) e.a) 1 (mul (coefficient e.terms e.b 0) (inverse_of size mul (coefficient e.terms 0 e.a)))
    (le-ltb (y_exponent e.a e.b u + y_exponent e.a e.b v) e.a l))

pub looked_up : (places : List ℕ) (w : ℕ) (o : Option (Bor ℕ)) → is_some o ≡ ltb w (length places) → IfSome o (λ x. x.now ≡ get_or places w x.now) →
    option_copied o ≡ cond (ltb w (length places)) (Some (get_or places w 0)) None
looked_up places w None e h = ap (λ (q : Bool). cond q (Some (get_or places w 0)) None) e
looked_up places w (Some x) e h =
    let l : w < length places = ltb-true w (length places) (sym e) in
    ap (λ (v : ℕ). let o : Option ℕ = Some v in o) (h ∙ get_or_default places w x.now 0 l) ∙ ap (λ (q : Bool). cond q (Some (get_or places w 0)) None) e

pub sum-by_places : (a b top i j : ℕ) (rows : List Function) (places : List ℕ) → IsFunctionTable a b top rows places →
    cond (ltb (weight_at a b top i + weight_at a b top j) (length places)) (Some (get_or places (weight_at a b top i + weight_at a b top j) 0)) None ≡ sum_of a b top i j
unfolding sum_of
sum-by_places a b top i j rows places h =
    let w : ℕ = weight_at a b top i + weight_at a b top j in
    let n : length places ≡ top + 1 = h.weights in
    elim (cases_lt top w) [
      | inl l ↦
          cond-false (ltb w (length places)) (Some (get_or places w 0)) None (le-ltb w (length places) (omega arith))
          ∙ sym (cond-false (leb w top) (Some (place_of a b w)) None (lt-leb w top l))
      | inr l ↦
          cond-true (ltb w (length places)) (Some (get_or places w 0)) None (lt-ltb w (length places) (omega arith))
          ∙ ap (λ (v : ℕ). let o : Option ℕ = Some v in o) (h.places_are w l)
          ∙ sym (cond-true (leb w top) (Some (place_of a b w)) None (le-leb w top l))
    ]
