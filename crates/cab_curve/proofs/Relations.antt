-- What y^a is on a curve, term by term, and the powers of y, one by one
use Rattle.std.proofs.Common.{◌≡◌, ℕ, zero, suc, ◌+◌, ◌-◌, ◌*◌, ◌<◌, ◌≤◌, ◌^◌, Bool, true, false, cond, eqb, ◌&&◌, not, List, [], ◌∷◌, ◌++◌, length, get_or, take, drop, map, zero-add, add-one, drop-cons, append_assoc, sym, ◌∙◌, ap, subst, refl, arith}
use Rattle.std.specs.Prelude.{slice_index}
use Rattle.std.specs.List.{All}
use Rattle.std.proofs.Math.ListN.{get_or-eq_default, drop_of_length-le}
use Rattle.std.proofs.lemmas.List.{append-nil}
use Rattle.std.proofs.Math.Seq.{take-append_seam}
use Rattle.std.proofs.lemmas.Bool.{cond-true, cond-false, ne_eqb}
use Rattle.std.proofs.lemmas.List.Elements.{All-from_recursion}
use Rattle.gf_theory.specs.Field.{IsModulus, gf_mul}
use Rattle.curve_theory.specs.declared.Term.{Term}
use Rattle.curve_theory.specs.Curve.{coefficient}
use Rattle.curve_theory.specs.Normal.{inverse_of, others, times_monomial, relation}
use Rattle.curve_theory.specs.Polynomial.{IsNormalForm}
use Rattle.curve_theory.specs.Weights.{one_by_weights, times_y_by_weights}
use Rattle.curve_theory.proofs.Normal.{IsNormalTerm, all_weaken}
use Rattle.curve_theory.proofs.Product.{relation-normal}
use Rattle.curve_theory.proofs.Values.{inverse_of-is}
use Rattle.curve_theory.proofs.Weights.{normal_form_change, normal_form-one}
use Rattle.curve_theory.proofs.Monomials.{y_step}
use Rattle.cab_curve.specs.Equation.{Equation, IsCurve}
use Rattle.cab_curve.specs.NormalForms.{power_product}
use Rattle.cab_curve.specs.Relation.{IsRelationOf, HasPowerOfY}
use Rattle.cab_curve.proofs.Calls.{field_of, lead-symbol}

-- the terms other than y^a, with their coefficients times u
pub scaled : (mul : ℕ → ℕ → ℕ) (u a : ℕ) → List Term → List Term
scaled mul u a [] = []
scaled mul u a (t ∷ ts) = cond (eqb t.i 0 && eqb t.j a) (scaled mul u a ts) (record { i = t.i; j = t.j; c = mul u t.c } ∷ scaled mul u a ts)

scaled-others : (mul : ℕ → ℕ → ℕ) (u a : ℕ) (ts : List Term) → scaled mul u a ts ≡ times_monomial mul 0 0 u (others a ts)
unfolding scaled
scaled-others mul u a [] = refl
scaled-others mul u a (t ∷ ts) = front (eqb t.i 0 && eqb t.j a) (scaled-others mul u a ts)
  where
    front : (q : Bool) → scaled mul u a ts ≡ times_monomial mul 0 0 u (others a ts) →
        cond q (scaled mul u a ts) (record { i = t.i; j = t.j; c = mul u t.c } ∷ scaled mul u a ts)
        ≡ map (λ (t : Term). let r : Term = record { i = 0 + t.i; j = 0 + t.j; c = mul u t.c } in r) (cond (not q) (t ∷ others a ts) (others a ts))
    front true h = h
    front false h =
        ap (λ (n : ℕ). record { i = n; j = t.j; c = mul u t.c } ∷ scaled mul u a ts) (sym (zero-add t.i))
        ∙ ap (λ (n : ℕ). record { i = 0 + t.i; j = n; c = mul u t.c } ∷ scaled mul u a ts) (sym (zero-add t.j))
        ∙ ap (λ (z : List Term). record { i = 0 + t.i; j = 0 + t.j; c = mul u t.c } ∷ z) h

scaled-relation : (size : ℕ) (mul : ℕ → ℕ → ℕ) (a : ℕ) (ts : List Term) → scaled mul (inverse_of size mul (coefficient ts 0 a)) a ts ≡ relation size mul a ts
unfolding relation
scaled-relation size mul a ts = scaled-others mul (inverse_of size mul (coefficient ts 0 a)) a ts

-- one term more of the equation: y^a is skipped, another one pushed
pub scaled_skip : (mul : ℕ → ℕ → ℕ) (u a k : ℕ) (ts : List Term) (d : Term) (xs whole : List Term) → k < length ts →
    (eqb (get_or ts k d).i 0 && eqb (get_or ts k d).j a) ≡ true → xs ++ scaled mul u a (drop k ts) ≡ whole → xs ++ scaled mul u a (drop (k + 1) ts) ≡ whole
unfolding scaled
scaled_skip mul u a k ts d xs whole l e h =
    ap (λ (n : ℕ). xs ++ scaled mul u a (drop n ts)) (add-one k)
    ∙ ap (λ (z : List Term). xs ++ z)
    (sym (ap (scaled mul u a) (drop-cons ts k d l)
    ∙ cond-true (eqb (get_or ts k d).i 0 && eqb (get_or ts k d).j a) (scaled mul u a (drop (suc k) ts)) _ e)) ∙ h

pub scaled_push : (mul : ℕ → ℕ → ℕ) (u a k v : ℕ) (ts : List Term) (d : Term) (xs ys whole : List Term) → k < length ts →
    (eqb (get_or ts k d).i 0 && eqb (get_or ts k d).j a) ≡ false → v ≡ mul u (get_or ts k d).c →
    ys ≡ xs ++ record { i = (get_or ts k d).i; j = (get_or ts k d).j; c = v } ∷ [] → xs ++ scaled mul u a (drop k ts) ≡ whole → ys ++ scaled mul u a (drop (k + 1) ts) ≡ whole
unfolding scaled
scaled_push mul u a k v ts d xs ys whole l e value f h =
    let rest : List Term = scaled mul u a (drop (suc k) ts) in
    let t : Term = record { i = (get_or ts k d).i; j = (get_or ts k d).j; c = v } in
    ap (λ (n : ℕ). ys ++ scaled mul u a (drop n ts)) (add-one k)
    ∙ ap (λ (z : List Term). z ++ rest) f
    ∙ append_assoc xs (t ∷ []) rest
    ∙ ap (λ (z : ℕ). xs ++ record { i = (get_or ts k d).i; j = (get_or ts k d).j; c = z } ∷ rest) value
    ∙ ap (λ (z : List Term). xs ++ z)
    (sym (ap (scaled mul u a) (drop-cons ts k d l)
    ∙ cond-false (eqb (get_or ts k d).i 0 && eqb (get_or ts k d).j a) (scaled mul u a (drop (suc k) ts)) _ e)) ∙ h

-- after the last term
pub scaled-whole : (mul : ℕ → ℕ → ℕ) (u a k : ℕ) (ts xs : List Term) → length ts ≤ k → xs ++ scaled mul u a (drop k ts) ≡ scaled mul u a ts → xs ≡ scaled mul u a ts
unfolding scaled
scaled-whole mul u a k ts xs l h =
    sym (append-nil xs) ∙ ap (λ (z : List Term). xs ++ z) (sym (ap (scaled mul u a) (drop_of_length-le ts l))) ∙ h

module _ (e : Equation) (curve : IsCurve e) (modulus : ℕ) (is : IsModulus e.bits modulus) where
  pub relation-found : (u : ℕ) (xs : List Term) → u < 2 ^ e.bits → gf_mul e.bits modulus (coefficient e.terms 0 e.a) u ≡ 1 →
      xs ≡ scaled (gf_mul e.bits modulus) u e.a e.terms → xs ≡ relation (2 ^ e.bits) (gf_mul e.bits modulus) e.a e.terms
  relation-found u xs l one h =
      h
      ∙ ap (λ (z : ℕ). scaled (gf_mul e.bits modulus) z e.a e.terms)
      (sym (inverse_of-is (2 ^ e.bits) (gf_mul e.bits modulus) (field_of e.bits modulus is) (coefficient e.terms 0 e.a) u (lead-symbol e curve modulus is 0 e.a) curve.equation.y_lead l one))
      ∙ scaled-relation (2 ^ e.bits) (gf_mul e.bits modulus) e.a e.terms

  pub relation-weights : All (λ t. e.a * t.i + e.b * t.j ≤ e.a * e.b) (relation (2 ^ e.bits) (gf_mul e.bits modulus) e.a e.terms)
  relation-weights =
      All-from_recursion (λ t. e.a * t.i + e.b * t.j ≤ e.a * e.b) (relation (2 ^ e.bits) (gf_mul e.bits modulus) e.a e.terms)
      (all_weaken (λ t. IsNormalTerm (2 ^ e.bits) e.a e.b (e.a * e.b) t) (λ t. e.a * t.i + e.b * t.j ≤ e.a * e.b) (λ t h. h.weight)
      (relation (2 ^ e.bits) (gf_mul e.bits modulus) e.a e.terms) (relation-normal (2 ^ e.bits) (gf_mul e.bits modulus) (field_of e.bits modulus is) e.a e.b e.terms curve.equation))

  pub relation-symbols : All (λ t. t.c < 2 ^ e.bits) (relation (2 ^ e.bits) (gf_mul e.bits modulus) e.a e.terms)
  relation-symbols =
      All-from_recursion (λ t. t.c < 2 ^ e.bits) (relation (2 ^ e.bits) (gf_mul e.bits modulus) e.a e.terms)
      (all_weaken (λ t. IsNormalTerm (2 ^ e.bits) e.a e.b (e.a * e.b) t) (λ t. t.c < 2 ^ e.bits) (λ t h. h.symbol)
      (relation (2 ^ e.bits) (gf_mul e.bits modulus) e.a e.terms) (relation-normal (2 ^ e.bits) (gf_mul e.bits modulus) (field_of e.bits modulus is) e.a e.b e.terms curve.equation))

  pub power_zero : HasPowerOfY e modulus 0 (1 ∷ [])
  power_zero = record {
    weights = omega arith;
    is_form =
        normal_form_change (2 ^ e.bits) (gf_mul e.bits modulus) (field_of e.bits modulus is) e.a e.b e.terms curve.equation (power_product 0 0) one_by_weights (slice_index (1 ∷ []))
        first (normal_form-one (2 ^ e.bits) (gf_mul e.bits modulus) (field_of e.bits modulus is) e.a e.b e.terms curve.equation);
  }
    where
      first : (w : ℕ) → slice_index (1 ∷ []) w ≡ one_by_weights w
      first zero = refl
      first (suc w) = sym (cond-false (eqb (suc w) 0) 1 0 (ne_eqb (suc w) 0 (λ q. absurd (omega arith))))

  pub power_more : (a b j : ℕ) (terms : List Term) (old new : List ℕ) → IsRelationOf e modulus a b terms → HasPowerOfY e modulus j old → length new ≡ length old + b →
      ((w : ℕ) → slice_index new w ≡ times_y_by_weights (gf_mul e.bits modulus) a b terms (length old - 1) (slice_index old) w) → HasPowerOfY e modulus (j + 1) new
  power_more a b j terms old new r h room values = record {
    weights = (let n : length old ≡ e.b * j + 1 = h.weights in let same : b ≡ e.b = r.b_is in let split : e.b * (j + 1) ≡ e.b * j + e.b = omega arith in omega arith);
    is_form =
        normal_form_change (2 ^ e.bits) (gf_mul e.bits modulus) (field_of e.bits modulus is) e.a e.b e.terms curve.equation (power_product 0 (j + 1))
        (times_y_by_weights (gf_mul e.bits modulus) e.a e.b (relation (2 ^ e.bits) (gf_mul e.bits modulus) e.a e.terms) (length old - 1) (slice_index old)) (slice_index new)
        (λ w.
        values w
        ∙ ap (λ (z : ℕ). times_y_by_weights (gf_mul e.bits modulus) z b terms (length old - 1) (slice_index old) w) r.a_is
        ∙ ap (λ (z : ℕ). times_y_by_weights (gf_mul e.bits modulus) e.a z terms (length old - 1) (slice_index old) w) r.b_is
        ∙ ap (λ (z : List Term). times_y_by_weights (gf_mul e.bits modulus) e.a e.b z (length old - 1) (slice_index old) w) r.terms_are)
        (subst (λ (k : ℕ). IsNormalForm (2 ^ e.bits) (gf_mul e.bits modulus) e.a e.b e.terms (power_product 0 k)
        (times_y_by_weights (gf_mul e.bits modulus) e.a e.b (relation (2 ^ e.bits) (gf_mul e.bits modulus) e.a e.terms) (length old - 1) (slice_index old))) (sym (add-one j))
        (y_step (2 ^ e.bits) (gf_mul e.bits modulus) (field_of e.bits modulus is) e.a e.b e.terms curve.equation j (length old - 1) (slice_index old)
        (λ w l. get_or-eq_default old 0 (let n : length old ≡ e.b * j + 1 = h.weights in let k : length old ≤ w = omega arith in k)) h.is_form));
  }

-- what a loop over the equation has made
pub relation_of : (e : Equation) (bits modulus a b u k : ℕ) (equation xs : List Term) → IsCurve e → bits ≡ e.bits → IsModulus bits modulus → a ≡ e.a → b ≡ e.b → equation ≡ e.terms →
    u < 2 ^ bits → gf_mul bits modulus (coefficient equation 0 a) u ≡ 1 → length equation ≤ k →
    xs ++ scaled (gf_mul bits modulus) u a (drop k equation) ≡ scaled (gf_mul bits modulus) u a equation → IsRelationOf e modulus a b xs
relation_of e bits modulus a b u k equation xs curve eb is ea ebb et l one end h = record {
  a_is = ea;
  b_is = ebb;
  terms_are =
      relation-found e curve modulus (subst (λ (n : ℕ). IsModulus n modulus) eb is) u xs (subst (λ (n : ℕ). u < 2 ^ n) eb l) (rw (← eb, ← ea, ← et) one)
      (scaled-whole (gf_mul bits modulus) u a k equation xs end h
      ∙ ap (λ (n : ℕ). scaled (gf_mul n modulus) u a equation) eb
      ∙ ap (λ (n : ℕ). scaled (gf_mul e.bits modulus) u n equation) ea
      ∙ ap (λ (z : List Term). scaled (gf_mul e.bits modulus) u e.a z) et);
}

pub weights_of : (e : Equation) (modulus a b : ℕ) (xs : List Term) → IsCurve e → IsModulus e.bits modulus → IsRelationOf e modulus a b xs → All (λ t. a * t.i + b * t.j ≤ a * b) xs
weights_of e modulus a b xs curve is r = rw (r.a_is, r.b_is, r.terms_are) (relation-weights e curve modulus is)

pub symbols_of : (e : Equation) (modulus a b : ℕ) (xs : List Term) → IsCurve e → IsModulus e.bits modulus → IsRelationOf e modulus a b xs → All (λ t. t.c < 2 ^ e.bits) xs
symbols_of e modulus a b xs curve is r = rw r.terms_are (relation-symbols e curve modulus is)

pub written_back : (n : ℕ) (new old : List ℕ) → length new ≡ n → take n (new ++ drop (length new) old) ≡ new
written_back n new old e = subst (λ (k : ℕ). take k (new ++ drop (length new) old) ≡ new) e (take-append_seam new (drop (length new) old))
