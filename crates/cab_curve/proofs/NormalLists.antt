-- Lists of normal terms: one term after the other, and that their coefficients determine them
use Rattle.std.proofs.Common.{◌≡◌, ◌≢◌, ℕ, zero, suc, ◌+◌, ◌-◌, ◌*◌, ◌<◌, ◌≤◌, ◌^◌, cond, eqb, leb, ltb, ◌&&◌, Bool, true, false, List, [], ◌∷◌, ◌++◌, length, sym, ◌∙◌, ap, subst, refl, inl, inr, arith}
use Rattle.std.specs.Prelude.{slice_index, slice_index_or, Result, Ok, Err, IfOk}
use Rattle.std.specs.List.{All, AllPairs}
use Rattle.std.proofs.Math.ListN.{get_or-eq_default}
use Rattle.std.proofs.lemmas.Bool.{cases_eq, cases_lt, cases_order, cond-true, cond-false, eq-eqb, ne_eqb, lt-ltb, le-ltb, le-leb, lt-leb, and_from, and_left, and_right}
use Rattle.std.proofs.lemmas.List.Elements.{All-push}
use Rattle.std.proofs.lemmas.List.Quantifiers.{all_pairs_push}
use Rattle.gf_theory.specs.Field.{IsModulus, gf_mul}
use Rattle.curve_theory.specs.Polynomial.{IsNormalForm}
use Rattle.curve_theory.proofs.Weights.{normal_form_change}
use Rattle.curve_theory.proofs.Monomials.{x_steps}
use Rattle.curve_theory.proofs.Unique.{normal_form-unique}
use Rattle.cab_curve.specs.declared.normal.NormTerm.{NormTerm}
use Rattle.cab_curve.specs.Equation.{Equation, IsCurve}
use Rattle.cab_curve.specs.NormalForms.{coefficient_at, IsNormalList, IsRaised, power_product, IsNormalOf}
use Rattle.cab_curve.specs.Relation.{HasPowerOfY}
use Rattle.cab_curve.proofs.Calls.{field_of}

-- the weights of a normal list, term by term: they rise from m on
rises_from : ℕ → List NormTerm → Type 0
rises_from m [] = Unit {0}
rises_from m (t ∷ ts) = (m ≤ t.weight) × (t.c ≢ 0) × rises_from (suc t.weight) ts

rises : (m : ℕ) (ts : List NormTerm) → AllPairs (λ s t. s.weight < t.weight) ts → All (λ t. t.c ≢ 0) ts → All (λ t. m ≤ t.weight) ts → rises_from m ts
unfolding rises_from
rises m [] pairs all low = tt
rises m (t ∷ ts) pairs all low = (
  low zero t (omega arith),
  all zero t (omega arith),
  rises (suc t.weight) ts (λ i j d l h. pairs (suc i) (suc j) d (omega arith) (omega arith)) (λ k d l. all (suc k) d (omega arith))
      (λ k d l. pairs zero (suc k) d (omega arith) (omega arith)),
)

-- a list has no coefficient below its first weight
none_below : (m w : ℕ) (ts : List NormTerm) → rises_from m ts → w < m → coefficient_at ts w ≡ 0
unfolding rises_from
none_below m w [] h l = refl
none_below m w (t ∷ ts) h l =
    let low : m ≤ t.weight = h.0 in
    cond-false (eqb t.weight w) t.c (coefficient_at ts w) (ne_eqb t.weight w (λ e. absurd (omega arith))) ∙ none_below (suc t.weight) w ts h.2 (omega arith)

first_coefficient : (t : NormTerm) (ts : List NormTerm) → coefficient_at (t ∷ ts) t.weight ≡ t.c
first_coefficient t ts = cond-true (eqb t.weight t.weight) t.c (coefficient_at ts t.weight) (eq-eqb t.weight t.weight refl)

same_term : (s t : NormTerm) → s.weight ≡ t.weight → s.c ≡ t.c → s ≡ t
same_term s t e f =
    ap (λ (v : ℕ). let r : NormTerm = record { weight = v; c = s.c } in r) e
    ∙ ap (λ (v : ℕ). let r : NormTerm = record { weight = t.weight; c = v } in r) f

same_lists : (m : ℕ) (ss ts : List NormTerm) → rises_from m ss → rises_from m ts → ((w : ℕ) → coefficient_at ss w ≡ coefficient_at ts w) → ss ≡ ts
unfolding rises_from
same_lists m [] [] hs ht e = refl
same_lists m [] (t ∷ ts) hs ht e = absurd (ht.1 (sym (e t.weight ∙ first_coefficient t ts)))
same_lists m (s ∷ ss) [] hs ht e = absurd (hs.1 (sym (first_coefficient s ss) ∙ e s.weight))
same_lists m (s ∷ ss) (t ∷ ts) hs ht e = elim (cases_order s.weight t.weight) [
  | inl w ↦
      let c : s.c ≡ t.c = sym (first_coefficient s ss) ∙ e s.weight ∙ ap (coefficient_at (t ∷ ts)) w ∙ first_coefficient t ts in
      let rest : ss ≡ ts = same_lists (suc s.weight) ss ts hs.2 (subst (λ (n : ℕ). rises_from (suc n) ts) (sym w) ht.2)
      (λ v. elim (cases_lt s.weight v) [
        | inl l ↦
            sym (cond-false (eqb s.weight v) s.c (coefficient_at ss v) (ne_eqb s.weight v (λ q. absurd (omega arith)))) ∙ e v
            ∙ cond-false (eqb t.weight v) t.c (coefficient_at ts v) (ne_eqb t.weight v (λ q. absurd (omega arith)))
        | inr l ↦ none_below (suc s.weight) v ss hs.2 (omega arith) ∙ sym (none_below (suc t.weight) v ts ht.2 (omega arith))
      ]) in
      ap (λ (q : NormTerm). q ∷ ss) (same_term s t w c) ∙ ap (λ (z : List NormTerm). t ∷ z) rest
  | inr (inl l) ↦
      absurd (hs.1 (sym (first_coefficient s ss) ∙ e s.weight
      ∙ cond-false (eqb t.weight s.weight) t.c (coefficient_at ts s.weight) (ne_eqb t.weight s.weight (λ q. absurd (omega arith))) ∙ none_below (suc t.weight) s.weight ts ht.2 (omega arith)))
  | inr (inr l) ↦
      absurd (ht.1 (sym (first_coefficient t ts) ∙ sym (e t.weight)
      ∙ cond-false (eqb s.weight t.weight) s.c (coefficient_at ss t.weight) (ne_eqb s.weight t.weight (λ q. absurd (omega arith))) ∙ none_below (suc s.weight) t.weight ss hs.2 (omega arith)))
]

-- a normal list is determined by its coefficients
pub lists_unique : (ss ts : List NormTerm) → IsNormalList ss → IsNormalList ts → ((w : ℕ) → coefficient_at ss w ≡ coefficient_at ts w) → ss ≡ ts
lists_unique ss ts hs ht e =
    same_lists 0 ss ts (rises 0 ss hs.rising hs.not_zero (λ k d l. omega arith)) (rises 0 ts ht.rising ht.not_zero (λ k d l. omega arith)) e

-- the terms made of the first n coefficients
pub record AreRaised (shift n : ℕ) (coefficients : List ℕ) (ts : List NormTerm) : Type 0 where
  pub is_list : IsNormalList ts
  pub below : All (λ t. t.weight < shift + n) ts
  pub values : (w : ℕ) → coefficient_at ts w ≡ cond (leb shift w && ltb w (shift + n)) (slice_index coefficients (w - shift)) 0

-- from n coefficients to one more
same_test : (shift n w : ℕ) → w ≢ shift + n → (leb shift w && ltb w (shift + (n + 1))) ≡ (leb shift w && ltb w (shift + n))
same_test shift n w d = elim (cases_lt w (shift + n)) [
  | inl l ↦ ap (λ q. leb shift w && q) (lt-ltb w (shift + (n + 1)) (omega arith) ∙ sym (lt-ltb w (shift + n) l))
  | inr l ↦ ap (λ q. leb shift w && q) (le-ltb w (shift + (n + 1)) (omega arith) ∙ sym (le-ltb w (shift + n) l))
]

last_value : (shift n w : ℕ) (coefficients : List ℕ) → w ≡ shift + n → cond (leb shift w && ltb w (shift + (n + 1))) (slice_index coefficients (w - shift)) 0 ≡ slice_index coefficients n
last_value shift n w coefficients e =
    let same : w - shift ≡ n = omega arith in
    cond-true (leb shift w && ltb w (shift + (n + 1))) (slice_index coefficients (w - shift)) 0
    (and_from (leb shift w) (ltb w (shift + (n + 1))) (le-leb shift w (omega arith)) (lt-ltb w (shift + (n + 1)) (omega arith)))
    ∙ ap (slice_index coefficients) same

no_value : (shift n w : ℕ) (coefficients : List ℕ) → shift + n ≤ w → cond (leb shift w && ltb w (shift + n)) (slice_index coefficients (w - shift)) 0 ≡ 0
no_value shift n w coefficients l =
    cond-false (leb shift w && ltb w (shift + n)) (slice_index coefficients (w - shift)) 0 (and_right (leb shift w) (ltb w (shift + n)) (le-ltb w (shift + n) l))

-- a term pushed after terms of smaller weight
coefficient_at-push : (ts : List NormTerm) (t : NormTerm) (w : ℕ) → All (λ s. s.weight < t.weight) ts → coefficient_at (ts ++ t ∷ []) w ≡ cond (eqb t.weight w) t.c (coefficient_at ts w)
coefficient_at-push [] t w h = refl
coefficient_at-push (s ∷ ts) t w h =
    let low : s.weight < t.weight = h zero s (omega arith) in
    let ih : coefficient_at (ts ++ t ∷ []) w ≡ cond (eqb t.weight w) t.c (coefficient_at ts w) = coefficient_at-push ts t w (λ k d l. h (suc k) d (omega arith)) in
    elim (cases_eq t.weight w) [
      | inl e ↦
          cond-false (eqb s.weight w) s.c (coefficient_at (ts ++ t ∷ []) w) (ne_eqb s.weight w (λ q. absurd (omega arith))) ∙ ih
          ∙ cond-true (eqb t.weight w) t.c (coefficient_at ts w) (eq-eqb t.weight w e)
          ∙ sym (cond-true (eqb t.weight w) t.c (coefficient_at (s ∷ ts) w) (eq-eqb t.weight w e))
      | inr d ↦
          ap (λ z. cond (eqb s.weight w) s.c z) (ih ∙ cond-false (eqb t.weight w) t.c (coefficient_at ts w) (ne_eqb t.weight w d))
          ∙ sym (cond-false (eqb t.weight w) t.c (coefficient_at (s ∷ ts) w) (ne_eqb t.weight w d))
    ]

pub raised_none : (shift : ℕ) (coefficients : List ℕ) → AreRaised shift 0 coefficients []
raised_none shift coefficients = record {
  is_list = record { rising = λ i j d l h. absurd (omega arith); not_zero = λ k d l. absurd (omega arith) };
  below = λ k d l. absurd (omega arith);
  values = λ w. elim (cases_lt w shift) [
    | inl l ↦ sym (cond-false (leb shift w && ltb w (shift + 0)) (slice_index coefficients (w - shift)) 0 (and_left (leb shift w) (ltb w (shift + 0)) (lt-leb shift w l)))
    | inr l ↦ sym (no_value shift 0 w coefficients (omega arith))
  ];
}

pub raised_zero : (shift n : ℕ) (coefficients : List ℕ) (ts : List NormTerm) → AreRaised shift n coefficients ts → slice_index coefficients n ≡ 0 → AreRaised shift (n + 1) coefficients ts
raised_zero shift n coefficients ts h z = record {
  is_list = h.is_list;
  below = λ k d l. let q : (slice_index_or ts k d).weight < shift + n = h.below k d l in omega arith;
  values = λ w. elim (cases_eq w (shift + n)) [
    | inl e ↦ h.values w ∙ no_value shift n w coefficients (omega arith) ∙ sym (last_value shift n w coefficients e ∙ z)
    | inr d ↦ h.values w ∙ ap (λ q. cond q (slice_index coefficients (w - shift)) 0) (sym (same_test shift n w d))
  ];
}

pub raised_term : (shift n c : ℕ) (coefficients : List ℕ) (ts : List NormTerm) → AreRaised shift n coefficients ts → slice_index coefficients n ≡ c → c ≢ 0 →
    AreRaised shift (n + 1) coefficients (ts ++ record { weight = shift + n; c = c } ∷ [])
raised_term shift n c coefficients ts h e nz =
    let t : NormTerm = record { weight = shift + n; c = c } in
    record {
      is_list = record {
        rising = all_pairs_push (λ s t. s.weight < t.weight) ts t h.is_list.rising (λ k d l. h.below k d l);
        not_zero = All-push (λ t. t.c ≢ 0) ts t h.is_list.not_zero nz;
      };
      below = All-push (λ s. s.weight < shift + (n + 1)) ts t (λ k d l. let q : (slice_index_or ts k d).weight < shift + n = h.below k d l in omega arith) (omega arith);
      values = λ w. coefficient_at-push ts t w h.below ∙ elim (cases_eq w (shift + n)) [
        | inl q ↦
            cond-true (eqb (shift + n) w) c (coefficient_at ts w) (eq-eqb (shift + n) w (sym q)) ∙ sym e ∙ sym (last_value shift n w coefficients q)
        | inr d ↦
            cond-false (eqb (shift + n) w) c (coefficient_at ts w) (ne_eqb (shift + n) w (λ q. d (sym q)))
            ∙ h.values w ∙ ap (λ q. cond q (slice_index coefficients (w - shift)) 0) (sym (same_test shift n w d))
      ];
    }

-- all coefficients
pub raised_all : (shift n : ℕ) (coefficients : List ℕ) (ts : List NormTerm) → AreRaised shift n coefficients ts → length coefficients ≤ n → IsRaised shift coefficients ts
raised_all shift n coefficients ts h l = record {
  values = λ w. h.values w ∙ elim (cases_lt w (shift + n)) [
    | inl k ↦ ap (λ q. cond q (slice_index coefficients (w - shift)) 0) (ap (λ q. leb shift w && q) (lt-ltb w (shift + n) k) ∙ and_true (leb shift w))
    | inr k ↦
        let past : length coefficients ≤ w - shift = omega arith in
        no_value shift n w coefficients k
        ∙ sym (cond-true (leb shift w) (slice_index coefficients (w - shift)) 0 (le-leb shift w (omega arith)) ∙ get_or-eq_default coefficients 0 past)
  ];
}
  where
    and_true : (q : Bool) → (q && true) ≡ q
    and_true true = refl
    and_true false = refl

-- the normal form of x^i·y^j
pub normal_of : (e : Equation) (modulus i j : ℕ) (power : List ℕ) (ts : List NormTerm) → IsCurve e → IsModulus e.bits modulus → HasPowerOfY e modulus j power →
    IsNormalList ts → IsRaised (e.a * i) power ts → IsNormalOf e modulus i j ts
normal_of e modulus i j power ts curve is h normal raised =
    let form : IsNormalForm (2 ^ e.bits) (gf_mul e.bits modulus) e.a e.b e.terms (power_product i j) (coefficient_at ts) =
    normal_form_change (2 ^ e.bits) (gf_mul e.bits modulus) (field_of e.bits modulus is) e.a e.b e.terms curve.equation (power_product i j)
    (λ w. cond (leb (e.a * i) w) (slice_index power (w - e.a * i)) 0) (coefficient_at ts) raised.values
    (x_steps (2 ^ e.bits) (gf_mul e.bits modulus) (field_of e.bits modulus is) e.a e.b e.terms curve.equation i j (slice_index power) h.is_form) in
    record {
      is_list = normal;
      is_form = form;
      only = λ other is_list is_form.
          lists_unique other ts is_list normal
          (normal_form-unique (2 ^ e.bits) (gf_mul e.bits modulus) (field_of e.bits modulus is) e.a e.b e.terms curve.equation (power_product i j) (coefficient_at other) (coefficient_at ts) is_form form);
    }

pub normal_result : {E : Type 0} (e : Equation) (modulus i j : ℕ) (power : List ℕ) (r : Result (List NormTerm) E) → IsCurve e → IsModulus e.bits modulus → HasPowerOfY e modulus j power →
    IfOk r IsNormalList → IfOk r (IsRaised (e.a * i) power) → IfOk r (IsNormalOf e modulus i j)
normal_result e modulus i j power (Ok ts) curve is h normal raised = normal_of e modulus i j power ts curve is h normal raised
normal_result e modulus i j power (Err x) curve is h normal raised = tt
