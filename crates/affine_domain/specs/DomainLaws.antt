-- affine_domain-functions    what is named of the domain of a space are its functions
-- IsPointOn                  each coordinate of a point is below the number of its values
-- point_on                   which holds of each point of a space
-- affine_domain-lawful       the domain of a space meets the laws of an order domain
use Rattle.std.proofs.Common.{◌≡◌, ℕ, ◌+◌, ◌<◌, ◌≤◌, ◌^◌, IsTrue, true, ◌&&◌, eqb, List, length, bit_xor}
use Rattle.std.proofs.Common.{sym, ◌∙◌, ap, refl, inl, inr, arith}
use Rattle.std.specs.Prelude.{nat_lt}
use Rattle.std.proofs.lemmas.Bool.{and_parts, ltb-true, cases_order, cases_eq, cond-true, cond-false, eq-eqb, ne_eqb}
use Rattle.std.specs.Int.Bits.{xor_zero_r}
use Rattle.field_theory.specs.Field.{IsField}
use Rattle.field_theory.proofs.Sums.{sum-zero, zero-mul}
use Rattle.gf_theory.specs.Field.{IsModulus, gf_mul}
use Rattle.gf_theory.proofs.Fields.{field_of_modulus}
use Rattle.curve_theory.specs.Curve.{power}
use Rattle.curve_theory.proofs.Values.{power-add, mul_mid}
use Rattle.theory_affine.specs.Monomials.{Monomial, times, monomial_at, monomial_count}
use Rattle.theory_affine.specs.Order.{HasSums}
use Rattle.theory_affine.specs.Separation.{side, monomial_value, separating_coefficient, IsAffineSeparation}
use Rattle.theory_affine.proofs.Places.{has_places}
use Rattle.theory_affine.proofs.Order.{has_sums}
use Rattle.theory_affine.proofs.Separate.{separation}
use Rattle.order_domain.specs.declared.Point.{Point}
use Rattle.order_domain.specs.Points.{origin, point_at}
use Rattle.order_domain.specs.Domain.{ArePoints, HasRisingSums, IsLedProduct, IsSeparated, IsOrderDomain, combined}
use Rattle.order_domain.specs.Functions.{functions_of}
use Rattle.affine_domain.specs.Space.{IsSpace}
use Rattle.affine_domain.specs.Points.{is_on_space}
use Rattle.affine_domain.specs.Domain.{affine_functions, affine_domain}

pub affine_domain-functions : (bits vars : ℕ) → functions_of (affine_domain bits vars) ≡ affine_functions bits vars
affine_domain-functions bits vars = refl

field_of : (bits modulus : ℕ) → IsModulus bits modulus → IsField (2 ^ bits) (gf_mul bits modulus)
field_of bits modulus h =
    let two : 2 ≤ bits = h.at_least_two in field_of_modulus bits modulus (omega arith) h.irreducible

pub record IsPointOn (bits vars : ℕ) (p : Point) : Type 0 where
  pub x_below : p.x < side (2 ^ bits) vars 0
  pub y_below : p.y < side (2 ^ bits) vars 1
  pub z_below : p.z < side (2 ^ bits) vars 2

pub point_on : (bits vars : ℕ) (p : Point) → IsTrue (is_on_space bits vars p) → IsPointOn bits vars p
unfolding is_on_space
point_on bits vars p h =
    let all : ((nat_lt p.x (side (2 ^ bits) vars 0) && nat_lt p.y (side (2 ^ bits) vars 1)) ≡ true)
    × (nat_lt p.z (side (2 ^ bits) vars 2) ≡ true) =
    and_parts (nat_lt p.x (side (2 ^ bits) vars 0) && nat_lt p.y (side (2 ^ bits) vars 1))
    (nat_lt p.z (side (2 ^ bits) vars 2)) h in
    let two : (nat_lt p.x (side (2 ^ bits) vars 0) ≡ true) × (nat_lt p.y (side (2 ^ bits) vars 1) ≡ true) =
    and_parts (nat_lt p.x (side (2 ^ bits) vars 0)) (nat_lt p.y (side (2 ^ bits) vars 1)) all.0 in
    record {
      x_below = ltb-true p.x (side (2 ^ bits) vars 0) two.0;
      y_below = ltb-true p.y (side (2 ^ bits) vars 1) two.1;
      z_below = ltb-true p.z (side (2 ^ bits) vars 2) all.1;
    }

same_point : (p q : Point) → p.x ≡ q.x → p.y ≡ q.y → p.z ≡ q.z → p ≡ q
same_point p q e f g =
    ap (λ (v : ℕ). let r : Point = record { x = v; y = p.y; z = p.z } in r) e
    ∙ ap (λ (v : ℕ). let r : Point = record { x = q.x; y = v; z = p.z } in r) f
    ∙ ap (λ (v : ℕ). let r : Point = record { x = q.x; y = q.y; z = v } in r) g

module _ (bits vars : ℕ) (space : IsSpace bits vars) where
  sums : HasSums (2 ^ bits) vars
  sums = has_sums (2 ^ bits) vars (has_places vars space.vars_least space.vars_most)

  rising_sums : HasRisingSums (affine_domain bits vars)
  rising_sums = record {
    within = λ i j s li lj e. (sums.within i j s li lj e).0;
    commute = λ i j li lj. sums.commute i j;
    smaller = sums.smaller;
  }

  -- the value of a product is the product of the values
  value-times : (modulus x y z : ℕ) (m n : Monomial) → IsModulus bits modulus →
      gf_mul bits modulus (monomial_value (gf_mul bits modulus) m x y z) (monomial_value (gf_mul bits modulus) n x y z)
      ≡ monomial_value (gf_mul bits modulus) (times m n) x y z
  value-times modulus x y z m n h =
      let mul : ℕ → ℕ → ℕ = gf_mul bits modulus in
      let field : IsField (2 ^ bits) (gf_mul bits modulus) = field_of bits modulus h in
      mul_mid (2 ^ bits) mul field
      (mul (power mul x m.x) (power mul y m.y)) (power mul z m.z)
      (mul (power mul x n.x) (power mul y n.y)) (power mul z n.z)
      ∙ ap (λ t. mul t (mul (power mul z m.z) (power mul z n.z)))
      (mul_mid (2 ^ bits) mul field (power mul x m.x) (power mul y m.y) (power mul x n.x) (power mul y n.y))
      ∙ ap (λ t. mul (mul t (mul (power mul y m.y) (power mul y n.y))) (mul (power mul z m.z) (power mul z n.z)))
      (sym (power-add (2 ^ bits) mul field x m.x n.x))
      ∙ ap (λ t. mul (mul (power mul x (m.x + n.x)) t) (mul (power mul z m.z) (power mul z n.z)))
      (sym (power-add (2 ^ bits) mul field y m.y n.y))
      ∙ ap (λ t. mul (mul (power mul x (m.x + n.x)) (power mul y (m.y + n.y))) t)
      (sym (power-add (2 ^ bits) mul field z m.z n.z))

  value_below : (modulus i x y z : ℕ) → IsModulus bits modulus →
      monomial_value (gf_mul bits modulus) (monomial_at vars i) x y z < 2 ^ bits
  value_below modulus i x y z h =
      let mul : ℕ → ℕ → ℕ = gf_mul bits modulus in
      let m : Monomial = monomial_at vars i in
      (field_of bits modulus h).mul_below (mul (power mul x m.x) (power mul y m.y)) (power mul z m.z)

  product_of : (modulus i j s : ℕ) → IsModulus bits modulus →
      monomial_at vars s ≡ times (monomial_at vars i) (monomial_at vars j) →
      IsLedProduct (affine_domain bits vars) modulus i j s
  product_of modulus i j s h e = record {
    lead_not_zero = λ z. omega arith;
    symbols = λ k l. let one : 1 < 2 ^ bits = (field_of bits modulus h).one_below in omega arith;
    product = λ p on.
        let mul : ℕ → ℕ → ℕ = gf_mul bits modulus in
        let field : IsField (2 ^ bits) (gf_mul bits modulus) = field_of bits modulus h in
        let V : ℕ → ℕ = λ k. monomial_value mul (monomial_at vars k) p.x p.y p.z in
        value-times modulus p.x p.y p.z (monomial_at vars i) (monomial_at vars j) h
        ∙ ap (λ (m : Monomial). monomial_value mul m p.x p.y p.z) (sym e)
        ∙ sym (field.one_mul (V s) (value_below modulus s p.x p.y p.z h))
        ∙ sym (xor_zero_r (mul 1 (V s)))
        ∙ ap (λ t. bit_xor (mul 1 (V s)) t)
        (sym (sum-zero s (λ k. mul 0 (V k)) (λ k l. zero-mul (2 ^ bits) mul field (V k))));
  }

  separated : (modulus : ℕ) (points : List Point) (t : ℕ) → IsModulus bits modulus →
      ArePoints (affine_domain bits vars) modulus points → t < length points →
      IsSeparated (affine_domain bits vars) modulus points t
  separated modulus points t h are l =
      let on : (q : ℕ) → q < length points → IsPointOn bits vars (point_at points q) =
      λ q lq. point_on bits vars (point_at points q) (are.all_on q origin lq) in
      let p : Point = point_at points t in
      let w : IsAffineSeparation (2 ^ bits) (gf_mul bits modulus) vars
      (point_at points t).x (point_at points t).y (point_at points t).z =
      separation (2 ^ bits) (gf_mul bits modulus) (field_of bits modulus h) vars space.vars_least space.vars_most
      p.x p.y p.z (on t l).x_below (on t l).y_below (on t l).z_below in
      record {
        symbols = λ k lk. w.symbols k;
        values = λ q lq. elim (cases_eq q t) [
          | inl e ↦
              ap (λ (k : ℕ). combined (affine_domain bits vars) modulus (monomial_count (2 ^ bits) vars)
              (separating_coefficient (2 ^ bits) (gf_mul bits modulus) vars p.x p.y p.z) (point_at points k)) e
              ∙ w.here ∙ sym (cond-true (eqb q t) 1 0 (eq-eqb q t e))
          | inr d ↦
              w.elsewhere (point_at points q).x (point_at points q).y (point_at points q).z
              (on q lq).x_below (on q lq).y_below (on q lq).z_below
              (λ ex ey ez.
              let same : point_at points q ≡ point_at points t =
              same_point (point_at points q) (point_at points t) ex ey ez in
              elim (cases_order q t) [
                | inl e ↦ d e
                | inr (inl m) ↦ are.distinct q t origin m l same
                | inr (inr m) ↦ are.distinct t q origin m lq (sym same)
              ])
              ∙ sym (cond-false (eqb q t) 1 0 (ne_eqb q t d))
        ];
      }

  pub affine_domain-lawful : IsOrderDomain (affine_domain bits vars)
  affine_domain-lawful = record {
    labels_rise = λ i j l lj. l;
    sums_rise = rising_sums;
    product_law = λ modulus i j s h li lj e. product_of modulus i j s h (sums.within i j s li lj e).1;
    separation = separated;
    neutral = record {
      sum_zero = sums.zero_neutral;
      eval_symbol = λ modulus i p h l on. value_below modulus i p.x p.y p.z h;
      lead_symbol = λ modulus i j s h li lj e. (field_of bits modulus h).one_below;
    };
  }
