-- cab_domain-functions    what is named of the domain of a curve are its functions
-- cab_domain-lawful       the domain of a curve meets the laws of an order domain
use Rattle.std.proofs.Common.{◌≡◌, ℕ, ◌<◌, ◌≤◌, ◌^◌, IsTrue, true, ◌==◌, ◌&&◌, List, length, sym, ◌∙◌, ap, refl, inl, inr, arith}
use Rattle.std.specs.Prelude.{nat_lt}
use Rattle.std.proofs.lemmas.Bool.{and_parts, ltb-true, eqb-true, cases_order}
use Rattle.field_theory.specs.Field.{IsField}
use Rattle.gf_theory.specs.Field.{IsModulus, gf_mul}
use Rattle.gf_theory.proofs.Fields.{field_of_modulus}
use Rattle.curve_theory.specs.Curve.{value, IsOnCurve, IsEquation, ArePoints}
use Rattle.curve_theory.specs.Semigroup.{weight_at}
use Rattle.curve_theory.specs.Functions.{IsFunctionProduct, IsCurveSeparation, HasOrderedFunctions}
use Rattle.curve_theory.proofs.Functions.{ordered_functions}
use Rattle.curve_theory.proofs.Places.{weight_at-lt, sum_of-some, sum_of_comm, IsSmallerSum, sum_of-smaller, sum_of-zero}
use Rattle.curve_theory.proofs.Separate.{separation}
use Rattle.order_domain.specs.declared.Point.{Point}
use Rattle.order_domain.specs.Points.{origin, point_at}
use Rattle.order_domain.specs.Domain.{ArePoints as ArePointsOf, HasRisingSums, IsLedProduct, IsSeparated, IsOrderDomain}
use Rattle.order_domain.specs.Functions.{functions_of}
use Rattle.cab_curve.specs.Equation.{Equation}
use Rattle.cab_curve.specs.Points.{is_on_curve}
use Rattle.cab_curve.specs.Domain.{x_at, y_at, top_of, cab_functions, cab_domain}

pub cab_domain-functions : (e : Equation) → functions_of (cab_domain e) ≡ cab_functions e
cab_domain-functions e = refl

field_of : (bits modulus : ℕ) → IsModulus bits modulus → IsField (2 ^ bits) (gf_mul bits modulus)
field_of bits modulus h = let two : 2 ≤ bits = h.at_least_two in field_of_modulus bits modulus (omega arith) h.irreducible

record IsPointOn (e : Equation) (modulus : ℕ) (p : Point) : Type 0 where
  z_is : p.z ≡ 0
  on_curve : IsOnCurve (2 ^ e.bits) (gf_mul e.bits modulus) e.terms p.x p.y

point_on : (e : Equation) (modulus : ℕ) (p : Point) → IsTrue (is_on_curve e.bits modulus e.terms p) → IsPointOn e modulus p
unfolding is_on_curve
point_on e modulus p h =
    let all : (((nat_lt p.x (2 ^ e.bits) && nat_lt p.y (2 ^ e.bits)) && p.z == 0) ≡ true) × ((value (gf_mul e.bits modulus) e.terms p.x p.y == 0) ≡ true) =
    and_parts ((nat_lt p.x (2 ^ e.bits) && nat_lt p.y (2 ^ e.bits)) && p.z == 0) (value (gf_mul e.bits modulus) e.terms p.x p.y == 0) h in
    let three : ((nat_lt p.x (2 ^ e.bits) && nat_lt p.y (2 ^ e.bits)) ≡ true) × ((p.z == 0) ≡ true) = and_parts (nat_lt p.x (2 ^ e.bits) && nat_lt p.y (2 ^ e.bits)) (p.z == 0) all.0 in
    let two : (nat_lt p.x (2 ^ e.bits) ≡ true) × (nat_lt p.y (2 ^ e.bits) ≡ true) = and_parts (nat_lt p.x (2 ^ e.bits)) (nat_lt p.y (2 ^ e.bits)) three.0 in
    record {
      z_is = eqb-true p.z 0 three.1;
      on_curve = record {
        x_below = ltb-true p.x (2 ^ e.bits) two.0;
        y_below = ltb-true p.y (2 ^ e.bits) two.1;
        is_zero = eqb-true (value (gf_mul e.bits modulus) e.terms p.x p.y) 0 all.1;
      };
    }

same_point : (p q : Point) → p.x ≡ q.x → p.y ≡ q.y → p.z ≡ q.z → p ≡ q
same_point p q e f g =
    ap (λ (v : ℕ). let r : Point = record { x = v; y = p.y; z = p.z } in r) e
    ∙ ap (λ (v : ℕ). let r : Point = record { x = q.x; y = v; z = p.z } in r) f
    ∙ ap (λ (v : ℕ). let r : Point = record { x = q.x; y = q.y; z = v } in r) g

points_of : (e : Equation) (modulus : ℕ) (points : List Point) → ArePointsOf (cab_domain e) modulus points →
    ArePoints (2 ^ e.bits) (gf_mul e.bits modulus) e.terms (length points) (x_at points) (y_at points)
points_of e modulus points are = record {
  on_curve = λ k l. (on k l).on_curve;
  distinct = λ k l lk ll ex ey.
      let same : point_at points k ≡ point_at points l = same_point (point_at points k) (point_at points l) ex ey ((on k lk).z_is ∙ sym (on l ll).z_is) in
      elim (cases_order k l) [
        | inl q ↦ q
        | inr (inl m) ↦ absurd (are.distinct k l origin m ll same)
        | inr (inr m) ↦ absurd (are.distinct l k origin m lk (sym same))
      ];
}
  where
    on : (k : ℕ) → k < length points → IsPointOn e modulus (point_at points k)
    on k l = point_on e modulus (point_at points k) (are.all_on k origin l)

module _ (e : Equation) (equation : IsEquation (2 ^ e.bits) e.a e.b e.terms) where
  ordered : (modulus : ℕ) → IsModulus e.bits modulus → HasOrderedFunctions (2 ^ e.bits) (gf_mul e.bits modulus) e.a e.b e.terms (top_of e)
  ordered modulus h = ordered_functions (2 ^ e.bits) (gf_mul e.bits modulus) e.a e.b e.terms (top_of e) (field_of e.bits modulus h) equation

  rising_sums : HasRisingSums (cab_domain e)
  rising_sums = record {
    within = λ i j s li lj q. (sum_of-some e.a e.b (top_of e) i j s equation.a_above li lj q).below;
    commute = λ i j li lj. sum_of_comm e.a e.b (top_of e) i j;
    smaller = λ i j k l s li lj q lk ll lt.
        let w : IsSmallerSum e.a e.b (top_of e) k l s = sum_of-smaller e.a e.b (top_of e) i j k l s equation.a_above li lj lk ll lt q in
        (w.index, w.answers, w.smaller);
  }

  product_of : (modulus i j s : ℕ) → IsFunctionProduct (2 ^ e.bits) (gf_mul e.bits modulus) e.a e.b e.terms (top_of e) i j s → IsLedProduct (cab_domain e) modulus i j s
  product_of modulus i j s w = record {
    lead_not_zero = w.lead_not_zero;
    symbols = λ k l. w.symbols (weight_at e.a e.b (top_of e) k);
    product = λ p on. w.product p.x p.y (point_on e modulus p on).on_curve;
  }

  separated : (modulus : ℕ) (points : List Point) (t : ℕ) → IsModulus e.bits modulus → ArePointsOf (cab_domain e) modulus points → t < length points →
      IsSeparated (cab_domain e) modulus points t
  separated modulus points t h are l =
      let w : IsCurveSeparation (2 ^ e.bits) (gf_mul e.bits modulus) e.a e.b (length points) (x_at points) (y_at points) t =
      separation (2 ^ e.bits) (gf_mul e.bits modulus) (field_of e.bits modulus h) e.a e.b e.terms equation (length points) (x_at points) (y_at points) (points_of e modulus points are) t l in
      record {
        symbols = λ k lk. w.symbols (weight_at e.a e.b (top_of e) k);
        values = w.values;
      }

  pub cab_domain-lawful : IsOrderDomain (cab_domain e)
  cab_domain-lawful = record {
    labels_rise = weight_at-lt e.a e.b (top_of e);
    sums_rise = rising_sums;
    product_law = λ modulus i j s h li lj q. product_of modulus i j s ((ordered modulus h).products i j s li lj q);
    separation = separated;
    neutral = record {
      sum_zero = λ i l. sum_of-zero e.a e.b (top_of e) i equation.a_above l;
      eval_symbol = λ modulus i p h l on. (ordered modulus h).symbols i p.x p.y;
      lead_symbol = λ modulus i j s h li lj q. ((ordered modulus h).products i j s li lj q).lead_symbol;
    };
  }
