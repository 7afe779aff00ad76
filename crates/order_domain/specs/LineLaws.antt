-- line-lawful      the domain of the test meets the laws of an order domain
use Rattle.std.proofs.Common.{◌≡◌, ◌≢◌, ℕ, ◌+◌, ◌-◌, ◌<◌, ◌≤◌, Bool, true, cond, eqb, ltb, ◌&&◌, IsTrue, Some, None, List, length, sym, ◌∙◌, ap, subst, refl, inl, inr, arith, bit_xor}
use Rattle.std.proofs.lemmas.Bool.{cond-true, cond-false, and_parts, ltb-true, lt-ltb, le-ltb, eqb-true, eq-eqb, ne_eqb, cases_eq, cases_lt, cases_order}
use Rattle.std.proofs.lemmas.Bool.Decides.{nat_tests}
use Rattle.std.specs.Int.Bits.{xor_zero_r}
use Rattle.field_theory.specs.Field.{IsField}
use Rattle.field_theory.specs.Sums.{xor_sum, unit, all_below}
use Rattle.field_theory.proofs.Sums.{sum-zero, zero-mul, xor_below}
use Rattle.gf_theory.specs.Polynomial.{clmul, clmul_steps}
use Rattle.gf_theory.specs.Field.{gf_mul, gf_pow, gf_rem, rem_steps, reduce, IsModulus}
use Rattle.gf_theory.proofs.Fields.{field_of_modulus}
use Rattle.gf_theory.proofs.Product.{gf_mul-one_left}
use Rattle.gf_theory.proofs.Powers.{gf_pow-below, gf_pow-add}
use Rattle.linear_theory.proofs.Spans.{all_below-yes}
use Rattle.order_domain.specs.Points.{Point, origin, point_at}
use Rattle.order_domain.specs.Domain.{IsOrderDomain, HasRisingSums, IsLedProduct, IsSeparated, ArePoints}
use Rattle.order_domain.specs.Line.{line, one_at}

-- the one modulus of GF(4)
modulus_is : (m : ℕ) → IsModulus 2 m → m ≡ 7
unfolding clmul clmul_steps
modulus_is m h =
    let low : 4 ≤ m = h.irreducible.at_least in
    let high : m < 8 = h.irreducible.below in
    let a : 4 ≢ m = h.irreducible.no_factors 2 2 (omega arith) (omega arith) in
    let b : 5 ≢ m = h.irreducible.no_factors 3 3 (omega arith) (omega arith) in
    let c : 6 ≢ m = h.irreducible.no_factors 2 3 (omega arith) (omega arith) in
    grind (arith, a, b, c)

-- what a combination is worth
one_where : ℕ → ℕ → Bool
one_where u v = eqb (xor_sum 4 (λ k. gf_mul 2 7 (one_at 7 u k) (gf_pow 2 7 v k))) (unit u v)

all_cases : all_below 4 (λ u. all_below 4 (one_where u)) ≡ true
unfolding one_where gf_pow gf_mul gf_rem rem_steps reduce clmul clmul_steps
all_cases = refl

one_value : (u v : ℕ) → u < 4 → v < 4 → xor_sum 4 (λ k. gf_mul 2 7 (one_at 7 u k) (gf_pow 2 7 v k)) ≡ unit u v
unfolding one_where
one_value u v lu lv =
    eqb-true (xor_sum 4 (λ k. gf_mul 2 7 (one_at 7 u k) (gf_pow 2 7 v k))) (unit u v)
    (all_below-yes 4 (one_where u) (all_below-yes 4 (λ w. all_below 4 (one_where w)) all_cases u lu) v lv)

-- the points of the line
x_below : (m : ℕ) (p : Point) → IsTrue (line.on m p) → p.x < 4
x_below m p h = ltb-true p.x 4 (and_parts (ltb p.x 4) (eqb p.y 0) (and_parts (ltb p.x 4 && eqb p.y 0) (eqb p.z 0) h).0).0

rest_zero : (m : ℕ) (p : Point) → IsTrue (line.on m p) → (p.y ≡ 0) × (p.z ≡ 0)
rest_zero m p h =
    let parts : ((ltb p.x 4 && eqb p.y 0) ≡ true) × (eqb p.z 0 ≡ true) = and_parts (ltb p.x 4 && eqb p.y 0) (eqb p.z 0) h in
    (eqb-true p.y 0 (and_parts (ltb p.x 4) (eqb p.y 0) parts.0).1, eqb-true p.z 0 parts.1)

same_point : (p q : Point) → p.x ≡ q.x → p.y ≡ q.y → p.z ≡ q.z → p ≡ q
same_point p q a b c =
    ap (λ (v : ℕ). let r : Point = record { x = v; y = p.y; z = p.z } in r) a
    ∙ ap (λ (v : ℕ). let r : Point = record { x = q.x; y = v; z = p.z } in r) b
    ∙ ap (λ (v : ℕ). let r : Point = record { x = q.x; y = q.y; z = v } in r) c

sum_is : (i j s : ℕ) → line.sum i j ≡ Some s → (i + j < 4) × (s ≡ i + j)
sum_is i j s e = elim (cases_lt (i + j) 4) [
  | inl l ↦ (l, some_same (sym e ∙ cond-true (ltb (i + j) 4) (Some (i + j)) None (lt-ltb (i + j) 4 l)))
  | inr l ↦ absurd (none_some (sym (cond-false (ltb (i + j) 4) (Some (i + j)) None (le-ltb (i + j) 4 l)) ∙ e))
]
  where
    some_same : {a b : ℕ} → Some a ≡ Some b → a ≡ b
    some_same h = cc

    none_some : {a : ℕ} → None ≡ Some a → ⊥
    none_some h = cc

line_sums : HasRisingSums line
line_sums = record {
  within = λ i j s li lj e. let w : (i + j < 4) × (s ≡ i + j) = sum_is i j s e in omega arith;
  commute = λ i j li lj. let e : i + j ≡ j + i = omega arith in ap (λ (n : ℕ). cond (ltb n 4) (Some n) None) e;
  smaller = λ i j i' j' s li lj e l l' less.
      let w : (i + j < 4) × (s ≡ i + j) = sum_is i j s e in
      let k : i' + j' < 4 = omega arith in
      (i' + j', cond-true (ltb (i' + j') 4) (Some (i' + j')) None (lt-ltb (i' + j') 4 k), omega arith);
}

line_product : (m i j s : ℕ) → IsModulus 2 m → line.sum i j ≡ Some s → IsLedProduct line m i j s
line_product m i j s h e = record {
  lead_not_zero = λ z. omega arith;
  symbols = λ k l. omega arith;
  product = λ p on.
      let mul : ℕ → ℕ → ℕ = gf_mul 2 m in
      let field : IsField 4 (gf_mul 2 m) = field_of_modulus 2 m (omega arith) h.irreducible in
      let power : ℕ → ℕ = gf_pow 2 m p.x in
      sym (gf_pow-add 2 m p.x i j (omega arith)) ∙ ap (gf_pow 2 m p.x) (sym (sum_is i j s e).1)
      ∙ sym (gf_mul-one_left 2 m (gf_pow 2 m p.x s) (gf_pow-below 2 m p.x s (omega arith)))
      ∙ sym (xor_zero_r (mul 1 (power s)))
      ∙ ap (λ (y : ℕ). bit_xor (mul 1 (power s)) y) (sym (sum-zero s (λ k. mul 0 (power k)) (λ k l. zero-mul 4 mul field (power k))));
}

both_units : (u v t q : ℕ) → (v ≡ u → q ≡ t) → (q ≡ t → v ≡ u) → unit u v ≡ unit t q
both_units u v t q f g = elim (cases_eq q t) [
  | inl e ↦ cond-true (eqb v u) 1 0 (eq-eqb v u (g e)) ∙ sym (cond-true (eqb q t) 1 0 (eq-eqb q t e))
  | inr d ↦ cond-false (eqb v u) 1 0 (ne_eqb v u (λ e. d (f e))) ∙ sym (cond-false (eqb q t) 1 0 (ne_eqb q t d))
]

line_separated : (m : ℕ) (points : List Point) (t : ℕ) → IsModulus 2 m → ArePoints line m points → t < length points → IsSeparated line m points t
line_separated m points t h are l = record {
  symbols = λ k lk. coefficient_below k;
  values = λ q lq.
      subst (λ (n : ℕ). xor_sum 4 (λ k. gf_mul 2 n (one_at n (point_at points t).x k) (gf_pow 2 n (point_at points q).x k)) ≡ unit t q) (sym (modulus_is m h))
      (one_value (point_at points t).x (point_at points q).x (x_below m (point_at points t) (are.all_on t origin l)) (x_below m (point_at points q) (are.all_on q origin lq))
      ∙ same_choice q lq);
}
  where
    coefficient_below : (k : ℕ) → one_at m (point_at points t).x k < 4
    coefficient_below k =
        xor_below 4 (gf_mul 2 m) (field_of_modulus 2 m (omega arith) h.irreducible) (cond (eqb k 0) 1 0) (gf_pow 2 m (point_at points t).x (3 - k))
        (grind (arith, nat_tests)) (gf_pow-below 2 m (point_at points t).x (3 - k) (omega arith))

    same : (q : ℕ) → q < length points → (point_at points q).x ≡ (point_at points t).x → point_at points q ≡ point_at points t
    same q lq e =
        let a : ((point_at points q).y ≡ 0) × ((point_at points q).z ≡ 0) = rest_zero m (point_at points q) (are.all_on q origin lq) in
        let b : ((point_at points t).y ≡ 0) × ((point_at points t).z ≡ 0) = rest_zero m (point_at points t) (are.all_on t origin l) in
        same_point (point_at points q) (point_at points t) e (a.0 ∙ sym b.0) (a.1 ∙ sym b.1)

    same_choice : (q : ℕ) → q < length points → unit (point_at points t).x (point_at points q).x ≡ unit t q
    same_choice q lq = elim (cases_order q t) [
      | inl e ↦ both_units (point_at points t).x (point_at points q).x t q (λ x. e) (λ x. ap (λ (k : ℕ). (point_at points k).x) e)
      | inr (inl k) ↦ both_units (point_at points t).x (point_at points q).x t q (λ x. absurd (are.distinct q t origin k l (same q lq x))) (λ x. absurd (omega arith))
      | inr (inr k) ↦ both_units (point_at points t).x (point_at points q).x t q (λ x. absurd (are.distinct t q origin k lq (sym (same q lq x)))) (λ x. absurd (omega arith))
    ]

sum_with_zero : (i : ℕ) → i < 4 → line.sum 0 i ≡ Some i
sum_with_zero i l =
    let e : 0 + i ≡ i = omega arith in
    ap (λ (n : ℕ). cond (ltb n 4) (Some n) None) e ∙ cond-true (ltb i 4) (Some i) None (lt-ltb i 4 l)

pub line-lawful : IsOrderDomain line
line-lawful = record {
  labels_rise = λ i j l m. l;
  sums_rise = line_sums;
  product_law = λ m i j s h li lj e. line_product m i j s h e;
  separation = line_separated;
  neutral = record {
    sum_zero = λ i l. sum_with_zero i l;
    eval_symbol = λ m i p h l on. gf_pow-below 2 m p.x i (omega arith);
    lead_symbol = λ m i j s h li lj e. omega arith;
  };
}
