-- The values of the functions of a domain at distinct points: where they are read, and that they are those of ordered functions
use Rattle.std.proofs.Common.{◌≡◌, ◌⊎◌, ℕ, ◌<◌, ◌≤◌, ◌^◌, Bool, true, false, cond, ltb, ◌&&◌, IsTrue, Option, Some, None, is_some, unwrap_or, List, length, sym, ◌∙◌, ap, refl, inl, inr, arith, bit_xor}
use Rattle.std.proofs.lemmas.Bool.{cond-true, cond-false, and_from, and_parts, lt-ltb, ltb-true}
use Rattle.field_theory.specs.Field.{IsField}
use Rattle.field_theory.specs.Sums.{xor_sum, unit}
use Rattle.field_theory.proofs.Sums.{sum-same, mul_one, zero_below}
use Rattle.gf_theory.specs.Field.{IsModulus, gf_mul}
use Rattle.gf_theory.proofs.Fields.{field_of_modulus}
use Rattle.linear_theory.specs.Linear.{IsCombination}
use Rattle.linear_theory.proofs.Spans.{combination_through}
use Rattle.linear_theory.proofs.Ranks.{xor_front}
use Rattle.linear_theory.proofs.Duals.{sum_unit}
use Rattle.linear_theory.proofs.Flips.{rank_full}
use Rattle.order_theory.specs.Domains.{IsOrdered}
use Rattle.order_domain.specs.Points.{Point, origin, point_at}
use Rattle.order_domain.specs.Domain.{Domain, ArePoints, IsLedProduct, IsOrderDomain, IsSymbol, combined}
use Rattle.order_domain.specs.Values.{value_at, sum_or_count, lead_at, ValuesLaw}

cond_below : (b : Bool) (x n : ℕ) → 0 < n → (b ≡ true → x < n) → cond b x 0 < n
cond_below true x n z h = h refl
cond_below false x n z h = z

cases_option : (o : Option ℕ) → (o ≡ None) ⊎ ((s : ℕ) × (o ≡ Some s))
cases_option None = inl refl
cases_option (Some s) = inr (s, refl)

some_of_is_some : (o : Option ℕ) → is_some o ≡ true → (s : ℕ) × (o ≡ Some s)
some_of_is_some None h = absurd (cc)
some_of_is_some (Some s) h = (s, refl)

pub value_at-is : (d : Domain) (modulus : ℕ) (points : List Point) (i p : ℕ) → i < d.count → p < length points →
    value_at d modulus points i p ≡ d.eval modulus i (point_at points p)
unfolding value_at
value_at-is d modulus points i p li lp =
    cond-true (ltb i d.count && ltb p (length points)) (d.eval modulus i (point_at points p)) 0
    (and_from (ltb i d.count) (ltb p (length points)) (lt-ltb i d.count li) (lt-ltb p (length points) lp))

pub sum_or_count-some : (d : Domain) (i j s : ℕ) → d.sum i j ≡ Some s → sum_or_count d i j ≡ s
unfolding sum_or_count
sum_or_count-some d i j s e = ap (λ (o : Option ℕ). unwrap_or o d.count) e

pub sum_or_count-none : (d : Domain) (i j : ℕ) → d.sum i j ≡ None → sum_or_count d i j ≡ d.count
unfolding sum_or_count
sum_or_count-none d i j e = ap (λ (o : Option ℕ). unwrap_or o d.count) e

sum_or_count-same : (d : Domain) (i j : ℕ) → d.sum i j ≡ d.sum j i → sum_or_count d i j ≡ sum_or_count d j i
unfolding sum_or_count
sum_or_count-same d i j e = ap (λ (o : Option ℕ). unwrap_or o d.count) e

-- a sum below the number of functions is the answer
pub sum_or_count-below : (d : Domain) (i j : ℕ) → sum_or_count d i j < d.count → d.sum i j ≡ Some (sum_or_count d i j)
sum_or_count-below d i j l = elim (cases_option (d.sum i j)) [
  | inl e ↦ let f : sum_or_count d i j ≡ d.count = sum_or_count-none d i j e in absurd (omega arith)
  | inr w ↦ w.1 ∙ ap (λ (s : ℕ). let o : Option ℕ = Some s in o) (sym (sum_or_count-some d i j w.0 w.1))
]

pub lead_at-is : (d : Domain) (modulus i j s : ℕ) → i < d.count → j < d.count → d.sum i j ≡ Some s → lead_at d modulus i j ≡ d.lead modulus i j
unfolding lead_at
lead_at-is d modulus i j s li lj e =
    cond-true (ltb i d.count && ltb j d.count && is_some (d.sum i j)) (d.lead modulus i j) 0
    (and_from (ltb i d.count && ltb j d.count) (is_some (d.sum i j))
    (and_from (ltb i d.count) (ltb j d.count) (lt-ltb i d.count li) (lt-ltb j d.count lj)) (ap is_some e))

pub lead_at-none : (d : Domain) (modulus i j : ℕ) → d.sum i j ≡ None → lead_at d modulus i j ≡ 0
unfolding lead_at
lead_at-none d modulus i j e =
    cond-false (ltb i d.count && ltb j d.count && is_some (d.sum i j)) (d.lead modulus i j) 0
    (ap (λ (o : Option ℕ). ltb i d.count && ltb j d.count && is_some o) e ∙ and_false (ltb i d.count && ltb j d.count))
  where
    and_false : (b : Bool) → (b && false) ≡ false
    and_false true = refl
    and_false false = refl

module _ (d : Domain) (modulus : ℕ) (points : List Point) (lawful : IsOrderDomain d) (is_modulus : IsModulus d.bits modulus) (are : ArePoints d modulus points) where
  pub field_of_domain : IsField (2 ^ d.bits) (gf_mul d.bits modulus)
  field_of_domain = let two : 2 ≤ d.bits = is_modulus.at_least_two in field_of_modulus d.bits modulus (omega arith) is_modulus.irreducible

  point_on : (p : ℕ) → p < length points → IsTrue (d.on modulus (point_at points p))
  point_on p l = are.all_on p origin l

  pub value_at-symbol : (i p : ℕ) → value_at d modulus points i p < 2 ^ d.bits
  unfolding value_at
  value_at-symbol i p =
      cond_below (ltb i d.count && ltb p (length points)) (d.eval modulus i (point_at points p)) (2 ^ d.bits) (zero_below (2 ^ d.bits) (gf_mul d.bits modulus) field_of_domain)
      (λ h.
      let parts : (ltb i d.count ≡ true) × (ltb p (length points) ≡ true) = and_parts (ltb i d.count) (ltb p (length points)) h in
      lawful.neutral.eval_symbol modulus i (point_at points p) is_modulus (ltb-true i d.count parts.0) (point_on p (ltb-true p (length points) parts.1)))

  lead_at-symbol : (i j : ℕ) → lead_at d modulus i j < 2 ^ d.bits
  unfolding lead_at
  lead_at-symbol i j =
      cond_below (ltb i d.count && ltb j d.count && is_some (d.sum i j)) (d.lead modulus i j) (2 ^ d.bits) (zero_below (2 ^ d.bits) (gf_mul d.bits modulus) field_of_domain)
      (λ h.
      let parts : ((ltb i d.count && ltb j d.count) ≡ true) × (is_some (d.sum i j) ≡ true) = and_parts (ltb i d.count && ltb j d.count) (is_some (d.sum i j)) h in
      let both : (ltb i d.count ≡ true) × (ltb j d.count ≡ true) = and_parts (ltb i d.count) (ltb j d.count) parts.0 in
      let some : (s : ℕ) × (d.sum i j ≡ Some s) = some_of_is_some (d.sum i j) parts.1 in
      lawful.neutral.lead_symbol modulus i j some.0 is_modulus (ltb-true i d.count both.0) (ltb-true j d.count both.1) some.1)

  -- a combination of functions at place p of the points, as values
  combined_values : (r p : ℕ) (c : ℕ → ℕ) → r ≤ d.count → p < length points →
      combined d modulus r c (point_at points p) ≡ xor_sum r (λ k. gf_mul d.bits modulus (c k) (value_at d modulus points k p))
  combined_values r p c lr lp =
      sum-same r (λ k. gf_mul d.bits modulus (c k) (d.eval modulus k (point_at points p))) (λ k. gf_mul d.bits modulus (c k) (value_at d modulus points k p))
      (λ k l. ap (λ (y : ℕ). gf_mul d.bits modulus (c k) y) (sym (value_at-is d modulus points k p (omega arith) lp)))

  product_values : (i j : ℕ) → i < d.count → j < d.count → sum_or_count d i j < d.count →
      IsCombination (gf_mul d.bits modulus) (length points) (value_at d modulus points) (sum_or_count d i j)
      (λ p.
      bit_xor (gf_mul d.bits modulus (value_at d modulus points i p) (value_at d modulus points j p))
      (gf_mul d.bits modulus (lead_at d modulus i j) (value_at d modulus points (sum_or_count d i j) p)))
  product_values i j li lj few = record {
    factors = d.product_coefficient modulus i j;
    is_sum = λ p lp.
        let s : ℕ = sum_or_count d i j in
        let q : Point = point_at points p in
        let mul : ℕ → ℕ → ℕ = gf_mul d.bits modulus in
        let e : d.sum i j ≡ Some (sum_or_count d i j) = sum_or_count-below d i j few in
        let led : IsLedProduct d modulus i j (sum_or_count d i j) = lawful.product_law modulus i j (sum_or_count d i j) is_modulus li lj e in
        ap (λ (y : ℕ). bit_xor (mul y (value_at d modulus points j p)) (mul (lead_at d modulus i j) (value_at d modulus points s p))) (value_at-is d modulus points i p li lp)
        ∙ ap (λ (y : ℕ). bit_xor (mul (d.eval modulus i q) y) (mul (lead_at d modulus i j) (value_at d modulus points s p))) (value_at-is d modulus points j p lj lp)
        ∙ ap (λ (y : ℕ). bit_xor (mul (d.eval modulus i q) (d.eval modulus j q)) (mul y (value_at d modulus points s p))) (lead_at-is d modulus i j s li lj e)
        ∙ ap (λ (y : ℕ). bit_xor (mul (d.eval modulus i q) (d.eval modulus j q)) (mul (d.lead modulus i j) y)) (value_at-is d modulus points s p few lp)
        ∙ ap (λ (y : ℕ). bit_xor y (mul (d.lead modulus i j) (d.eval modulus s q))) (led.product q (point_on p lp))
        ∙ xor_front (mul (d.lead modulus i j) (d.eval modulus s q)) (combined d modulus s (d.product_coefficient modulus i j) q)
        ∙ combined_values s p (d.product_coefficient modulus i j) (omega arith) lp;
  }

  pub ordered_values : IsOrdered (2 ^ d.bits) (gf_mul d.bits modulus) (length points) d.count (value_at d modulus points) (sum_or_count d) (lead_at d modulus)
  ordered_values = record {
    symbols = value_at-symbol;
    commute = λ i j li lj. sum_or_count-same d i j (lawful.sums_rise.commute i j li lj);
    rise = record {
      rises = λ i j i' j' li lj l l' less few.
          let w : (s : ℕ) × (d.sum i' j' ≡ Some s) × (s < sum_or_count d i j) =
          lawful.sums_rise.smaller i j i' j' (sum_or_count d i j) li lj (sum_or_count-below d i j few) l l' less in
          let e : sum_or_count d i' j' ≡ w.0 = sum_or_count-some d i' j' w.0 w.1 in
          let low : w.0 < sum_or_count d i j = w.2 in
          omega arith;
    };
    lead_symbols = lead_at-symbol;
    lead_not_zero = λ i j li lj few z.
        let e : d.sum i j ≡ Some (sum_or_count d i j) = sum_or_count-below d i j few in
        (lawful.product_law modulus i j (sum_or_count d i j) is_modulus li lj e).lead_not_zero (sym (lead_at-is d modulus i j (sum_or_count d i j) li lj e) ∙ z);
    products = product_values;
  }

  -- the list that is 1 at one place and 0 at the others
  unit_spanned : (t : ℕ) → t < length points → IsCombination (gf_mul d.bits modulus) (length points) (value_at d modulus points) d.count (unit t)
  unit_spanned t l = record {
    factors = d.separating_coefficient modulus points t;
    is_sum = λ p lp. sym ((lawful.separation modulus points t is_modulus are l).values p lp) ∙ combined_values d.count p (d.separating_coefficient modulus points t) (omega arith) lp;
  }

  pub all_spanned : (v : ℕ → ℕ) → ((p : ℕ) → p < length points → IsSymbol d (v p)) →
      IsCombination (gf_mul d.bits modulus) (length points) (value_at d modulus points) d.count v
  all_spanned v symbols =
      combination_through (2 ^ d.bits) (gf_mul d.bits modulus) field_of_domain (length points) unit (length points) (value_at d modulus points) d.count v unit_spanned
      (record {
        factors = v;
        is_sum = λ p lp. sym (sum_unit (2 ^ d.bits) (gf_mul d.bits modulus) field_of_domain (length points) v p lp ∙ mul_one (2 ^ d.bits) (gf_mul d.bits modulus) field_of_domain (v p) (symbols p lp));
      })

pub values_law : ValuesLaw
values_law d modulus points lawful is_modulus are = record {
  ordered = ordered_values d modulus points lawful is_modulus are;
  sum_zero = λ i l. sum_or_count-some d 0 i i (lawful.neutral.sum_zero i l);
  spans = all_spanned d modulus points lawful is_modulus are;
  new_count = rank_full (2 ^ d.bits) (gf_mul d.bits modulus) (field_of_domain d modulus points lawful is_modulus are) (length points) (value_at d modulus points) d.count
      (value_at-symbol d modulus points lawful is_modulus are) (unit_spanned d modulus points lawful is_modulus are);
}
