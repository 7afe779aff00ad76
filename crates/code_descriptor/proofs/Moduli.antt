-- The test of a modulus decides what a modulus is
use Rattle.std.proofs.Common.{◌≡◌, ℕ, suc, ◌+◌, ◌-◌, ◌*◌, ◌^◌, ◌/◌, ◌<◌, ◌&&◌, ◌↔◌, Bool, true, false, not, eqb, leb, sym, ap, ◌∙◌, subst, arith, add-one, Option, Some, None, MatchOption}
use Rattle.std.proofs.Math.Nat.{pow-succ'}
use Rattle.std.proofs.lemmas.Bool.{and_parts, and_from, both_ways, false_from_ne_true, not-true, not_from_false, eqb-true, eq-eqb, leb-true, le-leb}
use Rattle.field_theory.specs.Sums.{any_below}
use Rattle.linear_theory.proofs.Spans.{any_below-yes, any_below-from}
use Rattle.gf_theory.specs.Field.{gf_rem, HasFactor, IsModulus}
use Rattle.gf_theory.proofs.Xor.{top_from_div, div_from_top}
use Rattle.gf_theory.proofs.Factors.{irreducible-no_factor, irreducible_from_factors}
use Rattle.gf_field.specs.declared.PolyField.{PolyField}
use Rattle.code_descriptor.specs.FieldTest.{has_factor, is_modulus}

divides : ℕ → ℕ → ℕ → Bool
divides i p k = eqb (gf_rem i (2 ^ i + k) p) 0

has_factor-from : (i p : ℕ) → HasFactor i p → has_factor i p ≡ true
unfolding divides
has_factor-from i p h =
    let k : ℕ = h.factor - 2 ^ i in
    let s : 2 ^ (i + 1) ≡ 2 * 2 ^ i = ap (λ (n : ℕ). 2 ^ n) (add-one i) ∙ pow-succ' 2 i in
    let whole : 2 ^ i + k ≡ h.factor = omega (arith, h.at_least) in
    let below : k < 2 ^ i = omega (arith, h.below, h.at_least) in
    any_below-from (2 ^ i) (divides i p) k below (eq-eqb (gf_rem i (2 ^ i + k) p) 0 (ap (λ (n : ℕ). gf_rem i n p) whole ∙ h.divides))

has_factor-yes : (i p : ℕ) → has_factor i p ≡ true → HasFactor i p
unfolding divides
has_factor-yes i p h =
    let w = any_below-yes (2 ^ i) (divides i p) h in
    let s : 2 ^ (i + 1) ≡ 2 * 2 ^ i = ap (λ (n : ℕ). 2 ^ n) (add-one i) ∙ pow-succ' 2 i in
    let below : w.0 < 2 ^ i = w.1 in
    record {
      factor = 2 ^ i + w.0;
      at_least = omega arith;
      below = omega arith;
      divides = eqb-true (gf_rem i (2 ^ i + w.0) p) 0 w.2;
    }

-- a polynomial of degree 1 or more, by its degree
factor_of : ℕ → ℕ → Bool
factor_of p i = leb 1 i && has_factor i p

is_modulus-from : (m p : ℕ) → IsModulus m p → is_modulus m p ≡ true
unfolding is_modulus factor_of
is_modulus-from m p h =
    let below : p < 2 ^ suc m = subst (λ (k : ℕ). p < 2 ^ k) (add-one m) h.irreducible.below in
    let none : any_below m (factor_of p) ≡ false = false_from_ne_true (any_below m (factor_of p)) (λ e.
    let w = any_below-yes m (factor_of p) e in
    let parts = and_parts (leb 1 w.0) (has_factor w.0 p) w.2 in
    irreducible-no_factor m p w.0 h.irreducible (leb-true 1 w.0 parts.0) w.1 (has_factor-yes w.0 p parts.1)) in
    and_from ((leb 2 m && leb m 8) && eqb (p / 2 ^ m) 1) (not (any_below m (factor_of p)))
    (and_from (leb 2 m && leb m 8) (eqb (p / 2 ^ m) 1)
    (and_from (leb 2 m) (leb m 8) (le-leb 2 m h.at_least_two) (le-leb m 8 h.at_most_eight))
    (eq-eqb (p / 2 ^ m) 1 (div_from_top m p h.irreducible.at_least below)))
    (not_from_false (any_below m (factor_of p)) none)

is_modulus-yes : (m p : ℕ) → is_modulus m p ≡ true → IsModulus m p
unfolding is_modulus factor_of
is_modulus-yes m p h =
    let whole = and_parts ((leb 2 m && leb m 8) && eqb (p / 2 ^ m) 1) (not (any_below m (factor_of p))) h in
    let parts = and_parts (leb 2 m && leb m 8) (eqb (p / 2 ^ m) 1) whole.0 in
    let range = and_parts (leb 2 m) (leb m 8) parts.0 in
    let top = top_from_div m p (eqb-true (p / 2 ^ m) 1 parts.1) in
    let below : p < 2 ^ (m + 1) = subst (λ (k : ℕ). p < 2 ^ k) (sym (add-one m)) top.1 in
    record {
      at_least_two = leb-true 2 m range.0;
      at_most_eight = leb-true m 8 range.1;
      irreducible = irreducible_from_factors m p top.0 below (λ k pos lt f.
          both_ways (any_below m (factor_of p)) (not-true (any_below m (factor_of p)) whole.1)
          (any_below-from m (factor_of p) k lt (and_from (leb 1 k) (has_factor k p) (le-leb 1 k pos) (has_factor-from k p f))));
    }

pub is_modulus-decides : (m p : ℕ) → (is_modulus m p ≡ true) ↔ IsModulus m p
is_modulus-decides m p = (is_modulus-yes m p, is_modulus-from m p)

-- what `PolyField::new` answers, by the test
pub field_answer : (m p : ℕ) (r : Option PolyField) → MatchOption r (IsModulus m p → ⊥) (λ f. (f.bits ≡ m) × (f.modulus ≡ p))
    → MatchOption r (is_modulus m p ≡ false) (λ f. (is_modulus m p ≡ true) × (f.bits ≡ m) × (f.modulus ≡ p))
field_answer m p None h = false_from_ne_true (is_modulus m p) (λ e. h (is_modulus-yes m p e))
field_answer m p (Some f) h = (is_modulus-from m p (rw (← h.0, ← h.1) f.is_modulus), h.0, h.1)
