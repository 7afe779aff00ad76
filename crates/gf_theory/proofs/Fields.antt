-- What callers of a field cite: the product modulo p makes a field, and what a modulus says of elements.
use Rattle.std.proofs.Common.{◌≡◌, ℕ, ◌^◌, ◌<◌, ◌≤◌, refl, sym, ◌∙◌, ap, subst, inl, inr, arith}
use Rattle.std.proofs.Math.Nat.{pow-le-pow_right}
use Rattle.std.proofs.lemmas.Nat.{pow_below}
use Rattle.std.proofs.lemmas.Bool.{cases_eq}
use Rattle.field_theory.specs.Field.{IsField}
use Rattle.gf_theory.specs.Field.{gf_mul, gf_rem, rem_steps, reduce, IsIrreducible, HasFactor, IsModulus}
use Rattle.gf_theory.proofs.Product.{gf_mul-below, gf_mul_comm, gf_mul_assoc, gf_mul-xor_right, gf_mul-one_left}
use Rattle.gf_theory.proofs.Inverse.{gf_inverse}
use Rattle.gf_theory.proofs.Factors.{irreducible_from_factors}

pub field_of_modulus : (m p : ℕ) → 0 < m → IsIrreducible m p → IsField (2 ^ m) (gf_mul m p)
field_of_modulus m p l h = record {
  bits = m;
  size_is = refl;
  one_below = (let k : 2 ^ 0 < 2 ^ m = pow_below 0 m l in k);
  mul_below = gf_mul-below m p;
  mul_comm = gf_mul_comm m p;
  mul_assoc = gf_mul_assoc m p;
  mul_xor = gf_mul-xor_right m p;
  one_mul = gf_mul-one_left m p;
  inverse = λ x lx d. gf_inverse m p x h (omega arith) lx;
}

-- of each `Field`: its `bits()` ensures the premise
pub field_of_bits : (m p : ℕ) → IsModulus m p → IsField (2 ^ m) (gf_mul m p)
field_of_bits m p h = let l : 2 ≤ m = h.at_least_two in field_of_modulus m p (omega arith) h.irreducible

-- an element is a byte
pub elements_are_bytes : (m : ℕ) → m ≤ 8 → 2 ^ m ≤ 256
elements_are_bytes m h = let w : 2 ^ m ≤ 2 ^ 8 = pow-le-pow_right (omega arith) h in w

-- ---- the field of four elements: X² + X + 1 is irreducible

rem_two : gf_rem 1 2 7 ≡ 1
unfolding gf_rem rem_steps reduce
rem_two = refl

rem_three : gf_rem 1 3 7 ≡ 1
unfolding gf_rem rem_steps reduce
rem_three = refl

no_factor : (i : ℕ) → 0 < i → i < 2 → HasFactor i 7 → ⊥
no_factor i l u f = at_one (subst (λ (k : ℕ). HasFactor k 7) (let e : i ≡ 1 = omega arith in e) f)
  where
    at_one : HasFactor 1 7 → ⊥
    at_one f =
        let lo : 2 ≤ f.factor = f.at_least in
        let hi : f.factor < 4 = f.below in
        elim (cases_eq f.factor 2) [
          | inl e ↦ let z : gf_rem 1 2 7 ≡ 0 = ap (λ (k : ℕ). gf_rem 1 k 7) (sym e) ∙ f.divides in absurd (omega (arith, rem_two))
          | inr d ↦
              let e : f.factor ≡ 3 = omega arith in
              let z : gf_rem 1 3 7 ≡ 0 = ap (λ (k : ℕ). gf_rem 1 k 7) (sym e) ∙ f.divides in absurd (omega (arith, rem_three))
        ]

pub four_modulus : IsModulus 2 7
four_modulus = record { at_least_two = omega arith; at_most_eight = omega arith; irreducible = irreducible_from_factors 2 7 (omega arith) (omega arith) no_factor }

pub four_field : IsField (2 ^ 2) (gf_mul 2 7)
four_field = field_of_modulus 2 7 (omega arith) four_modulus.irreducible
