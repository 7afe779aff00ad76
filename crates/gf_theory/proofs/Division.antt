-- Division with remainder, in words.
use Rattle.std.proofs.Common.{◌≡◌, ℕ, ◌^◌, ◌<◌, ◌≤◌, sym, ap, ◌∙◌, subst, inl, inr, arith, bit_xor}
use Rattle.std.proofs.lemmas.Bool.{cases_lt}
use Rattle.std.proofs.lemmas.Nat.{xor_comm, pow_pos}
use Rattle.std.specs.Int.Bits.{xor_self}
use Rattle.field_theory.proofs.Sums.{xor_same, xor_cancel}
use Rattle.gf_theory.specs.Polynomial.{clmul, HasDegree, IsDivision}
use Rattle.gf_theory.specs.Field.{gf_rem}
use Rattle.gf_theory.proofs.Clmul.{clmul-xor_left}
use Rattle.gf_theory.proofs.Degree.{clmul_pos}
use Rattle.gf_theory.proofs.Remainder.{IsCongruent, congruent_sym, congruent_trans, remainder_unique, modulus_of-same, gf_rem-below, gf_rem-congruent}

-- a factor other than 0 cancels
clmul_cancel : (p q q' : ℕ) → 0 < p → clmul q p ≡ clmul q' p → q ≡ q'
clmul_cancel p q q' pos e =
    elim (cases_lt 0 (bit_xor q q')) [
      | inl l ↦
          let none : clmul (bit_xor q q') p ≡ 0 = clmul-xor_left q q' p ∙ ap (λ (v : ℕ). bit_xor v (clmul q' p)) e ∙ xor_self (clmul q' p) in
          let some : 0 < clmul (bit_xor q q') p = clmul_pos (bit_xor q q') p l pos in absurd (omega arith)
      | inr g ↦ xor_same q q' (omega arith)
    ]

pub division_exists : (m p n : ℕ) → HasDegree m p → (q : ℕ) × ((r : ℕ) × IsDivision m p n q r)
division_exists m p n d =
    let r : ℕ = gf_rem m p n in
    let c : IsCongruent p n r = subst (λ (v : ℕ). IsCongruent v n r) (modulus_of-same m p d) (gf_rem-congruent m p n) in (
      c.factor,
      (
        r,
        record {
          below = gf_rem-below m p n;
          parts = ap (λ (v : ℕ). bit_xor v r) (sym c.multiple) ∙ xor_comm (bit_xor n r) r ∙ ap (bit_xor r) (xor_comm n r) ∙ xor_cancel r n;
        },
      ),
    )

multiple_from : (m p n q r : ℕ) → IsDivision m p n q r → bit_xor n r ≡ clmul q p
multiple_from m p n q r h =
    ap (λ (v : ℕ). bit_xor v r) (sym h.parts ∙ xor_comm (clmul q p) r) ∙ xor_comm (bit_xor r (clmul q p)) r ∙ xor_cancel r (clmul q p)

congruent_from : (m p n q r : ℕ) → IsDivision m p n q r → IsCongruent p n r
congruent_from m p n q r h = record { factor = q; multiple = multiple_from m p n q r h }

pub remainder_only : (m p n q r q' r' : ℕ) → HasDegree m p → IsDivision m p n q r → IsDivision m p n q' r' → r ≡ r'
remainder_only m p n q r q' r' d h h' =
    remainder_unique m p r r' d.at_least h.below h'.below
    (congruent_trans p r n r' (congruent_sym p n r (congruent_from m p n q r h)) (congruent_from m p n q' r' h'))

pub quotient_only : (m p n q r q' r' : ℕ) → HasDegree m p → IsDivision m p n q r → IsDivision m p n q' r' → q ≡ q'
quotient_only m p n q r q' r' d h h' =
    let pm : 0 < 2 ^ m = pow_pos m in
    let lo : 2 ^ m ≤ p = d.at_least in
    let same : bit_xor n r ≡ bit_xor n r' = ap (bit_xor n) (remainder_only m p n q r q' r' d h h') in
    clmul_cancel p q q' (omega arith)
    (sym (multiple_from m p n q r h) ∙ same ∙ multiple_from m p n q' r' h')
