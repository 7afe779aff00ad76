-- The test of generators decides what generators are
use Rattle.std.proofs.Common.{◌≡◌, ℕ, ◌%◌, ◌<◌, ◌≤◌, Bool, true, false, eqb, leb, not, ◌&&◌, ◌↔◌, sym, subst, inl, inr, arith}
use Rattle.std.proofs.lemmas.Bool.{cases_eq, and_parts, and_from, eqb-true, eq-eqb, leb-true, le-leb, both_ways, false_from_ne_true, not-true, not_from_false}
use Rattle.std.specs.Int.{IsGcd, ◌∣◌}
use Rattle.std.proofs.lemmas.Nat.Gcd.{dvd_of_mod-eq-zero, mod-eq-zero_of_dvd, le_of_dvd, dvd_refl}
use Rattle.std.proofs.Math.Nat.{dvd-one}
use Rattle.field_theory.specs.Sums.{any_below}
use Rattle.linear_theory.proofs.Spans.{any_below-yes, any_below-from}
use Rattle.weight_semi.specs.Generators.{AreGenerators, are_generators}

-- d is above 1 and divides both
abbrev divides_both : ℕ → ℕ → ℕ → Bool
divides_both a b d = leb 2 d && (eqb (a % d) 0 && eqb (b % d) 0)

divides_both-from : (a b d : ℕ) → 2 ≤ d → d ∣ a → d ∣ b → divides_both a b d ≡ true
divides_both-from a b d l p q =
    and_from (leb 2 d) (eqb (a % d) 0 && eqb (b % d) 0) (le-leb 2 d l)
    (and_from (eqb (a % d) 0) (eqb (b % d) 0) (eq-eqb (a % d) 0 (mod-eq-zero_of_dvd d p)) (eq-eqb (b % d) 0 (mod-eq-zero_of_dvd d q)))

none_divides : (a b : ℕ) → IsGcd a b 1 → any_below 33 (divides_both a b) ≡ false
none_divides a b g = false_from_ne_true (any_below 33 (divides_both a b)) (λ h.
    let w = any_below-yes 33 (divides_both a b) h in
    let d : ℕ = w.0 in
    let parts = and_parts (leb 2 d) (eqb (a % d) 0 && eqb (b % d) 0) w.2 in
    let both = and_parts (eqb (a % d) 0) (eqb (b % d) 0) parts.1 in
    let one : d ∣ 1 = g.2 d (dvd_of_mod-eq-zero d (eqb-true (a % d) 0 both.0)) (dvd_of_mod-eq-zero d (eqb-true (b % d) 0 both.1)) in
    let two : 2 ≤ d = leb-true 2 d parts.0 in
    let e : d ≡ 1 = dvd-one.0 one in
    omega arith)

coprime_from_none : (a b : ℕ) → 0 < a → a ≤ 32 → any_below 33 (divides_both a b) ≡ false → (d : ℕ) → d ∣ a → d ∣ b → d ∣ 1
coprime_from_none a b pos most none d p q =
    let le : d ≤ a = le_of_dvd pos p in
    elim (cases_eq d 1) [
      | inl e ↦ subst (λ (x : ℕ). x ∣ 1) (sym e) (dvd_refl 1)
      | inr other ↦ elim (cases_eq d 0) [
        | inl e ↦
            let zero : a % 0 ≡ 0 = mod-eq-zero_of_dvd 0 (subst (λ (x : ℕ). x ∣ a) e p) in
            let same : a % 0 ≡ a = omega arith in
            absurd (omega arith)
        | inr above ↦
            absurd (both_ways (any_below 33 (divides_both a b)) none
            (any_below-from 33 (divides_both a b) d (omega arith) (divides_both-from a b d (omega arith) p q)))
      ]
    ]

are_generators-yes : (a b : ℕ) → are_generators a b ≡ true → AreGenerators a b
unfolding are_generators
are_generators-yes a b h =
    let parts = and_parts ((leb 2 a && leb a 32) && (leb 2 b && leb b 32)) (not (any_below 33 (divides_both a b))) h in
    let ranges = and_parts (leb 2 a && leb a 32) (leb 2 b && leb b 32) parts.0 in
    let range_a = and_parts (leb 2 a) (leb a 32) ranges.0 in
    let range_b = and_parts (leb 2 b) (leb b 32) ranges.1 in
    let low : 2 ≤ a = leb-true 2 a range_a.0 in
    let high : a ≤ 32 = leb-true a 32 range_a.1 in
    record {
      a_least = low;
      a_most = high;
      b_least = leb-true 2 b range_b.0;
      b_most = leb-true b 32 range_b.1;
      coprime = (
        dvd_of_mod-eq-zero 1 (omega arith),
        dvd_of_mod-eq-zero 1 (omega arith),
        coprime_from_none a b (omega arith) high (not-true (any_below 33 (divides_both a b)) parts.1),
      );
    }

are_generators-from : (a b : ℕ) → AreGenerators a b → are_generators a b ≡ true
unfolding are_generators
are_generators-from a b g =
    and_from ((leb 2 a && leb a 32) && (leb 2 b && leb b 32)) (not (any_below 33 (divides_both a b)))
    (and_from (leb 2 a && leb a 32) (leb 2 b && leb b 32)
    (and_from (leb 2 a) (leb a 32) (le-leb 2 a g.a_least) (le-leb a 32 g.a_most))
    (and_from (leb 2 b) (leb b 32) (le-leb 2 b g.b_least) (le-leb b 32 g.b_most)))
    (not_from_false (any_below 33 (divides_both a b)) (none_divides a b g.coprime))

pub are_generators-decides : (a b : ℕ) → (are_generators a b ≡ true) ↔ AreGenerators a b
are_generators-decides a b = (are_generators-yes a b, are_generators-from a b)

-- with no generators the test fails
pub are_generators-no : (a b : ℕ) → (AreGenerators a b → ⊥) → are_generators a b ≡ false
are_generators-no a b h = false_from_ne_true (are_generators a b) (λ e. h (are_generators-yes a b e))
