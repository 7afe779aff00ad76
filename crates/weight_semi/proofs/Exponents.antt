-- What a search for the exponents of a weight finds
use Rattle.std.proofs.Common.{◌≡◌, ℕ, ◌+◌, ◌-◌, ◌*◌, ◌/◌, ◌%◌, ◌<◌, ◌≤◌, true, false, ltb, ◌∙◌, ap, arith}
use Rattle.std.proofs.lemmas.Bool.{lt-ltb, le-ltb}
use Rattle.curve_theory.specs.Semigroup.{is_member, x_exponent, y_exponent, next_member}
use Rattle.curve_theory.proofs.Semigroup.{IsNoExponent, y_exponent-found, y_exponent-none, first_below-le}

-- j is the exponent of y for w, and w is a member
pub record IsFound (a b w j : ℕ) : Type 0 where
  pub member : is_member a b w ≡ true
  pub x_is : x_exponent a b w ≡ (w - b * j) / a
  pub y_is : y_exponent a b w ≡ j

pub found : (a b w j : ℕ) → j < a → b * j ≤ w → (w - b * j) % a ≡ 0 → ((k : ℕ) → k < j → IsNoExponent a b w k) → IsFound a b w j
unfolding is_member x_exponent
found a b w j below le rest before =
    let y : y_exponent a b w ≡ j = y_exponent-found a b w j below le rest before in
    record {
      member = ap (λ (z : ℕ). ltb z a) y ∙ lt-ltb j a below;
      x_is = ap (λ (z : ℕ). (w - b * z) / a) y;
      y_is = y;
    }

pub not_found : (a b w : ℕ) → ((k : ℕ) → k < a → IsNoExponent a b w k) → is_member a b w ≡ false
unfolding is_member
not_found a b w none = ap (λ (z : ℕ). ltb z a) (y_exponent-none a b w none) ∙ le-ltb a a (omega arith)

pub next_member-le : (a b w : ℕ) → next_member a b w ≤ w + 1 + a
unfolding next_member
next_member-le a b w = let le = first_below-le a (λ k. is_member a b (w + 1 + k)) in omega arith
