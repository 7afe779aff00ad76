-- The least number of a list, from the list
use Rattle.std.proofs.Common.{◌≡◌, ℕ, zero, suc, ◌<◌, ◌≤◌, List, [], ◌∷◌, length, get_or, refl, inl, inr, arith}
use Rattle.std.proofs.lemmas.Bool.{cases_lt}
use Rattle.descriptor_code.specs.Plain.{least_of}

pub least_low : (xs : List ℕ) (q : ℕ) → q < length xs → least_of xs ≤ get_or xs q 0
least_low [] q l = absurd (omega arith)
least_low (x ∷ []) zero l = omega arith
least_low (x ∷ []) (suc q) l = absurd (omega arith)
least_low (x ∷ (y ∷ ys)) zero l = omega arith
least_low (x ∷ (y ∷ ys)) (suc q) l = omega (arith, least_low (y ∷ ys) q (omega arith))

pub least_reached : (xs : List ℕ) → 0 < least_of xs → (q : ℕ) × (q < length xs) × (get_or xs q 0 ≡ least_of xs)
least_reached [] l = absurd (omega arith)
least_reached (x ∷ []) l = (0, omega arith, refl)
least_reached (x ∷ (y ∷ ys)) l =
    let w : (q : ℕ) × (q < length (y ∷ ys)) × (get_or (y ∷ ys) q 0 ≡ least_of (y ∷ ys)) = least_reached (y ∷ ys) (omega arith) in
    elim (cases_lt (least_of (y ∷ ys)) x) [
      | inl low ↦ (suc w.0, omega (arith, w.1), omega (arith, w.2))
      | inr high ↦ (0, omega arith, omega arith)
    ]
