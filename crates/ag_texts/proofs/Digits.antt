-- how `number` writes its digits from the last one on
use Rattle.std.proofs.Common.{◌≡◌, ℕ, ◌+◌, ◌-◌, ◌/◌, ◌%◌, ◌^◌, ◌<◌, ◌≤◌, List, [], ◌∷◌, ◌++◌, length, take, drop, set, arith, ap, sym, ◌∙◌, length-append, append_assoc}
use Rattle.std.specs.Fmt.{decimal}
use Rattle.std.proofs.lemmas.Fmt.{decimal_step, decimal_digit, decimal_nonempty, length-decimal-le}
use Rattle.std.proofs.lemmas.List.{drop-set, length-set, length-drop, append-nil, take_all, drop_all}

-- no number of 64 bits has more than twenty digits
pub twenty_digits : (v : ℕ) → v < 2 ^ 64 → length (decimal v) ≤ 20
twenty_digits v small = length-decimal-le 20 v (omega arith) (omega arith) small

-- no number of 32 bits has more than ten digits
pub ten_digits : (v : ℕ) → v < 2 ^ 32 → length (decimal v) ≤ 10
ten_digits v small = length-decimal-le 10 v (omega arith) (omega arith) (omega arith)

-- the digits of v are those of `rest`, and then those that stand from `at` on
pub record IsWriting (v rest at : ℕ) (digits : List ℕ) : Type 0 where
  pub text : decimal v ≡ decimal rest ++ drop at digits
  pub room : length (decimal rest) ≤ at
  pub end : at ≤ 20
  pub long : length digits ≡ 20

pub writing_starts : (v : ℕ) (digits : List ℕ) → v < 2 ^ 64 → length digits ≡ 20 → IsWriting v v 20 digits
writing_starts v digits small long =
    let none : drop 20 digits ≡ [] = drop_all 20 digits (omega arith) in
    record { text = rw none (sym (append-nil _)); room = twenty_digits v small; end = omega arith; long = long }

pub writing_has_room : (v rest at : ℕ) (digits : List ℕ) → rest < 2 ^ 64 → IsWriting v rest at digits → 1 ≤ at
writing_has_room v rest at digits small w = omega (arith, decimal_nonempty rest small)

-- one more digit
digit_before : (at d : ℕ) (digits : List ℕ) → 1 ≤ at → at ≤ length digits → drop (at - 1) (set digits (at - 1) d) ≡ d ∷ drop at digits
digit_before at d digits some within =
    let step : at - 1 + 1 ≡ at = omega arith in
    drop-set digits (at - 1) d (omega arith) ∙ ap (λ (n : ℕ). d ∷ drop n digits) step

pub writing_step : (v rest at : ℕ) (digits : List ℕ) → rest < 2 ^ 64 → 10 ≤ rest → IsWriting v rest at digits →
    IsWriting v (rest / 10) (at - 1) (set digits (at - 1) (48 + rest % 10))
writing_step v rest at digits small high w =
    let some : 1 ≤ at = writing_has_room v rest at digits small w in
    let more : decimal rest ≡ decimal (rest / 10) ++ ((48 + rest % 10) ∷ []) = decimal_step rest high small in
    let there : drop (at - 1) (set digits (at - 1) (48 + rest % 10)) ≡ (48 + rest % 10) ∷ drop at digits = digit_before at (48 + rest % 10) digits some (omega arith) in
    record {
      text = w.text ∙ ap (λ (ds : List ℕ). ds ++ drop at digits) more ∙ append_assoc (decimal (rest / 10)) ((48 + rest % 10) ∷ []) (drop at digits) ∙ ap (λ (ds : List ℕ). decimal (rest / 10) ++ ds) (sym there);
      room = omega (arith, length-append (decimal (rest / 10)) ((48 + rest % 10) ∷ []), ap length more);
      end = omega arith;
      long = length-set digits (at - 1) (48 + rest % 10) ∙ w.long;
    }

pub writing_ends : (v rest at : ℕ) (digits : List ℕ) → rest < 10 → IsWriting v rest at digits →
    take (20 - (at - 1)) (drop (at - 1) (set digits (at - 1) (48 + rest))) ≡ decimal v
writing_ends v rest at digits low w =
    let some : 1 ≤ at = writing_has_room v rest at digits (omega arith) w in
    let there : drop (at - 1) (set digits (at - 1) (48 + rest)) ≡ (48 + rest) ∷ drop at digits = digit_before at (48 + rest) digits some (omega arith) in
    let all : length (drop (at - 1) (set digits (at - 1) (48 + rest))) ≤ 20 - (at - 1) = omega (arith, length-drop (at - 1) (set digits (at - 1) (48 + rest)), length-set digits (at - 1) (48 + rest)) in
    let last : decimal rest ≡ (48 + rest) ∷ [] = decimal_digit rest low in
    take_all _ _ all ∙ there ∙ sym (w.text ∙ ap (λ (ds : List ℕ). ds ++ drop at digits) last)
