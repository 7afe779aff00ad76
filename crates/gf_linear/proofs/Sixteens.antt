-- Bytes whose low and high four bits are looked up in two tables of 16, over plain numbers and lists.
use Rattle.std.proofs.Common.{◌≡◌, ℕ, ◌+◌, ◌*◌, ◌-◌, ◌/◌, ◌%◌, ◌^◌, ◌<◌, List, ◌++◌, length, get_or, replicate, sym, ap, ◌∙◌, inl, inr, refl, arith, bit_xor, bit_and, w8}
use Rattle.std.specs.Int.Bits.{xor_shifted}
use Rattle.std.proofs.lemmas.Bool.{cases_lt}
use Rattle.std.proofs.lemmas.Nat.{xor_comm, and_mask, and_le_r, div-add-mod'}
use Rattle.std.proofs.lemmas.List.{get_or_append_left, get_or-append-add}
use Rattle.std.proofs.lemmas.Simd.{SwzOk, swz_l, SwzOk-from_below, Each1-get_or, Each1-zip2, Each2-splat, Each1-all, Each1-weaker, length-zip2, length-swz_l, get_or-swz_l_below, get_or-zip2, get_or-replicate}
use lib.Lanes.{zip2, Each1}
use Rattle.gf_theory.specs.Field.{gf_mul}
use Rattle.gf_theory.proofs.Product.{gf_mul-xor_right}
use Rattle.gf_linear.specs.Nibbles.{looked_up}

-- a number by its low four bits and the others
split_low : (s : ℕ) → s ≡ bit_xor (s % 16) (s / 16 * 16)
split_low s =
    sym (xor_comm (s % 16) (s / 16 * 16) ∙ xor_shifted (s / 16) 4 (s % 16) (let l : s % 16 < 16 = omega arith in l) ∙ div-add-mod' s 16)

-- tables of the multiples of c give the multiple of each symbol
pub looked_up-product :
    (m p c s : ℕ) (low high : List ℕ) → s < 2 ^ m → ((i : ℕ) → i < 16 → i < 2 ^ m → get_or low i 0 ≡ gf_mul m p c i)
    → ((i : ℕ) → i * 16 < 2 ^ m → get_or high i 0 ≡ gf_mul m p c (i * 16)) → looked_up low high s ≡ gf_mul m p c s
looked_up-product m p c s low high l lows highs =
    ap (λ (v : ℕ). bit_xor v (get_or high (s / 16) 0)) (lows (s % 16) (omega arith) (omega arith))
    ∙ ap (bit_xor (gf_mul m p c (s % 16))) (highs (s / 16) (omega arith))
    ∙ sym (ap (gf_mul m p c) (split_low s) ∙ gf_mul-xor_right m p c (s % 16) (s / 16 * 16))

-- two parts of a list that are done are the list done
pub both_parts :
    (k n : ℕ) (front rest : List ℕ) (F : ℕ → ℕ) → length front ≡ k → ((p : ℕ) → p < k → get_or front p 0 ≡ F p)
    → ((p : ℕ) → k + p < n → get_or rest p 0 ≡ F (k + p)) → (p : ℕ) → p < n → get_or (front ++ rest) p 0 ≡ F p
both_parts k n front rest F long first then p l = elim (cases_lt p k) [
  | inl u ↦ get_or_append_left front rest 0 p (omega arith) ∙ first p u
  | inr u ↦
      let e : length front + (p - k) ≡ p = omega arith in
      let f : k + (p - k) ≡ p = omega arith in
      ap (λ (q : ℕ). get_or (front ++ rest) q 0) (sym e) ∙ get_or-append-add front rest (p - k) 0 ∙ then (p - k) (omega arith) ∙ ap F f
]

-- ---- sixteen bytes

abbrev pub low_parts : List ℕ → List ℕ
low_parts v = zip2 bit_and v (replicate 16 15)

abbrev pub high_parts : List ℕ → List ℕ
high_parts v = zip2 (λ a b. a / 2 ^ b) v (replicate 16 4)

pub low_parts-ok : (v : List ℕ) → length v ≡ 16 → SwzOk w8 16 16 0 (low_parts v)
low_parts-ok v long =
    let small = Each1-all (λ a. bit_and a 15 < 16) (λ a. omega (arith, and_le_r a 15)) v in
    SwzOk-from_below w8 16 1 16 0 (low_parts v) refl (omega (arith, length-zip2 bit_and v (replicate 16 15) long))
    (Each1-zip2 bit_and (λ j. j < 16) v (replicate 16 15) (Each2-splat (λ a b. bit_and a b < 16) v 16 15 small))

pub high_parts-ok : (v : List ℕ) → length v ≡ 16 → Each1 (λ x. x < 256) v → SwzOk w8 16 16 0 (high_parts v)
high_parts-ok v long bytes =
    let small = Each1-weaker (λ a. a < 256) (λ a. a / 2 ^ 4 < 16) (λ a l. omega arith) v bytes in
    SwzOk-from_below w8 16 1 16 0 (high_parts v) refl (omega (arith, length-zip2 (λ a b. a / 2 ^ b) v (replicate 16 4) long))
    (Each1-zip2 (λ a b. a / 2 ^ b) (λ j. j < 16) v (replicate 16 4) (Each2-splat (λ a b. a / 2 ^ b < 16) v 16 4 small))

pub look_up-long :
    (low high v : List ℕ) → length v ≡ 16 → length (zip2 bit_xor (swz_l w8 16 low 0 (low_parts v)) (swz_l w8 16 high 0 (high_parts v))) ≡ 16
look_up-long low high v long =
    let long_low : length (swz_l w8 16 low 0 (low_parts v)) ≡ 16 = length-swz_l w8 16 low 0 (low_parts v) ∙ length-zip2 bit_and v (replicate 16 15) long ∙ long in
    let long_high : length (swz_l w8 16 high 0 (high_parts v)) ≡ 16 = length-swz_l w8 16 high 0 (high_parts v) ∙ length-zip2 (λ a b. a / 2 ^ b) v (replicate 16 4) long ∙ long in
    length-zip2 bit_xor (swz_l w8 16 low 0 (low_parts v)) (swz_l w8 16 high 0 (high_parts v)) (long_low ∙ sym long_high) ∙ long_low

pub look_up-is :
    (low high v : List ℕ) → length v ≡ 16 → Each1 (λ x. x < 256) v → (i : ℕ) → i < 16
    → get_or (zip2 bit_xor (swz_l w8 16 low 0 (low_parts v)) (swz_l w8 16 high 0 (high_parts v))) i 0 ≡ looked_up low high (get_or v i 0)
look_up-is low high v long bytes i l =
    let a = get_or v i 0 in
    let few : a < 256 = Each1-get_or (λ x. x < 256) v i 0 (omega arith) bytes in
    let long_low : length (low_parts v) ≡ 16 = length-zip2 bit_and v (replicate 16 15) long ∙ long in
    let long_high : length (high_parts v) ≡ 16 = length-zip2 (λ a b. a / 2 ^ b) v (replicate 16 4) long ∙ long in
    let at_low : get_or (low_parts v) i 0 ≡ a % 16 =
    get_or-zip2 bit_and v (replicate 16 15) i 0 0 0 (omega arith) l ∙ ap (bit_and a) (get_or-replicate 16 i 15 0 l) ∙ and_mask a 4 in
    let at_high : get_or (high_parts v) i 0 ≡ a / 16 =
    get_or-zip2 (λ a b. a / 2 ^ b) v (replicate 16 4) i 0 0 0 (omega arith) l ∙ ap (λ (b : ℕ). a / 2 ^ b) (get_or-replicate 16 i 4 0 l) in
    get_or-zip2 bit_xor (swz_l w8 16 low 0 (low_parts v)) (swz_l w8 16 high 0 (high_parts v)) i 0 0 0
    (omega (arith, length-swz_l w8 16 low 0 (low_parts v))) (omega (arith, length-swz_l w8 16 high 0 (high_parts v)))
    ∙ ap (λ (x : ℕ). bit_xor x (get_or (swz_l w8 16 high 0 (high_parts v)) i 0))
    (get_or-swz_l_below w8 16 low 0 (low_parts v) i (omega arith) (omega arith) ∙ ap (λ (k : ℕ). get_or low k 0) (omega arith))
    ∙ ap (bit_xor (get_or low (a % 16) 0))
    (get_or-swz_l_below w8 16 high 0 (high_parts v) i (omega arith) (omega arith) ∙ ap (λ (k : ℕ). get_or high k 0) (omega arith))
