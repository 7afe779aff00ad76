-- Bytes that are read, looked up and written some lanes at a time, over plain numbers and lists.
use Rattle.std.proofs.Common.{◌≡◌, ℕ, ◌+◌, ◌*◌, ◌-◌, ◌/◌, ◌%◌, ◌^◌, ◌<◌, ◌≤◌, List, ◌++◌, length, get_or, replicate, sym, ap, ◌∙◌, subst, inl, inr, refl, arith, bit_xor, bit_and, w8}
use Rattle.std.proofs.lemmas.Bool.{cases_lt}
use Rattle.std.proofs.lemmas.Nat.{and_mask, and_le_r}
use Rattle.std.proofs.lemmas.List.{get_or_append_left, get_or-append-add, length-append}
use Rattle.std.specs.List.{range_with_len}
use Rattle.std.proofs.lemmas.Simd.{SwzOk, swz_l, SwzOk-from_below, Each1-get_or, Each1-zip2, Each2-splat, Each1-all, Each1-weaker, length-zip2, length-swz_l, get_or-swz_l_below, get_or-zip2, get_or-replicate, length-chunk, get_or-chunk, get_or-put_chunk_at, get_or-put_chunk_above, pick_l-range_with_len}
use lib.Lanes.{zip2, Each1, chunk, put_chunk, pick_l}
use Rattle.gf_linear.specs.Nibbles.{looked_up, IsTwice}

-- ---- a list of n lanes is added at a place
module _ (n at : ℕ) (xs ys : List ℕ) (room : at + n ≤ length xs) (long : length ys ≡ n) where
  sums-long : length (zip2 bit_xor (chunk at n xs) ys) ≡ n
  sums-long = length-zip2 bit_xor (chunk at n xs) ys (length-chunk at n xs room ∙ sym long) ∙ length-chunk at n xs room

  pub lanes_here : (i : ℕ) → i < n → get_or (put_chunk at xs (zip2 bit_xor (chunk at n xs) ys)) (at + i) 0 ≡ bit_xor (get_or xs (at + i) 0) (get_or ys i 0)
  lanes_here i l =
      get_or-put_chunk_at at xs (zip2 bit_xor (chunk at n xs) ys) i 0 (omega (arith, sums-long)) (omega (arith, sums-long))
      ∙ get_or-zip2 bit_xor (chunk at n xs) ys i 0 0 0 (omega (arith, length-chunk at n xs room)) (omega arith)
      ∙ ap (λ (x : ℕ). bit_xor x (get_or ys i 0)) (get_or-chunk at n xs i 0 l)

  pub lanes_after : (p : ℕ) → at + n ≤ p → get_or (put_chunk at xs (zip2 bit_xor (chunk at n xs) ys)) p 0 ≡ get_or xs p 0
  lanes_after p l = get_or-put_chunk_above at xs (zip2 bit_xor (chunk at n xs) ys) p 0 (omega (arith, sums-long))

-- n lanes after the other: xs is the list before the lanes q are done, and ys the list after it
module _ (n q : ℕ) (first xs ys : List ℕ) (added : ℕ → ℕ)
    (rest : (p : ℕ) → q * n ≤ p → get_or xs p 0 ≡ get_or first p 0) where
  pub lanes_more :
      ((p : ℕ) → p < q * n → get_or xs p 0 ≡ bit_xor (get_or first p 0) (added p)) → ((i : ℕ) → i < n → get_or ys (q * n + i) 0 ≡ bit_xor (get_or xs (q * n + i) 0) (added (q * n + i)))
      → ((p : ℕ) → p < q * n → get_or ys p 0 ≡ get_or xs p 0) → (p : ℕ) → p < q * n + n → get_or ys p 0 ≡ bit_xor (get_or first p 0) (added p)
  lanes_more done here before p l = elim (cases_lt p (q * n)) [
    | inl u ↦ before p u ∙ done p u
    | inr u ↦
        let e : q * n + (p - q * n) ≡ p = omega arith in
        subst (λ (r : ℕ). get_or ys r 0 ≡ bit_xor (get_or first r 0) (added r)) e
        (here (p - q * n) (omega arith) ∙ ap (λ (x : ℕ). bit_xor x (added (q * n + (p - q * n)))) (rest (q * n + (p - q * n)) (omega arith)))
  ]

  pub lanes_rest : ((p : ℕ) → q * n + n ≤ p → get_or ys p 0 ≡ get_or xs p 0) → (p : ℕ) → q * n + n ≤ p → get_or ys p 0 ≡ get_or first p 0
  lanes_rest after p l = after p l ∙ rest p (omega arith)

-- ---- a table in both halves of 32 lanes

module _ (xs : List ℕ) (long : length xs ≡ 16) where
  abbrev pub half : List ℕ
  half = pick_l 0 (xs ++ xs) (range_with_len 0 16)

  half_at : (i : ℕ) → i < 16 → get_or half i 0 ≡ get_or xs i 0
  half_at i l =
      ap (λ (w : List ℕ). get_or w i 0) (pick_l-range_with_len 0 (xs ++ xs) 0 16 (let e : length (xs ++ xs) ≡ length xs + length xs = length-append xs xs in omega arith))
      ∙ get_or-chunk 0 16 (xs ++ xs) i 0 l ∙ ap (λ (k : ℕ). get_or (xs ++ xs) k 0) (let e : 0 + i ≡ i = omega arith in e)
      ∙ get_or_append_left xs xs 0 i (omega arith)

  pub twice_is : IsTwice xs (half ++ half)
  twice_is = record {
    width = refl;
    first = λ i l. get_or_append_left half half 0 i l ∙ half_at i l;
    second = λ i l. get_or-append-add half half i 0 ∙ half_at i l;
  }

twice_at : (table lanes : List ℕ) (i j : ℕ) → IsTwice table lanes → i < 32 → j < 16 → get_or lanes (16 * ((0 + i) / 16) + j) 0 ≡ get_or table j 0
twice_at table lanes i j h li lj = elim (cases_lt i 16) [
  | inl u ↦ ap (λ (k : ℕ). get_or lanes k 0) (let e : 16 * ((0 + i) / 16) + j ≡ j = omega arith in e) ∙ h.first j lj
  | inr u ↦ ap (λ (k : ℕ). get_or lanes k 0) (let e : 16 * ((0 + i) / 16) + j ≡ 16 + j = omega arith in e) ∙ h.second j lj
]

-- ---- thirty-two bytes

abbrev pub low_parts : List ℕ → List ℕ
low_parts v = zip2 bit_and v (replicate 32 15)

abbrev pub high_parts : List ℕ → List ℕ
high_parts v = zip2 (λ a b. a / 2 ^ b) v (replicate 32 4)

module _ (v : List ℕ) (long : length v ≡ 32) where
  pub low_parts-fit : SwzOk w8 16 32 0 (low_parts v)
  low_parts-fit =
      let small = Each1-all (λ a. bit_and a 15 < 16) (λ a. omega (arith, and_le_r a 15)) v in
      SwzOk-from_below w8 16 2 32 0 (low_parts v) refl (omega (arith, length-zip2 bit_and v (replicate 32 15) long))
      (Each1-zip2 bit_and (λ j. j < 16) v (replicate 32 15) (Each2-splat (λ a b. bit_and a b < 16) v 32 15 small))

  pub high_parts-fit : Each1 (λ x. x < 256) v → SwzOk w8 16 32 0 (high_parts v)
  high_parts-fit bytes =
      let small = Each1-weaker (λ a. a < 256) (λ a. a / 2 ^ 4 < 16) (λ a l. omega arith) v bytes in
      SwzOk-from_below w8 16 2 32 0 (high_parts v) refl (omega (arith, length-zip2 (λ a b. a / 2 ^ b) v (replicate 32 4) long))
      (Each1-zip2 (λ a b. a / 2 ^ b) (λ j. j < 16) v (replicate 32 4) (Each2-splat (λ a b. a / 2 ^ b < 16) v 32 4 small))

  module _ (low high : List ℕ) where
    pub thirty_two-long : length (zip2 bit_xor (swz_l w8 16 low 0 (low_parts v)) (swz_l w8 16 high 0 (high_parts v))) ≡ 32
    thirty_two-long =
        let long_low : length (swz_l w8 16 low 0 (low_parts v)) ≡ 32 = length-swz_l w8 16 low 0 (low_parts v) ∙ length-zip2 bit_and v (replicate 32 15) long ∙ long in
        let long_high : length (swz_l w8 16 high 0 (high_parts v)) ≡ 32 = length-swz_l w8 16 high 0 (high_parts v) ∙ length-zip2 (λ a b. a / 2 ^ b) v (replicate 32 4) long ∙ long in
        length-zip2 bit_xor (swz_l w8 16 low 0 (low_parts v)) (swz_l w8 16 high 0 (high_parts v)) (long_low ∙ sym long_high) ∙ long_low

    pub thirty_two-is :
        Each1 (λ x. x < 256) v → (lows highs : List ℕ) → IsTwice lows low → IsTwice highs high → (i : ℕ) → i < 32
        → get_or (zip2 bit_xor (swz_l w8 16 low 0 (low_parts v)) (swz_l w8 16 high 0 (high_parts v))) i 0 ≡ looked_up lows highs (get_or v i 0)
    thirty_two-is bytes lows highs h_low h_high i l =
        let a = get_or v i 0 in
        let few : a < 256 = Each1-get_or (λ x. x < 256) v i 0 (omega arith) bytes in
        let long_low : length (low_parts v) ≡ 32 = length-zip2 bit_and v (replicate 32 15) long ∙ long in
        let long_high : length (high_parts v) ≡ 32 = length-zip2 (λ a b. a / 2 ^ b) v (replicate 32 4) long ∙ long in
        let at_low : get_or (low_parts v) i 0 ≡ a % 16 =
        get_or-zip2 bit_and v (replicate 32 15) i 0 0 0 (omega arith) l ∙ ap (bit_and a) (get_or-replicate 32 i 15 0 l) ∙ and_mask a 4 in
        let at_high : get_or (high_parts v) i 0 ≡ a / 16 =
        get_or-zip2 (λ a b. a / 2 ^ b) v (replicate 32 4) i 0 0 0 (omega arith) l ∙ ap (λ (b : ℕ). a / 2 ^ b) (get_or-replicate 32 i 4 0 l) in
        get_or-zip2 bit_xor (swz_l w8 16 low 0 (low_parts v)) (swz_l w8 16 high 0 (high_parts v)) i 0 0 0
        (omega (arith, length-swz_l w8 16 low 0 (low_parts v))) (omega (arith, length-swz_l w8 16 high 0 (high_parts v)))
        ∙ ap (λ (x : ℕ). bit_xor x (get_or (swz_l w8 16 high 0 (high_parts v)) i 0))
        (get_or-swz_l_below w8 16 low 0 (low_parts v) i (omega arith) (omega arith)
        ∙ ap (λ (k : ℕ). get_or low (16 * ((0 + i) / 16) + k) 0) at_low ∙ twice_at lows low i (a % 16) h_low l (omega arith))
        ∙ ap (bit_xor (get_or lows (a % 16) 0))
        (get_or-swz_l_below w8 16 high 0 (high_parts v) i (omega arith) (omega arith)
        ∙ ap (λ (k : ℕ). get_or high (16 * ((0 + i) / 16) + k) 0) at_high ∙ twice_at highs high i (a / 16) h_high l (omega arith))
