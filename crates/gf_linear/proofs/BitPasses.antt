-- The passes of `dot`, one for each bit of a symbol, and the symbols of a multiple, over plain numbers and lists.
use Rattle.std.proofs.Common.{◌≡◌, ℕ, zero, suc, ◌+◌, ◌*◌, ◌/◌, ◌%◌, ◌^◌, ◌<◌, ◌≤◌, List, length, get_or, sym, ap, ◌∙◌, subst, arith, bit_xor}
use Rattle.std.proofs.Math.Nat.{mod-eq_of_lt, one-mul}
use Rattle.std.specs.List.{All}
use Rattle.std.specs.Int.Bits.{xor_zero_r}
use Rattle.std.proofs.lemmas.Nat.{xor_lt, pow_below}
use Rattle.std.proofs.lemmas.List.Elements.{All-get_or, All-from_get_or}
use Rattle.field_theory.specs.Sums.{xor_sum}
use Rattle.field_theory.proofs.Sums.{sum-same, sum-xor, sum_below, mul-sum}
use Rattle.linear_theory.specs.Linear.{dot as dot_of}
use Rattle.gf_theory.specs.Field.{gf_mul, IsModulus}
use Rattle.gf_theory.proofs.Xor.{mod_two}
use Rattle.gf_theory.proofs.Degree.{bit_mul_below}
use Rattle.gf_theory.proofs.Product.{gf_mul-below, gf_mul_comm, gf_mul-zero_left}
use Rattle.gf_theory.proofs.Bits.{gf_mul-bit_right, gf_mul-next_bit, gf_mul-no_bits, gf_mul-all_bits}
use Rattle.gf_theory.proofs.Fields.{field_of_bits, elements_are_bytes}

-- ---- the symbol with one bit set

pub bit_symbol : (m k : ℕ) → k < m → m ≤ 8 → 1 * 2 ^ k % 256 ≡ 2 ^ k
bit_symbol m k l h =
    let below : 2 ^ k < 2 ^ m = pow_below k m l in
    let few : 2 ^ m ≤ 256 = elements_are_bytes m h in
    ap (λ (v : ℕ). v % 256) (one-mul (2 ^ k)) ∙ mod-eq_of_lt (let s : 2 ^ k < 256 = omega arith in s)

pub bit_symbol-below : (m k : ℕ) → k < m → m ≤ 8 → 1 * 2 ^ k % 256 < 2 ^ m
bit_symbol-below m k l h = subst (λ (v : ℕ). v < 2 ^ m) (sym (bit_symbol m k l h)) (pow_below k m l)

-- ---- a multiple of a list

pub multiple_none : (m p d s : ℕ) → d ≡ bit_xor d (gf_mul m p 0 s)
multiple_none m p d s = sym (ap (bit_xor d) (gf_mul-zero_left m p s) ∙ xor_zero_r d)

-- symbols plus products are symbols
pub multiple_symbols :
    (m p c : ℕ) (xs ys src : List ℕ) → length ys ≡ length xs → All (λ a. a < 2 ^ m) xs
    → ((q : ℕ) → q < length xs → get_or ys q 0 ≡ bit_xor (get_or xs q 0) (gf_mul m p c (get_or src q 0))) → All (λ a. a < 2 ^ m) ys
multiple_symbols m p c xs ys src e h sums =
    All-from_get_or (λ a. a < 2 ^ m) ys 0
    (λ i l. (let k : i < length xs = omega arith in
    subst (λ (v : ℕ). v < 2 ^ m) (sym (sums i k))
    (xor_lt m (get_or xs i 0) (gf_mul m p c (get_or src i 0)) (All-get_or (λ a. a < 2 ^ m) xs i 0 k h) (gf_mul-below m p c (get_or src i 0)))))

-- ---- a product of two lists

module _ (m p : ℕ) (modulus : IsModulus m p) (n : ℕ) (x y : ℕ → ℕ) where
  pub part_below : (k : ℕ) → ((q : ℕ) → q < n → y q < 2 ^ m) → xor_sum n (λ q. x q / 2 ^ k % 2 * y q) < 2 ^ m
  part_below k h =
      sum_below (2 ^ m) (gf_mul m p) (field_of_bits m p modulus) n (λ q. x q / 2 ^ k % 2 * y q)
      (λ q l. bit_mul_below (x q / 2 ^ k % 2) (y q) (2 ^ m) (mod_two (x q / 2 ^ k)) (h q l))

  pub product_start : 0 ≡ dot_of (gf_mul m p) n (λ q. x q % 2 ^ 0) y
  product_start = go n
    where
      go : (i : ℕ) → 0 ≡ dot_of (gf_mul m p) i (λ q. x q % 2 ^ 0) y
      go zero = sym (let z : 0 ≡ 0 = omega arith in z)
      go (suc i) =
          go i ∙ sym (ap (bit_xor (dot_of (gf_mul m p) i (λ q. x q % 2 ^ 0) y)) (gf_mul_comm m p (x i % 2 ^ 0) (y i) ∙ gf_mul-no_bits m p (y i) (x i)) ∙ xor_zero_r _)

  place_next :
      (k q : ℕ) → gf_mul m p (x q % 2 ^ (k + 1)) (y q) ≡ bit_xor (gf_mul m p (x q % 2 ^ k) (y q)) (gf_mul m p (2 ^ k) (x q / 2 ^ k % 2 * y q))
  place_next k q =
      gf_mul_comm m p (x q % 2 ^ (k + 1)) (y q)
      ∙ gf_mul-next_bit m p (y q) (x q) k
      ∙ ap (λ (v : ℕ). bit_xor v (x q / 2 ^ k % 2 * gf_mul m p (y q) (2 ^ k))) (gf_mul_comm m p (y q) (x q % 2 ^ k))
      ∙ ap (bit_xor (gf_mul m p (x q % 2 ^ k) (y q)))
      (ap (λ (v : ℕ). x q / 2 ^ k % 2 * v) (gf_mul_comm m p (y q) (2 ^ k)) ∙ sym (gf_mul-bit_right m p (2 ^ k) (x q / 2 ^ k % 2) (y q) (mod_two (x q / 2 ^ k))))

  pub product_next :
      (k a s t r : ℕ) → k < m → m ≤ 8 → s ≡ xor_sum n (λ q. x q / 2 ^ k % 2 * y q) → t ≡ gf_mul m p (1 * 2 ^ k % 256) s
      → a ≡ dot_of (gf_mul m p) n (λ q. x q % 2 ^ k) y → r ≡ bit_xor a t → r ≡ dot_of (gf_mul m p) n (λ q. x q % 2 ^ (k + 1)) y
  product_next k a s t r l h es et ea er =
      let part : t ≡ xor_sum n (λ q. gf_mul m p (2 ^ k) (x q / 2 ^ k % 2 * y q)) =
      et ∙ ap (λ (v : ℕ). gf_mul m p v s) (bit_symbol m k l h) ∙ ap (gf_mul m p (2 ^ k)) es
      ∙ mul-sum (2 ^ m) (gf_mul m p) (field_of_bits m p modulus) (2 ^ k) n (λ q. x q / 2 ^ k % 2 * y q) in
      er
      ∙ ap (λ (v : ℕ). bit_xor v t) ea
      ∙ ap (bit_xor (dot_of (gf_mul m p) n (λ q. x q % 2 ^ k) y)) part
      ∙ sym (sum-xor n (λ q. gf_mul m p (x q % 2 ^ k) (y q)) (λ q. gf_mul m p (2 ^ k) (x q / 2 ^ k % 2 * y q)))
      ∙ sum-same n _ (λ q. gf_mul m p (x q % 2 ^ (k + 1)) (y q)) (λ q _. sym (place_next k q))

  pub product_end :
      (k r : ℕ) → k ≡ m → ((q : ℕ) → q < n → x q < 2 ^ m) → r ≡ dot_of (gf_mul m p) n (λ q. x q % 2 ^ k) y → r ≡ dot_of (gf_mul m p) n x y
  product_end k r e h er =
      er
      ∙ ap (λ (j : ℕ). dot_of (gf_mul m p) n (λ q. x q % 2 ^ j) y) e
      ∙ sum-same n (λ q. gf_mul m p (x q % 2 ^ m) (y q)) (λ q. gf_mul m p (x q) (y q))
      (λ q l. gf_mul_comm m p (x q % 2 ^ m) (y q) ∙ gf_mul-all_bits m p (y q) (x q) (h q l) ∙ gf_mul_comm m p (y q) (x q))
