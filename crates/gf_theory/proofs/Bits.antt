-- A factor bit by bit: the steps of code that adds the products by one bit after another.
use Rattle.std.proofs.Common.{◌≡◌, ℕ, zero, suc, ◌+◌, ◌*◌, ◌/◌, ◌%◌, ◌^◌, ◌<◌, sym, ap, ◌∙◌, arith, bit_xor}
use Rattle.std.proofs.Math.Nat.{zero-mul, one-mul, mod-lt, mod-eq_of_lt, add_comm}
use Rattle.std.proofs.lemmas.Nat.{xor_comm, pow_pos, mod-pow-add}
use Rattle.std.specs.Int.Bits.{xor_shifted}
use Rattle.gf_theory.specs.Field.{gf_mul}
use Rattle.gf_theory.proofs.Xor.{mod_two}
use Rattle.gf_theory.proofs.Product.{gf_mul-xor_right, gf_mul-zero_right}

low_bits_step : (s k : ℕ) → s % 2 ^ (k + 1) ≡ bit_xor (s % 2 ^ k) (s / 2 ^ k % 2 * 2 ^ k)
low_bits_step s k =
    ap (λ (j : ℕ). s % 2 ^ j) (add_comm k 1)
    ∙ mod-pow-add s 1 k
    ∙ sym (xor_shifted (s / 2 ^ k % 2) k (s % 2 ^ k) (mod-lt s (pow_pos k)))
    ∙ xor_comm (s / 2 ^ k % 2 * 2 ^ k) (s % 2 ^ k)

-- a bit goes out of a product
pub gf_mul-bit_right : (m p c b y : ℕ) → b < 2 → gf_mul m p c (b * y) ≡ b * gf_mul m p c y
gf_mul-bit_right m p c zero y h = simp (zero-mul, gf_mul-zero_right)
gf_mul-bit_right m p c (suc zero) y h = simp one-mul
gf_mul-bit_right m p c (suc (suc b)) y h = absurd (omega arith)

-- the product by the bits of s below k + 1, from that by its bits below k
pub gf_mul-next_bit :
    (m p c s k : ℕ) → gf_mul m p c (s % 2 ^ (k + 1)) ≡ bit_xor (gf_mul m p c (s % 2 ^ k)) (s / 2 ^ k % 2 * gf_mul m p c (2 ^ k))
gf_mul-next_bit m p c s k =
    ap (gf_mul m p c) (low_bits_step s k)
    ∙ gf_mul-xor_right m p c (s % 2 ^ k) (s / 2 ^ k % 2 * 2 ^ k)
    ∙ ap (bit_xor (gf_mul m p c (s % 2 ^ k))) (gf_mul-bit_right m p c (s / 2 ^ k % 2) (2 ^ k) (mod_two (s / 2 ^ k)))

-- no bit yet
pub gf_mul-no_bits : (m p c s : ℕ) → gf_mul m p c (s % 2 ^ 0) ≡ 0
gf_mul-no_bits m p c s = ap (gf_mul m p c) (let z : s % 1 ≡ 0 = omega arith in z) ∙ gf_mul-zero_right m p c

-- all bits
pub gf_mul-all_bits : (m p c s : ℕ) → s < 2 ^ m → gf_mul m p c (s % 2 ^ m) ≡ gf_mul m p c s
gf_mul-all_bits m p c s h = ap (gf_mul m p c) (mod-eq_of_lt h)
