-- IsField    the numbers below `size` are a field of characteristic 2, with `bit_xor` as sum and `mul` as product
use Rattle.std.specs.Prelude.{◌≡◌, ◌≢◌, ℕ, ◌<◌, ◌^◌, bit_xor}

-- The ring laws hold of all naturals, so that no proof carries a side condition; only the unit law and inverses ask for
-- elements.
pub record IsField (size : ℕ) (mul : ℕ → ℕ → ℕ) : Type 0 where
  -- the size is a power of two, so that the sum of two elements is an element
  pub bits : ℕ
  pub size_is : size ≡ 2 ^ bits
  pub one_below : 1 < size
  pub mul_below : (x y : ℕ) → mul x y < size
  pub mul_comm : (x y : ℕ) → mul x y ≡ mul y x
  pub mul_assoc : (x y z : ℕ) → mul (mul x y) z ≡ mul x (mul y z)
  pub mul_xor : (x y z : ℕ) → mul x (bit_xor y z) ≡ bit_xor (mul x y) (mul x z)
  pub one_mul : (x : ℕ) → x < size → mul 1 x ≡ x
  pub inverse : (x : ℕ) → x < size → x ≢ 0 → (y : ℕ) × (y < size) × (mul x y ≡ 1)
