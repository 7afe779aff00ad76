-- AreMultiples    two tables of 16: at place i of the first stands the product of c and i, of the second that of c and 16 i,
--                 as far as i, or 16 i, is an element of the field of these bits and this modulus
use Rattle.std.specs.Prelude.{◌≡◌, ℕ, ◌*◌, ◌^◌, ◌<◌, List, length, slice_index}
use Rattle.gf_theory.specs.Field.{gf_mul}

pub record AreMultiples (bits modulus c : ℕ) (low high : List ℕ) : Type 0 where
  pub n_low : length low ≡ 16
  pub n_high : length high ≡ 16
  pub lows : (i : ℕ) → i < 16 → i < 2 ^ bits → slice_index low i ≡ gf_mul bits modulus c i
  pub highs : (i : ℕ) → i * 16 < 2 ^ bits → slice_index high i ≡ gf_mul bits modulus c (i * 16)
