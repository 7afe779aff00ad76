-- How large the numbers of a space are
use Rattle.std.proofs.Common.{◌≡◌, ℕ, zero, suc, ◌+◌, ◌*◌, ◌^◌, ◌≤◌, refl, arith}
use Rattle.std.proofs.Math.Nat.{pow-le-pow_right}
use Rattle.theory_affine.specs.Monomials.{top_degree, below_degree, triangle, pyramid, monomial_count}
use Rattle.theory_affine.proofs.Levels.{rising_mono, triangle-rises, pyramid-rises, triangle_twice, pyramid_six}
use Rattle.affine_domain.specs.Space.{IsSpace}

size-most : (bits k : ℕ) → bits ≤ k → 2 ^ bits ≤ 2 ^ k
size-most bits k h = pow-le-pow_right (omega arith) h

counted : (size vars : ℕ) → 1 ≤ size → size ≤ 256 → 1 ≤ vars → vars ≤ 3 → (vars ≡ 3 → size ≤ 32) → monomial_count size vars ≤ 142880
unfolding monomial_count below_degree
counted size zero s b l h t = absurd (omega arith)
counted size (suc zero) s b l h t = omega arith
counted size (suc (suc zero)) s b l h t =
    let m : triangle (top_degree size 2 + 1) ≤ triangle 511 = rising_mono triangle triangle-rises (top_degree size 2 + 1) 511 (omega arith) in
    let e : 2 * triangle 511 ≡ 511 * (511 + 1) = triangle_twice 511 in omega arith
counted size (suc (suc (suc zero))) s b l h t =
    let few : size ≤ 32 = t refl in
    let m : pyramid (top_degree size 3 + 1) ≤ pyramid 94 = rising_mono pyramid pyramid-rises (top_degree size 3 + 1) 94 (omega arith) in
    let e : 6 * pyramid 94 ≡ 94 * (94 + 1) * (94 + 2) = pyramid_six 94 in omega arith
counted size (suc (suc (suc (suc v)))) s b l h t = absurd (omega arith)

module _ (bits vars : ℕ) (space : IsSpace bits vars) where
  pub size-some : 4 ≤ 2 ^ bits
  size-some = let h : 2 ≤ bits = space.bits_least in let w : 2 ^ 2 ≤ 2 ^ bits = size-most 2 bits h in w

  pub size-few : 2 ^ bits ≤ 256
  size-few = let h : bits ≤ 8 = space.bits_most in let w : 2 ^ bits ≤ 2 ^ 8 = size-most bits 8 h in w

  size-of_three : vars ≡ 3 → 2 ^ bits ≤ 32
  size-of_three e = let w : 2 ^ bits ≤ 2 ^ 5 = size-most bits 5 (space.three e) in w

  pub count-few : monomial_count (2 ^ bits) vars ≤ 142880
  count-few =
      counted (2 ^ bits) vars (let s : 4 ≤ 2 ^ bits = size-some in omega arith) size-few space.vars_least space.vars_most size-of_three
