-- product_at        the symbol at a position times the value of `x^i·y^j` at the point there
-- check_sum         the product of a list of symbols with the values at the points of `x^i·y^j`
-- IsCodeword        a list of n symbols that is orthogonal to the values of each normal monomial whose weight is at most the
--                   greatest that is checked, and at most top
-- MonomialLaw       the theorem: for the rule by weight, the code of a descriptor is these lists, of which nothing but the
--                   curve need be known. Which functions are new at the points makes no difference to it
use Rattle.std.specs.Prelude.{◌≡◌, ℕ, ◌+◌, ◌*◌, ◌^◌, ◌<◌, ◌≤◌, List, length, All, slice_index, ◌↔◌}
use Rattle.field_theory.specs.Sums.{xor_sum}
use Rattle.gf_theory.specs.Field.{gf_mul}
use Rattle.curve_theory.specs.Curve.{monomial}
use Rattle.order_domain.specs.declared.Point.{Point}
use Rattle.order_domain.specs.Points.{point_at}
use Rattle.cab_curve.specs.Equation.{Equation}
use Rattle.cab_curve.specs.Domain.{top_of}
use Rattle.block_theory.specs.Checks.{IsInCode}
use Rattle.block_code.specs.Compiled.{Compiled}
use Rattle.eval_basis.specs.declared.checked.CheckRule.TheVariants.{AtMost}
use Rattle.code_descriptor.specs.Parts.{Parts, Cab, IsDescriptor}
use Rattle.descriptor_code.specs.Plain.{checks}
use Rattle.descriptor_code.specs.Codes.{IsCodeOf}

abbrev pub product_at : (ℕ → ℕ → ℕ) → List Point → ℕ → ℕ → List ℕ → ℕ → ℕ
product_at mul points i j word q = mul (slice_index word q) (monomial mul i j (point_at points q).x (point_at points q).y)

abbrev pub check_sum : (ℕ → ℕ → ℕ) → List Point → ℕ → ℕ → List ℕ → ℕ
check_sum mul points i j word = xor_sum (length points) (product_at mul points i j word)

pub record IsCodeword (modulus : ℕ) (e : Equation) (points : List Point) (weight : ℕ) (word : List ℕ) : Type 0 where
  pub n_long : length word ≡ length points
  pub symbols : All (λ s. s < 2 ^ e.bits) word
  pub orthogonal : (i j : ℕ) → j < e.a → e.a * i + e.b * j ≤ weight → e.a * i + e.b * j ≤ top_of e →
      check_sum (gf_mul e.bits modulus) points i j word ≡ 0

abbrev pub MonomialLaw : Type 0
MonomialLaw =
    (p : Parts) (c : Compiled) (e : Equation) (weight : ℕ) (word : List ℕ) → IsDescriptor p → IsCodeOf p c → p.space ≡ Cab e → p.rule ≡ AtMost weight →
    IsInCode (checks p) word ↔ IsCodeword p.modulus e p.points weight word
