-- term_at           the symbol at a position times the value of monomial i at the point there
-- IsSpaceCodeword   a list of n symbols that is orthogonal to the values of each monomial of a space whose number is at most
--                   the greatest that is checked
-- SpaceMonomialLaw  the theorem: for the rule by weight, the code of a descriptor of an affine space is these lists. Which
--                   monomials are new at the points makes no difference to it
use Rattle.std.specs.Prelude.{◌≡◌, ℕ, ◌^◌, ◌<◌, ◌≤◌, List, length, All, slice_index, ◌↔◌}
use Rattle.field_theory.specs.Sums.{xor_sum}
use Rattle.gf_theory.specs.Field.{gf_mul}
use Rattle.theory_affine.specs.Monomials.{monomial_at, monomial_count}
use Rattle.theory_affine.specs.Separation.{monomial_value}
use Rattle.order_domain.specs.declared.Point.{Point}
use Rattle.order_domain.specs.Points.{point_at}
use Rattle.block_theory.specs.Checks.{IsInCode}
use Rattle.block_code.specs.Compiled.{Compiled}
use Rattle.eval_basis.specs.declared.checked.CheckRule.TheVariants.{AtMost}
use Rattle.code_descriptor.specs.Parts.{Parts, Affine, IsDescriptor}
use Rattle.descriptor_code.specs.Plain.{checks}
use Rattle.descriptor_code.specs.Codes.{IsCodeOf}

abbrev pub term_at : (ℕ → ℕ → ℕ) → ℕ → List Point → List ℕ → ℕ → ℕ → ℕ
term_at mul vars points word i q =
    mul (slice_index word q) (monomial_value mul (monomial_at vars i) (point_at points q).x (point_at points q).y (point_at points q).z)

pub record IsSpaceCodeword (modulus bits vars : ℕ) (points : List Point) (weight : ℕ) (word : List ℕ) : Type 0 where
  pub n_long : length word ≡ length points
  pub symbols : All (λ s. s < 2 ^ bits) word
  pub orthogonal : (i : ℕ) → i ≤ weight → i < monomial_count (2 ^ bits) vars →
      xor_sum (length points) (term_at (gf_mul bits modulus) vars points word i) ≡ 0

abbrev pub SpaceMonomialLaw : Type 0
SpaceMonomialLaw =
    (p : Parts) (c : Compiled) (bits vars weight : ℕ) (word : List ℕ) → IsDescriptor p → IsCodeOf p c →
    p.space ≡ Affine bits vars → p.rule ≡ AtMost weight →
    IsInCode (checks p) word ↔ IsSpaceCodeword p.modulus bits vars p.points weight word
