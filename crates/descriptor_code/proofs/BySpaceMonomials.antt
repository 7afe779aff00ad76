-- The code of a descriptor of an affine space whose rule goes by weight, by the monomials of the space
use Rattle.std.proofs.Common.{◌≡◌, ◌↔◌, ℕ, ◌^◌, ◌<◌, ◌≤◌, List, length, All, sym, ◌∙◌, ap, subst}
use Rattle.std.specs.Prelude.{slice_index}
use Rattle.field_theory.specs.Sums.{xor_sum}
use Rattle.field_theory.proofs.Sums.{sum-same}
use Rattle.gf_theory.specs.Field.{gf_mul}
use Rattle.linear_theory.specs.Linear.{dot}
use Rattle.theory_affine.specs.Monomials.{monomial_count}
use Rattle.order_theory.specs.Basis.{IsWord, times}
use Rattle.order_theory.specs.Codes.{IsCodeword as IsMarkedCodeword}
use Rattle.order_domain.specs.declared.Point.{Point}
use Rattle.order_domain.specs.Domain.{ArePoints}
use Rattle.order_domain.specs.Values.{value_at}
use Rattle.order_domain.proofs.Values.{value_at-is}
use Rattle.affine_domain.specs.Domain.{affine_domain}
use Rattle.affine_domain.specs.DomainLaws.{affine_domain-lawful}
use Rattle.eval_basis.specs.declared.checked.CheckRule.TheVariants.{AtMost}
use Rattle.eval_basis.specs.Rules.{checked_by}
use Rattle.eval_basis.specs.Built.{IsBuilt}
use Rattle.eval_basis.specs.ByLabels.{IsOrthogonalToSmall}
use Rattle.eval_basis.proofs.ByLabels.{at_most_law}
use Rattle.block_theory.specs.Checks.{ParityChecks, IsInCode}
use Rattle.block_theory.proofs.Forms.{code_law}
use Rattle.block_code.specs.Compiled.{Compiled, checks_in}
use Rattle.code_descriptor.specs.Parts.{Parts, Space, Affine, IsDescriptor, IsSpace}
use Rattle.descriptor_code.specs.Plain.{checks}
use Rattle.descriptor_code.specs.Codes.{domain_on, IsCodeOf}
use Rattle.descriptor_code.specs.SpaceMonomials.{term_at, IsSpaceCodeword, SpaceMonomialLaw}
use Rattle.descriptor_code.proofs.Spaces.{points_in}
use Rattle.descriptor_code.proofs.Plainly.{is_plain}

-- the product with a function is the sum of the terms of its monomial
module _ (bits vars modulus : ℕ) (points : List Point) (word : List ℕ) where
  abbrev sum_of_terms : ℕ → ℕ
  sum_of_terms i = xor_sum (length points) (term_at (gf_mul bits modulus) vars points word i)

  product_is : (i : ℕ) → i < monomial_count (2 ^ bits) vars →
      dot (gf_mul bits modulus) (length points) (slice_index word) (value_at (affine_domain bits vars) modulus points i) ≡ sum_of_terms i
  product_is i l =
      sum-same (length points)
      (λ q. gf_mul bits modulus (slice_index word q) (value_at (affine_domain bits vars) modulus points i q))
      (term_at (gf_mul bits modulus) vars points word i)
      (λ q m. ap (λ (v : ℕ). gf_mul bits modulus (slice_index word q) v) (value_at-is (affine_domain bits vars) modulus points i q l m))

  to_terms : (weight : ℕ) → IsOrthogonalToSmall (affine_domain bits vars) modulus points weight word → (i : ℕ) → i ≤ weight → i < monomial_count (2 ^ bits) vars → sum_of_terms i ≡ 0
  to_terms weight small i low below = sym (product_is i below) ∙ small.products i below low

  from_terms : (weight : ℕ) → ((i : ℕ) → i ≤ weight → i < monomial_count (2 ^ bits) vars → sum_of_terms i ≡ 0) → IsOrthogonalToSmall (affine_domain bits vars) modulus points weight word
  from_terms weight each = record { products = λ i below low. product_is i below ∙ each i low below }

module _ (p : Parts) (c : Compiled) (bits vars weight : ℕ) (word : List ℕ) (h : IsDescriptor p) (is_code : IsCodeOf p c) (space_is : p.space ≡ Affine bits vars) (rule_is : p.rule ≡ AtMost weight) where
  is_space : IsSpace p.bits (Affine bits vars)
  is_space = subst (IsSpace p.bits) space_is h.space

  built : IsBuilt (affine_domain bits vars) p.modulus p.points c.basis
  built = subst (λ (s : Space). IsBuilt (domain_on s) p.modulus p.points c.basis) space_is is_code.built

  points : ArePoints (affine_domain bits vars) p.modulus p.points
  points = subst (λ (s : Space). ArePoints (domain_on s) p.modulus p.points) space_is (points_in p h)

  checks_are : checks_in c ≡ checks p
  checks_are = (is_plain p c h is_code).checks_are

  by_marks : IsInCode (checks_in c) word ↔ IsMarkedCodeword (times c.basis) c.basis (checked_by c.basis (AtMost weight)) word
  by_marks =
      subst (λ (marks : List _). IsInCode (checks_in c) word ↔ IsMarkedCodeword (times c.basis) c.basis marks word) (is_code.marks ∙ ap (checked_by c.basis) rule_is)
      (code_law c.basis c.marks word is_code.made.sound is_code.made.n_marks)

  by_labels : IsWord c.basis.bits c.basis.n word → IsMarkedCodeword (times c.basis) c.basis (checked_by c.basis (AtMost weight)) word ↔ IsOrthogonalToSmall (affine_domain bits vars) p.modulus p.points weight word
  by_labels fits = at_most_law (affine_domain bits vars) p.modulus p.points c.basis weight word (affine_domain-lawful bits vars is_space.0) points built is_code.made.sound fits

  to_monomials : IsInCode (checks p) word → IsSpaceCodeword p.modulus bits vars p.points weight word
  to_monomials x =
      let y : IsInCode (checks_in c) word = subst (λ (k : ParityChecks). IsInCode k word) (sym checks_are) x in
      record {
        n_long = x.is_word.n_long;
        symbols = subst (λ (m : ℕ). All (λ s. s < 2 ^ m) word) (sym is_space.1) x.is_word.symbols;
        orthogonal = to_terms bits vars p.modulus p.points word weight ((by_labels y.is_word).0 (by_marks.0 y));
      }

  from_monomials : IsSpaceCodeword p.modulus bits vars p.points weight word → IsInCode (checks p) word
  from_monomials x =
      let fits : IsWord c.basis.bits c.basis.n word = record {
        n_long = x.n_long ∙ sym built.n_is;
        symbols = subst (λ (m : ℕ). All (λ s. s < 2 ^ m) word) (sym built.bits_are) x.symbols;
      } in
      subst (λ (k : ParityChecks). IsInCode k word) checks_are
      (by_marks.1 ((by_labels fits).1 (from_terms bits vars p.modulus p.points word weight x.orthogonal)))

pub space_monomial_law : SpaceMonomialLaw
space_monomial_law p c bits vars weight word h is_code space_is rule_is =
    (to_monomials p c bits vars weight word h is_code space_is rule_is, from_monomials p c bits vars weight word h is_code space_is rule_is)
