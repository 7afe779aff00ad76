-- A descriptor describes one code at the most
use Rattle.std.proofs.Common.{◌≡◌, ℕ, ◌≤◌, Bool, List, sym, ◌∙◌, ap, subst, refl, arith}
use Rattle.order_theory.specs.Basis.{Basis}
use Rattle.order_theory.specs.Codes.{IsOrderBound, IsRadius}
use Rattle.eval_basis.specs.Rules.{checked_by}
use Rattle.eval_basis.proofs.Determined.{determined_law}
use Rattle.block_code.specs.Compiled.{Compiled}
use Rattle.code_descriptor.specs.Parts.{Parts}
use Rattle.descriptor_code.specs.Codes.{domain_of, IsCodeOf}

bound_at_most : (b : Basis) (marks : List Bool) (x y : ℕ) → IsOrderBound b marks x → IsOrderBound b marks y → x ≤ y
bound_at_most b marks x y hx hy =
    let (k, l, free, pairs) = hy.reached in
    omega (arith, hx.least.at_most k l free)

one_bound : (b : Basis) (marks : List Bool) (x y : ℕ) → IsOrderBound b marks x → IsOrderBound b marks y → x ≡ y
one_bound b marks x y hx hy = omega (arith, bound_at_most b marks x y hx hy, bound_at_most b marks y x hy hx)

one_radius : (d t u : ℕ) → IsRadius d t → IsRadius d u → t ≡ u
one_radius d t u ht hu = omega (arith, ht.greatest u hu.below, hu.greatest t ht.below)

compiled_with : Basis → List Bool → ℕ → ℕ → Compiled
compiled_with basis marks bound radius = record { basis = basis; marks = marks; bound = bound; radius = radius }

by_parts : (c : Compiled) → c ≡ compiled_with c.basis c.marks c.bound c.radius
unfolding compiled_with
by_parts c = refl

same_parts : (c d : Compiled) → c.basis ≡ d.basis → c.marks ≡ d.marks → c.bound ≡ d.bound → c.radius ≡ d.radius →
    compiled_with c.basis c.marks c.bound c.radius ≡ compiled_with d.basis d.marks d.bound d.radius
same_parts c d basis marks bound radius = rw (basis, marks, bound, radius) refl

module _ (p : Parts) (c d : Compiled) (is_c : IsCodeOf p c) (is_d : IsCodeOf p d) where
  basis_same : c.basis ≡ d.basis
  basis_same = determined_law (domain_of p) p.modulus p.points c.basis d.basis is_c.built is_d.built is_c.made.sound is_d.made.sound

  marks_same : c.marks ≡ d.marks
  marks_same = is_c.marks ∙ ap (λ (b : Basis). checked_by b p.rule) basis_same ∙ sym is_d.marks

  bound_same : c.bound ≡ d.bound
  bound_same =
      let moved : IsOrderBound d.basis d.marks c.bound =
      subst (λ (b : Basis). IsOrderBound b d.marks c.bound) basis_same (subst (λ (marks : List Bool). IsOrderBound c.basis marks c.bound) marks_same is_c.made.bound) in
      one_bound d.basis d.marks c.bound d.bound moved is_d.made.bound

  radius_same : c.radius ≡ d.radius
  radius_same = one_radius d.bound c.radius d.radius (subst (λ (n : ℕ). IsRadius n c.radius) bound_same is_c.made.radius) is_d.made.radius

  pub one_code : c ≡ d
  one_code = by_parts c ∙ same_parts c d basis_same marks_same bound_same radius_same ∙ sym (by_parts d)
