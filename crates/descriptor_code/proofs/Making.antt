-- What is made on the curve of a descriptor's space is made of the descriptor
use Rattle.std.proofs.Common.{◌≡◌, ℕ, Bool, List, Option, sym, ◌∙◌, ap, subst, refl}
use Rattle.order_theory.specs.Basis.{Basis}
use Rattle.order_domain.specs.declared.Point.{Point}
use Rattle.order_domain.specs.Domain.{AreOn}
use Rattle.cab_curve.specs.declared.normal.NormTerm.{NormTerm}
use Rattle.eval_basis.specs.declared.checked.CheckRule.{CheckRule}
use Rattle.eval_basis.specs.Rules.{checked_by}
use Rattle.eval_basis.specs.Built.{IsBuilt}
use Rattle.eval_basis.specs.Members.{AreAllChecked}
use Rattle.block_code.specs.Compiled.{Compiled, IsMade}
use Rattle.code_descriptor.specs.Parts.{Parts, Space, IsDescriptor}
use Rattle.descriptor_code.specs.Plain.{IsFull, IsRelation}
use Rattle.descriptor_code.specs.Codes.{domain_on, domain_of, IsCodeOf}
use Rattle.descriptor_code.specs.Described.{IsDescribed}
use Rattle.descriptor_code.proofs.Spaces.{field_in, named_in, bits_in, points_on}
use Rattle.descriptor_code.proofs.Built.{full_of_checked}
use Rattle.descriptor_code.proofs.Plainly.{is_plain}

parts_with : (bits modulus : ℕ) → Space → List Point → CheckRule → ℕ → Bool → Parts
parts_with bits modulus space points rule depth packed = record {
  bits = bits;
  modulus = modulus;
  space = space;
  points = points;
  rule = rule;
  depth = depth;
  packed = packed;
}

same_parts : (p q : Parts) → p.bits ≡ q.bits → p.modulus ≡ q.modulus → p.space ≡ q.space → p.points ≡ q.points → p.rule ≡ q.rule → p.depth ≡ q.depth → p.packed ≡ q.packed → p ≡ q
unfolding parts_with
same_parts p q bits modulus space points rule depth packed =
    let whole : parts_with p.bits p.modulus p.space p.points p.rule p.depth p.packed ≡ parts_with q.bits q.modulus q.space q.points q.rule q.depth q.packed =
    rw (bits, modulus, space, points, rule, depth, packed) refl in
    whole

-- q is the descriptor; u is the space of the domain, and `modulus` that of the field
module _ (q : Parts) (u : Space) (modulus : ℕ) (h : IsDescriptor q) (space_is : u ≡ q.space) (modulus_is : modulus ≡ q.modulus) where
  -- what holds on the space of the descriptor holds on that of the domain, and back
  to_space : (P : Space → ℕ → Type 0) → P q.space q.modulus → P u modulus
  to_space P x =
      subst (λ (m : ℕ). P u m) (sym modulus_is) (subst (λ (s : Space). P s q.modulus) (sym space_is) x)

  from_space : (P : Space → ℕ → Type 0) → P u modulus → P q.space q.modulus
  from_space P x =
      subst (λ (s : Space). P s q.modulus) space_is (subst (λ (m : ℕ). P u m) modulus_is x)

  pub made_on : AreOn (domain_on u) modulus q.points
  made_on = to_space (λ s m. AreOn (domain_on s) m q.points) (points_on q h)

  pub made_full : AreAllChecked (domain_on u) modulus q.points q.rule → IsFull q
  made_full all =
      full_of_checked q (domain_of q) (field_in q h) (named_in q) (bits_in q h)
      (from_space (λ s m. AreAllChecked (domain_on s) m q.points q.rule) all)

  pub made_bits : (domain_on u).bits ≡ q.bits
  made_bits = ap (λ (s : Space). (domain_on s).bits) space_is ∙ bits_in q h

  module _ (c : Compiled) (built : IsBuilt (domain_on u) modulus q.points c.basis) where
    pub made_parts : (p : Parts) → p.bits ≡ c.basis.bits → p.modulus ≡ c.basis.modulus → p.space ≡ u → p.points ≡ q.points → p.rule ≡ q.rule → p.depth ≡ q.depth → p.packed ≡ q.packed → p ≡ q
    made_parts p bits modulus' space points rule depth packed =
        same_parts p q (bits ∙ built.bits_are ∙ made_bits) (modulus' ∙ built.modulus_is ∙ modulus_is) (space ∙ space_is) points rule depth packed

    pub made_code : c.marks ≡ checked_by c.basis q.rule → IsMade c → IsCodeOf q c
    made_code marks made = record { built = from_space (λ s m. IsBuilt (domain_on s) m q.points c.basis) built; marks = marks; made = made }

    pub made_free : c.marks ≡ checked_by c.basis q.rule → IsMade c → IsFull q → ⊥
    made_free marks made = (is_plain q c h (made_code marks made)).not_full

    pub made_described : c.marks ≡ checked_by c.basis q.rule → IsMade c → (relation : Option (List NormTerm)) → IsRelation q relation → (p : Parts) → p ≡ q → IsDescribed p c relation
    made_described marks made relation is p same =
        subst (λ (r : Parts). IsDescribed r c relation) (sym same)
        (record { descriptor = h; code = made_code marks made; relation_is = is })
