-- The code of the members with small labels, by all functions of the domain
use Rattle.std.proofs.Common.{◌≡◌, ℕ, ◌^◌, ◌↔◌, List, length, sym, ◌∙◌, refl, arith}
use Rattle.std.specs.Prelude.{slice_index}
use Rattle.gf_theory.specs.Field.{IsModulus, gf_mul}
use Rattle.linear_theory.specs.Linear.{dot}
use Rattle.order_theory.specs.Basis.{Basis, IsWord, IsSoundBasis, times}
use Rattle.order_theory.specs.Codes.{IsCodeword}
use Rattle.order_theory.specs.Domains.{IsOrdered}
use Rattle.order_theory.specs.Labels.{HasLabels, IsOrthogonalUpTo}
use Rattle.order_theory.proofs.Labels.{label_law}
use Rattle.order_domain.specs.declared.Point.{Point}
use Rattle.order_domain.specs.Domain.{Domain, ArePoints, IsOrderDomain}
use Rattle.order_domain.specs.Values.{value_at, sum_or_count, lead_at}
use Rattle.order_domain.proofs.Values.{ordered_values}
use Rattle.eval_basis.specs.declared.checked.CheckRule.TheVariants.{AtMost}
use Rattle.eval_basis.specs.Rules.{checked_by}
use Rattle.eval_basis.specs.Built.{IsBuilt}
use Rattle.eval_basis.specs.ByLabels.{IsOrthogonalToSmall, AtMostLaw}
use Rattle.eval_basis.proofs.Marks.{marked-checked_by}

module _ (d : Domain) (modulus : ℕ) (points : List Point) (b : Basis) (weight : ℕ) (x : List ℕ) (lawful : IsOrderDomain d) (are : ArePoints d modulus points)
    (built : IsBuilt d modulus points b) (sound : IsSoundBasis b) (word : IsWord b.bits b.n x) where
  is_modulus : IsModulus d.bits modulus
  is_modulus = rw (← built.bits_are, ← built.modulus_is) sound.modulus

  ordered : IsOrdered (2 ^ b.bits) (times b) b.n b.count (value_at d modulus points) (sum_or_count d) (lead_at d modulus)
  ordered = rw (built.bits_are, built.modulus_is, built.n_is, built.count_is) (ordered_values d modulus points lawful is_modulus are)

  labels : HasLabels b d.label
  labels = record {
    rise = λ i j l lj. let e : b.count ≡ d.count = built.count_is in lawful.labels_rise i j l (omega arith);
    of_members = built.labels;
  }

  both : IsCodeword (times b) b (checked_by b (AtMost weight)) x ↔ IsOrthogonalUpTo (times b) b (value_at d modulus points) d.label weight x
  both =
      label_law (times b) b (value_at d modulus points) (sum_or_count d) (lead_at d modulus) d.label (checked_by b (AtMost weight)) weight x
      sound.sound ordered built.members labels (record { marks_are = marked-checked_by b (AtMost weight) }) word

  product_is : (i : ℕ) → dot (times b) b.n (slice_index x) (value_at d modulus points i) ≡ dot (gf_mul d.bits modulus) (length points) (slice_index x) (value_at d modulus points i)
  product_is i = rw (built.bits_are, built.modulus_is, built.n_is) refl

  at_most : IsCodeword (times b) b (checked_by b (AtMost weight)) x ↔ IsOrthogonalToSmall d modulus points weight x
  at_most = (
    λ h. record { products = λ i l low. let e : b.count ≡ d.count = built.count_is in sym (product_is i) ∙ (both.0 h).products i (omega arith) low },
    λ h. both.1 (record { products = λ i l low. let e : b.count ≡ d.count = built.count_is in product_is i ∙ h.products i (omega arith) low }),
  )

pub at_most_law : AtMostLaw
at_most_law = at_most
