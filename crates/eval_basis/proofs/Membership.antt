-- The members of a built basis are those of its domain, so its code is that of the members that the rule checks.
use Rattle.std.proofs.Common.{◌≡◌, ℕ, ◌<◌, true, List, length, slice_index, sym, ◌∙◌, ap, subst, refl, inl, inr}
use Rattle.gf_theory.specs.Field.{gf_mul}
use Rattle.linear_theory.specs.Linear.{dot}
use Rattle.linear_theory.proofs.Entries.{dot_entries}
use Rattle.order_theory.specs.Basis.{Basis, IsWord, rank_at, vector, pairs_at, times}
use Rattle.order_theory.specs.Codes.{marked, AreAllMarked, IsCodeword}
use Rattle.order_theory.specs.Errors.{syndrome}
use Rattle.order_theory.proofs.Shape.{cases_value}
use Rattle.order_domain.specs.declared.Point.{Point}
use Rattle.order_domain.specs.Domain.{Domain}
use Rattle.order_domain.specs.Values.{value_at}
use Rattle.eval_basis.specs.declared.checked.CheckRule.{CheckRule}
use Rattle.eval_basis.specs.Rules.{rule_checks, checked_by}
use Rattle.eval_basis.specs.Built.{IsBuilt}
use Rattle.eval_basis.specs.Members.{IsMember, is_checked, AreAllChecked, IsOrthogonalToChecked, RuleLaw}
use Rattle.eval_basis.proofs.Marks.{marked-checked_by}
use Rattle.eval_basis.proofs.Determined.{fresh_at, other_at, below_count}

module _ (d : Domain) (modulus : ℕ) (points : List Point) (b : Basis) (rule : CheckRule) (built : IsBuilt d modulus points b) where
  -- the mark of a member is what the rule gives for its function
  pub mark_is : (k : ℕ) → k < b.n → marked (checked_by b rule) k ≡ is_checked d rule (rank_at b k)
  mark_is k l =
      marked-checked_by b rule k l
      ∙ ap (λ (w : ℕ). rule_checks rule w (pairs_at b k)) (built.labels k l)
      ∙ ap (rule_checks rule (d.label (rank_at b k))) (built.pairs_are k l)

  among : (k : ℕ) → k < b.n → k < length points
  among k l = subst (λ (n : ℕ). k < n) built.n_is l

  pub member_at : (k : ℕ) → k < b.n → IsMember d modulus points (rank_at b k)
  member_at k l = record {
    below = below_count d modulus points b built k (among k l);
    new = fresh_at d modulus points b built k (among k l);
  }

  -- a member of the domain is one of the basis
  pub number_of : (i : ℕ) → IsMember d modulus points i → (k : ℕ) × (k < b.n) × (i ≡ rank_at b k)
  number_of i m = elim (cases_value (length points) (rank_at b) i) [
    | inl w ↦ (let (k, l, at) = w in (k, subst (λ (n : ℕ). k < n) (sym built.n_is) l, at))
    | inr none ↦ absurd (m.new (other_at d modulus points b built i m.below none))
  ]

  pub all_checked : AreAllMarked b (checked_by b rule) → AreAllChecked d modulus points rule
  all_checked h = record {
    each = λ i m.
        let (k, l, at) = number_of i m in
        subst (λ (j : ℕ). is_checked d rule j ≡ true) (sym at) (sym (mark_is k l) ∙ h.each k l);
  }

  pub all_marked : AreAllChecked d modulus points rule → AreAllMarked b (checked_by b rule)
  all_marked h = record { each = λ k l. mark_is k l ∙ h.each (rank_at b k) (member_at k l) }

  module _ (x : List ℕ) where
    abbrev product_with : ℕ → ℕ
    product_with i = dot (gf_mul d.bits modulus) (length points) (slice_index x) (value_at d modulus points i)

    product_is : (i : ℕ) → dot (times b) b.n (slice_index x) (value_at d modulus points i) ≡ product_with i
    product_is i = rw (built.bits_are, built.modulus_is, built.n_is) refl

    syndrome_is : (k : ℕ) → k < b.n → syndrome (times b) b x k ≡ product_with (rank_at b k)
    syndrome_is k l =
        dot_entries (times b) b.n (slice_index x) (vector b k) (slice_index x) (value_at d modulus points (rank_at b k)) (λ p lp. refl) (λ p lp. built.members.vectors k p l lp)
        ∙ product_is (rank_at b k)

    pub orthogonal_to_checked : IsCodeword (times b) b (checked_by b rule) x → IsOrthogonalToChecked d modulus points rule x
    orthogonal_to_checked h = record {
      products = λ i m c.
          let (k, l, at) = number_of i m in
          subst (λ (j : ℕ). product_with j ≡ 0) (sym at)
          (sym (syndrome_is k l) ∙ h.orthogonal k l (mark_is k l ∙ subst (λ (j : ℕ). is_checked d rule j ≡ true) at c));
    }

    pub codeword_of_checked : IsWord b.bits b.n x → IsOrthogonalToChecked d modulus points rule x → IsCodeword (times b) b (checked_by b rule) x
    codeword_of_checked word h = record {
      is_word = word;
      orthogonal = λ k l marked. syndrome_is k l ∙ h.products (rank_at b k) (member_at k l) (sym (mark_is k l) ∙ marked);
    }

pub rule_law : RuleLaw
rule_law d modulus points b rule x built word = (orthogonal_to_checked d modulus points b rule built x, codeword_of_checked d modulus points b rule built x word)
