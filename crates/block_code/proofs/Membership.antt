-- The members of a built basis are those of its domain, so the rule checks all of either or of neither.
use Rattle.std.proofs.Common.{◌≡◌, ◌⊎◌, ℕ, ◌<◌, true, List, length, sym, ◌∙◌, ap, subst, inl, inr}
use Rattle.std.proofs.lemmas.Bool.{cases_Bool, eqb-true, eq-eqb, both_ways}
use Rattle.std.specs.Prelude.{eqb}
use Rattle.gf_theory.specs.Field.{gf_mul}
use Rattle.field_theory.specs.Sums.{any_below}
use Rattle.linear_theory.specs.Linear.{IsCombination}
use Rattle.linear_theory.proofs.Spans.{any_below-yes, any_below-from}
use Rattle.counting_theory.specs.Votes.{pairs}
use Rattle.order_theory.specs.Basis.{Basis, rank_at, pairs_at}
use Rattle.order_theory.specs.Codes.{marked, AreAllMarked}
use Rattle.order_domain.specs.declared.Point.{Point}
use Rattle.order_domain.specs.Domain.{Domain}
use Rattle.order_domain.specs.Values.{value_at, sum_or_count}
use Rattle.eval_basis.specs.declared.checked.CheckRule.{CheckRule}
use Rattle.eval_basis.specs.Rules.{rule_checks, checked_by}
use Rattle.eval_basis.specs.Built.{IsBuilt}
use Rattle.eval_basis.proofs.Marks.{marked-checked_by}
use Rattle.eval_basis.specs.Members.{AreAllChecked}

-- whether index i is that of a member
cases_member : (b : Basis) (i : ℕ) → ((k : ℕ) × (k < b.n) × (rank_at b k ≡ i)) ⊎ ((k : ℕ) → k < b.n → i ≡ rank_at b k → ⊥)
cases_member b i = elim (cases_Bool (any_below b.n (λ k. eqb (rank_at b k) i))) [
  | inl found ↦ (let (k, l, same) = any_below-yes b.n (λ k. eqb (rank_at b k) i) found in inl (k, l, eqb-true (rank_at b k) i same))
  | inr none ↦ inr (λ k l e. both_ways (any_below b.n (λ k. eqb (rank_at b k) i)) none (any_below-from b.n (λ k. eqb (rank_at b k) i) k l (eq-eqb (rank_at b k) i (sym e))))
]

module _ (d : Domain) (modulus : ℕ) (points : List Point) (b : Basis) (rule : CheckRule) (built : IsBuilt d modulus points b) where
  -- what a combination of functions is, in the terms of the basis and of the domain
  abbrev Depends : ℕ → ℕ → ℕ → ℕ → Type 0
  Depends bits m n i = IsCombination (gf_mul bits m) n (value_at d modulus points) i (value_at d modulus points i)

  of_domain : (i : ℕ) → Depends b.bits b.modulus b.n i → Depends d.bits modulus (length points) i
  of_domain i h =
      subst (λ (bits : ℕ). Depends bits modulus (length points) i) built.bits_are
      (subst (λ (m : ℕ). Depends b.bits m (length points) i) built.modulus_is
      (subst (λ (n : ℕ). Depends b.bits b.modulus n i) built.n_is h))

  of_basis : (i : ℕ) → Depends d.bits modulus (length points) i → Depends b.bits b.modulus b.n i
  of_basis i h =
      subst (λ (n : ℕ). Depends b.bits b.modulus n i) (sym built.n_is)
      (subst (λ (m : ℕ). Depends b.bits m (length points) i) (sym built.modulus_is)
      (subst (λ (bits : ℕ). Depends bits modulus (length points) i) (sym built.bits_are) h))

  -- the mark of a member is what the rule gives for its function
  mark_is : (k : ℕ) → k < b.n → marked (checked_by b rule) k ≡ rule_checks rule (d.label (rank_at b k)) (pairs d.count (sum_or_count d) (rank_at b k))
  mark_is k l =
      marked-checked_by b rule k l
      ∙ ap (λ (w : ℕ). rule_checks rule w (pairs_at b k)) (built.labels k l)
      ∙ ap (rule_checks rule (d.label (rank_at b k))) (built.pairs_are k l)

  pub all_checked : AreAllMarked b (checked_by b rule) → AreAllChecked d modulus points rule
  all_checked h = record {
    each = λ i m. elim (cases_member b i) [
      | inl w ↦
          let (k, l, at) = w in
          subst (λ (j : ℕ). rule_checks rule (d.label j) (pairs d.count (sum_or_count d) j) ≡ true) at (sym (mark_is k l) ∙ h.each k l)
      | inr none ↦ absurd (m.new (of_domain i (built.members.others i (subst (λ (n : ℕ). i < n) (sym built.count_is) m.below) none)))
    ];
  }

  pub all_marked : AreAllChecked d modulus points rule → AreAllMarked b (checked_by b rule)
  all_marked h = record {
    each = λ k l. mark_is k l ∙ h.each (rank_at b k) (record {
      below = subst (λ (n : ℕ). rank_at b k < n) built.count_is (built.members.ranks_below k l);
      new = λ c. built.members.new k l (of_basis (rank_at b k) c);
    });
  }
