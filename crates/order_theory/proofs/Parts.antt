-- The ranks of the parts of a matrix, as the counting theory takes them, and the parts with no entry but 0
use Rattle.std.proofs.Common.{subst, ◌≡◌, ℕ, zero, suc, ◌<◌, ◌≤◌, sym, ◌∙◌, ap, inl, inr, arith, eqb}
use Rattle.std.proofs.lemmas.Bool.{cases_eq, cond-true, cond-false, eq-eqb, ne_eqb}
use Rattle.field_theory.specs.Field.{IsField}
use Rattle.field_theory.specs.Sums.{put}
use Rattle.linear_theory.specs.Linear.{combine, rank, put_entry, IsCombination}
use Rattle.field_theory.proofs.Sums.{sum-zero, eq_or_below, mul-zero}
use Rattle.linear_theory.proofs.Spans.{put-same, put-other, combination_zero}
use Rattle.linear_theory.proofs.Corners.{put_entry-rank_same}
use Rattle.linear_theory.proofs.Ranks.{rank_zero, rank_same, rank-le-more, combination_of_rank}

-- two matrices that agree but at (i, j) agree once it has one value in both
pub put_entry_same : (S T : ℕ → ℕ → ℕ) (i j x q p : ℕ) → ((q ≡ i → p ≡ j → ⊥) → S q p ≡ T q p) → put_entry S i j x q p ≡ put_entry T i j x q p
put_entry_same S T i j x q p h = elim (cases_eq q i) [
  | inr d ↦
      ap (λ (f : ℕ → ℕ). f p) (cond-false (eqb q i) (put (S i) j x) (S q) (ne_eqb q i d))
      ∙ h (λ e f. d e)
      ∙ sym (ap (λ (f : ℕ → ℕ). f p) (cond-false (eqb q i) (put (T i) j x) (T q) (ne_eqb q i d)))
  | inl e ↦
      ap (λ (f : ℕ → ℕ). f p) (cond-true (eqb q i) (put (S i) j x) (S q) (eq-eqb q i e))
      ∙ elim (cases_eq p j) [
        | inl f ↦ ap (λ (m : ℕ). put (S i) j x m) f ∙ put-same (S i) j x ∙ sym (ap (λ (m : ℕ). put (T i) j x m) f ∙ put-same (T i) j x)
        | inr d ↦ put-other (S i) j x p d ∙ ap (λ (m : ℕ). S m p) (sym e) ∙ h (λ g f. d f) ∙ ap (λ (m : ℕ). T m p) e ∙ sym (put-other (T i) j x p d)
      ]
      ∙ sym (ap (λ (f : ℕ → ℕ). f p) (cond-true (eqb q i) (put (T i) j x) (T q) (eq-eqb q i e)))
]

module _ (size : ℕ) (mul : ℕ → ℕ → ℕ) (field : IsField size mul) where
  -- a matrix of zeros has rank 0
  pub rank_of_zeros : (n : ℕ) (S : ℕ → ℕ → ℕ) (r : ℕ) → ((i j : ℕ) → i < r → j < n → S i j ≡ 0) → rank size mul n S r ≡ 0
  rank_of_zeros n S zero z = rank_zero size mul field n S
  rank_of_zeros n S (suc r) z =
      rank_same size mul field n S r (combination_zero size mul field n S r (S r) (λ j l. z r j (omega arith) l))
      ∙ rank_of_zeros n S r (λ i j l m. z i j (omega arith) m)

  -- and a matrix of rank 0 is one of zeros
  pub zeros_of_rank : (n : ℕ) (S : ℕ → ℕ → ℕ) (r : ℕ) → rank size mul n S r ≡ 0 → (i j : ℕ) → i < r → j < n → S i j ≡ 0
  zeros_of_rank n S zero e i j l m = absurd (omega arith)
  zeros_of_rank n S (suc r) e i j l m =
      let up : rank size mul n S r ≤ rank size mul n S (suc r) = rank-le-more size mul field n S r in
      let none : rank size mul n S r ≡ 0 = omega arith in
      let before : (q : ℕ) → q < r → S q j ≡ 0 = λ q u. zeros_of_rank n S r none q j u m in
      let c : IsCombination mul n S r (S r) = combination_of_rank size mul field n S r (e ∙ sym none) in
      elim (eq_or_below i r l) [
        | inr u ↦ before i u
        | inl d ↦ ap (λ (q : ℕ). S q j) d ∙ c.is_sum j m ∙ sum-zero r (λ q. mul (c.factors q) (S q j)) (λ q u. ap (λ y. mul (c.factors q) y) (before q u) ∙ mul-zero size mul field (c.factors q))
      ]

  -- The value at a candidate, by any factors that make row i of the rows before it in the columns before j
  pub residue_of_factors : (S : ℕ → ℕ → ℕ) (i j : ℕ) (c : ℕ → ℕ) → rank size mul (suc j) S i ≡ rank size mul j S i → ((p : ℕ) → p < j → S i p ≡ combine mul i c S p)
      → rank size mul (suc j) (put_entry S i j (combine mul i c S j)) (suc i) ≡ rank size mul j S i
  residue_of_factors S i j c e same =
      let x : ℕ = combine mul i c S j in
      put_entry-rank_same size mul field S i j x (suc j)
      (record {
        factors = c;
        is_sum = λ p l. elim (eq_or_below p j l) [
          | inl f ↦ subst (λ (q : ℕ). put (S i) j x q ≡ combine mul i c S q) (sym f) (put-same (S i) j x)
          | inr m ↦ put-other (S i) j x p (omega arith) ∙ same p m
        ];
      })
      ∙ e
