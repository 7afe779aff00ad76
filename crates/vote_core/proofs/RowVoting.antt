-- What one row says of a member, by the matrix that is known below it
use Rattle.std.proofs.Common.{ℕ, ◌≡◌, ◌≢◌, ◌↔◌, suc, ◌+◌, ◌^◌, ◌<◌, ◌≤◌, ◌⊎◌, true, eqb, List, sym, ◌∙◌, ap, subst, inl, inr, arith, add-one, bit_xor, eqb-true, eq-eqb}
use Rattle.std.specs.Prelude.{slice_index}
use Rattle.std.proofs.lemmas.Bool.{and_parts, and_from, false_from_ne_true}
use Rattle.gf_theory.specs.Field.{gf_mul}
use Rattle.linear_theory.specs.Linear.{IsCandidate, KeepsRank}
use Rattle.counting_theory.specs.Ranks.{candidate}
use Rattle.order_theory.specs.Basis.{Basis, IsSoundBasis, times, sum_at, rank_at, lead}
use Rattle.order_theory.specs.Errors.{entry, part_rank, syndrome}
use Rattle.order_theory.specs.Voting.{IsResidue}
use Rattle.order_theory.proofs.Shape.{lead_below}
use Rattle.order_theory.proofs.Theorems.{vote_made_law}
use Rattle.product_classes.specs.Table.{ClassTable, class_at}
use Rattle.vote_matrix.specs.Elimination.{Elimination, MaySettle}
use Rattle.vote_core.specs.Reading.{IsSettled}
use Rattle.vote_core.specs.Votes.{HasNoVote, HasVote, IsShown}
use Rattle.vote_core.proofs.Settled.{only_column, smaller}

-- a candidate in the words of the theory
pub candidate_is : (b : Basis) (w : List ℕ) (i j : ℕ) → IsCandidate (2 ^ b.bits) (times b) (entry (times b) b w) i j ↔ (candidate (part_rank (times b) b w) i j ≡ true)
unfolding candidate
candidate_is b w i j =
    let R : ℕ → ℕ → ℕ = part_rank (times b) b w in (
      λ c.
          rw (add-one i, add-one j)
          (and_from (eqb (R (suc i) j) (R i j)) (eqb (R i (suc j)) (R i j))
          (eq-eqb (R (suc i) j) (R i j) c.row)
          (eq-eqb (R i (suc j)) (R i j) c.column)),
      λ t.
          let both : (eqb (R (i + 1) j) (R i j) ≡ true) × (eqb (R i (j + 1)) (R i j) ≡ true) = and_parts (eqb (R (i + 1) j) (R i j)) (eqb (R i (j + 1)) (R i j)) t in
          let row : R (i + 1) j ≡ R i j = eqb-true (R (i + 1) j) (R i j) both.0 in
          let column : R i (j + 1) ≡ R i j = eqb-true (R i (j + 1)) (R i j) both.1 in
          record { row = rw add-one at row; column = rw add-one at column },
    )

-- the field of a matrix is that of its basis
module _ (b : Basis) (m : Elimination) (e1 : m.bits ≡ b.bits) (e2 : m.modulus ≡ b.modulus) where
  pub in_field : (P : ℕ → (ℕ → ℕ → ℕ) → Type 0) → P (2 ^ m.bits) (gf_mul m.bits m.modulus) → P (2 ^ b.bits) (times b)
  in_field P x = subst (λ (y : ℕ). P (2 ^ b.bits) (gf_mul b.bits y)) e2 (subst (λ (y : ℕ). P (2 ^ y) (gf_mul y m.modulus)) e1 x)

  pub from_field : (P : ℕ → (ℕ → ℕ → ℕ) → Type 0) → P (2 ^ b.bits) (times b) → P (2 ^ m.bits) (gf_mul m.bits m.modulus)
  from_field P x = subst (λ (y : ℕ). P (2 ^ y) (gf_mul y m.modulus)) (sym e1) (subst (λ (y : ℕ). P (2 ^ b.bits) (gf_mul b.bits y)) (sym e2) x)

-- the pair of row i whose sum is k may be settled next
pub pair_next : (b : Basis) (m : Elimination) (k i j : ℕ) → IsSoundBasis b → k < b.n → ((p q : ℕ) → p < b.n → q < b.n → sum_at b p q < rank_at b k → q < slice_index m.known p)
    → i < b.n → j < b.n → j ≡ slice_index m.known i → sum_at b i j ≡ rank_at b k → MaySettle m i j
pair_next b m k i j h lk below li lj at e = record {
  row = omega arith;
  above = λ p lp.
      let few : rank_at b k < b.count = h.sound.shape.ranks_below k lk in
      let less : sum_at b p j < sum_at b i j = smaller b i j p j h li lj (omega arith) (omega arith) (omega arith) (omega arith) in
      below p j (omega arith) lj (omega arith);
}

module _ (b : Basis) (m : Elimination) (k : ℕ) (h : IsSoundBasis b) (lk : k < b.n) (a : IsSettled b m (rank_at b k) b.n) where
  -- a row that is not known to its end
  pub column_inside : (i j : ℕ) → i < b.n → j ≡ slice_index m.known i → j ≢ b.n → j < b.n
  column_inside i j li e d = let wide : slice_index m.known i ≤ b.n = a.wide i li in omega arith

  -- a row without a pair of the sum, or whose pair is no candidate
  pub no_pair : (w : List ℕ) (i j : ℕ) → i < b.n → j ≡ slice_index m.known i → (j ≡ b.n) ⊎ (sum_at b i j ≢ rank_at b k) → HasNoVote b w k i
  no_pair w i j li e end = record {
    none = λ q lq s.
        let is : q ≡ slice_index m.known i = only_column b m k i q h lk a li lq s in
        absurd (elim end [ inl f ↦ omega arith | inr d ↦ d (ap (λ (r : ℕ). sum_at b i r) (e ∙ sym is) ∙ s) ]);
  }

  pub no_candidate : (w : List ℕ) (i j : ℕ) → i < b.n → j < b.n → j ≡ slice_index m.known i → sum_at b i j ≡ rank_at b k
      → (IsCandidate (2 ^ m.bits) (gf_mul m.bits m.modulus) (entry (times b) b w) i j → ⊥) → HasNoVote b w k i
  no_candidate w i j li lj e at_sum d = record {
    none = λ q lq s.
        let is : q ≡ j = only_column b m k i q h lk a li lq s ∙ sym e in
        false_from_ne_true (candidate (part_rank (times b) b w) i q)
        (λ t. d (from_field b m a.bits a.modulus (λ size mul. IsCandidate size mul (entry (times b) b w) i j) ((candidate_is b w i j).1 (subst (λ (r : ℕ). candidate (part_rank (times b) b w) i r ≡ true) is t))));
  }

  -- the vote of a candidate
  pub vote_is : (w : List ℕ) (i j bits modulus kept here inverse known v : ℕ) → i < b.n → j < b.n → sum_at b i j ≡ rank_at b k
      → IsCandidate (2 ^ m.bits) (gf_mul m.bits m.modulus) (entry (times b) b w) i j → bits ≡ b.bits → modulus ≡ b.modulus
      → kept < 2 ^ m.bits → KeepsRank (2 ^ m.bits) (gf_mul m.bits m.modulus) (entry (times b) b w) i j kept → here ≡ entry (times b) b w i j → inverse < 2 ^ bits → gf_mul bits modulus (lead b i j) inverse ≡ 1
      → known ≡ syndrome (times b) b w k → v ≡ bit_xor (gf_mul bits modulus inverse (bit_xor kept here)) known → v < 2 ^ bits → HasVote b w k i v
  vote_is w i j bits modulus kept here inverse known v li lj s c e1 e2 lx keeps at lu one is value lv =
      let field : gf_mul bits modulus ≡ times b = ap (λ (y : ℕ). gf_mul y modulus) e1 ∙ ap (λ (y : ℕ). gf_mul b.bits y) e2 in
      let is_candidate : candidate (part_rank (times b) b w) i j ≡ true = (candidate_is b w i j).0 (in_field b m a.bits a.modulus (λ size mul. IsCandidate size mul (entry (times b) b w) i j) c) in
      let kept_there : KeepsRank (2 ^ b.bits) (times b) (entry (times b) b w) i j kept = in_field b m a.bits a.modulus (λ size mul. KeepsRank size mul (entry (times b) b w) i j kept) keeps in
      let residue : IsResidue (times b) b w i j kept = record {
        symbol = subst (λ (y : ℕ). kept < 2 ^ y) a.bits lx;
        keeps = kept_there.rank_is;
      } in
      record {
        column = j;
        inside = lj;
        at_sum = s;
        is_candidate = is_candidate;
        value =
            value ∙ ap (λ (f : ℕ → ℕ → ℕ). bit_xor (f inverse (bit_xor kept here)) known) field
            ∙ ap (λ (y : ℕ). bit_xor (times b inverse (bit_xor kept y)) known) at
            ∙ ap (λ (y : ℕ). bit_xor (times b inverse (bit_xor kept (entry (times b) b w i j))) y) is
            ∙ vote_made_law (times b) b w k i j kept inverse h.sound lk li lj s is_candidate residue (subst (λ (y : ℕ). inverse < 2 ^ y) e1 lu) (sym (ap (λ (f : ℕ → ℕ → ℕ). f (lead b i j) inverse) field) ∙ one);
        symbol = subst (λ (y : ℕ). v < 2 ^ y) e1 lv;
      }

-- the entry at the sum of a member that is voted on
pub shown_entry : (b : Basis) (table : ClassTable) (w values : List ℕ) (m : Elimination) (k known i j x : ℕ) → IsShown b table w values m k known → i < b.n → j < b.n → sum_at b i j ≡ rank_at b k
    → x ≡ slice_index values (class_at table i j) → x ≡ entry (times b) b w i j
shown_entry b table w values m k known i j x h li lj s e = e ∙ h.values_are.at i j li lj (omega arith)

-- the lead of a sum that is a member is not 0
pub lead_fits : (b : Basis) (i j k : ℕ) → IsSoundBasis b → i < b.n → j < b.n → k < b.n → sum_at b i j ≡ rank_at b k → (lead b i j < 2 ^ b.bits) × (0 < lead b i j)
lead_fits b i j k s li lj lk e =
    let d : lead b i j ≢ 0 = (s.sound.member_products i j k li lj lk e).lead_not_zero in
    (lead_below (times b) b s.sound i j, omega arith)
