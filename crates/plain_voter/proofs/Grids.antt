-- The matrix of a working list, and the vote of one pair
use Rattle.std.proofs.Common.{ℕ, ◌≡◌, ◌≢◌, suc, ◌+◌, ◌^◌, ◌<◌, ◌≤◌, true, ◌&&◌, eqb, List, [], ◌∷◌, ◌++◌, length, get_or, set, sym, ◌∙◌, ap, subst, inl, inr, arith, add-one, bit_xor, eqb-true}
use Rattle.std.specs.Prelude.{slice_index, slice_index_or, replicate, nat_eq}
use Rattle.std.proofs.Math.ListN.{get_or-append}
use Rattle.std.proofs.Math.Seq.{get_or-append_seam}
use Rattle.std.proofs.lemmas.Bool.{and_parts, cases_eq, cases_lt}
use Rattle.std.proofs.lemmas.Bool.Decides.{nat_tests}
use Rattle.std.proofs.lemmas.List.{get_or-set_same, get_or-set_other, get_or_past, length-replicate, length-set, length-append}
use Rattle.std.proofs.lemmas.Nat.{pow_pos}
use Rattle.gf_theory.specs.Field.{gf_mul}
use Rattle.linear_theory.specs.Linear.{dot, put_entry, IsCandidate, KeepsRank}
use Rattle.linear_theory.proofs.Corners.{rank_rows}
use Rattle.field_theory.proofs.Sums.{sum-same, eq_or_below}
use Rattle.counting_theory.specs.Ranks.{candidate}
use Rattle.gf_linear.specs.Matrix.{Matrix, entry as entry_in, zero_matrix, with_row}
use Rattle.order_theory.specs.Basis.{Basis, IsSoundBasis, times, vector, sum_at, rank_at, lead}
use Rattle.order_theory.specs.Errors.{entry, part_rank, syndrome}
use Rattle.order_theory.specs.Voting.{IsResidue}
use Rattle.order_theory.proofs.Distances.{entries_below}
use Rattle.order_theory.proofs.Parts.{put_entry_same}
use Rattle.order_theory.proofs.Shape.{lead_below}
use Rattle.order_theory.proofs.Theorems.{vote_made_law}
use Rattle.plain_voter.specs.Ballots.{HasVote}
use Rattle.plain_voter.specs.Sheets.{AreEntries, IsTableOf, table_rank}

-- the same corners make the same candidate
pub candidate_same : (R S : ℕ → ℕ → ℕ) (i j : ℕ) → R i j ≡ S i j → R (i + 1) j ≡ S (i + 1) j → R i (j + 1) ≡ S i (j + 1) → candidate R i j ≡ candidate S i j
unfolding candidate
candidate_same R S i j e1 e2 e3 =
    ap (λ (x : ℕ). eqb (R (i + 1) j) x && eqb (R i (j + 1)) x) e1
    ∙ ap (λ (x : ℕ). eqb x (S i j) && eqb (R i (j + 1)) (S i j)) e2
    ∙ ap (λ (x : ℕ). eqb (S (i + 1) j) (S i j) && eqb x (S i j)) e3

-- the two tests of a candidate, one after the other
pub tested_column : (R : ℕ → ℕ → ℕ) (i j before row column : ℕ) → before ≡ R i j → row ≡ R (i + 1) j → column ≡ R i (j + 1) → row ≡ before → nat_eq column before ≡ candidate R i j
unfolding candidate
tested_column R i j before row column e1 e2 e3 e = both_tests (R i j) (R (i + 1) j) (R i (j + 1)) before row column e1 e2 e3 e
  where
    both_tests : (a c d before row column : ℕ) → before ≡ a → row ≡ c → column ≡ d → row ≡ before → nat_eq column before ≡ (eqb c a && eqb d a)
    both_tests a c d before row column e1 e2 e3 e = grind (arith, nat_tests)

pub tested_row : (R : ℕ → ℕ → ℕ) (i j before row column : ℕ) → before ≡ R i j → row ≡ R (i + 1) j → column ≡ R i (j + 1) → (row ≡ before → ⊥) → nat_eq row before ≡ candidate R i j
unfolding candidate
tested_row R i j before row column e1 e2 e3 d = both_tests (R i j) (R (i + 1) j) (R i (j + 1)) before row column e1 e2 e3 d
  where
    both_tests : (a c d before row column : ℕ) → before ≡ a → row ≡ c → column ≡ d → (row ≡ before → ⊥) → nat_eq row before ≡ (eqb c a && eqb d a)
    both_tests a c d before row column e1 e2 e3 ne = grind (arith, nat_tests)

-- what the test of three ranks says
pub candidate_is : (bits modulus : ℕ) (m : Matrix) (i j : ℕ) → candidate (table_rank bits modulus m) i j ≡ true → IsCandidate (2 ^ bits) (gf_mul bits modulus) (entry_in m) i j
unfolding candidate
candidate_is bits modulus m i j t =
    let R : ℕ → ℕ → ℕ = table_rank bits modulus m in
    let both : (eqb (R (i + 1) j) (R i j) ≡ true) × (eqb (R i (j + 1)) (R i j) ≡ true) = and_parts (eqb (R (i + 1) j) (R i j)) (eqb (R i (j + 1)) (R i j)) t in
    record {
      row = subst (λ (x : ℕ). R x j ≡ R i j) (add-one i) (eqb-true (R (i + 1) j) (R i j) both.0);
      column = subst (λ (x : ℕ). R i x ≡ R i j) (add-one j) (eqb-true (R i (j + 1)) (R i j) both.1);
    }

module _ (b : Basis) (w : List ℕ) (m : Matrix) (h : IsSoundBasis b) (table : IsTableOf b w m b.n) (bits modulus : ℕ) (e1 : bits ≡ b.bits) (e2 : modulus ≡ b.modulus) where
  -- the ranks of the parts are those of the working list
  pub ranks_are : (p q : ℕ) → p ≤ b.n → q ≤ b.n → table_rank bits modulus m p q ≡ part_rank (times b) b w p q
  ranks_are p q lp lq =
      ap (λ (x : ℕ). table_rank x modulus m p q) e1
      ∙ ap (λ (x : ℕ). table_rank b.bits x m p q) e2
      ∙ rank_rows (2 ^ b.bits) (times b) h.sound.field q (entry_in m) (entry (times b) b w) p (λ i li j lj. table.at i j (omega arith) (omega arith))

  pub candidate_agrees : (i j : ℕ) → i < b.n → j < b.n → candidate (table_rank bits modulus m) i j ≡ candidate (part_rank (times b) b w) i j
  candidate_agrees i j li lj = candidate_same (table_rank bits modulus m) (part_rank (times b) b w) i j (ranks_are i j (omega arith) (omega arith)) (ranks_are (i + 1) j (omega arith) (omega arith)) (ranks_are i (j + 1) (omega arith) (omega arith))

  -- a value that keeps the rank of the matrix keeps that of the working list
  pub residue_is : (i j x : ℕ) → i < b.n → j < b.n → x < 2 ^ bits → KeepsRank (2 ^ bits) (gf_mul bits modulus) (entry_in m) i j x → IsResidue (times b) b w i j x
  residue_is i j x li lj lx keeps =
      let here : KeepsRank (2 ^ b.bits) (times b) (entry_in m) i j x =
      subst (λ (y : ℕ). KeepsRank (2 ^ b.bits) (gf_mul b.bits y) (entry_in m) i j x) e2 (subst (λ (y : ℕ). KeepsRank (2 ^ y) (gf_mul y modulus) (entry_in m) i j x) e1 keeps) in
      record {
        symbol = subst (λ (y : ℕ). x < 2 ^ y) e1 lx;
        keeps =
            sym (rank_rows (2 ^ b.bits) (times b) h.sound.field (suc j) (put_entry (entry_in m) i j x) (put_entry (entry (times b) b w) i j x) (suc i)
            (λ q lq p lp. put_entry_same (entry_in m) (entry (times b) b w) i j x q p (λ d. table.at q p (omega arith) (omega arith))))
            ∙ here.rank_is
            ∙ rank_rows (2 ^ b.bits) (times b) h.sound.field j (entry_in m) (entry (times b) b w) i (λ q lq p lp. table.at q p (omega arith) (omega arith));
      }

  -- the vote of a candidate
  pub vote_is : (k i j kept here inverse known v : ℕ) → k < b.n → i < b.n → j < b.n → sum_at b i j ≡ rank_at b k → candidate (table_rank bits modulus m) i j ≡ true
      → kept < 2 ^ bits → KeepsRank (2 ^ bits) (gf_mul bits modulus) (entry_in m) i j kept → here ≡ entry_in m i j → inverse < 2 ^ bits → gf_mul bits modulus (lead b i j) inverse ≡ 1 → known ≡ syndrome (times b) b w k
      → v ≡ bit_xor (gf_mul bits modulus inverse (bit_xor kept here)) known → v < 2 ^ bits → HasVote b w k i j v
  vote_is k i j kept here inverse known v lk li lj s c lx keeps at lu one is value lv =
      let field : gf_mul bits modulus ≡ times b = ap (λ (y : ℕ). gf_mul y modulus) e1 ∙ ap (λ (y : ℕ). gf_mul b.bits y) e2 in
      let is_candidate : candidate (part_rank (times b) b w) i j ≡ true = sym (candidate_agrees i j li lj) ∙ c in
      let at_entry : here ≡ entry (times b) b w i j = at ∙ table.at i j li lj in
      record {
        at_sum = s;
        is_candidate = is_candidate;
        value =
            value ∙ ap (λ (f : ℕ → ℕ → ℕ). bit_xor (f inverse (bit_xor kept here)) known) field
            ∙ ap (λ (y : ℕ). bit_xor (times b inverse (bit_xor kept y)) known) at_entry
            ∙ ap (λ (y : ℕ). bit_xor (times b inverse (bit_xor kept (entry (times b) b w i j))) y) is
            ∙ vote_made_law (times b) b w k i j kept inverse h.sound lk li lj s is_candidate (residue_is i j kept li lj lx keeps) (subst (λ (y : ℕ). inverse < 2 ^ y) e1 lu) (sym (ap (λ (f : ℕ → ℕ → ℕ). f (lead b i j) inverse) field) ∙ one);
        symbol = subst (λ (y : ℕ). v < 2 ^ y) e1 lv;
      }

-- ---- the matrix is written row by row

-- the product of a weighed row and a vector is an entry
pub entry_is : (b : Basis) (w weighed vec row : List ℕ) (bits modulus i j x : ℕ) → IsSoundBasis b → bits ≡ b.bits → modulus ≡ b.modulus → length w ≡ b.n → length weighed ≡ length w → row ≡ slice_index_or b.vectors i [] → vec ≡ slice_index_or b.vectors j []
    → ((p : ℕ) → p < length w → slice_index weighed p ≡ gf_mul bits modulus (slice_index w p) (slice_index row p))
    → x ≡ dot (gf_mul bits modulus) (length weighed) (slice_index weighed) (slice_index vec) → x ≡ entry (times b) b w i j
entry_is b w weighed vec row bits modulus i j x h e1 e2 long same er ev products e =
    let field : gf_mul bits modulus ≡ times b = ap (λ (y : ℕ). gf_mul y modulus) e1 ∙ ap (λ (y : ℕ). gf_mul b.bits y) e2 in
    e
    ∙ ap (λ (f : ℕ → ℕ → ℕ). dot f (length weighed) (slice_index weighed) (slice_index vec)) field
    ∙ ap (λ (v : List ℕ). dot (times b) (length weighed) (slice_index weighed) (slice_index v)) ev
    ∙ ap (λ (n : ℕ). dot (times b) n (slice_index weighed) (vector b j)) (same ∙ long)
    ∙ sum-same b.n (λ p. times b (slice_index weighed p) (vector b j p)) (λ p. times b (slice_index w p) (times b (vector b i p) (vector b j p)))
    (λ p l.
    ap (λ (y : ℕ). times b y (vector b j p)) (products p (omega arith) ∙ ap (λ (f : ℕ → ℕ → ℕ). f (slice_index w p) (slice_index row p)) field ∙ ap (λ (v : List ℕ). times b (slice_index w p) (slice_index v p)) er)
    ∙ h.sound.field.mul_assoc (slice_index w p) (vector b i p) (vector b j p))

pub entries_more : (b : Basis) (w : List ℕ) (i j x : ℕ) (row next : List ℕ) → next ≡ row ++ x ∷ [] → x ≡ entry (times b) b w i j → AreEntries b w i row j → AreEntries b w i next (j + 1)
entries_more b w i j x row next e is r =
    let long : length row ≡ j = r.long in
    record {
      long = ap length e ∙ length-append row (x ∷ []) ∙ ap (λ (n : ℕ). n + 1) r.long;
      at = λ q l. ap (λ (xs : List ℕ). get_or xs q 0) e ∙ elim (eq_or_below q j (let u : q < suc j = omega arith in u)) [
        | inl f ↦ ap (λ (p : ℕ). get_or (row ++ x ∷ []) p 0) (f ∙ sym r.long) ∙ get_or-append_seam row x [] 0 ∙ is ∙ ap (λ (p : ℕ). entry (times b) b w i p) (sym f)
        | inr u ↦ get_or-append row (x ∷ []) 0 q (omega arith) ∙ r.at q u
      ];
    }

-- a matrix of zeros has the size of the basis
pub zeros_fit : (m : Matrix) (n k : ℕ) → m ≡ zero_matrix n n → n ≡ k → (length m.rows ≡ k) × (m.cols ≡ k)
zeros_fit m n k e f = (ap (λ (v : Matrix). length v.rows) e ∙ length-replicate n (replicate n 0) ∙ f, ap (λ (v : Matrix). v.cols) e ∙ f)

pub table_more : (b : Basis) (w row : List ℕ) (m next : Matrix) (i : ℕ) → IsSoundBasis b → i < b.n → next ≡ with_row m i row → AreEntries b w i row b.n → IsTableOf b w m i → IsTableOf b w next (i + 1)
table_more b w row m next i h li is r t =
    let long : length m.rows ≡ b.n = t.n_rows in
    let here : get_or (set m.rows i row) i [] ≡ row = get_or-set_same m.rows i row [] (omega arith) in
    subst (λ (v : Matrix). IsTableOf b w v (i + 1)) (sym is) (record {
      n_rows = length-set m.rows i row ∙ t.n_rows;
      n_cols = t.n_cols;
      over = record {
        below = λ q p. elim (cases_eq q i) [
          | inl e ↦ subst (λ (xs : List ℕ). get_or xs p 0 < 2 ^ b.bits) (sym (ap (λ (j : ℕ). get_or (set m.rows i row) j []) e ∙ here)) (elim (cases_lt p b.n) [
            | inl l ↦ subst (λ (x : ℕ). x < 2 ^ b.bits) (sym (r.at p l)) (entries_below (times b) b h.sound (slice_index w) i p)
            | inr l ↦ subst (λ (x : ℕ). x < 2 ^ b.bits) (sym (get_or_past row p 0 (let f : length row ≡ b.n = r.long in omega arith))) (pow_pos b.bits)
          ])
          | inr d ↦ subst (λ (xs : List ℕ). get_or xs p 0 < 2 ^ b.bits) (sym (get_or-set_other m.rows i q row [] d)) (t.over.below q p)
        ];
      };
      at = λ q p l lp. elim (eq_or_below q i (let u : q < suc i = omega arith in u)) [
        | inl e ↦ ap (λ (xs : List ℕ). get_or xs p 0) (ap (λ (j : ℕ). get_or (set m.rows i row) j []) e ∙ here) ∙ r.at p lp ∙ ap (λ (j : ℕ). entry (times b) b w j p) (sym e)
        | inr u ↦ ap (λ (xs : List ℕ). get_or xs p 0) (get_or-set_other m.rows i q row [] (λ e. omega arith)) ∙ t.at q p u lp
      ];
    })

-- the lead of a sum that is a member is a symbol other than 0
pub lead_fits : (b : Basis) (i j k : ℕ) → IsSoundBasis b → i < b.n → j < b.n → k < b.n → sum_at b i j ≡ rank_at b k → (lead b i j < 2 ^ b.bits) × (0 < lead b i j)
lead_fits b i j k s li lj lk e =
    let d : lead b i j ≢ 0 = (s.sound.member_products i j k li lj lk e).lead_not_zero in
    (lead_below (times b) b s.sound i j, omega arith)
