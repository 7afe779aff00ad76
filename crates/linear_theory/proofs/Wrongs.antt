-- The ranks of the parts of a matrix, as the counting of candidates takes them
use Rattle.std.proofs.Common.{◌≡◌, ℕ, zero, suc, ◌+◌, ◌<◌, ◌≤◌, Bool, refl, ap, ◌∙◌, arith, add-one}
use Rattle.field_theory.specs.Field.{IsField}
use Rattle.field_theory.specs.Sums.{total, one_if, count_below}
use Rattle.field_theory.proofs.Totals.{total_same}
use Rattle.counting_theory.specs.Ranks.{IsRank, wrong}
use Rattle.counting_theory.proofs.Ranks.{row_adds, rank_counts}
use Rattle.linear_theory.specs.Linear.{weight, syndromes, rank}
use Rattle.linear_theory.proofs.Ranks.{rank_zero, rank_no_columns, rank-le-more, rank_more-le, rank-le-column, rank_column-le, rank_corner}
use Rattle.linear_theory.proofs.Corners.{rank-le-weight, syndromes-below}

pub count-total : (n : ℕ) (p : ℕ → Bool) → count_below n p ≡ total n (λ k. one_if (p k))
count-total zero p = refl
count-total (suc n) p = omega (arith, count-total n p)

module _ (size : ℕ) (mul : ℕ → ℕ → ℕ) (field : IsField size mul) where
  abbrev pub part_rank : (ℕ → ℕ → ℕ) → ℕ → ℕ → ℕ
  part_rank S i j = rank size mul j S i

  pub IsRank-rank : (n : ℕ) (S : ℕ → ℕ → ℕ) → ((i j : ℕ) → S i j < size) → IsRank n (λ i j. rank size mul j S i)
  IsRank-rank n S b = record {
    no_rows = λ j l. rank_zero size mul field j S;
    no_columns = λ i l. rank_no_columns size mul field S i;
    row = λ i j l m. rw (add-one i) (rank-le-more size mul field j S i, rank_more-le size mul field j S i);
    column = λ i j l m. rw (add-one j) (rank-le-column size mul field j S i b, rank_column-le size mul field j S i b);
    corner = λ i j l m. rw (add-one i, add-one j) (rank_corner size mul field j S i);
  }

  -- what row i adds on j columns is the number of wrong candidates in it before column j
  pub row_wrongs : (S : ℕ → ℕ → ℕ) → ((i j : ℕ) → S i j < size) → (i j : ℕ) → rank size mul j S (suc i) ≡ rank size mul j S i + count_below j (wrong (part_rank S) i)
  row_wrongs S b i j =
      let h : total j (λ c. one_if (wrong (part_rank S) i c)) + rank size mul j S i ≡ rank size mul j S (i + 1) = row_adds (IsRank-rank (suc (i + j)) S b) i j (omega arith) (omega arith) in
      let e : rank size mul j S (i + 1) ≡ rank size mul j S (suc i) = ap (λ (r : ℕ). rank size mul j S r) (add-one i) in
      omega (arith, count-total j (wrong (part_rank S) i))

  -- the wrong candidates in the first a rows and j columns are as many as the rank of that part
  pub all_wrongs : (S : ℕ → ℕ → ℕ) → ((i j : ℕ) → S i j < size) → (a j : ℕ) → total a (λ i. count_below j (wrong (part_rank S) i)) ≡ rank size mul j S a
  all_wrongs S b a j =
      total_same a (λ i. count_below j (wrong (part_rank S) i)) (λ i. total j (λ c. one_if (wrong (part_rank S) i c))) (λ i l. count-total j (wrong (part_rank S) i))
      ∙ rank_counts (IsRank-rank (a + j) S b) a j (omega arith) (omega arith)

  -- for syndromes they are at most the weight of the error
  pub all_wrongs-le-weight : (n : ℕ) (e : ℕ → ℕ) (f : ℕ → ℕ → ℕ) (a j : ℕ) → total a (λ i. count_below j (wrong (part_rank (syndromes mul n e f)) i)) ≤ weight n e
  all_wrongs-le-weight n e f a j =
      omega (arith, all_wrongs (syndromes mul n e f) (syndromes-below size mul field n e f) a j, rank-le-weight size mul field n e f a j)
