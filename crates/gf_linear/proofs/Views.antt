-- What a matrix shows of the list that it stores
use Rattle.std.proofs.Common.{◌≡◌, ℕ, ◌+◌, ◌*◌, ◌^◌, ◌<◌, ◌≤◌, List, [], length, take, drop, get_or, replicate, sym, ◌∙◌, ap, subst, inl, inr, arith, All}
use Rattle.std.proofs.Math.ListN.{set}
use Rattle.std.proofs.lemmas.Bool.{cases_lt}
use Rattle.std.proofs.lemmas.List.{get_or_past}
use Rattle.std.proofs.lemmas.Nat.{pow_pos}
use borrow.Rule.Slice.PartMut.{put_mid}
use Rattle.linear_theory.proofs.Tables.{length-rows_of, row-rows_of, entry-rows_of, length-row, rows_of-set, rows_of-replicate, rows_of-put_mid, place_below, row_end}
use Rattle.field_theory.proofs.Sums.{sum-same}
use Rattle.linear_theory.specs.Linear.{combine}
use Rattle.linear_theory.proofs.Entries.{AreSame}
use Rattle.gf_linear.specs.Cells.{cell}
use Rattle.gf_linear.proofs.Steps.{All-cells}
use Rattle.gf_linear.specs.Matrix.{Matrix, IsMatrix, IsOver, row, entry, zero_matrix, with_row, with_entry, matrix_of}

pub view-new : (rows cols : ℕ) (m : List ℕ) → m ≡ replicate (rows * cols) 0 → matrix_of rows cols m ≡ zero_matrix rows cols
view-new rows cols m e = ap (λ w. matrix_of rows cols w) e ∙ ap (λ w. record { cols = cols; rows = w }) (rows_of-replicate rows cols 0)

module _ (rows cols : ℕ) (m : List ℕ) (v : Matrix) (view : matrix_of rows cols m ≡ v) where
  pub view-rows : rows ≡ length v.rows
  view-rows = sym (length-rows_of rows cols m) ∙ ap (λ w. length w.rows) view

  pub view-cols : cols ≡ v.cols
  view-cols = ap (λ w. w.cols) view

  pub view-row : (i : ℕ) → i < length v.rows → take cols (drop (i * cols) m) ≡ row v i
  view-row i l = sym (row-rows_of rows cols m i [] (subst (λ (n : ℕ). i < n) (sym view-rows) l)) ∙ ap (λ w. row w i) view

  pub view-place : (i j : ℕ) → i < length v.rows → j < v.cols → length m ≡ rows * cols → i * cols + j < length m
  view-place i j li lj e = place_below rows cols i j (length m) (subst (λ (n : ℕ). i < n) (sym view-rows) li) (subst (λ (n : ℕ). j < n) (sym view-cols) lj) e

  pub view-row_end : (i : ℕ) → i < length v.rows → length m ≡ rows * cols → i * cols + cols ≤ length m
  view-row_end i l e = row_end rows cols i (length m) (subst (λ (n : ℕ). i < n) (sym view-rows) l) e

  pub view-sound : rows ≤ 1024 → cols ≤ 2048 → length m ≡ rows * cols → IsMatrix v
  view-sound few_rows few_cols e = record {
    few_rows = subst (λ (n : ℕ). n ≤ 1024) view-rows few_rows;
    few_cols = subst (λ (n : ℕ). n ≤ 2048) view-cols few_cols;
    width = λ i l. ap (λ w. length (row w i)) (sym view) ∙ length-row rows cols m i [] (omega arith) (subst (λ (n : ℕ). i < n) (sym view-rows) l) ∙ view-cols;
  }

  pub view-set : (i j x : ℕ) → i < length v.rows → j < v.cols → matrix_of rows cols (set m (i * cols + j) x) ≡ with_entry v i j x
  view-set i j x li lj =
      ap (λ w. record { cols = cols; rows = w })
      (rows_of-set rows cols m i j x (subst (λ (n : ℕ). i < n) (sym view-rows) li) (subst (λ (n : ℕ). j < n) (sym view-cols) lj))
      ∙ ap (λ w. with_row (matrix_of rows cols m) i (set w j x)) (view-row i li)
      ∙ ap (λ w. with_row w i (set (row v i) j x)) view

  pub view-set_row : (i k : ℕ) (ys : List ℕ) → i < length v.rows → length m ≡ rows * cols → length ys ≡ v.cols → k ≡ cols → matrix_of rows cols (put_mid (i * cols) k m ys) ≡ with_row v i ys
  view-set_row i k ys li lm ly e =
      ap (λ (n : ℕ). matrix_of rows cols (put_mid (i * cols) n m ys)) e
      ∙ ap (λ w. record { cols = cols; rows = w }) (rows_of-put_mid rows cols m i ys (subst (λ (n : ℕ). i < n) (sym view-rows) li) lm (ly ∙ sym view-cols))
      ∙ ap (λ w. with_row w i ys) view

  -- what is said of the numbers of rows and of columns
  pub view-sizes : (P : ℕ → ℕ → Type 0) → P cols rows → P v.cols (length v.rows)
  view-sizes P h = subst (λ (r : ℕ). P v.cols r) view-rows (subst (λ (n : ℕ). P n rows) view-cols h)

  pub view-entry : (i j : ℕ) → i < rows → j < cols → cell m cols i j ≡ entry v i j
  view-entry i j li lj = sym (entry-rows_of rows cols m i j li lj) ∙ ap (λ w. entry w i j) view

  pub view-same : AreSame cols rows (cell m cols) (entry v)
  view-same i li j lj = view-entry i j li lj

  -- the list, and the numbers of rows and of columns, as they are at hand
  module _ (xs : List ℕ) (r n : ℕ) (es : xs ≡ m) (er : r ≡ length v.rows) (en : n ≡ v.cols) where
    pub view-size : length m ≡ rows * cols → length xs ≡ r * n
    view-size h = ap length es ∙ h ∙ ap (λ (k : ℕ). k * cols) (view-rows ∙ sym er) ∙ ap (λ (k : ℕ). r * k) (view-cols ∙ sym en)

    pub view-combine : (mul : ℕ → ℕ → ℕ) (c : ℕ → ℕ) (q : ℕ) → q < n → combine mul r c (cell xs n) q ≡ combine mul (length v.rows) c (entry v) q
    view-combine mul c q l =
        let same_cols : n ≡ cols = en ∙ sym view-cols in
        let same_rows : r ≡ rows = er ∙ sym view-rows in
        sum-same r (λ i. mul (c i) (cell xs n i q)) (λ i. mul (c i) (entry v i q))
        (λ i li. ap (mul (c i)) (ap (λ (w : List ℕ). cell w n i q) es ∙ ap (λ (k : ℕ). cell m k i q) same_cols ∙ view-entry i q (omega arith) (omega arith)))
        ∙ ap (λ (k : ℕ). combine mul k c (entry v) q) er

  pub view-symbols : (b : ℕ) → IsOver b v → length m ≡ rows * cols → All (λ a. a < 2 ^ b) m
  view-symbols b h e = All-cells (λ a. a < 2 ^ b) rows cols m e (λ i j li lj. subst (λ (x : ℕ). x < 2 ^ b) (sym (view-entry i j li lj)) (h.below i j))

  pub view-over : (b : ℕ) → All (λ a. a < 2 ^ b) m → length m ≡ rows * cols → IsOver b v
  view-over b h e = record {
    below = λ i j. elim (cases_lt i (length v.rows)) [
      | inr u ↦ subst (λ (w : List ℕ). get_or w j 0 < 2 ^ b) (sym (get_or_past v.rows i [] u)) (pow_pos b)
      | inl u ↦
          let li : i < rows = subst (λ (n : ℕ). i < n) (sym view-rows) u in
          elim (cases_lt j cols) [
            | inl w ↦ subst (λ (x : ℕ). x < 2 ^ b) (view-entry i j li w) (h (i * cols + j) 0 (place_below rows cols i j (length m) li w e))
            | inr w ↦
                let long : length (row v i) ≡ cols = ap (λ (z : Matrix). length (row z i)) (sym view) ∙ length-row rows cols m i [] (omega arith) li in
                subst (λ (x : ℕ). x < 2 ^ b) (sym (get_or_past (row v i) j 0 (omega arith))) (pow_pos b)
          ]
    ];
  }
