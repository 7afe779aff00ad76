-- A matrix in which a column was cleared
use Rattle.std.proofs.Common.{◌≡◌, ◌≢◌, ℕ, ◌*◌, ◌^◌, ◌<◌, List, [], length, sym, ◌∙◌, ap, subst, refl, inl, inr, arith, bit_xor, All}
use Rattle.std.proofs.lemmas.Bool.{cases_eq}
use Rattle.std.proofs.lemmas.List.{ext_get_or}
use Rattle.std.specs.Int.Bits.{xor_self}
use Rattle.field_theory.specs.Field.{IsField}
use Rattle.field_theory.proofs.Sums.{xor_below}
use Rattle.gf_theory.specs.Field.{gf_mul, IsModulus}
use Rattle.gf_theory.proofs.Fields.{field_of_bits}
use Rattle.gf_theory.proofs.Product.{gf_mul-one_right}
use Rattle.linear_theory.proofs.Tables.{length-row, length-rows_of}
use Rattle.gf_linear.specs.Cells.{cell, AreKept}
use Rattle.gf_linear.specs.Matrix.{Matrix, entry, row, matrix_of, IsOver}
use Rattle.gf_linear.proofs.Forms.{cells_below}
use Rattle.gf_linear.proofs.Steps.{All-cells}
use Rattle.gf_linear.proofs.Views.{view-rows, view-cols, view-entry, view-symbols, view-over}

module _ (b md rows cols k col : ℕ) (xs ys : List ℕ) (v : Matrix) (view : matrix_of rows cols xs ≡ v) (h : IsModulus b md) (over : IsOver b v)
    (long : length xs ≡ rows * cols) (same : length ys ≡ length xs) (in_rows : k < length v.rows) (in_cols : col < v.cols)
    (value : (q p : ℕ) → q < rows → q ≢ k → p < cols → cell ys cols q p ≡ bit_xor (cell xs cols q p) (gf_mul b md (cell xs cols q col) (cell xs cols k p)))
    (kept : AreKept rows cols (λ q. q ≡ k) xs ys) where
  low_k : k < rows
  low_k = subst (λ (n : ℕ). k < n) (sym (view-rows rows cols xs v view)) in_rows

  low_col : col < cols
  low_col = subst (λ (n : ℕ). col < n) (sym (view-cols rows cols xs v view)) in_cols

  pub cleared-others : (q p : ℕ) → q < length v.rows → q ≢ k → p < v.cols → entry (matrix_of rows cols ys) q p ≡ bit_xor (entry v q p) (gf_mul b md (entry v q col) (entry v k p))
  cleared-others q p lq d lp =
      let lr : q < rows = subst (λ (n : ℕ). q < n) (sym (view-rows rows cols xs v view)) lq in
      let lc : p < cols = subst (λ (n : ℕ). p < n) (sym (view-cols rows cols xs v view)) lp in
      sym (view-entry rows cols ys (matrix_of rows cols ys) refl q p lr lc) ∙ value q p lr d lc
      ∙ ap (λ x. bit_xor x (gf_mul b md (cell xs cols q col) (cell xs cols k p))) (view-entry rows cols xs v view q p lr lc)
      ∙ ap (λ x. bit_xor (entry v q p) (gf_mul b md x (cell xs cols k p))) (view-entry rows cols xs v view q col lr low_col)
      ∙ ap (λ x. bit_xor (entry v q p) (gf_mul b md (entry v q col) x)) (view-entry rows cols xs v view k p low_k lc)

  pub cleared-zero : entry v k col ≡ 1 → (q : ℕ) → q < length v.rows → q ≢ k → entry (matrix_of rows cols ys) q col ≡ 0
  cleared-zero one q lq d =
      cleared-others q col lq d in_cols ∙ ap (λ x. bit_xor (entry v q col) (gf_mul b md (entry v q col) x)) one
      ∙ ap (λ x. bit_xor (entry v q col) x) (gf_mul-one_right b md (entry v q col) (over.below q col)) ∙ xor_self (entry v q col)

  pub cleared-kept : row (matrix_of rows cols ys) k ≡ row v k
  cleared-kept =
      let le : length (row (matrix_of rows cols ys) k) ≡ cols = length-row rows cols ys k [] (omega arith) low_k in
      let lv : length (row v k) ≡ cols = ap (λ (w : Matrix). length (row w k)) (sym view) ∙ length-row rows cols xs k [] (omega arith) low_k in
      ext_get_or 0 (row (matrix_of rows cols ys) k) (row v k) (le ∙ sym lv)
      (λ p lp.
      let lc : p < cols = subst (λ (n : ℕ). p < n) le lp in
      sym (view-entry rows cols ys (matrix_of rows cols ys) refl k p low_k lc) ∙ kept.same k low_k refl p lc ∙ view-entry rows cols xs v view k p low_k lc)

  pub cleared-over : IsOver b (matrix_of rows cols ys)
  cleared-over =
      let field : IsField (2 ^ b) (gf_mul b md) = field_of_bits b md h in
      let sx : All (λ a. a < 2 ^ b) xs = view-symbols rows cols xs v view b over long in
      let sy : All (λ a. a < 2 ^ b) ys =
      All-cells (λ a. a < 2 ^ b) rows cols ys (same ∙ long) (λ q p lq lp. elim (cases_eq q k) [
        | inl e ↦ subst (λ (x : ℕ). x < 2 ^ b) (sym (kept.same q lq e p lp)) (cells_below b xs cols sx q p)
        | inr d ↦ subst (λ (x : ℕ). x < 2 ^ b) (sym (value q p lq d lp))
            (xor_below (2 ^ b) (gf_mul b md) field (cell xs cols q p) (gf_mul b md (cell xs cols q col) (cell xs cols k p)) (cells_below b xs cols sx q p) (field.mul_below (cell xs cols q col) (cell xs cols k p)))
      ]) in
      view-over rows cols ys (matrix_of rows cols ys) refl b sy (same ∙ long)

  pub cleared-rows : length (matrix_of rows cols ys).rows ≡ length v.rows
  cleared-rows = length-rows_of rows cols ys ∙ view-rows rows cols xs v view
