-- What the elimination of a matrix finds, in the words of contracts
use Rattle.std.proofs.Common.{◌≡◌, ℕ, suc, ◌*◌, ◌^◌, ◌<◌, ◌≤◌, List, length, slice_index, sym, ◌∙◌, ap, subst, refl, arith, All}
use Rattle.field_theory.specs.Field.{IsField}
use Rattle.gf_theory.specs.Field.{gf_mul, IsModulus}
use Rattle.gf_theory.proofs.Fields.{field_of_bits}
use Rattle.linear_theory.specs.Linear.{dot, AreIndependent, IsDual, IsFree, IsReduced, SameSpan, IsGreatestNumber, rank}
use Rattle.linear_theory.proofs.Corners.{rank_rows}
use Rattle.linear_theory.proofs.Entries.{AreSame, dot_entries, dual_entries, independent_entries, reduced_entries, span_entries, greatest_of_rank}
use Rattle.linear_theory.proofs.Reduced.{reduced_rank}
use Rattle.linear_theory.proofs.Steps.{span_rank}
use Rattle.gf_linear.specs.Cells.{cell}
use Rattle.gf_linear.specs.Matrix.{Matrix, entry, matrix_of, IsOver}
use Rattle.gf_linear.specs.Elimination.{IsEchelonOf, IsDualOf, AreDependent, IsSolution, HasFreeZeros}
use Rattle.gf_linear.proofs.Forms.{cells_below}
use Rattle.gf_linear.proofs.Views.{view-same, view-sizes, view-cols, view-rows, view-over}

module _ (b md rows cols : ℕ) (xs : List ℕ) (v : Matrix) (view : matrix_of rows cols xs ≡ v) (h : IsModulus b md) where
  field : IsField (2 ^ b) (gf_mul b md)
  field = field_of_bits b md h

  pub echelon_found : (k : ℕ) (ys : List ℕ) → length ys ≡ rows * cols → All (λ a. a < 2 ^ b) ys → IsReduced cols (cell ys cols) rows k → SameSpan (gf_mul b md) cols (cell xs cols) rows (cell ys cols) rows
      → IsEchelonOf b md v (matrix_of rows cols ys)
  echelon_found k ys ly sy reduced span =
      let e : Matrix = matrix_of rows cols ys in
      let same : AreSame cols rows (cell ys cols) (entry e) = view-same rows cols ys e refl in
      record {
        same_cols = view-cols rows cols xs v view;
        same_rows = sym (view-rows rows cols ys e refl) ∙ view-rows rows cols xs v view;
        count = k;
        reduced = view-sizes rows cols xs v view (λ n r. IsReduced n (entry e) r k) (reduced_entries (entry e) same reduced);
        span = view-sizes rows cols xs v view (λ n r. SameSpan (gf_mul b md) n (entry v) r (entry e) r)
            (span_entries (2 ^ b) (gf_mul b md) field (entry v) (entry e) (view-same rows cols xs v view) same span);
        over = view-over rows cols ys e refl b sy ly;
      }

  pub rank_found : (k : ℕ) (ys : List ℕ) → All (λ a. a < 2 ^ b) xs → All (λ a. a < 2 ^ b) ys → IsReduced cols (cell ys cols) rows k → SameSpan (gf_mul b md) cols (cell xs cols) rows (cell ys cols) rows
      → k ≡ rank (2 ^ b) (gf_mul b md) v.cols (entry v) (length v.rows)
  rank_found k ys sx sy reduced span =
      view-sizes rows cols xs v view (λ n r. k ≡ rank (2 ^ b) (gf_mul b md) n (entry v) r)
      (sym (reduced_rank (2 ^ b) (gf_mul b md) field cols (cell ys cols) rows k reduced)
      ∙ sym (span_rank (2 ^ b) (gf_mul b md) field (cells_below b xs cols sx) (cells_below b ys cols sy) span)
      ∙ rank_rows (2 ^ b) (gf_mul b md) field cols (cell xs cols) (entry v) rows (view-same rows cols xs v view))

  pub greatest_found : (k : ℕ) → IsOver b v → k ≡ rank (2 ^ b) (gf_mul b md) v.cols (entry v) (length v.rows) → IsGreatestNumber (2 ^ b) (gf_mul b md) v.cols (entry v) (length v.rows) k
  greatest_found k over e =
      subst (λ (x : ℕ). IsGreatestNumber (2 ^ b) (gf_mul b md) v.cols (entry v) (length v.rows) x) (sym e) (greatest_of_rank (2 ^ b) (gf_mul b md) field v.cols (entry v) (length v.rows) over.below)

  -- of a square matrix
  pub dependent_found : length v.rows ≡ v.cols → (AreIndependent (2 ^ b) (gf_mul b md) rows (cell xs rows) rows → ⊥) → AreDependent b md v
  dependent_found square d k =
      d (subst (λ (n : ℕ). AreIndependent (2 ^ b) (gf_mul b md) n (cell xs n) rows) (square_is square)
      (independent_entries (cell xs cols) (λ i li j lj. sym (view-same rows cols xs v view i li j lj))
      (subst (λ (r : ℕ). AreIndependent (2 ^ b) (gf_mul b md) cols (entry v) r) (sym (view-rows rows cols xs v view))
      (subst (λ (n : ℕ). AreIndependent (2 ^ b) (gf_mul b md) n (entry v) (length v.rows)) (sym (view-cols rows cols xs v view)) k))))
    where
      square_is : length v.rows ≡ v.cols → cols ≡ rows
      square_is e = view-cols rows cols xs v view ∙ sym e ∙ sym (view-rows rows cols xs v view)

  pub duals_viewed : (ds : List ℕ) → length v.rows ≡ v.cols → length ds ≡ rows * rows → All (λ a. a < 2 ^ b) ds → IsDual (gf_mul b md) rows (cell xs rows) (cell ds rows) → IsDualOf b md v (matrix_of rows cols ds)
  duals_viewed ds square ld sd h =
      let d : Matrix = matrix_of rows cols ds in
      let e : rows ≡ cols = view-rows rows cols xs v view ∙ square ∙ sym (view-cols rows cols xs v view) in
      let long : length ds ≡ rows * cols = ld ∙ ap (λ (n : ℕ). rows * n) e in
      let over_cols : IsDual (gf_mul b md) cols (cell xs cols) (cell ds cols) = subst (λ (n : ℕ). IsDual (gf_mul b md) n (cell xs n) (cell ds n)) e h in
      let same_at : (zs : List ℕ) (w : Matrix) → matrix_of rows cols zs ≡ w → AreSame cols cols (cell zs cols) (entry w) = λ zs w at i li j lj. view-same rows cols zs w at i (omega arith) j lj in
      record {
        same_cols = view-cols rows cols xs v view;
        same_rows = sym (view-rows rows cols ds d refl) ∙ view-rows rows cols xs v view;
        dual = subst (λ (n : ℕ). IsDual (gf_mul b md) n (entry v) (entry d)) (view-cols rows cols xs v view) (dual_entries (entry v) (entry d) (same_at xs v view) (same_at ds d refl) over_cols);
        over = view-over rows cols ds d refl b sd long;
      }

  pub solution_found : (rhs x : List ℕ) → length rhs ≡ length v.rows → length x ≡ cols → All (λ a. a < 2 ^ b) x
      → ((i : ℕ) → i < length rhs → dot (gf_mul b md) cols (cell xs cols i) (slice_index x) ≡ slice_index rhs i) → IsSolution b md v rhs x
  solution_found rhs x sides lx sx solves = record {
    places = lx ∙ view-cols rows cols xs v view;
    symbols = sx;
    solves = λ i li.
        subst (λ (n : ℕ). dot (gf_mul b md) n (entry v i) (slice_index x) ≡ slice_index rhs i) (view-cols rows cols xs v view)
        (dot_entries (gf_mul b md) cols (entry v i) (slice_index x) (cell xs cols i) (slice_index x)
        (λ p lp. sym (view-same rows cols xs v view i (subst (λ (n : ℕ). i < n) (sym (view-rows rows cols xs v view)) li) p lp)) (λ p lp. refl)
        ∙ solves i (subst (λ (n : ℕ). i < n) (sym sides) li));
  }

  pub no_solution_found : (rhs x : List ℕ) → length rhs ≡ length v.rows → ((y : ℕ → ℕ) → ((i : ℕ) → i < length rhs → dot (gf_mul b md) cols (cell xs cols i) y ≡ slice_index rhs i) → ⊥) → IsSolution b md v rhs x → ⊥
  no_solution_found rhs x sides none s =
      none (slice_index x) (λ i li.
      let l : i < length v.rows = subst (λ (n : ℕ). i < n) sides li in
      dot_entries (gf_mul b md) cols (cell xs cols i) (slice_index x) (entry v i) (slice_index x)
      (λ p lp. view-same rows cols xs v view i (subst (λ (n : ℕ). i < n) (sym (view-rows rows cols xs v view)) l) p lp) (λ p lp. refl)
      ∙ subst (λ (n : ℕ). dot (gf_mul b md) n (entry v i) (slice_index x) ≡ slice_index rhs i) (sym (view-cols rows cols xs v view)) (s.solves i l))

  pub free_found : (rhs x : List ℕ) → length rhs ≡ length v.rows → ((j : ℕ) → j < cols → IsFree (2 ^ b) (gf_mul b md) (cell xs cols) (length rhs) j → slice_index x j ≡ 0) → HasFreeZeros b md v x
  free_found rhs x sides free = record {
    at_free = λ j lj f.
        let l : j < cols = subst (λ (n : ℕ). j < n) (sym (view-cols rows cols xs v view)) lj in
        let same : (n : ℕ) → n ≤ cols → rank (2 ^ b) (gf_mul b md) n (cell xs cols) rows ≡ rank (2 ^ b) (gf_mul b md) n (entry v) rows =
        λ n le. rank_rows (2 ^ b) (gf_mul b md) field n (cell xs cols) (entry v) rows (λ i li q lq. view-same rows cols xs v view i li q (omega arith)) in
        let e : length rhs ≡ rows = sides ∙ sym (view-rows rows cols xs v view) in
        let g : IsFree (2 ^ b) (gf_mul b md) (entry v) rows j = subst (λ (r : ℕ). IsFree (2 ^ b) (gf_mul b md) (entry v) r j) (sym (view-rows rows cols xs v view)) f in
        free j l (subst (λ (r : ℕ). IsFree (2 ^ b) (gf_mul b md) (cell xs cols) r j) (sym e)
        (record { adds_nothing = same (suc j) (omega arith) ∙ g.adds_nothing ∙ sym (same j (omega arith)) }));
  }
