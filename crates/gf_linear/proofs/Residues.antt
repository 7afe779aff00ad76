-- The first rows and columns of a matrix, copied and reduced
use Rattle.std.proofs.Common.{◌≡◌, ◌≢◌, ℕ, suc, ◌+◌, ◌-◌, ◌*◌, ◌^◌, ◌<◌, ◌≤◌, List, length, take, drop, get_or, sym, ◌∙◌, ap, subst, refl, arith, All, add-one}
use Rattle.std.proofs.lemmas.Nat.{mul-le}
use Rattle.std.proofs.lemmas.List.{length-take-le}
use Rattle.field_theory.specs.Field.{IsField}
use Rattle.field_theory.proofs.Sums.{sum-same}
use Rattle.gf_theory.specs.Field.{gf_mul, IsModulus}
use Rattle.gf_theory.proofs.Fields.{field_of_bits}
use Rattle.linear_theory.specs.Linear.{IsReduced, SameSpan, IsCandidate, KeepsRank, rank}
use Rattle.linear_theory.proofs.Corners.{rank_rows}
use Rattle.linear_theory.proofs.Entries.{span_entries}
use Rattle.linear_theory.proofs.Free.{residue_keeps, keeps_unique}
use Rattle.linear_theory.proofs.Joined.{reduced_width, lead_is_pivot}
use Rattle.linear_theory.proofs.Reduced.{reduced_rank}
use Rattle.linear_theory.proofs.Steps.{span_rank}
use Rattle.gf_linear.specs.Cells.{cell}
use Rattle.gf_linear.specs.Matrix.{Matrix, entry, IsOver, matrix_of}
use Rattle.linear_theory.specs.Tables.{rows_of}
use Rattle.linear_theory.proofs.Tables.{length-rows_of}
use Rattle.gf_linear.specs.Elimination.{residue_of}
use Rattle.gf_linear.proofs.Forms.{cells_below}
use Rattle.gf_linear.proofs.Steps.{All-cells, part-row, part-length}
use Rattle.gf_linear.proofs.Views.{view-rows, view-cols}

pub part_symbols : (b rows cols : ℕ) (m : Matrix) (ys : List ℕ) → IsOver b m → length ys ≡ rows * cols → ((i j : ℕ) → i < rows → j < cols → cell ys cols i j ≡ entry m i j) → All (λ a. a < 2 ^ b) ys
part_symbols b rows cols m ys h e copied = All-cells (λ a. a < 2 ^ b) rows cols ys e (λ i j li lj. subst (λ (x : ℕ). x < 2 ^ b) (sym (copied i j li lj)) (h.below i j))

module _ (b md rows cols k : ℕ) (m : Matrix) (ys zs : List ℕ) (h : IsModulus b md) (over : IsOver b m) (sy : All (λ a. a < 2 ^ b) ys) (sz : All (λ a. a < 2 ^ b) zs)
    (copied : (i j : ℕ) → i < rows → j < cols → cell ys cols i j ≡ entry m i j)
    (reduced : IsReduced cols (cell zs cols) rows k) (span : SameSpan (gf_mul b md) cols (cell ys cols) rows (cell zs cols) rows) where
  field : IsField (2 ^ b) (gf_mul b md)
  field = field_of_bits b md h

  pub part_rank_found : k ≡ rank (2 ^ b) (gf_mul b md) cols (entry m) rows
  part_rank_found =
      sym (reduced_rank (2 ^ b) (gf_mul b md) field cols (cell zs cols) rows k reduced)
      ∙ sym (span_rank (2 ^ b) (gf_mul b md) field (cells_below b ys cols sy) (cells_below b zs cols sz) span)
      ∙ rank_rows (2 ^ b) (gf_mul b md) field cols (cell ys cols) (entry m) rows (λ i li j lj. copied i j li lj)

-- the residue at a candidate (i, j), from the reduced form of the rows above row i on j + 1 columns
module _ (b md i j k : ℕ) (m : Matrix) (ys zs : List ℕ) (h : IsModulus b md) (over : IsOver b m) (sz : All (λ a. a < 2 ^ b) zs)
    (copied : (p q : ℕ) → p < i → q < j + 1 → cell ys (j + 1) p q ≡ entry m p q)
    (reduced : IsReduced (j + 1) (cell zs (j + 1)) i k) (span : SameSpan (gf_mul b md) (j + 1) (cell ys (j + 1)) i (cell zs (j + 1)) i)
    (candidate : IsCandidate (2 ^ b) (gf_mul b md) (entry m) i j) where
  the_field : IsField (2 ^ b) (gf_mul b md)
  the_field = field_of_bits b md h

  wide : (g : IsReduced (suc j) (cell zs (j + 1)) i k) × ((t : ℕ) → g.pivots t ≡ reduced.pivots t)
  wide = reduced_width (suc j) (add-one j) reduced

  same : SameSpan (gf_mul b md) (suc j) (entry m) i (cell zs (j + 1)) i
  same =
      subst (λ (n : ℕ). SameSpan (gf_mul b md) n (entry m) i (cell zs (j + 1)) i) (add-one j)
      (span_entries (2 ^ b) (gf_mul b md) the_field (entry m) (cell zs (j + 1)) (λ p lp q lq. copied p q lp lq) (λ p lp q lq. refl) span)

  pub residue_found : (x : ℕ) (row : ℕ → ℕ) → ((q : ℕ) → q < j + 1 → row q ≡ entry m i q) → x ≡ residue_of (gf_mul b md) k reduced.pivots row (cell zs (j + 1)) (j + 1 - 1) → KeepsRank (2 ^ b) (gf_mul b md) (entry m) i j x
  residue_found x row at e =
      let value : x ≡ residue_of (gf_mul b md) k wide.0.pivots (entry m i) (cell zs (j + 1)) j =
      e ∙ ap (λ (q : ℕ). residue_of (gf_mul b md) k reduced.pivots row (cell zs (j + 1)) q) (let w : j + 1 - 1 ≡ j = omega arith in w)
      ∙ sum-same k (λ t. gf_mul b md (row (reduced.pivots t)) (cell zs (j + 1) t j)) (λ t. gf_mul b md (entry m i (wide.0.pivots t)) (cell zs (j + 1) t j))
      (λ t l. ap (λ y. gf_mul b md y (cell zs (j + 1) t j)) (at (reduced.pivots t) (reduced.in_range t l) ∙ ap (λ q. entry m i q) (sym (wide.1 t)))) in
      subst (λ (y : ℕ). KeepsRank (2 ^ b) (gf_mul b md) (entry m) i j y) (sym value)
      (residue_keeps (2 ^ b) (gf_mul b md) the_field (entry m) (cell zs (j + 1)) i j k over.below (cells_below b zs (j + 1) sz) wide.0 same candidate)

  pub residue_only : (x y : ℕ) → x < 2 ^ b → y < 2 ^ b → KeepsRank (2 ^ b) (gf_mul b md) (entry m) i j x → KeepsRank (2 ^ b) (gf_mul b md) (entry m) i j y → y ≡ x
  residue_only x y lx ly hx hy = keeps_unique (2 ^ b) (gf_mul b md) the_field (entry m) i j y x over.below candidate ly lx hy hx

-- ---- the residue is summed pivot by pivot
pub residue_lead : (part : List ℕ) (rows cols count t s lead : ℕ) (h : IsReduced cols (cell part cols) rows count) → t < count → length part ≡ rows * cols → s ≡ cols
    → lead ≤ length (take s (drop (t * cols) part)) → ((p : ℕ) → p < lead → get_or (take s (drop (t * cols) part)) p 0 ≡ 0)
    → (lead < length (take s (drop (t * cols) part)) → get_or (take s (drop (t * cols) part)) lead 0 ≢ 0) → lead ≡ h.pivots t
residue_lead part rows cols count t s lead h l fits e within before found =
    let few : count ≤ rows = h.few in
    let long : length (take s (drop (t * cols) part)) ≡ s = part-length rows cols t s part (omega arith) fits e in
    lead_is_pivot cols (cell part cols) rows count t lead h l (omega arith)
    (λ p lp. sym (part-row cols t s part p e (omega arith)) ∙ before p lp) (λ lp z. found (omega arith) (part-row cols t s part lead e lp ∙ z))

-- the room has as many rows as before
pub room_rows : (rows cols : ℕ) (xs ys : List ℕ) (v : Matrix) → matrix_of rows cols xs ≡ v → length (rows_of rows cols ys) ≡ length v.rows
room_rows rows cols xs ys v view = length-rows_of rows cols ys ∙ view-rows rows cols xs v view

pub room_part : (rows cols r n : ℕ) (xs ys : List ℕ) (v m : Matrix) → matrix_of r n xs ≡ v → length xs ≡ r * n → ys ≡ xs → rows ≤ length m.rows → cols ≤ m.cols → length m.rows ≤ length v.rows → m.cols ≤ v.cols
    → length (take (rows * cols) ys) ≡ rows * cols
room_part rows cols r n xs ys v m view fits e a b c d =
    let er : r ≡ length v.rows = view-rows r n xs v view in
    let en : n ≡ v.cols = view-cols r n xs v view in
    let l : rows * cols ≤ r * n = mul-le rows cols r n (omega arith) (omega arith) in
    length-take-le (rows * cols) ys (subst (λ (w : List ℕ). rows * cols ≤ length w) (sym e) (omega arith))
