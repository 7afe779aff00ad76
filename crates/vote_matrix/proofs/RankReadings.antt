-- What an elimination says of the ranks of its matrix
use Rattle.std.proofs.lemmas.Bool.{cases_eq, cases_lt, lt-ltb, le-ltb}
use Rattle.std.proofs.lemmas.List.{get_or-set_same, length-set}
use Rattle.std.proofs.Common.{◌≡◌, ◌≢◌, ◌↔◌, ℕ, zero, suc, ◌+◌, ◌<◌, ◌≤◌, ◌^◌, List, sym, ◌∙◌, ap, subst, inl, inr, arith, ltb, Bool}
use Rattle.std.proofs.Math.ListN.{set}
use Rattle.std.specs.Prelude.{slice_index}
use Rattle.gf_theory.specs.Field.{gf_mul}
use Rattle.field_theory.specs.Field.{IsField}
use Rattle.field_theory.specs.Sums.{total, count_below}
use Rattle.field_theory.proofs.Totals.{total-le-total}
use Rattle.linear_theory.specs.Linear.{rank, put_entry, IsCandidate, KeepsRank}
use Rattle.linear_theory.proofs.Wrongs.{all_wrongs}
use Rattle.counting_theory.specs.Ranks.{wrong}
use Rattle.growing_theory.specs.Pivots.{ArePivots}
use Rattle.growing_theory.proofs.Counts.{count_same}
use Rattle.growing_theory.proofs.Reductions.{reduction_pivots, kept_below}
use Rattle.growing_theory.proofs.Rows.{IsFurther, none_above, known_further, reduction_further}
use Rattle.growing_theory.proofs.Marks.{row_candidate, column_candidate, residue_value, pivot_tally}
use Rattle.vote_matrix.specs.Elimination.{Elimination, IsEliminationOf, MaySettle, IsSound, AddsNothing, kept_at, reduced_at, factor_at, rank_of, count_pivots}
use Rattle.vote_matrix.specs.Stored.{IsState}
use Rattle.vote_matrix.proofs.FieldLaws.{gf_is_field}
use Rattle.vote_matrix.proofs.Stages.{reduction_of, further_of}

-- fewer columns hold fewer
count_prefix : (k n : ℕ) (p : ℕ → Bool) → k ≤ n → count_below k p ≤ count_below n p
count_prefix k zero p l = omega (arith, ap (λ (m : ℕ). count_below m p) (let e : k ≡ zero = omega arith in e))
count_prefix k (suc n) p l = elim (cases_eq k (suc n)) [
  | inl e ↦ omega (arith, ap (λ (m : ℕ). count_below m p) e)
  | inr d ↦ omega (arith, count_prefix k n p (omega arith))
]

module _ (v : Elimination) (numbers inverse : List ℕ) (h : IsState v numbers inverse) where
  abbrev field : IsField (2 ^ v.bits) (gf_mul v.bits v.modulus)
  field = gf_is_field v.bits v.modulus h.is_modulus

  abbrev mul : ℕ → ℕ → ℕ
  mul = gf_mul v.bits v.modulus

  pub state_sound : IsSound v
  state_sound = record {
    is_modulus = h.is_modulus;
    some = h.some;
    small = h.small;
    known_fit = h.known_fit;
    width = h.has_pivots.width;
    falls = h.has_pivots.falls;
    few = h.few;
  }

  -- a row has no pivot exactly where it has none in its settled part
  pub free_iff : (i : ℕ) → i < v.n → (v.n ≤ slice_index v.pivots i) ↔ (slice_index v.known i ≤ slice_index v.pivots i)
  free_iff i li = (
    λ l. omega (arith, h.has_pivots.width i li),
    λ l. elim (cases_lt (slice_index v.pivots i) v.n) [
      | inl u ↦ let w : slice_index v.pivots i < slice_index v.known i = h.has_pivots.inside i li u in absurd (omega arith)
      | inr u ↦ u
    ],
  )

  kept_symbol : (i j : ℕ) → kept_at v i j < 2 ^ v.bits
  kept_symbol i j = kept_below (2 ^ v.bits) mul field (slice_index v.spans) (factor_at v) (reduced_at v) i j

  module _ (S : ℕ → ℕ → ℕ) (e : IsEliminationOf S v) where
    pivots_in : ArePivots (gf_mul v.bits v.modulus) v.n S (kept_at v) (slice_index v.known) (slice_index v.pivots)
    pivots_in =
        reduction_pivots (2 ^ v.bits) mul field v.n v.count S (factor_at v) (reduced_at v) (slice_index v.spans) (slice_index v.known) (slice_index v.pivots) (slice_index numbers) (slice_index v.rows) (slice_index inverse)
        e.symbols h.has_pivots (reduction_of v numbers inverse h S e)

    -- a candidate by ranks is one by pivots
    pub candidate_is : (i j : ℕ) → i < v.n → j < v.n → MaySettle v i j
        → IsCandidate (2 ^ v.bits) (gf_mul v.bits v.modulus) S i j ↔ ((j ≤ slice_index v.pivots i) × (slice_index numbers j < v.n → i ≤ slice_index v.rows (slice_index numbers j)))
    candidate_is i j li lj m =
        let by_row : (rank (2 ^ v.bits) mul j S (suc i) ≡ rank (2 ^ v.bits) mul j S i) ↔ (j ≤ slice_index v.pivots i) =
        row_candidate (2 ^ v.bits) mul field v.n S (kept_at v) (slice_index v.known) (slice_index v.pivots) e.symbols kept_symbol pivots_in i j li m.row in
        let by_column : (rank (2 ^ v.bits) mul (suc j) S i ≡ rank (2 ^ v.bits) mul j S i) ↔ ((p : ℕ) → p < i → slice_index v.pivots p ≢ j) =
        column_candidate (2 ^ v.bits) mul field v.n S (kept_at v) (slice_index v.known) (slice_index v.pivots) e.symbols kept_symbol pivots_in i j (omega arith) (λ p l. let u : j < slice_index v.known p = m.above p l in omega arith) in
        let none : ((p : ℕ) → p < i → slice_index v.pivots p ≢ j) ↔ (slice_index numbers j < v.n → i ≤ slice_index v.rows (slice_index numbers j)) =
        none_above mul v.n v.count (factor_at v) (reduced_at v) (slice_index v.spans) (slice_index v.known) (slice_index v.pivots) (slice_index numbers) (slice_index v.rows) (slice_index inverse) h.has_pivots i j (omega arith) lj in (
          λ k. (by_row.0 k.row, none.0 (by_column.0 k.column)),
          λ k. record { row = by_row.1 k.0; column = by_column.1 (none.1 k.1) },
        )

    -- what is kept is the residue
    pub residue_is : (i j : ℕ) → i < v.n → j < v.n → MaySettle v i j → IsCandidate (2 ^ v.bits) (gf_mul v.bits v.modulus) S i j
        → KeepsRank (2 ^ v.bits) (gf_mul v.bits v.modulus) S i j (kept_at v i j) × ((y : ℕ) → y < 2 ^ v.bits → KeepsRank (2 ^ v.bits) (gf_mul v.bits v.modulus) S i j y → y ≡ kept_at v i j)
    residue_is i j li lj m k =
        let w : (rank (2 ^ v.bits) mul (suc j) (put_entry S i j (kept_at v i j)) (suc i) ≡ rank (2 ^ v.bits) mul j S i)
        × ((y : ℕ) → y < 2 ^ v.bits → y ≢ kept_at v i j → rank (2 ^ v.bits) mul (suc j) (put_entry S i j y) (suc i) ≡ rank (2 ^ v.bits) mul j S i + 1) =
        residue_value (2 ^ v.bits) mul field v.n S (kept_at v) (slice_index v.known) (slice_index v.pivots) e.symbols kept_symbol pivots_in i j li m.row lj (λ p l. let u : j < slice_index v.known p = m.above p l in omega arith) k.row k.column in (
          record { rank_is = w.0 },
          λ y l g. elim (cases_eq y (kept_at v i j)) [
            | inl f ↦ f
            | inr d ↦
                let a : rank (2 ^ v.bits) mul (suc j) (put_entry S i j y) (suc i) ≡ rank (2 ^ v.bits) mul j S i + 1 = w.1 y l d in
                let b : rank (2 ^ v.bits) mul (suc j) (put_entry S i j y) (suc i) ≡ rank (2 ^ v.bits) mul j S i = g.rank_is in
                absurd (omega arith)
          ],
        )

    -- the count of the pivots
    pub count_is : v.count ≡ count_pivots v S
    count_is =
        sym h.has_pivots.tally
        ∙ count_same v.n (λ i. ltb (slice_index v.pivots i) v.n) (λ i. ltb (slice_index v.pivots i) (slice_index v.known i))
        (λ i l. elim (cases_lt (slice_index v.pivots i) v.n) [
          | inl u ↦ lt-ltb (slice_index v.pivots i) v.n u ∙ sym (lt-ltb (slice_index v.pivots i) (slice_index v.known i) (h.has_pivots.inside i l u))
          | inr u ↦ let wide : slice_index v.known i ≤ v.n = h.has_pivots.width i l in le-ltb (slice_index v.pivots i) v.n u ∙ sym (le-ltb (slice_index v.pivots i) (slice_index v.known i) (omega arith))
        ])
        ∙ sym (pivot_tally (2 ^ v.bits) mul field v.n S (kept_at v) (slice_index v.known) (slice_index v.pivots) e.symbols kept_symbol pivots_in v.n (omega arith))

    -- no more than the rank of the whole
    pub count_rank : v.count ≤ rank_of v S v.n v.n
    count_rank =
        let a : total v.n (λ i. count_below (slice_index v.known i) (wrong (rank_of v S) i)) ≤ total v.n (λ i. count_below v.n (wrong (rank_of v S) i)) =
        total-le-total v.n (λ i. count_below (slice_index v.known i) (wrong (rank_of v S) i)) (λ i. count_below v.n (wrong (rank_of v S) i)) (λ i l. count_prefix (slice_index v.known i) v.n (wrong (rank_of v S) i) (h.has_pivots.width i l)) in
        let b : total v.n (λ i. count_below v.n (wrong (rank_of v S) i)) ≡ rank_of v S v.n v.n = all_wrongs (2 ^ v.bits) mul field S e.symbols v.n v.n in
        let c : v.count ≡ count_pivots v S = count_is in
        omega arith

    -- a row without pivot adds nothing
    pub nothing_iff : (i : ℕ) → i < v.n → AddsNothing v S i ↔ (v.n ≤ slice_index v.pivots i)
    nothing_iff i li =
        let by_row : (rank (2 ^ v.bits) mul (slice_index v.known i) S (suc i) ≡ rank (2 ^ v.bits) mul (slice_index v.known i) S i) ↔ (slice_index v.known i ≤ slice_index v.pivots i) =
        row_candidate (2 ^ v.bits) mul field v.n S (kept_at v) (slice_index v.known) (slice_index v.pivots) e.symbols kept_symbol pivots_in i (slice_index v.known i) li (omega arith) in (
          λ a. (free_iff i li).1 (by_row.0 a.rank_is),
          λ l. record { rank_is = by_row.1 ((free_iff i li).0 l) },
        )

    -- and is what it keeps
    pub nothing_kept : (i j : ℕ) → i < v.n → AddsNothing v S i → j < slice_index v.known i → S i j ≡ kept_at v i j
    nothing_kept i j li a lj =
        let free : v.n ≤ slice_index v.pivots i = (nothing_iff i li).0 a in
        let wide : slice_index v.known i ≤ v.n = h.has_pivots.width i li in
        e.before i j li lj (omega arith)

  -- one more entry of row i is settled
  module _ (i x : ℕ) (li : i < v.n) (is : x ≡ slice_index v.known i + 1) (column : slice_index v.known i < v.n) (up : (p : ℕ) → p < i → slice_index v.known i < slice_index v.known p) where
    further : IsFurther v.n i (slice_index v.known) (slice_index (set v.known i x))
    further = further_of v numbers inverse h i x 1 li is (omega arith) (λ p l. let u : slice_index v.known i < slice_index v.known p = up p l in omega arith)

    pub state_kept : IsState (record v { known = set v.known i x }) numbers inverse
    state_kept = record {
      is_modulus = h.is_modulus;
      some = h.some;
      small = h.small;
      most_small = h.most_small;
      few = h.few;
      wide = h.wide;
      stride_small = h.stride_small;
      known_fit = length-set v.known i x ∙ h.known_fit;
      pivots_fit = h.pivots_fit;
      numbers_fit = h.numbers_fit;
      rows_fit = h.rows_fit;
      inverse_fit = h.inverse_fit;
      spans_fit = h.spans_fit;
      reduced_fit = h.reduced_fit;
      factors_fit = h.factors_fit;
      inverse_below = h.inverse_below;
      reduced_below = h.reduced_below;
      factors_below = h.factors_below;
      has_pivots =
          known_further mul v.n v.count (factor_at v) (reduced_at v) (slice_index v.spans) (slice_index v.known) (slice_index v.pivots) (slice_index numbers) (slice_index v.rows) (slice_index inverse) h.has_pivots
          (slice_index (set v.known i x)) i further;
    }

    pub kept_eliminated : (S : ℕ → ℕ → ℕ) (j : ℕ) → IsEliminationOf S v → j ≡ slice_index v.known i → IsCandidate (2 ^ v.bits) (gf_mul v.bits v.modulus) S i j → KeepsRank (2 ^ v.bits) (gf_mul v.bits v.modulus) S i j (S i j)
        → IsEliminationOf S (record v { known = set v.known i x })
    kept_eliminated S j e at candidate keeps =
        let may : MaySettle v i j = record { row = omega arith; above = λ p l. let u : slice_index v.known i < slice_index v.known p = up p l in omega arith } in
        let past : j ≤ slice_index v.pivots i = ((candidate_is S e i j li (omega arith) may).0 candidate).0 in
        let free : v.n ≤ slice_index v.pivots i = (free_iff i li).1 (omega arith) in
        let value : S i j ≡ kept_at v i j = (residue_is S e i j li (omega arith) may candidate).1 (S i j) (e.symbols i j) keeps in
        let here : slice_index (set v.known i x) i ≡ slice_index v.known i + 1 = get_or-set_same v.known i x 0 (omega (arith, h.known_fit)) ∙ is in
        let r =
        reduction_further mul v.n v.count (factor_at v) (reduced_at v) (slice_index v.spans) (slice_index v.known) (slice_index v.pivots) (slice_index numbers) (slice_index v.rows) (slice_index inverse) h.has_pivots
        (slice_index (set v.known i x)) i further S free
        (λ q l u. let f : q ≡ j = omega arith in subst (λ (c : ℕ). S i c ≡ kept_at v i c) (sym f) value) (reduction_of v numbers inverse h S e) in
        record { symbols = e.symbols; inside = e.inside; pivot_rows = r.pivot_rows; before = r.before }
