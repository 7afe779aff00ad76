-- A matrix joined with the unit matrix, or with a column, and what its reduced form says
use Rattle.std.proofs.Common.{◌≡◌, ℕ, ◌+◌, ◌*◌, ◌-◌, ◌^◌, ◌<◌, ◌≤◌, List, length, sym, ◌∙◌, ap, subst, refl, inl, inr, arith, All, nat_lt}
use Rattle.std.proofs.lemmas.Bool.{cases_eq, cases_lt, cond-true, cond-false, lt-ltb, ltb-true, false_from_ne_true}
use Rattle.field_theory.specs.Field.{IsField}
use Rattle.field_theory.specs.Sums.{unit}
use Rattle.gf_theory.specs.Field.{gf_mul, IsModulus}
use Rattle.gf_theory.proofs.Fields.{field_of_bits}
use Rattle.linear_theory.specs.Linear.{AreIndependent, IsReduced, SameSpan, IsDual, rank}
use Rattle.linear_theory.proofs.Corners.{rank_rows}
use Rattle.linear_theory.proofs.Entries.{span_within, dual_entries}
use Rattle.linear_theory.proofs.Exchange.{independent_iff_rank}
use Rattle.linear_theory.proofs.Joined.{dual_of_joined}
use Rattle.linear_theory.proofs.Reduced.{reduced_rank}
use Rattle.linear_theory.proofs.Spans.{put-same, put-other}
use Rattle.linear_theory.proofs.Steps.{span_rank}
use Rattle.gf_linear.specs.Cells.{cell}
use Rattle.gf_linear.specs.Elimination.{beside_unit}
use Rattle.gf_linear.proofs.Forms.{cells_below}
use Rattle.gf_linear.proofs.Steps.{All-cells}

pub beside_left : (rows : ℕ → ℕ → ℕ) (n i p : ℕ) → p < n → beside_unit rows n i p ≡ rows i p
beside_left rows n i p l = cond-true (nat_lt p n) (rows i p) (unit i (p - n)) (lt-ltb p n l)

pub beside_right : (rows : ℕ → ℕ → ℕ) (n i j : ℕ) → beside_unit rows n i (n + j) ≡ unit i j
beside_right rows n i j =
    cond-false (nat_lt (n + j) n) (rows i (n + j)) (unit i (n + j - n)) (false_from_ne_true (nat_lt (n + j) n) (λ e. let l : n + j < n = ltb-true (n + j) n e in absurd (omega arith)))
    ∙ ap (λ q. unit i q) (let w : n + j - n ≡ j = omega arith in w)

pub beside_row : (rows : ℕ → ℕ → ℕ) (row : ℕ → ℕ) (m n i p : ℕ) → m ≡ n → ((q : ℕ) → q < n → row q ≡ rows i q) → beside_unit (λ k. row) m i p ≡ beside_unit rows n i p
beside_row rows row m n i p e h = subst (λ (k : ℕ). beside_unit (λ q. row) k i p ≡ beside_unit rows n i p) (sym e) (elim (cases_lt p n) [
  | inl l ↦ beside_left (λ q. row) n i p l ∙ h p l ∙ sym (beside_left rows n i p l)
  | inr l ↦
      let w : n + (p - n) ≡ p = omega arith in
      subst (λ (q : ℕ). beside_unit (λ k. row) n i q ≡ beside_unit rows n i q) w (beside_right (λ q. row) n i (p - n) ∙ sym (beside_right rows n i (p - n)))
])

pub beside_below : (size : ℕ) (rows : ℕ → ℕ → ℕ) (n i p : ℕ) → 1 < size → p < n + n → ((q : ℕ) → q < n → rows i q < size) → beside_unit rows n i p < size
beside_below size rows n i p one l h = elim (cases_lt p n) [
  | inl u ↦ subst (λ (x : ℕ). x < size) (sym (beside_left rows n i p u)) (h p u)
  | inr u ↦
      let w : n + (p - n) ≡ p = omega arith in
      subst (λ (q : ℕ). beside_unit rows n i q < size) w (subst (λ (x : ℕ). x < size) (sym (beside_right rows n i (p - n))) (elim (cases_eq (p - n) i) [
        | inl e ↦ subst (λ (x : ℕ). x < size) (sym (ap (λ q. unit i q) e ∙ put-same (λ q. 0) i 1)) one
        | inr d ↦ subst (λ (x : ℕ). x < size) (sym (put-other (λ q. 0) i 1 (p - n) d)) (omega arith)
      ]))
]

-- the joined matrix holds symbols
pub beside_symbols : (b n : ℕ) (xs ys : List ℕ) → 1 < 2 ^ b → All (λ a. a < 2 ^ b) xs → length ys ≡ n * (n + n) → ((i p : ℕ) → i < n → p < n + n → cell ys (n + n) i p ≡ beside_unit (cell xs n) n i p) → All (λ a. a < 2 ^ b) ys
beside_symbols b n xs ys one sx ly joined =
    All-cells (λ a. a < 2 ^ b) n (n + n) ys ly (λ i p li lp. subst (λ (x : ℕ). x < 2 ^ b) (sym (joined i p li lp)) (beside_below (2 ^ b) (cell xs n) n i p one lp (λ q lq. cells_below b xs n sx i q)))

module _ (b md n k : ℕ) (xs ys zs : List ℕ) (h : IsModulus b md) (sx : All (λ a. a < 2 ^ b) xs) (sy : All (λ a. a < 2 ^ b) ys) (sz : All (λ a. a < 2 ^ b) zs)
    (joined : (i p : ℕ) → i < n → p < n + n → cell ys (n + n) i p ≡ beside_unit (cell xs n) n i p)
    (reduced : IsReduced n (cell zs (n + n)) n k) (span : SameSpan (gf_mul b md) (n + n) (cell ys (n + n)) n (cell zs (n + n)) n) where
  left : (i : ℕ) → i < n → (j : ℕ) → j < n → cell ys (n + n) i j ≡ cell xs n i j
  left i li j lj = joined i j li (omega arith) ∙ beside_left (cell xs n) n i j lj

  right : (i : ℕ) → i < n → (j : ℕ) → j < n → cell ys (n + n) i (n + j) ≡ unit i j
  right i li j lj = joined i (n + j) li (omega arith) ∙ beside_right (cell xs n) n i j

  pub duals_none : k < n → AreIndependent (2 ^ b) (gf_mul b md) n (cell xs n) n → ⊥
  duals_none l d =
      let field : IsField (2 ^ b) (gf_mul b md) = field_of_bits b md h in
      let one : rank (2 ^ b) (gf_mul b md) n (cell zs (n + n)) n ≡ k = reduced_rank (2 ^ b) (gf_mul b md) field n (cell zs (n + n)) n k reduced in
      let two : rank (2 ^ b) (gf_mul b md) n (cell ys (n + n)) n ≡ rank (2 ^ b) (gf_mul b md) n (cell zs (n + n)) n =
      span_rank (2 ^ b) (gf_mul b md) field (cells_below b ys (n + n) sy) (cells_below b zs (n + n) sz) (span_within n (omega arith) span) in
      let three : rank (2 ^ b) (gf_mul b md) n (cell ys (n + n)) n ≡ rank (2 ^ b) (gf_mul b md) n (cell xs n) n = rank_rows (2 ^ b) (gf_mul b md) field n (cell ys (n + n)) (cell xs n) n left in
      let four : rank (2 ^ b) (gf_mul b md) n (cell xs n) n ≡ n = (independent_iff_rank (2 ^ b) (gf_mul b md) field n (cell xs n) n (cells_below b xs n sx)).0 d in
      omega arith

  pub duals_found : (ds : List ℕ) → n ≤ k → ((i j : ℕ) → i < n → j < n → cell ds n i j ≡ cell zs (n + n) j (n + i)) → IsDual (gf_mul b md) n (cell xs n) (cell ds n)
  duals_found ds l read =
      let field : IsField (2 ^ b) (gf_mul b md) = field_of_bits b md h in
      let few : k ≤ n = reduced.few in
      let all : k ≡ n = omega arith in
      dual_entries (cell xs n) (cell ds n) (λ i li j lj. refl) (λ i li j lj. sym (read i j li lj))
      (dual_of_joined (2 ^ b) (gf_mul b md) field n (cell xs n) (cell ys (n + n)) (cell zs (n + n)) (cells_below b xs n sx) left right
      (subst (λ (r : ℕ). IsReduced n (cell zs (n + n)) n r) all reduced) span)

  pub duals_symbols : (ds : List ℕ) → length ds ≡ n * n → ((i j : ℕ) → i < n → j < n → cell ds n i j ≡ cell zs (n + n) j (n + i)) → All (λ a. a < 2 ^ b) ds
  duals_symbols ds ld read = All-cells (λ a. a < 2 ^ b) n n ds ld (λ i j li lj. subst (λ (x : ℕ). x < 2 ^ b) (sym (read i j li lj)) (cells_below b zs (n + n) sz j (n + i)))
