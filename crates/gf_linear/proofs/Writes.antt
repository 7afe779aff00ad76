-- The entries and the shape of a matrix after a write
use Rattle.std.proofs.Common.{◌≡◌, ◌≢◌, ◌⊎◌, ℕ, ◌<◌, ◌≤◌, ◌^◌, List, [], length, get_or, replicate, sym, ◌∙◌, ap, subst, inl, inr, All}
use Rattle.std.proofs.Math.ListN.{set}
use Rattle.std.proofs.lemmas.Bool.{cases_eq, cases_lt}
use Rattle.std.proofs.lemmas.List.{length-set, get_or-set_same, get_or-set_other, get_or-replicate, get_or_past, length-replicate, set_past}
use Rattle.std.proofs.lemmas.Nat.{pow_pos}
use Rattle.gf_linear.specs.Matrix.{Matrix, IsMatrix, IsOver, row, entry, zero_matrix, with_row, with_entry}

pub row-with_row : (m : Matrix) (i : ℕ) (r : List ℕ) → i < length m.rows → row (with_row m i r) i ≡ r
row-with_row m i r l = get_or-set_same m.rows i r [] l

pub row-with_row_other : (m : Matrix) (i q : ℕ) (r : List ℕ) → q ≢ i → row (with_row m i r) q ≡ row m q
row-with_row_other m i q r d = get_or-set_other m.rows i q r [] d

pub length-with_row : (m : Matrix) (i : ℕ) (r : List ℕ) → length (with_row m i r).rows ≡ length m.rows
length-with_row m i r = length-set m.rows i r

pub entry-with_entry : (m : Matrix) (i j v : ℕ) → i < length m.rows → j < length (row m i) → entry (with_entry m i j v) i j ≡ v
entry-with_entry m i j v li lj = ap (λ (w : List ℕ). get_or w j 0) (row-with_row m i (set (row m i) j v) li) ∙ get_or-set_same (row m i) j v 0 lj

pub entry-with_entry_other : (m : Matrix) (i j v q p : ℕ) → (q ≡ i → p ≢ j) → entry (with_entry m i j v) q p ≡ entry m q p
entry-with_entry_other m i j v q p d = elim (cases_eq q i) [
  | inr e ↦ ap (λ (w : List ℕ). get_or w p 0) (row-with_row_other m i q (set (row m i) j v) e)
  | inl e ↦ elim (cases_lt i (length m.rows)) [
    | inl l ↦
        subst (λ (s : ℕ). entry (with_entry m i j v) s p ≡ entry m s p) (sym e)
        (ap (λ (w : List ℕ). get_or w p 0) (row-with_row m i (set (row m i) j v) l) ∙ get_or-set_other (row m i) j p v 0 (d e))
    | inr l ↦ ap (λ (rows : List (List ℕ)). get_or (get_or rows q []) p 0) (set_past m.rows i (set (row m i) j v) l)
  ]
]

-- symbols stay symbols
pub over-with_row : (bits : ℕ) (m : Matrix) (i : ℕ) (r : List ℕ) → IsOver bits m → All (λ x. x < 2 ^ bits) r → IsOver bits (with_row m i r)
over-with_row bits m i r h low = record {
  below = λ q p. elim (cases_eq q i) [
    | inr d ↦ subst (λ (x : ℕ). x < 2 ^ bits) (sym (ap (λ (w : List ℕ). get_or w p 0) (row-with_row_other m i q r d))) (h.below q p)
    | inl e ↦ elim (cases_lt i (length m.rows)) [
      | inr l ↦ subst (λ (rows : List (List ℕ)). get_or (get_or rows q []) p 0 < 2 ^ bits) (sym (set_past m.rows i r l)) (h.below q p)
      | inl l ↦
          subst (λ (s : ℕ). entry (with_row m i r) s p < 2 ^ bits) (sym e)
          (subst (λ (w : List ℕ). get_or w p 0 < 2 ^ bits) (sym (row-with_row m i r l)) (elim (cases_lt p (length r)) [
            | inl lp ↦ low p 0 lp
            | inr past ↦ subst (λ (x : ℕ). x < 2 ^ bits) (sym (get_or_past r p 0 past)) (pow_pos bits)
          ]))
    ]
  ];
}

pub over-with_entry : (bits : ℕ) (m : Matrix) (i j v : ℕ) → IsOver bits m → v < 2 ^ bits → i < length m.rows → j < length (row m i) → IsOver bits (with_entry m i j v)
over-with_entry bits m i j v h l li lj = record {
  below = λ q p. elim (cases_here q p) [
    | inl d ↦ subst (λ (x : ℕ). x < 2 ^ bits) (sym (entry-with_entry_other m i j v q p d)) (h.below q p)
    | inr e ↦ subst (λ (s : ℕ). entry (with_entry m i j v) s p < 2 ^ bits) (sym e.0) (subst (λ (s : ℕ). entry (with_entry m i j v) i s < 2 ^ bits) (sym e.1) (subst (λ (x : ℕ). x < 2 ^ bits) (sym (entry-with_entry m i j v li lj)) l))
  ];
}
  where
    cases_here : (q p : ℕ) → (q ≡ i → p ≢ j) ⊎ ((q ≡ i) × (p ≡ j))
    cases_here q p = elim (cases_eq q i) [
      | inr d ↦ inl (λ e. absurd (d e))
      | inl e ↦ elim (cases_eq p j) [ inl f ↦ inr (e, f) | inr d ↦ inl (λ _. d) ]
    ]

pub entry-zero_matrix : (rows cols i j : ℕ) → entry (zero_matrix rows cols) i j ≡ 0
entry-zero_matrix rows cols i j = elim (cases_lt i rows) [
  | inr l ↦ ap (λ (w : List ℕ). get_or w j 0) (get_or_past (replicate rows (replicate cols 0)) i [] (subst (λ (n : ℕ). n ≤ i) (sym (length-replicate rows (replicate cols 0))) l))
  | inl l ↦
      ap (λ (w : List ℕ). get_or w j 0) (get_or-replicate rows i (replicate cols 0) [] l) ∙ elim (cases_lt j cols) [
        | inl lj ↦ get_or-replicate cols j 0 0 lj
        | inr past ↦ get_or_past (replicate cols 0) j 0 (subst (λ (n : ℕ). n ≤ j) (sym (length-replicate cols 0)) past)
      ]
]

-- and a matrix stays one
pub matrix-with_row : (m : Matrix) (i : ℕ) (r : List ℕ) → IsMatrix m → length r ≡ m.cols → IsMatrix (with_row m i r)
matrix-with_row m i r h e = record {
  few_rows = subst (λ (n : ℕ). n ≤ 1024) (sym (length-with_row m i r)) h.few_rows;
  few_cols = h.few_cols;
  width = λ q l.
      let lq : q < length m.rows = subst (λ (n : ℕ). q < n) (length-with_row m i r) l in
      elim (cases_eq q i) [
        | inr d ↦ ap length (row-with_row_other m i q r d) ∙ h.width q lq
        | inl f ↦ subst (λ (s : ℕ). length (row (with_row m i r) s) ≡ m.cols) (sym f) (ap length (row-with_row m i r (subst (λ (s : ℕ). s < length m.rows) f lq)) ∙ e)
      ];
}

pub matrix-with_entry : (m : Matrix) (i j v : ℕ) → IsMatrix m → i < length m.rows → IsMatrix (with_entry m i j v)
matrix-with_entry m i j v h l = matrix-with_row m i (set (row m i) j v) h (length-set (row m i) j v ∙ h.width i l)

pub matrix-zero_matrix : (rows cols : ℕ) → rows ≤ 1024 → cols ≤ 2048 → IsMatrix (zero_matrix rows cols)
matrix-zero_matrix rows cols few_rows few_cols = record {
  few_rows = subst (λ (n : ℕ). n ≤ 1024) (sym (length-replicate rows (replicate cols 0))) few_rows;
  few_cols = few_cols;
  width = λ i l. ap length (get_or-replicate rows i (replicate cols 0) [] (subst (λ (n : ℕ). i < n) (length-replicate rows (replicate cols 0)) l)) ∙ length-replicate cols 0;
}
