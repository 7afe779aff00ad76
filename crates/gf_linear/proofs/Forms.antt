-- The reduced form grows by a column
use Rattle.std.proofs.lemmas.Bool.{cases_eq, cases_lt}
use Rattle.std.proofs.Common.{◌≡◌, ◌≢◌, ℕ, ◌+◌, ◌*◌, ◌<◌, ◌≤◌, ◌^◌, List, length, get_or, sym, ◌∙◌, ap, subst, inl, inr, arith, bit_xor, All}
use Rattle.std.specs.Int.Bits.{xor_self, xor_zero_r, xor_zero_l}
use Rattle.std.proofs.lemmas.List.{get_or_past}
use Rattle.std.proofs.lemmas.Nat.{pow_pos}
use Rattle.field_theory.specs.Field.{IsField}
use Rattle.field_theory.specs.Sums.{put, unit}
use Rattle.field_theory.proofs.Sums.{mul-zero, mul_one}
use Rattle.linear_theory.specs.Linear.{IsReduced}
use Rattle.linear_theory.proofs.Spans.{put-same, put-other}
use Rattle.gf_linear.specs.Cells.{cell, AreKept}

-- no pivot in column j
pub reduced_none : (rows cols k j : ℕ) (m : List ℕ) → IsReduced j (cell m cols) rows k → ((i : ℕ) → k ≤ i → i < rows → cell m cols i j ≡ 0) → IsReduced (j + 1) (cell m cols) rows k
reduced_none rows cols k j m h z = record {
  few = h.few;
  pivots = h.pivots;
  in_range = λ t l. let u : h.pivots t < j = h.in_range t l in omega arith;
  rising = h.rising;
  before = h.before;
  columns = h.columns;
  zeros = λ i p lk li lp. elim (cases_lt p j) [
    | inl u ↦ h.zeros i p lk li u
    | inr u ↦ let e : p ≡ j = omega arith in subst (λ (t : ℕ). cell m cols i t ≡ 0) (sym e) (z i lk li)
  ];
}

-- a pivot at row k, column j: m is the matrix before and m2 the one after
pub reduced_pivot : (rows cols k j : ℕ) (m m2 : List ℕ) → k < rows → IsReduced j (cell m cols) rows k
    → ((i p : ℕ) → i < k → p < j → cell m2 cols i p ≡ cell m cols i p)
    → ((i p : ℕ) → k ≤ i → i < rows → p < j → cell m2 cols i p ≡ 0)
    → cell m2 cols k j ≡ 1 → ((i : ℕ) → i < rows → i ≢ k → cell m2 cols i j ≡ 0) → IsReduced (j + 1) (cell m2 cols) rows (k + 1)
reduced_pivot rows cols k j m m2 lk h same zeros one cleared =
    let p : ℕ → ℕ = put h.pivots k j in
    let at_k : p k ≡ j = put-same h.pivots k j in
    let at : (t : ℕ) → t < k → p t ≡ h.pivots t = λ t l. put-other h.pivots k j t (omega arith) in
    record {
      few = omega arith;
      pivots = p;
      in_range = λ t l. elim (cases_lt t k) [
        | inl u ↦ let e : p t ≡ h.pivots t = at t u in let f : h.pivots t < j = h.in_range t u in omega arith
        | inr u ↦ let e : p t ≡ p k = ap p (omega arith) in omega arith
      ];
      rising = λ t u a b. elim (cases_lt u k) [
        | inl l ↦ let e : p t ≡ h.pivots t = at t (omega arith) in let f : p u ≡ h.pivots u = at u l in let g : h.pivots t < h.pivots u = h.rising t u a l in omega arith
        | inr l ↦ let e : p t ≡ h.pivots t = at t (omega arith) in let f : p u ≡ p k = ap p (omega arith) in let g : h.pivots t < j = h.in_range t (omega arith) in omega arith
      ];
      before = λ t q a b. elim (cases_lt t k) [
        | inl l ↦
            let e : p t ≡ h.pivots t = at t l in
            let f : h.pivots t < j = h.in_range t l in
            same t q l (omega arith) ∙ h.before t q l (omega arith)
        | inr l ↦ let e : p t ≡ p k = ap p (omega arith) in zeros t q l (omega arith) (omega arith)
      ];
      columns = λ q t a b. elim (cases_lt t k) [
        | inl l ↦
            let e : p t ≡ h.pivots t = at t l in
            let f : h.pivots t < j = h.in_range t l in
            ap (λ y. cell m2 cols q y) e ∙ elim (cases_lt q k) [
              | inl u ↦ same q (h.pivots t) u f ∙ h.columns q t u l
              | inr u ↦ zeros q (h.pivots t) u (omega arith) f ∙ sym (put-other (λ i. 0) q 1 t (omega arith))
            ]
        | inr l ↦
            let e : t ≡ k = omega arith in
            subst (λ (s : ℕ). cell m2 cols q (p s) ≡ unit q s) (sym e) (ap (λ y. cell m2 cols q y) at_k ∙ elim (cases_eq q k) [
              | inl d ↦ subst (λ (s : ℕ). cell m2 cols s j ≡ unit s k) (sym d) (one ∙ sym (put-same (λ i. 0) k 1))
              | inr d ↦ cleared q (omega arith) d ∙ sym (put-other (λ i. 0) q 1 k (λ s. d (sym s)))
            ])
      ];
      zeros = λ i q a b c. elim (cases_lt q j) [
        | inl l ↦ zeros i q (omega arith) b l
        | inr l ↦ let e : q ≡ j = omega arith in subst (λ (t : ℕ). cell m2 cols i t ≡ 0) (sym e) (cleared i b (omega arith))
      ];
    }

pub reduced_start : (rows cols : ℕ) (m : List ℕ) → IsReduced 0 (cell m cols) rows 0
reduced_start rows cols m = record {
  few = omega arith;
  pivots = λ t. 0;
  in_range = λ t l. absurd (omega arith);
  rising = λ t u a b. absurd (omega arith);
  before = λ t j a b. absurd (omega arith);
  columns = λ q t a b. absurd (omega arith);
  zeros = λ i j a b c. absurd (omega arith);
}

-- ---- entries of a list of symbols, at every place
pub symbols_at : (b : ℕ) (m : List ℕ) → All (λ a. a < 2 ^ b) m → (p : ℕ) → get_or m p 0 < 2 ^ b
symbols_at b m h p = elim (cases_lt p (length m)) [
  | inl u ↦ h p 0 u
  | inr u ↦ subst (λ (x : ℕ). x < 2 ^ b) (sym (get_or_past m p 0 u)) (pow_pos b)
]

pub cells_below : (b : ℕ) (m : List ℕ) (cols : ℕ) → All (λ a. a < 2 ^ b) m → (i j : ℕ) → cell m cols i j < 2 ^ b
cells_below b m cols h i j = symbols_at b m h (i * cols + j)

module _ (size : ℕ) (mul : ℕ → ℕ → ℕ) (field : IsField size mul) where
  -- row k plus 1 times row p
  pub raised_entry : (x y z : ℕ) → x ≡ bit_xor y (mul 1 z) → y ≡ 0 → z < size → x ≡ z
  raised_entry x y z e f l = e ∙ ap (λ w. bit_xor w (mul 1 z)) f ∙ ap (λ w. bit_xor 0 w) (field.one_mul z l) ∙ xor_zero_l z

  -- row k is multiplied: what was 0 before column j stays 0
  pub scaled_zeros : (rows cols k j x : ℕ) (m1 m2 : List ℕ) → j < cols → ((i p : ℕ) → k ≤ i → i < rows → p < j → cell m1 cols i p ≡ 0)
      → ((p : ℕ) → p < cols → cell m2 cols k p ≡ mul x (cell m1 cols k p)) → AreKept rows cols (λ q. q ≢ k) m1 m2
      → (i p : ℕ) → k ≤ i → i < rows → p < j → cell m2 cols i p ≡ 0
  scaled_zeros rows cols k j x m1 m2 lj z row kept i p a l u = elim (cases_eq i k) [
    | inl e ↦ subst (λ (t : ℕ). cell m2 cols t p ≡ 0) (sym e) (row p (omega arith) ∙ ap (λ y. mul x y) (z k p (omega arith) (omega arith) u) ∙ mul-zero size mul field x)
    | inr d ↦ kept.same i l d p (omega arith) ∙ z i p a l u
  ]

  -- the factor by which a pivot becomes 1 is not 0
  pub inverse_some : (a x : ℕ) → mul a x ≡ 1 → x ≢ 0
  inverse_some a x e d = let f : mul a x ≡ 0 = ap (λ y. mul a y) d ∙ mul-zero size mul field a in omega arith

  -- row i after row k, whose pivot is 1, is added as often as the entry says
  pub cleared_entry : (x a b : ℕ) → x ≡ bit_xor a (mul a b) → a < size → b ≡ 1 → x ≡ 0
  cleared_entry x a b e l f = e ∙ ap (λ y. bit_xor a (mul a y)) f ∙ ap (λ y. bit_xor a y) (mul_one size mul field a l) ∙ xor_self a

  pub before_entry : (x a c b : ℕ) → x ≡ bit_xor a (mul c b) → b ≡ 0 → x ≡ a
  before_entry x a c b e f = e ∙ ap (λ y. bit_xor a (mul c y)) f ∙ ap (λ y. bit_xor a y) (mul-zero size mul field c) ∙ xor_zero_r a
