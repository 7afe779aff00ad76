-- The lists by position: their products with values, and their symbols after one of them is taken
use Rattle.std.proofs.Common.{◌≡◌, ℕ, suc, ◌+◌, ◌*◌, ◌<◌, ◌≤◌, ◌^◌, cond, eqb, List, length, take, drop, get_or, slice_index, sym, ◌∙◌, ap, inl, inr, arith, bit_xor}
use Rattle.std.proofs.Math.ListN.{set}
use Rattle.std.specs.Int.Bits.{xor_zero_r}
use Rattle.std.proofs.lemmas.Bool.{cases_eq}
use Rattle.std.proofs.lemmas.Nat.{pow_below}
use Rattle.std.proofs.lemmas.List.{get_or-set_same, get_or-set_other}
use Rattle.field_theory.specs.Field.{IsField}
use Rattle.field_theory.specs.Sums.{unit}
use Rattle.field_theory.proofs.Sums.{mul-zero, mul_one}
use Rattle.gf_theory.specs.Field.{IsModulus}
use Rattle.linear_theory.specs.Linear.{combine}
use Rattle.linear_theory.proofs.Spans.{put-same, put-other}
use Rattle.gf_linear.specs.Cells.{cell}
use Rattle.gf_linear.proofs.Steps.{part-row}
use Rattle.eval_basis.specs.Lists.{taken}

pub one_symbol : (bits modulus : ℕ) → IsModulus bits modulus → 1 < 2 ^ bits
one_symbol bits modulus h = let two : 2 ≤ bits = h.at_least_two in let k : 2 ^ 0 < 2 ^ bits = pow_below 0 bits (omega arith) in k

module _ (size : ℕ) (mul : ℕ → ℕ → ℕ) (field : IsField size mul) where
  -- one row more in a combination
  combine_more : (p : ℕ) (c : ℕ → ℕ) (rows : ℕ → ℕ → ℕ) (q : ℕ) → combine mul (p + 1) c rows q ≡ bit_xor (combine mul p c rows q) (mul (c p) (rows p q))
  combine_more p c rows q = ap (λ (s : ℕ). combine mul s c rows q) (let e : p + 1 ≡ suc p = omega arith in e)

  pub multiplied_used : (n p k : ℕ) (values symbols xs ys : List ℕ) → k ≡ n → ((q : ℕ) → q < n → get_or xs q 0 ≡ combine mul p (slice_index values) (cell symbols n) q)
      → ((q : ℕ) → q < n → get_or ys q 0 ≡ bit_xor (get_or xs q 0) (mul (get_or values p 0) (get_or (take k (drop (p * n) symbols)) q 0)))
      → (q : ℕ) → q < n → get_or ys q 0 ≡ combine mul (p + 1) (slice_index values) (cell symbols n) q
  multiplied_used n p k values symbols xs ys e before is q l =
      is q l ∙ ap (λ (y : ℕ). bit_xor y (mul (get_or values p 0) (get_or (take k (drop (p * n) symbols)) q 0))) (before q l)
      ∙ ap (λ (y : ℕ). bit_xor (combine mul p (slice_index values) (cell symbols n) q) (mul (get_or values p 0) y)) (part-row n p k symbols q e l)
      ∙ sym (combine_more p (slice_index values) (cell symbols n) q)

  -- a row that is a unit
  pub multiplied_unit : (n p v : ℕ) (values symbols xs : List ℕ) → p < length xs → get_or values p 0 < size → ((q : ℕ) → q < n → cell symbols n p q ≡ unit p q)
      → v ≡ bit_xor (get_or xs p 0) (get_or values p 0) → ((q : ℕ) → q < n → get_or xs q 0 ≡ combine mul p (slice_index values) (cell symbols n) q)
      → (q : ℕ) → q < n → get_or (set xs p v) q 0 ≡ combine mul (p + 1) (slice_index values) (cell symbols n) q
  multiplied_unit n p v values symbols xs room low units is before q l =
      elim (cases_eq q p) [
        | inl e ↦
            let one : cell symbols n p q ≡ 1 = units q l ∙ ap (λ (s : ℕ). unit p s) e ∙ put-same (λ x. 0) p 1 in
            ap (λ (s : ℕ). get_or (set xs p v) s 0) e ∙ get_or-set_same xs p v 0 room ∙ is
            ∙ ap (λ (s : ℕ). bit_xor (get_or xs s 0) (get_or values p 0)) (sym e)
            ∙ ap (λ (y : ℕ). bit_xor y (get_or values p 0)) (before q l)
            ∙ ap (λ (y : ℕ). bit_xor (combine mul p (slice_index values) (cell symbols n) q) y)
            (sym (ap (λ (y : ℕ). mul (get_or values p 0) y) one ∙ mul_one size mul field (get_or values p 0) low))
        | inr d ↦
            let zero : cell symbols n p q ≡ 0 = units q l ∙ put-other (λ x. 0) p 1 q d in
            get_or-set_other xs p q v 0 d ∙ before q l ∙ sym (xor_zero_r (combine mul p (slice_index values) (cell symbols n) q))
            ∙ ap (λ (y : ℕ). bit_xor (combine mul p (slice_index values) (cell symbols n) q) y)
            (sym (ap (λ (y : ℕ). mul (get_or values p 0) y) zero ∙ mul-zero size mul field (get_or values p 0)))
      ]
      ∙ sym (combine_more p (slice_index values) (cell symbols n) q)

  -- ---- one position: x is the factor times its symbol in list q
  pub taken_here : (factor q x j : ℕ) (row ys products : List ℕ) → q < length row → x ≡ mul factor (get_or row q 0) → x < size → get_or products q 0 ≡ 1
      → get_or ys j 0 ≡ bit_xor (get_or (set row q 0) j 0) (mul x (get_or products j 0)) → get_or ys j 0 ≡ taken mul factor q (slice_index row) (slice_index products) j
  taken_here factor q x j row ys products l e low one is = is ∙ elim (cases_eq j q) [
    | inl f ↦
        ap (λ (s : ℕ). bit_xor (get_or (set row q 0) s 0) (mul x (get_or products s 0))) f
        ∙ ap (λ (y : ℕ). bit_xor y (mul x (get_or products q 0))) (get_or-set_same row q 0 0 l)
        ∙ ap (λ (y : ℕ). bit_xor 0 (mul x y)) one ∙ mul_one size mul field x low ∙ e
        ∙ sym (ap (λ (s : ℕ). taken mul factor q (slice_index row) (slice_index products) s) f ∙ put-same (λ s. bit_xor (get_or row s 0) (mul (mul factor (get_or row q 0)) (get_or products s 0))) q (mul factor (get_or row q 0)))
    | inr d ↦
        ap (λ (y : ℕ). bit_xor y (mul x (get_or products j 0))) (get_or-set_other row q j 0 0 d)
        ∙ ap (λ (y : ℕ). bit_xor (get_or row j 0) (mul y (get_or products j 0))) e
        ∙ sym (put-other (λ s. bit_xor (get_or row s 0) (mul (mul factor (get_or row q 0)) (get_or products s 0))) q (mul factor (get_or row q 0)) j d)
  ]

-- the product of list q itself is not asked for
pub taken_same : (mul : ℕ → ℕ → ℕ) (factor q v j : ℕ) (row : ℕ → ℕ) (products : List ℕ) → taken mul factor q row (slice_index (set products q v)) j ≡ taken mul factor q row (slice_index products) j
taken_same mul factor q v j row products = elim (cases_eq j q) [
  | inl e ↦
      ap (λ (s : ℕ). taken mul factor q row (slice_index (set products q v)) s) e ∙ put-same (λ s. bit_xor (row s) (mul (mul factor (row q)) (slice_index (set products q v) s))) q (mul factor (row q))
      ∙ sym (ap (λ (s : ℕ). taken mul factor q row (slice_index products) s) e ∙ put-same (λ s. bit_xor (row s) (mul (mul factor (row q)) (slice_index products s))) q (mul factor (row q)))
  | inr d ↦ ap (λ (y : ℕ). cond (eqb j q) (mul factor (row q)) (bit_xor (row j) (mul (mul factor (row q)) y))) (get_or-set_other products q j v 0 d)
]

-- a position as it is read
pub taken_row : (mul : ℕ → ℕ → ℕ) (factor q j : ℕ) (row other : ℕ → ℕ) (products : ℕ → ℕ) → row j ≡ other j → row q ≡ other q → taken mul factor q row products j ≡ taken mul factor q other products j
taken_row mul factor q j row other products e f =
    ap (λ (y : ℕ). cond (eqb j q) (mul factor (row q)) (bit_xor y (mul (mul factor (row q)) (products j)))) e
    ∙ ap (λ (y : ℕ). cond (eqb j q) (mul factor y) (bit_xor (other j) (mul (mul factor y) (products j)))) f
