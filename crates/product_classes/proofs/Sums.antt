-- Columns of products, and their combinations
use Rattle.std.proofs.Common.{ℕ, zero, suc, ◌≡◌, ◌+◌, ◌*◌, ◌<◌, List, [], length, set, get_or, All, sym, ◌∙◌, ap, subst, inl, inr, arith, bit_xor}
use Rattle.std.specs.Prelude.{slice_index, slice_index_or}
use Rattle.std.proofs.lemmas.Bool.{cases_eq}
use Rattle.std.proofs.lemmas.List.{get_or-set_same, get_or-set_other, get_or_default}
use Rattle.field_theory.specs.Sums.{xor_sum}
use Rattle.field_theory.proofs.Sums.{sum-same, sum-zero}
use Rattle.gf_theory.specs.Field.{gf_mul}
use Rattle.linear_theory.specs.Linear.{dot}
use Rattle.gf_linear.specs.Cells.{cell}
use Rattle.order_theory.specs.Basis.{Basis, IsSoundBasis, times, vector}
use Rattle.order_theory.specs.Errors.{entry}
use Rattle.product_classes.specs.Columns.{AreOthersKept}
use Rattle.product_classes.proofs.Places.{one_pair}

pub all_below : (xs : List ℕ) (s : ℕ) → ((q : ℕ) → q < length xs → get_or xs q 0 < s) → All (λ a. a < s) xs
all_below xs s h q d l = subst (λ (x : ℕ). x < s) (get_or_default xs q 0 d l) (h q l)

-- the entry of a list, by its products with one vector
pub entry_is : (b : Basis) (w row left right : List ℕ) (bits modulus bits' modulus' i j k x : ℕ) → IsSoundBasis b → bits ≡ b.bits → modulus ≡ b.modulus → bits' ≡ b.bits → modulus' ≡ b.modulus
    → left ≡ slice_index_or b.vectors i [] → right ≡ slice_index_or b.vectors j [] → k ≡ b.n → length row ≡ b.n
    → ((p : ℕ) → p < k → slice_index row p ≡ gf_mul bits modulus (slice_index w p) (slice_index left p))
    → x ≡ dot (gf_mul bits' modulus') (length row) (slice_index row) (slice_index right) → x ≡ entry (times b) b w i j
entry_is b w row left right bits modulus bits' modulus' i j k x h e1 e2 e3 e4 el er ek long products e =
    e
    ∙ ap (λ (m : ℕ). dot (gf_mul m modulus') (length row) (slice_index row) (slice_index right)) e3
    ∙ ap (λ (m : ℕ). dot (gf_mul b.bits m) (length row) (slice_index row) (slice_index right)) e4
    ∙ ap (λ (v : List ℕ). dot (times b) (length row) (slice_index row) (slice_index v)) er
    ∙ ap (λ (n : ℕ). dot (times b) n (slice_index row) (vector b j)) long
    ∙ sum-same b.n (λ p. times b (slice_index row p) (vector b j p)) (λ p. times b (slice_index w p) (times b (vector b i p) (vector b j p)))
    (λ p l.
    let was : slice_index row p ≡ times b (slice_index w p) (vector b i p) =
    products p (omega arith)
    ∙ ap (λ (m : ℕ). gf_mul m modulus (slice_index w p) (slice_index left p)) e1
    ∙ ap (λ (m : ℕ). gf_mul b.bits m (slice_index w p) (slice_index left p)) e2
    ∙ ap (λ (v : List ℕ). times b (slice_index w p) (slice_index v p)) el in
    ap (λ (y : ℕ). times b y (vector b j p)) was ∙ h.sound.field.mul_assoc (slice_index w p) (vector b i p) (vector b j p))

-- one position more of a class
pub class_more : (width class q x size : ℕ) (f : ℕ → ℕ) (columns now : List ℕ) → class < width → q * width + class < length now → x ≡ f q
    → ((p : ℕ) → p < q → cell now width p class ≡ f p) → (p : ℕ) → p < q + 1 → cell (set now (q * width + class) x) width p class ≡ f p
class_more width class q x size f columns now lc room e h p l = elim (cases_eq p q) [
  | inl g ↦ ap (λ (r : ℕ). cell (set now (q * width + class) x) width r class) g ∙ get_or-set_same now (q * width + class) x 0 room ∙ e ∙ sym (ap f g)
  | inr d ↦ get_or-set_other now (q * width + class) (p * width + class) x 0 (λ g. d (one_pair width p class q class lc lc g).0) ∙ h p (omega arith)
]

pub others_more : (width class q x : ℕ) (columns now : List ℕ) → class < width → AreOthersKept width class columns now → AreOthersKept width class columns (set now (q * width + class) x)
others_more width class q x columns now lc h = record {
  kept = λ p c l d. get_or-set_other now (q * width + class) (p * width + c) x 0 (λ g. d (one_pair width p c q class l lc g).1) ∙ h.kept p c l d;
}

-- a sum whose first terms are 0
pub sum-drop : (n first : ℕ) (f : ℕ → ℕ) → ((p : ℕ) → p < first → f p ≡ 0) → xor_sum (first + n) f ≡ xor_sum n (λ p. f (first + p))
sum-drop zero first f h = ap (λ (k : ℕ). xor_sum k f) (let e : first + 0 ≡ first = omega arith in e) ∙ sum-zero first f h
sum-drop (suc n) first f h =
    ap (λ (k : ℕ). xor_sum k f) (let e : first + suc n ≡ suc (first + n) = omega arith in e)
    ∙ ap (λ (x : ℕ). bit_xor x (f (first + n))) (sum-drop n first f h)
