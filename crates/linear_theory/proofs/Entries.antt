-- Words on rows see the entries below a number of rows and of columns alone
use Rattle.std.proofs.Common.{◌≡◌, ℕ, ◌<◌, ◌≤◌, sym, ◌∙◌, ap, arith}
use Rattle.field_theory.specs.Field.{IsField}
use Rattle.field_theory.proofs.Sums.{sum-same}
use Rattle.linear_theory.specs.Linear.{dot, IsCombination, AreIndependent, SameSpan, IsReduced, IsDual, IsGreatestNumber, rank}
use Rattle.linear_theory.proofs.Exchange.{combination_rows}
use Rattle.linear_theory.proofs.Spans.{combination_same}
use Rattle.linear_theory.proofs.Bases.{rank_reached, rank_greatest}

-- the same entries below n, in the rows below r
abbrev pub AreSame : ℕ → ℕ → (ℕ → ℕ → ℕ) → (ℕ → ℕ → ℕ) → Type 0
AreSame n r rows others = (i : ℕ) → i < r → (j : ℕ) → j < n → rows i j ≡ others i j

pub reduced_entries : {n : ℕ} {rows : ℕ → ℕ → ℕ} {r k : ℕ} (others : ℕ → ℕ → ℕ) → AreSame n r rows others → IsReduced n rows r k → IsReduced n others r k
reduced_entries others e h = record {
  few = h.few;
  pivots = h.pivots;
  in_range = h.in_range;
  rising = h.rising;
  before = λ t j l u.
      let few = h.few in
      let low : h.pivots t < _ = h.in_range t l in
      sym (e t (omega arith) j (omega arith)) ∙ h.before t j l u;
  columns = λ q t l u. let few = h.few in sym (e q (omega arith) (h.pivots t) (h.in_range t u)) ∙ h.columns q t l u;
  zeros = λ i j a b c. sym (e i b j c) ∙ h.zeros i j a b c;
}

pub dot_entries : (mul : ℕ → ℕ → ℕ) (n : ℕ) (x y v w : ℕ → ℕ) → ((p : ℕ) → p < n → x p ≡ v p) → ((p : ℕ) → p < n → y p ≡ w p) → dot mul n x y ≡ dot mul n v w
dot_entries mul n x y v w e f =
    sum-same n (λ p. mul (x p) (y p)) (λ p. mul (v p) (w p)) (λ p l. ap (λ z. mul z (y p)) (e p l) ∙ ap (λ z. mul (v p) z) (f p l))

pub dual_entries : {mul : ℕ → ℕ → ℕ} {n : ℕ} {rows duals : ℕ → ℕ → ℕ} (others others2 : ℕ → ℕ → ℕ) → AreSame n n rows others → AreSame n n duals others2 → IsDual mul n rows duals → IsDual mul n others others2
dual_entries {mul = mul} {n = n} {rows = rows} {duals = duals} others others2 e f h = record {
  products = λ i j l u. sym (dot_entries mul n (rows i) (duals j) (others i) (others2 j) (e i l) (f j u)) ∙ h.products i j l u;
}

pub independent_entries : {size : ℕ} {mul : ℕ → ℕ → ℕ} {n : ℕ} {rows : ℕ → ℕ → ℕ} {r : ℕ} (others : ℕ → ℕ → ℕ) → AreSame n r rows others → AreIndependent size mul n rows r → AreIndependent size mul n others r
independent_entries {mul = mul} {rows = rows} {r = r} others e h = record {
  only_zero = λ c b z. h.only_zero c b (λ j l. sum-same r (λ i. mul (c i) (rows i j)) (λ i. mul (c i) (others i j)) (λ i u. ap (λ x. mul (c i) x) (e i u j l)) ∙ z j l);
}

-- a combination on more columns is one on fewer
pub combination_within : {mul : ℕ → ℕ → ℕ} {n : ℕ} {rows : ℕ → ℕ → ℕ} {r : ℕ} {v : ℕ → ℕ} (m : ℕ) → m ≤ n → IsCombination mul n rows r v → IsCombination mul m rows r v
combination_within m l h = record { factors = h.factors; is_sum = λ j u. h.is_sum j (omega arith) }

pub span_within : {mul : ℕ → ℕ → ℕ} {n : ℕ} {rows : ℕ → ℕ → ℕ} {r : ℕ} {others : ℕ → ℕ → ℕ} {s : ℕ} (m : ℕ) → m ≤ n → SameSpan mul n rows r others s → SameSpan mul m rows r others s
span_within m l h = record { forth = λ i u. combination_within m l (h.forth i u); back = λ i u. combination_within m l (h.back i u) }

module _ (size : ℕ) (mul : ℕ → ℕ → ℕ) (field : IsField size mul) where
  pub span_entries : {n : ℕ} {rows : ℕ → ℕ → ℕ} {r : ℕ} {others : ℕ → ℕ → ℕ} {s : ℕ} (rows2 others2 : ℕ → ℕ → ℕ) → AreSame n r rows rows2 → AreSame n s others others2 → SameSpan mul n rows r others s → SameSpan mul n rows2 r others2 s
  span_entries rows2 others2 e f h = record {
    forth = λ i l. combination_rows others2 f (combination_same size mul field (rows2 i) (h.forth i l) (e i l));
    back = λ i l. combination_rows rows2 e (combination_same size mul field (others2 i) (h.back i l) (f i l));
  }

  -- the rank is the greatest number of independent rows
  pub greatest_of_rank : (n : ℕ) (rows : ℕ → ℕ → ℕ) (r : ℕ) → ((i j : ℕ) → rows i j < size) → IsGreatestNumber size mul n rows r (rank size mul n rows r)
  greatest_of_rank n rows r b =
      let p : (picks : ℕ → ℕ) × ((t : ℕ) → t < rank size mul n rows r → picks t < r) × AreIndependent size mul n (λ t. rows (picks t)) (rank size mul n rows r) = rank_reached size mul field n rows r b in
      record { picks = p.0; within = p.1; independent = p.2; greatest = λ others s w h. rank_greatest size mul field n rows r b others s w h }
