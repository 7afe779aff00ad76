-- The first columns of a reduced form, the columns without a pivot, and the one value at a candidate
use Rattle.std.proofs.lemmas.Bool.{cases_lt, cases_eq}
use Rattle.std.proofs.Common.{◌≡◌, ◌≢◌, ℕ, zero, suc, ◌+◌, ◌<◌, ◌≤◌, sym, ◌∙◌, ap, subst, refl, inl, inr, arith}
use Rattle.field_theory.specs.Field.{IsField}
use Rattle.field_theory.specs.Sums.{xor_sum, put}
use Rattle.field_theory.proofs.Sums.{sum-same}
use Rattle.linear_theory.specs.Linear.{IsCombination, SameSpan, IsReduced, IsFree, IsCandidate, KeepsRank, rank, put_entry}
use Rattle.linear_theory.proofs.Spans.{put-same, put-other}
use Rattle.linear_theory.proofs.Ranks.{combination_of_rank}
use Rattle.linear_theory.proofs.Steps.{span_rank, span_iff}
use Rattle.linear_theory.proofs.Corners.{fill_value, candidate_value, put_entry-rank_same}
use Rattle.linear_theory.proofs.Reduced.{Rises, reduced_rank, reduced_factors}
use Rattle.linear_theory.proofs.Entries.{span_within}

-- of k rising numbers the first s are below j
pub record IsFront (p : ℕ → ℕ) (k j s : ℕ) : Type 0 where
  pub few : s ≤ k
  pub below : (t : ℕ) → t < s → p t < j
  pub past : (t : ℕ) → s ≤ t → t < k → j ≤ p t

pub front_of : (p : ℕ → ℕ) (k j : ℕ) → Rises p k → (s : ℕ) × IsFront p k j s
front_of p zero j h = (0, record { few = omega arith; below = λ t l. absurd (omega arith); past = λ t a l. absurd (omega arith) })
front_of p (suc k) j h =
    let ih : (s : ℕ) × IsFront p k j s = front_of p k j (λ t u a b. h t u a (omega arith)) in
    let few : ih.0 ≤ k = ih.1.few in
    elim (cases_lt (p k) j) [
      | inl l ↦ (
        suc k,
        record {
          few = omega arith;
          below = λ t u. elim (cases_eq t k) [
            | inl e ↦ subst (λ (q : ℕ). p q < j) (sym e) l
            | inr d ↦ let m : p t < p k = h t k (omega arith) (omega arith) in omega arith
          ];
          past = λ t a u. absurd (omega arith);
        },
      )
      | inr l ↦ (
        ih.0,
        record {
          few = omega arith;
          below = ih.1.below;
          past = λ t a u. elim (cases_eq t k) [
            | inl e ↦ subst (λ (q : ℕ). j ≤ p q) (sym e) l
            | inr d ↦ ih.1.past t a (omega arith)
          ];
        },
      )
    ]

-- the first j columns of a reduced form are reduced
pub reduced_front : {n : ℕ} {rows : ℕ → ℕ → ℕ} {r k : ℕ} (h : IsReduced n rows r k) (j s : ℕ) → j ≤ n → IsFront h.pivots k j s → IsReduced j rows r s
reduced_front {k = k} h j s l f = record {
  few = (let a = h.few in let b = f.few in omega arith);
  pivots = h.pivots;
  in_range = f.below;
  rising = λ t u a b. let c = f.few in h.rising t u a (omega arith);
  before = λ t q a b. let c = f.few in h.before t q (omega arith) b;
  columns = λ q t a b. let c = f.few in h.columns q t (omega arith) (omega arith);
  zeros = λ i q a b c. elim (cases_lt i k) [
    | inl u ↦ let d : j ≤ h.pivots i = f.past i a u in h.before i q u (omega arith)
    | inr u ↦ h.zeros i q u b (omega arith)
  ];
}

pub pivots-reduced_front : {n : ℕ} {rows : ℕ → ℕ → ℕ} {r k : ℕ} (h : IsReduced n rows r k) (j s : ℕ) (l : j ≤ n) (f : IsFront h.pivots k j s) (t : ℕ) → (reduced_front h j s l f).pivots t ≡ h.pivots t
unfolding reduced_front
pivots-reduced_front h j s l f t = refl

module _ (size : ℕ) (mul : ℕ → ℕ → ℕ) (field : IsField size mul) where
  -- a column without a pivot adds nothing
  pub reduced_free : (n : ℕ) (rows : ℕ → ℕ → ℕ) (r k j : ℕ) → (h : IsReduced n rows r k) → j < n → ((t : ℕ) → t < k → h.pivots t ≢ j) → IsFree size mul rows r j
  reduced_free n rows r k j h l d =
      let f : (s : ℕ) × IsFront h.pivots k j s = front_of h.pivots k j h.rising in
      let few : f.0 ≤ k = f.1.few in
      let more : IsFront h.pivots k (suc j) f.0 = record {
        few = few;
        below = λ t u. let w : h.pivots t < j = f.1.below t u in omega arith;
        past = λ t a u. let w : j ≤ h.pivots t = f.1.past t a u in let e : h.pivots t ≢ j = d t u in omega arith;
      } in
      record { adds_nothing = reduced_rank size mul field (suc j) rows r f.0 (reduced_front h (suc j) f.0 l more) ∙ sym (reduced_rank size mul field j rows r f.0 (reduced_front h j f.0 (omega arith) f.1)) }

  -- a column with a pivot adds 1
  pub reduced_pivot_adds : (n : ℕ) (rows : ℕ → ℕ → ℕ) (r k t : ℕ) → (h : IsReduced n rows r k) → t < k → rank size mul (suc (h.pivots t)) rows r ≡ rank size mul (h.pivots t) rows r + 1
  reduced_pivot_adds n rows r k t h l =
      let low : h.pivots t < n = h.in_range t l in
      let before : IsFront h.pivots k (h.pivots t) t = record {
        few = omega arith;
        below = λ u a. h.rising u t a l;
        past = λ u a b. elim (cases_eq u t) [
          | inl e ↦ subst (λ (q : ℕ). h.pivots t ≤ h.pivots q) (sym e) (omega arith)
          | inr d ↦ let w : h.pivots t < h.pivots u = h.rising t u (omega arith) b in omega arith
        ];
      } in
      let after : IsFront h.pivots k (suc (h.pivots t)) (suc t) = record {
        few = omega arith;
        below = λ u a. elim (cases_eq u t) [
          | inl e ↦ subst (λ (q : ℕ). h.pivots q < suc (h.pivots t)) (sym e) (omega arith)
          | inr d ↦ let w : h.pivots u < h.pivots t = h.rising u t (omega arith) l in omega arith
        ];
        past = λ u a b. let w : h.pivots t < h.pivots u = h.rising t u (omega arith) b in omega arith;
      } in
      let one : rank size mul (suc (h.pivots t)) rows r ≡ suc t = reduced_rank size mul field (suc (h.pivots t)) rows r (suc t) (reduced_front h (suc (h.pivots t)) (suc t) low after) in
      let two : rank size mul (h.pivots t) rows r ≡ t = reduced_rank size mul field (h.pivots t) rows r t (reduced_front h (h.pivots t) t (omega arith) before) in
      omega arith

  -- rows that span the same have the same free columns
  pub free_span : (n : ℕ) (rows others : ℕ → ℕ → ℕ) (r s j : ℕ) → ((i q : ℕ) → rows i q < size) → ((i q : ℕ) → others i q < size) → SameSpan mul n rows r others s → j < n → IsFree size mul rows r j → IsFree size mul others s j
  free_span n rows others r s j b c e l h = record {
    adds_nothing = sym (span_rank size mul field b c (span_within (suc j) l e)) ∙ h.adds_nothing ∙ span_rank size mul field b c (span_within j (omega arith) e);
  }

  -- a pivot of the reduced form is in no free column
  pub reduced_not_free : (n : ℕ) (rows : ℕ → ℕ → ℕ) (r k t : ℕ) → (h : IsReduced n rows r k) → t < k → IsFree size mul rows r (h.pivots t) → ⊥
  reduced_not_free n rows r k t h l f =
      let one : rank size mul (suc (h.pivots t)) rows r ≡ rank size mul (h.pivots t) rows r + 1 = reduced_pivot_adds n rows r k t h l in
      let two : rank size mul (suc (h.pivots t)) rows r ≡ rank size mul (h.pivots t) rows r = f.adds_nothing in
      omega arith

  -- At a candidate the one value that keeps the rank, from the reduced form of the rows above
  pub residue_keeps : (S rows : ℕ → ℕ → ℕ) (i j k : ℕ) → ((p q : ℕ) → S p q < size) → ((p q : ℕ) → rows p q < size) → (h : IsReduced (suc j) rows i k) → SameSpan mul (suc j) S i rows i → IsCandidate size mul S i j
      → KeepsRank size mul S i j (xor_sum k (λ t. mul (S i (h.pivots t)) (rows t j)))
  residue_keeps S rows i j k b c h e w =
      let fill : (x : ℕ) × (x < size) × IsCombination mul (suc j) S i (put (S i) j x) = fill_value size mul field S i j (combination_of_rank size mul field j S i w.row) in
      let free : IsFree size mul rows i j = free_span (suc j) S rows i i j b c e (omega arith) (record { adds_nothing = w.column }) in
      let over : IsCombination mul (suc j) rows i (put (S i) j fill.0) = (span_iff size mul field (put (S i) j fill.0) e).0 fill.2 in
      let value : fill.0 ≡ xor_sum k (λ t. mul (S i (h.pivots t)) (rows t j)) =
      sym (put-same (S i) j fill.0) ∙ reduced_factors size mul field (suc j) rows i k (put (S i) j fill.0) c h over j (omega arith)
      ∙ sum-same k (λ t. mul (put (S i) j fill.0 (h.pivots t)) (rows t j)) (λ t. mul (S i (h.pivots t)) (rows t j))
      (λ t l. ap (λ y. mul y (rows t j)) (put-other (S i) j fill.0 (h.pivots t) (λ d. reduced_not_free (suc j) rows i k t h l (subst (λ (q : ℕ). IsFree size mul rows i q) (sym d) free)))) in
      record { rank_is = subst (λ (x : ℕ). rank size mul (suc j) (put_entry S i j x) (suc i) ≡ rank size mul j S i) value (put_entry-rank_same size mul field S i j fill.0 (suc j) fill.2 ∙ w.column) }

  pub keeps_unique : (S : ℕ → ℕ → ℕ) (i j x y : ℕ) → ((p q : ℕ) → S p q < size) → IsCandidate size mul S i j → x < size → y < size → KeepsRank size mul S i j x → KeepsRank size mul S i j y → x ≡ y
  keeps_unique S i j x y b w lx ly hx hy =
      let v : (z : ℕ) × (z < size) × (rank size mul (suc j) (put_entry S i j z) (suc i) ≡ rank size mul j S i)
      × ((u : ℕ) → u < size → u ≢ z → rank size mul (suc j) (put_entry S i j u) (suc i) ≡ rank size mul j S i + 1) = candidate_value size mul field S b i j w.row w.column in
      let at : (u : ℕ) → u < size → KeepsRank size mul S i j u → u ≡ v.0 = λ u l k. elim (cases_eq u v.0) [
        | inl e ↦ e
        | inr d ↦ absurd (let g : rank size mul (suc j) (put_entry S i j u) (suc i) ≡ rank size mul j S i + 1 = v.3 u l d in let f : rank size mul (suc j) (put_entry S i j u) (suc i) ≡ rank size mul j S i = k.rank_is in omega arith)
      ] in
      at x lx hx ∙ sym (at y ly hy)
