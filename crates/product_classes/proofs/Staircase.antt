-- How far the sums of rows are below a limit
use Rattle.std.proofs.Common.{ℕ, ◌≡◌, ◌≢◌, ◌+◌, ◌-◌, ◌<◌, ◌≤◌, List, length, set, sym, ◌∙◌, ap, subst, inl, inr, arith}
use Rattle.std.specs.Prelude.{slice_index}
use Rattle.std.proofs.lemmas.Bool.{cases_eq, cases_lt}
use Rattle.std.proofs.lemmas.List.{get_or-set_same, get_or-set_other}
use Rattle.order_theory.specs.Basis.{Basis, IsSoundBasis, sum_at}
use Rattle.product_classes.specs.Table.{AreReaches}

-- the rows below i are done, and the rows from i on reach no further than `most`
pub record AreReaching (b : Basis) (limit i most : ℕ) (reaches : List ℕ) : Type 0 where
  pub low_most : most ≤ b.n
  pub within : (p : ℕ) → p < i → slice_index reaches p ≤ b.n
  pub below : (p j : ℕ) → p < i → j < slice_index reaches p → sum_at b p j < limit
  pub all : (p j : ℕ) → p < i → j < b.n → sum_at b p j < limit → j < slice_index reaches p
  pub falls : (p q : ℕ) → p ≤ q → q < i → slice_index reaches q ≤ slice_index reaches p
  pub lasts : (p : ℕ) → p < i → most ≤ slice_index reaches p
  pub ahead : (p j : ℕ) → i ≤ p → p < b.n → j < b.n → sum_at b p j < limit → j < most

pub reaching_none : (b : Basis) (limit most : ℕ) (reaches : List ℕ) → most ≡ b.n → AreReaching b limit 0 most reaches
reaching_none b limit most reaches e = record {
  low_most = omega arith;
  within = λ p l. absurd (omega arith);
  below = λ p j l u. absurd (omega arith);
  all = λ p j l u v. absurd (omega arith);
  falls = λ p q u l. absurd (omega arith);
  lasts = λ p l. absurd (omega arith);
  ahead = λ p j u lp lj l. omega arith;
}

module _ (b : Basis) (limit i most r : ℕ) (reaches : List ℕ) (sound : IsSoundBasis b) (low : limit ≤ b.count) (li : i < b.n) (room : i < length reaches)
    (within : r ≤ most) (last : (j : ℕ) → j + 1 ≡ r → sum_at b i j < limit) (after : (j : ℕ) → r ≤ j → j < most → limit ≤ sum_at b i j) (h : AreReaching b limit i most reaches) where
  here : slice_index (set reaches i r) i ≡ r
  here = get_or-set_same reaches i r 0 room

  there : (p : ℕ) → p ≢ i → slice_index (set reaches i r) p ≡ slice_index reaches p
  there p d = get_or-set_other reaches i p r 0 d

  below_here : (j : ℕ) → j < r → sum_at b i j < limit
  below_here j l = elim (cases_eq (j + 1) r) [
    | inl e ↦ last j e
    | inr d ↦
        let k : ℕ = r - 1 in
        let top : sum_at b i k < limit = last k (omega arith) in
        let less : sum_at b i j < sum_at b i k = sound.sound.sums_order.rise.rises i k i j li (omega (arith, h.low_most)) (omega arith) (omega arith) (omega arith) (omega arith) in
        omega arith
  ]

  all_here : (j : ℕ) → j < b.n → sum_at b i j < limit → j < r
  all_here j lj l = elim (cases_lt j r) [
    | inl u ↦ u
    | inr u ↦ absurd (omega (arith, after j (omega arith) (h.ahead i j (omega arith) li lj l)))
  ]

  pub reaching_more : AreReaching b limit (i + 1) r (set reaches i r)
  reaching_more = record {
    low_most = omega (arith, h.low_most);
    within = λ p l. elim (cases_eq p i) [
      | inr d ↦ subst (λ (x : ℕ). x ≤ b.n) (sym (there p d)) (h.within p (omega arith))
      | inl e ↦ let f : slice_index (set reaches i r) p ≡ r = ap (λ (x : ℕ). slice_index (set reaches i r) x) e ∙ here in omega (arith, h.low_most)
    ];
    below = λ p j l u. elim (cases_eq p i) [
      | inr d ↦ h.below p j (omega arith) (omega (arith, there p d))
      | inl e ↦
          let f : slice_index (set reaches i r) p ≡ r = ap (λ (x : ℕ). slice_index (set reaches i r) x) e ∙ here in
          let k : sum_at b i j < limit = below_here j (omega arith) in
          subst (λ (x : ℕ). sum_at b x j < limit) (sym e) k
    ];
    all = λ p j l lj u. elim (cases_eq p i) [
      | inr d ↦ let w = h.all p j (omega arith) lj u in omega (arith, there p d)
      | inl e ↦
          let f : slice_index (set reaches i r) p ≡ r = ap (λ (x : ℕ). slice_index (set reaches i r) x) e ∙ here in
          let w : j < r = all_here j lj (subst (λ (x : ℕ). sum_at b x j < limit) e u) in
          omega arith
    ];
    falls = λ p q u l. elim (cases_eq q i) [
      | inr d ↦ let w = h.falls p q u (omega arith) in omega (arith, there p (omega arith), there q d)
      | inl e ↦
          let f : slice_index (set reaches i r) q ≡ r = ap (λ (x : ℕ). slice_index (set reaches i r) x) e ∙ here in
          elim (cases_eq p i) [
            | inl g ↦ let k : slice_index (set reaches i r) p ≡ r = ap (λ (x : ℕ). slice_index (set reaches i r) x) g ∙ here in omega arith
            | inr d ↦ let w = h.lasts p (omega arith) in omega (arith, there p d)
          ]
    ];
    lasts = λ p l. elim (cases_eq p i) [
      | inr d ↦ let w = h.lasts p (omega arith) in omega (arith, there p d)
      | inl e ↦ let f : slice_index (set reaches i r) p ≡ r = ap (λ (x : ℕ). slice_index (set reaches i r) x) e ∙ here in omega arith
    ];
    ahead = λ p j u lp lj l.
        let less : sum_at b i j < sum_at b p j = sound.sound.sums_order.rise.rises p j i j lp lj (omega arith) (omega arith) (omega arith) (omega arith) in
        all_here j lj (omega arith);
  }

pub reaching_all : (b : Basis) (limit i most : ℕ) (reaches : List ℕ) → b.n ≤ i → AreReaching b limit i most reaches → AreReaches b limit reaches
reaching_all b limit i most reaches u h = record {
  within = λ p l. h.within p (omega arith);
  below = λ p j l v. h.below p j (omega arith) v;
  all = λ p j l lj v. h.all p j (omega arith) lj v;
  falls = λ p q v l. h.falls p q v (omega arith);
}
