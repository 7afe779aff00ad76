-- The known part of a matrix, as it grows along sums
use Rattle.std.proofs.Common.{ℕ, ◌≡◌, ◌≢◌, zero, suc, ◌+◌, ◌^◌, ◌<◌, ◌≤◌, List, sym, ◌∙◌, ap, subst, inl, inr, arith, length}
use Rattle.std.specs.Prelude.{slice_index}
use Rattle.std.proofs.lemmas.Bool.{cases_eq, cases_lt}
use Rattle.std.proofs.lemmas.List.{get_or-set_same, get_or-set_other, get_or-replicate, length-replicate, length-set}
use Rattle.field_theory.proofs.Sums.{eq_or_below}
use Rattle.order_theory.specs.Basis.{Basis, IsSoundBasis, IsWord, times, sum_at, rank_at}
use Rattle.order_theory.specs.Errors.{entry}
use Rattle.order_theory.specs.Voting.{SameBelow}
use Rattle.order_theory.proofs.Distances.{entries_below}
use Rattle.order_theory.proofs.Theorems.{known_law}
use Rattle.vote_matrix.specs.Elimination.{Elimination, IsEliminationOf, IsEmpty, Grows}
use Rattle.vote_matrix.proofs.Same.{elimination_same}
use Rattle.vote_core.specs.Reading.{IsWidth, IsSettled, IsRead}

-- a smaller pair has a smaller sum
pub smaller : (b : Basis) (i j p q : ℕ) → IsSoundBasis b → i < b.n → j < b.n → p ≤ i → q ≤ j → p + q < i + j → sum_at b i j < b.count → sum_at b p q < sum_at b i j
smaller b i j p q h li lj lp lq l few = h.sound.sums_order.rise.rises i j p q li lj lp lq l few

-- the entries of a list are symbols of the matrix
pub entries_fit : (b : Basis) (w : List ℕ) (m : Elimination) → IsSoundBasis b → m.bits ≡ b.bits → (i j : ℕ) → entry (times b) b w i j < 2 ^ m.bits
entries_fit b w m h e i j = subst (λ (x : ℕ). entry (times b) b w i j < 2 ^ x) (sym e) (entries_below (times b) b h.sound (slice_index w) i j)

-- at first nothing is known
pub settled_none : (b : Basis) (m : Elimination) (s bits modulus n most : ℕ) → bits ≡ b.bits → modulus ≡ b.modulus → n ≡ b.n → IsEmpty bits modulus n most m → IsSettled b m s 0
settled_none b m s bits modulus n most e1 e2 e3 e = record {
  bits = e.bits_are ∙ e1;
  modulus = e.modulus_is ∙ e2;
  n = e.n_is ∙ e3;
  long = ap (λ (xs : List ℕ). length xs) e.known ∙ length-replicate n 0 ∙ e3;
  wide = λ p lp. let z : slice_index m.known p ≡ 0 = ap (λ (xs : List ℕ). slice_index xs p) e.known ∙ get_or-replicate n p 0 0 (omega arith) in omega arith;
  within = λ p q lp l. let z : slice_index m.known p ≡ 0 = ap (λ (xs : List ℕ). slice_index xs p) e.known ∙ get_or-replicate n p 0 0 (omega arith) in absurd (omega arith);
  above = λ p q l lq f. absurd (omega arith);
}

pub read_none : (b : Basis) (w : List ℕ) (m : Elimination) (s bits modulus n most : ℕ) → IsSoundBasis b → bits ≡ b.bits → modulus ≡ b.modulus → n ≡ b.n → IsEmpty bits modulus n most m → IsRead b w m s 0
read_none b w m s bits modulus n most h e1 e2 e3 e = record {
  settled = settled_none b m s bits modulus n most e1 e2 e3 e;
  matrix = e.of_all (entry (times b) b w) (λ i j. subst (λ (x : ℕ). entry (times b) b w i j < 2 ^ x) (sym e1) (entries_below (times b) b h.sound (slice_index w) i j));
}

-- a greater limit
pub settled_later : (b : Basis) (m : Elimination) (s s' i : ℕ) → s ≤ s' → IsSettled b m s i → IsSettled b m s' 0
settled_later b m s s' i l a = record {
  bits = a.bits;
  modulus = a.modulus;
  n = a.n;
  long = a.long;
  wide = a.wide;
  within = λ p q lp u. let v : sum_at b p q < s = a.within p q lp u in omega arith;
  above = λ p q u lq v. absurd (omega arith);
}

-- a list with the same syndromes below k has the same matrix as far as it is known
pub elimination_moved : (b : Basis) (w w' : List ℕ) (m : Elimination) (k i : ℕ) → IsSoundBasis b → IsWord b.bits b.n w → IsWord b.bits b.n w' → k < b.n → SameBelow (times b) b w w' k
    → IsSettled b m (rank_at b k) i → IsEliminationOf (entry (times b) b w) m → IsEliminationOf (entry (times b) b w') m
elimination_moved b w w' m k i h ww ww' lk same a e =
    let n : m.n ≡ b.n = a.n in
    elimination_same m (entry (times b) b w) (entry (times b) b w') (entries_fit b w' m h a.bits)
    (λ p q lp lq. let l : slice_index m.known p ≤ b.n = a.wide p (omega arith) in (known_law (times b) b w w' k h.sound ww ww' lk same).before p q (omega arith) (omega arith) (a.within p q (omega arith) lq)) e

-- row i grows
module _ (m m' : Elimination) (i len : ℕ) (li : i < length m.known) (g : Grows m i len m') where
  pub known_here : slice_index m'.known i ≡ slice_index m.known i + len
  known_here = ap (λ (xs : List ℕ). slice_index xs i) g.known ∙ get_or-set_same m.known i (slice_index m.known i + len) 0 li

  pub known_there : (p : ℕ) → p ≢ i → slice_index m'.known p ≡ slice_index m.known p
  known_there p d = ap (λ (xs : List ℕ). slice_index xs p) g.known ∙ get_or-set_other m.known i p (slice_index m.known i + len) 0 d

module _ (b : Basis) (m : Elimination) (s i to : ℕ) (a : IsSettled b m s i) (li : i < b.n) (wide : IsWidth b s i to) where
  -- row i grows to its width
  pub settled_grown : (m' : Elimination) (len : ℕ) → slice_index m.known i + len ≡ to → Grows m i len m' → IsSettled b m' s (i + 1)
  settled_grown m' len e g =
      let long : length m.known ≡ b.n = a.long in
      let here : slice_index m'.known i ≡ slice_index m.known i + len = known_here m m' i len (omega arith) g in
      let there : (p : ℕ) → p ≢ i → slice_index m'.known p ≡ slice_index m.known p = known_there m m' i len (omega arith) g in
      record {
        bits = g.bits ∙ a.bits;
        modulus = g.modulus ∙ a.modulus;
        n = g.n ∙ a.n;
        long = ap (λ (xs : List ℕ). length xs) g.known ∙ length-set m.known i (slice_index m.known i + len) ∙ a.long;
        wide = λ p lp. elim (cases_eq p i) [
          | inr d ↦ let f : slice_index m'.known p ≡ slice_index m.known p = there p d in let l : slice_index m.known p ≤ b.n = a.wide p lp in omega arith
          | inl f ↦ let f' : slice_index m'.known p ≡ slice_index m'.known i = ap (λ (r : ℕ). slice_index m'.known r) f in let l : to ≤ b.n = wide.inside in omega arith
        ];
        within = λ p q lp u. elim (cases_eq p i) [
          | inr d ↦ let f : slice_index m'.known p ≡ slice_index m.known p = there p d in a.within p q lp (omega arith)
          | inl f ↦
              let f' : slice_index m'.known p ≡ slice_index m'.known i = ap (λ (r : ℕ). slice_index m'.known r) f in
              subst (λ (r : ℕ). sum_at b r q < s) (sym f) (wide.below q (omega arith))
        ];
        above = λ p q lp lq u. elim (eq_or_below p i (let v : p < suc i = omega arith in v)) [
          | inr v ↦ let f : slice_index m'.known p ≡ slice_index m.known p = there p (λ d. omega arith) in let old : q < slice_index m.known p = a.above p q v lq u in omega arith
          | inl f ↦
              let f' : slice_index m'.known p ≡ slice_index m'.known i = ap (λ (r : ℕ). slice_index m'.known r) f in
              let in_row : q < to = wide.all q lq (subst (λ (r : ℕ). sum_at b r q < s) f u) in
              omega arith
        ];
      }

  -- it had it before
  pub settled_same : to ≤ slice_index m.known i → IsSettled b m s (i + 1)
  settled_same l = record {
    bits = a.bits;
    modulus = a.modulus;
    n = a.n;
    long = a.long;
    wide = a.wide;
    within = a.within;
    above = λ p q lp lq u. elim (eq_or_below p i (let v : p < suc i = omega arith in v)) [
      | inr v ↦ a.above p q v lq u
      | inl f ↦
          let f' : slice_index m.known p ≡ slice_index m.known i = ap (λ (r : ℕ). slice_index m.known r) f in
          let in_row : q < to = wide.all q lq (subst (λ (r : ℕ). sum_at b r q < s) f u) in
          omega arith
    ];
  }

-- where a row has no known entry, no row below it has one
pub settled_rest : (b : Basis) (m : Elimination) (s i : ℕ) → IsSoundBasis b → s ≤ b.count → i < b.n → IsSettled b m s (i + 1) → slice_index m.known i ≡ 0 → IsSettled b m s b.n
settled_rest b m s i h few li a z = record {
  bits = a.bits;
  modulus = a.modulus;
  n = a.n;
  long = a.long;
  wide = a.wide;
  within = a.within;
  above = λ p q lp lq u. elim (cases_lt p (i + 1)) [
    | inl v ↦ a.above p q v lq u
    | inr v ↦
        let less : sum_at b i 0 < sum_at b p q = smaller b p q i 0 h lp lq (omega arith) (omega arith) (omega arith) (omega arith) in
        let known : 0 < slice_index m.known i = a.above i 0 (omega arith) (omega arith) (omega arith) in
        absurd (omega arith)
  ];
}

-- a row above is known as far as the width of this one
pub above_width : (b : Basis) (m : Elimination) (s i to p : ℕ) → IsSoundBasis b → s ≤ b.count → IsSettled b m s i → i < b.n → IsWidth b s i to → p < i → to ≤ slice_index m.known p
above_width b m s i to p h few a li wide lp = go to wide.inside wide.below
  where
    go : (to : ℕ) → to ≤ b.n → ((q : ℕ) → q < to → sum_at b i q < s) → to ≤ slice_index m.known p
    go zero inside below = omega arith
    go (suc q) inside below =
        let here : sum_at b i q < s = below q (omega arith) in
        let less : sum_at b p q < sum_at b i q = smaller b i q p q h li (omega arith) (omega arith) (omega arith) (omega arith) (omega arith) in
        let known : q < slice_index m.known p = a.above p q lp (omega arith) (omega arith) in
        omega arith

-- the one column of row i that may have the sum k is the next one
pub only_column : (b : Basis) (m : Elimination) (k i j : ℕ) → IsSoundBasis b → k < b.n → IsSettled b m (rank_at b k) b.n → i < b.n → j < b.n → sum_at b i j ≡ rank_at b k → j ≡ slice_index m.known i
only_column b m k i j h lk a li lj e =
    let few : rank_at b k < b.count = h.sound.shape.ranks_below k lk in
    let reach : slice_index m.known i ≤ b.n = a.wide i li in
    elim (cases_lt j (slice_index m.known i)) [
      | inl u ↦ let v : sum_at b i j < rank_at b k = a.within i j li u in absurd (omega arith)
      | inr u ↦ elim (cases_eq j (slice_index m.known i)) [
        | inl f ↦ f
        | inr d ↦
            let v : sum_at b i (slice_index m.known i) < sum_at b i j = smaller b i j i (slice_index m.known i) h li lj (omega arith) u (omega arith) (omega arith) in
            let t : slice_index m.known i < slice_index m.known i = a.above i (slice_index m.known i) li (omega arith) (omega arith) in
            absurd (omega arith)
      ]
    ]
