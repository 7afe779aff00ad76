-- A basis is determined by its domain, modulus and points
use Rattle.std.proofs.Common.{◌≡◌, ◌≢◌, ℕ, zero, suc, ◌^◌, ◌<◌, ◌≤◌, List, [], length, get_or, All, sym, ◌∙◌, ap, subst, refl, inl, inr, arith}
use Rattle.std.proofs.lemmas.Bool.{cases_order}
use Rattle.std.proofs.lemmas.List.{same_lists, get_or_default}
use Rattle.std.proofs.lemmas.List.Elements.{All-get_or}
use Rattle.std.proofs.lemmas.Grind.{same_number_lists}
use Rattle.field_theory.proofs.Sums.{eq_or_below}
use Rattle.counting_theory.specs.Votes.{pairs}
use Rattle.gf_theory.specs.Field.{gf_mul}
use Rattle.linear_theory.specs.Linear.{combine, IsCombination, IsDual}
use Rattle.linear_theory.proofs.Duals.{dual_unique}
use Rattle.order_theory.specs.Basis.{Basis, IsWord, IsSoundBasis, rank_at, vector, dual, times}
use Rattle.order_theory.proofs.Shape.{cases_value, dual_below}
use Rattle.order_domain.specs.declared.Point.{Point}
use Rattle.order_domain.specs.Domain.{Domain}
use Rattle.order_domain.specs.Values.{value_at, sum_or_count, lead_at}
use Rattle.eval_basis.specs.Built.{IsBuilt}
use Rattle.eval_basis.specs.Determined.{DeterminedLaw}

-- ---- numbers that rise and take the same values are the same

at_most : (n : ℕ) (f g : ℕ → ℕ) → ((i j : ℕ) → i < j → j < n → f i < f j) → ((i j : ℕ) → i < j → j < n → g i < g j) → (k q : ℕ) → k < n → q < n → f k ≡ g q → ((i : ℕ) → i < k → f i ≡ g i) → g k ≤ f k
at_most n f g f_rise g_rise k q lk lq e before = elim (cases_order q k) [
  | inl same ↦ (let w : g q ≡ g k = ap g same in omega arith)
  | inr (inl low) ↦ absurd (omega (arith, before q low, f_rise q k low lk))
  | inr (inr high) ↦ omega (arith, g_rise k q high lq)
]

module _ (n : ℕ) (f g : ℕ → ℕ) (f_rise : (i j : ℕ) → i < j → j < n → f i < f j) (g_rise : (i j : ℕ) → i < j → j < n → g i < g j)
    (in_g : (k : ℕ) → k < n → (q : ℕ) × (q < n) × (f k ≡ g q)) (in_f : (k : ℕ) → k < n → (q : ℕ) × (q < n) × (g k ≡ f q)) where
  same_at : (k : ℕ) → k < n → ((i : ℕ) → i < k → f i ≡ g i) → f k ≡ g k
  same_at k l before =
      let (q, lq, e) = in_g k l in
      let (p, lp, u) = in_f k l in
      omega (arith, at_most n f g f_rise g_rise k q l lq e before, at_most n g f g_rise f_rise k p l lp u (λ i li. sym (before i li)))

  same_below : (k : ℕ) → k ≤ n → (i : ℕ) → i < k → f i ≡ g i
  same_below zero l i li = absurd (omega arith)
  same_below (suc k) l i li = elim (eq_or_below i k li) [
    | inr m ↦ same_below k (omega arith) i m
    | inl e ↦ subst (λ (q : ℕ). f q ≡ g q) (sym e) (same_at k l (same_below k (omega arith)))
  ]

  pub same_rising : (k : ℕ) → k < n → f k ≡ g k
  same_rising k l = same_below n (omega arith) k l

-- rows of the same length with the same entries are the same
same_rows :
    (n : ℕ) (xs ys : List (List ℕ)) → length xs ≡ n → length ys ≡ n → All (λ row. length row ≡ n) xs → All (λ row. length row ≡ n) ys →
    ((i j : ℕ) → i < n → j < n → get_or (get_or xs i []) j 0 ≡ get_or (get_or ys i []) j 0) → xs ≡ ys
same_rows n xs ys lx ly wx wy same =
    same_lists xs ys (lx ∙ sym ly)
    (λ i d l.
    let in_x : length (get_or xs i []) ≡ n = All-get_or (λ row. length row ≡ n) xs i [] l wx in
    let in_y : length (get_or ys i []) ≡ n = All-get_or (λ row. length row ≡ n) ys i [] (omega arith) wy in
    get_or_default xs i d [] l
    ∙ same_number_lists (get_or xs i []) (get_or ys i []) (in_x ∙ sym in_y) (λ j u. same i j (omega arith) (omega arith))
    ∙ sym (get_or_default ys i d [] (omega arith)))

word_lengths : (bits n : ℕ) (xs : List (List ℕ)) → All (IsWord bits n) xs → All (λ row. length row ≡ n) xs
word_lengths bits n xs words = λ i d l. (words i d l).n_long

-- ---- what is new does not depend on the basis

module _ (d : Domain) (modulus : ℕ) (points : List Point) (b : Basis) (built : IsBuilt d modulus points b) where
  pub fresh_at : (k : ℕ) → k < length points → IsCombination (gf_mul d.bits modulus) (length points) (value_at d modulus points) (rank_at b k) (value_at d modulus points (rank_at b k)) → ⊥
  fresh_at k l c = built.members.new k (let e : b.n ≡ length points = built.n_is in omega arith) (rw (built.bits_are, built.modulus_is, built.n_is) c)

  mul_is : (r : ℕ) (factors : ℕ → ℕ) (p : ℕ) → combine (times b) r factors (value_at d modulus points) p ≡ combine (gf_mul d.bits modulus) r factors (value_at d modulus points) p
  mul_is r factors p = rw (built.bits_are, built.modulus_is) refl

  pub other_at : (i : ℕ) → i < d.count → ((k : ℕ) → k < length points → i ≢ rank_at b k) → IsCombination (gf_mul d.bits modulus) (length points) (value_at d modulus points) i (value_at d modulus points i)
  other_at i l none =
      let n_is : b.n ≡ length points = built.n_is in
      let count_is : b.count ≡ d.count = built.count_is in
      let c : IsCombination (times b) b.n (value_at d modulus points) i (value_at d modulus points i) = built.members.others i (omega arith) (λ k lk. none k (omega arith)) in
      record { factors = c.factors; is_sum = λ p lp. c.is_sum p (omega arith) ∙ mul_is i c.factors p }

  pub below_count : (k : ℕ) → k < length points → rank_at b k < d.count
  below_count k l =
      let n_is : b.n ≡ length points = built.n_is in
      let count_is : b.count ≡ d.count = built.count_is in
      let low : rank_at b k < b.count = built.members.ranks_below k (omega arith) in
      omega arith

  rising : (i j : ℕ) → i < j → j < length points → rank_at b i < rank_at b j
  rising i j l lj = let n_is : b.n ≡ length points = built.n_is in built.members.ranks_rise i j l (omega arith)

-- each member of a is one of b
is_member : (d : Domain) (modulus : ℕ) (points : List Point) (a b : Basis) → IsBuilt d modulus points a → IsBuilt d modulus points b → (k : ℕ) → k < length points → (q : ℕ) × (q < length points) × (rank_at a k ≡ rank_at b q)
is_member d modulus points a b built_a built_b k l = elim (cases_value (length points) (rank_at b) (rank_at a k)) [
  | inl w ↦ w
  | inr none ↦ absurd (fresh_at d modulus points a built_a k l (other_at d modulus points b built_b (rank_at a k) (below_count d modulus points a built_a k l) none))
]

-- ---- list by list

module _ (d : Domain) (modulus : ℕ) (points : List Point) (a b : Basis) (built_a : IsBuilt d modulus points a) (built_b : IsBuilt d modulus points b) (sound_a : IsSoundBasis a) (sound_b : IsSoundBasis b) where
  bits_same : a.bits ≡ b.bits
  bits_same = built_a.bits_are ∙ sym built_b.bits_are

  modulus_same : a.modulus ≡ b.modulus
  modulus_same = built_a.modulus_is ∙ sym built_b.modulus_is

  n_same : a.n ≡ b.n
  n_same = built_a.n_is ∙ sym built_b.n_is

  count_same : a.count ≡ b.count
  count_same = built_a.count_is ∙ sym built_b.count_is

  rank_same : (k : ℕ) → k < a.n → rank_at a k ≡ rank_at b k
  rank_same k l =
      let n_is : a.n ≡ length points = built_a.n_is in
      same_rising (length points) (rank_at a) (rank_at b) (rising d modulus points a built_a) (rising d modulus points b built_b)
      (is_member d modulus points a b built_a built_b) (is_member d modulus points b a built_b built_a) k (omega arith)

  ranks_same : a.ranks ≡ b.ranks
  ranks_same =
      let long_a : length a.ranks ≡ a.n = sound_a.sound.shape.n_ranks in
      let long_b : length b.ranks ≡ b.n = sound_b.sound.shape.n_ranks in
      same_number_lists a.ranks b.ranks (long_a ∙ n_same ∙ sym long_b) (λ k l. rank_same k (omega arith))

  labels_same : a.labels ≡ b.labels
  labels_same =
      let long_a : length a.labels ≡ a.n = sound_a.sound.shape.n_labels in
      let long_b : length b.labels ≡ b.n = sound_b.sound.shape.n_labels in
      let n_is : a.n ≡ b.n = n_same in
      same_number_lists a.labels b.labels (long_a ∙ n_same ∙ sym long_b)
      (λ k l. built_a.labels k (omega arith) ∙ ap d.label (rank_same k (omega arith)) ∙ sym (built_b.labels k (omega arith)))

  pair_counts_same : a.pair_counts ≡ b.pair_counts
  pair_counts_same =
      let long_a : length a.pair_counts ≡ a.n = sound_a.sound.shape.n_pair_counts in
      let long_b : length b.pair_counts ≡ b.n = sound_b.sound.shape.n_pair_counts in
      let n_is : a.n ≡ b.n = n_same in
      same_number_lists a.pair_counts b.pair_counts (long_a ∙ n_same ∙ sym long_b)
      (λ k l. built_a.pairs_are k (omega arith) ∙ ap (pairs d.count (sum_or_count d)) (rank_same k (omega arith)) ∙ sym (built_b.pairs_are k (omega arith)))

  -- tables of n rows of n with the same entries
  tables_same :
      (xs ys : List (List ℕ)) → length xs ≡ a.n → length ys ≡ b.n → All (λ row. length row ≡ a.n) xs → All (λ row. length row ≡ b.n) ys →
      ((i j : ℕ) → i < a.n → j < a.n → get_or (get_or xs i []) j 0 ≡ get_or (get_or ys i []) j 0) → xs ≡ ys
  tables_same xs ys lx ly wx wy same = same_rows a.n xs ys lx (ly ∙ sym n_same) wx (λ i e l. wy i e l ∙ sym n_same) same

  vectors_same : a.vectors ≡ b.vectors
  vectors_same =
      tables_same a.vectors b.vectors sound_a.sound.shape.n_vectors sound_b.sound.shape.n_vectors
      (word_lengths a.bits a.n a.vectors sound_a.sound.shape.vector_words) (word_lengths b.bits b.n b.vectors sound_b.sound.shape.vector_words)
      (λ i j li lj.
      let n_is : a.n ≡ b.n = n_same in
      built_a.members.vectors i j li lj ∙ ap (λ (r : ℕ). value_at d modulus points r j) (rank_same i li) ∙ sym (built_b.members.vectors i j (omega arith) (omega arith)))

  -- the dual list of b is one of a
  duals_fit : IsDual (times a) a.n (vector a) (dual b)
  duals_fit = record { products = λ i j li lj. rw (bits_same, modulus_same, n_same, vectors_same) (let n_is : a.n ≡ b.n = n_same in sound_b.sound.shape.duals_fit.products i j (omega arith) (omega arith)) }

  duals_same : a.duals ≡ b.duals
  duals_same =
      tables_same a.duals b.duals sound_a.sound.shape.n_duals sound_b.sound.shape.n_duals
      (word_lengths a.bits a.n a.duals sound_a.sound.shape.dual_words) (word_lengths b.bits b.n b.duals sound_b.sound.shape.dual_words)
      (λ i j li lj.
      sym (dual_unique (2 ^ a.bits) (times a) sound_a.sound.field a.n (vector a) (dual a) (dual b) (dual_below (times a) a sound_a.sound)
      (λ k p. rw bits_same (dual_below (times b) b sound_b.sound k p)) sound_a.sound.shape.duals_fit duals_fit i j li lj))

  sums_same : a.sums ≡ b.sums
  sums_same =
      tables_same a.sums b.sums sound_a.sound.shape.n_sums sound_b.sound.shape.n_sums sound_a.sound.shape.sum_rows sound_b.sound.shape.sum_rows
      (λ i j li lj.
      let n_is : a.n ≡ b.n = n_same in
      built_a.members.sums i j li lj ∙ ap (λ (r : ℕ). sum_or_count d r (rank_at a j)) (rank_same i li) ∙ ap (λ (r : ℕ). sum_or_count d (rank_at b i) r) (rank_same j lj)
      ∙ sym (built_b.members.sums i j (omega arith) (omega arith)))

  leads_same : a.leads ≡ b.leads
  leads_same =
      tables_same a.leads b.leads sound_a.sound.shape.n_leads sound_b.sound.shape.n_leads
      (word_lengths a.bits a.n a.leads sound_a.sound.shape.lead_words) (word_lengths b.bits b.n b.leads sound_b.sound.shape.lead_words)
      (λ i j li lj.
      let n_is : a.n ≡ b.n = n_same in
      built_a.leads i j li lj ∙ ap (λ (r : ℕ). lead_at d modulus r (rank_at a j)) (rank_same i li) ∙ ap (λ (r : ℕ). lead_at d modulus (rank_at b i) r) (rank_same j lj)
      ∙ sym (built_b.leads i j (omega arith) (omega arith)))

basis_with : (bits modulus n count : ℕ) (ranks labels : List ℕ) (vectors duals : List (List ℕ)) (pair_counts : List ℕ) (sums leads : List (List ℕ)) → Basis
basis_with bits modulus n count ranks labels vectors duals pair_counts sums leads = record {
  bits = bits;
  modulus = modulus;
  n = n;
  count = count;
  ranks = ranks;
  labels = labels;
  vectors = vectors;
  duals = duals;
  pair_counts = pair_counts;
  sums = sums;
  leads = leads;
}

by_parts : (a : Basis) → a ≡ basis_with a.bits a.modulus a.n a.count a.ranks a.labels a.vectors a.duals a.pair_counts a.sums a.leads
unfolding basis_with
by_parts a = refl

same_parts :
    (a b : Basis) → a.bits ≡ b.bits → a.modulus ≡ b.modulus → a.n ≡ b.n → a.count ≡ b.count → a.ranks ≡ b.ranks → a.labels ≡ b.labels → a.vectors ≡ b.vectors → a.duals ≡ b.duals →
    a.pair_counts ≡ b.pair_counts → a.sums ≡ b.sums → a.leads ≡ b.leads → basis_with a.bits a.modulus a.n a.count a.ranks a.labels a.vectors a.duals a.pair_counts a.sums a.leads
    ≡ basis_with b.bits b.modulus b.n b.count b.ranks b.labels b.vectors b.duals b.pair_counts b.sums b.leads
same_parts a b bits modulus n count ranks labels vectors duals pair_counts sums leads = rw (bits, modulus, n, count, ranks, labels, vectors, duals, pair_counts, sums, leads) refl

pub determined_law : DeterminedLaw
determined_law d modulus points a b built_a built_b sound_a sound_b =
    by_parts a
    ∙ same_parts a b
    (bits_same d modulus points a b built_a built_b sound_a sound_b)
    (modulus_same d modulus points a b built_a built_b sound_a sound_b)
    (n_same d modulus points a b built_a built_b sound_a sound_b)
    (count_same d modulus points a b built_a built_b sound_a sound_b)
    (ranks_same d modulus points a b built_a built_b sound_a sound_b)
    (labels_same d modulus points a b built_a built_b sound_a sound_b)
    (vectors_same d modulus points a b built_a built_b sound_a sound_b)
    (duals_same d modulus points a b built_a built_b sound_a sound_b)
    (pair_counts_same d modulus points a b built_a built_b sound_a sound_b)
    (sums_same d modulus points a b built_a built_b sound_a sound_b)
    (leads_same d modulus points a b built_a built_b sound_a sound_b)
    ∙ sym (by_parts b)
