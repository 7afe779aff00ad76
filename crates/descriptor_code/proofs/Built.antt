-- A built basis holds the plain members of a descriptor, with their values, labels and pairs
use Rattle.std.proofs.Common.{◌≡◌, ℕ, ◌+◌, ◌<◌, ◌≤◌, ◌^◌, Bool, true, false, not, List, [], length, map, filter, get_or, sym, ◌∙◌, ap, subst, refl, inl, inr, arith}
use Rattle.std.specs.Prelude.{slice_index}
use Rattle.std.specs.List.{range_with_len}
use Rattle.std.proofs.lemmas.Bool.{cases_Bool, both_ways}
use Rattle.std.proofs.lemmas.Grind.{same_number_lists}
use Rattle.std.proofs.lemmas.List.Elements.{All-get_or}
use Rattle.std.proofs.lemmas.List.FromFn.{length-range_with_len, get_or-range_with_len, length-map-range_with_len, get_or-map-range_with_len}
use Rattle.field_theory.specs.Field.{IsField}
use Rattle.field_theory.proofs.Sums.{sum-same}
use Rattle.gf_theory.specs.Field.{gf_mul}
use Rattle.linear_theory.specs.Linear.{IsCombination, in_span}
use Rattle.linear_theory.proofs.Spans.{in_span-yes, in_span-from}
use Rattle.counting_theory.specs.Votes.{pairs}
use Rattle.order_theory.specs.Basis.{Basis, IsWord, IsSoundBasis, rank_at, label, pairs_at, vector}
use Rattle.order_domain.specs.declared.Point.{Point}
use Rattle.order_domain.specs.Domain.{Domain}
use Rattle.order_domain.specs.Functions as functions
use Rattle.order_domain.specs.Functions.{Functions, functions_of, pair_count, sum_index}
use Rattle.order_domain.specs.Values.{value_at, sum_or_count}
use Rattle.order_domain.proofs.Functions.{values-at, length-values, pair_count-is, sum_index-is}
use Rattle.eval_basis.specs.Rules.{rule_checks, checked_by}
use Rattle.eval_basis.specs.Built.{IsBuilt}
use Rattle.eval_basis.specs.Members.{IsMember, is_checked as rule_at, AreAllChecked}
use Rattle.eval_basis.proofs.Membership.{member_at, number_of}
use Rattle.code_descriptor.specs.Parts.{Parts}
use Rattle.descriptor_code.specs.Plain.{functions_in, times_in, values, value, is_new, members, pairs_of, is_checked, free, IsFull}
use Rattle.descriptor_code.proofs.Lists.{rising_is_filter, mapped, filter_at, none_kept}

-- of a combination only the entries count
combination_of : (mul : ℕ → ℕ → ℕ) (n : ℕ) (rows others : ℕ → ℕ → ℕ) (r : ℕ) (v w : ℕ → ℕ) → ((i j : ℕ) → i < r → j < n → rows i j ≡ others i j) → ((j : ℕ) → j < n → v j ≡ w j) →
    IsCombination mul n rows r v → IsCombination mul n others r w
combination_of mul n rows others r v w same same_v h = record {
  factors = h.factors;
  is_sum = λ j l. sym (same_v j l) ∙ h.is_sum j l ∙ sum-same r (λ i. mul (h.factors i) (rows i j)) (λ i. mul (h.factors i) (others i j)) (λ i li. ap (mul (h.factors i)) (same i j li l));
}

not_true : (b : Bool) → not b ≡ true → b ≡ false
not_true true h = let no : false ≡ true = h in absurd (cc)
not_true false h = refl

module _ (p : Parts) (d : Domain) (field : IsField (2 ^ p.bits) (times_in p)) (named : functions_of d ≡ functions_in p) (bits_are : d.bits ≡ p.bits) where
  abbrev n_of : ℕ
  n_of = length p.points

  pub count_same : d.count ≡ (functions_in p).count
  count_same = ap (λ (f : Functions). f.count) named

  pub checked_is : (i : ℕ) → rule_at d p.rule i ≡ is_checked p i
  checked_is i =
      ap (rule_checks p.rule (d.label i)) (sym (pair_count-is d i))
      ∙ ap (λ (f : Functions). rule_checks p.rule (f.label i) (pair_count f i)) named

  pub value_is : (i q : ℕ) → i < d.count → q < n_of → value p i q ≡ value_at d p.modulus p.points i q
  value_is i q li lq = ap (λ (f : Functions). slice_index (functions.values f p.modulus p.points i) q) (sym named) ∙ values-at d p.modulus p.points i q li lq

  mul_same : gf_mul d.bits p.modulus ≡ times_in p
  mul_same = ap (λ (m : ℕ). gf_mul m p.modulus) bits_are

  to_values : (i : ℕ) → i < d.count → IsCombination (gf_mul d.bits p.modulus) n_of (value_at d p.modulus p.points) i (value_at d p.modulus p.points i) → IsCombination (times_in p) n_of (value p) i (value p i)
  to_values i l h =
      subst (λ (mul : ℕ → ℕ → ℕ). IsCombination mul n_of (value p) i (value p i)) mul_same
      (combination_of (gf_mul d.bits p.modulus) n_of (value_at d p.modulus p.points) (value p) i (value_at d p.modulus p.points i) (value p i)
      (λ u q lu lq. sym (value_is u q (omega arith) lq)) (λ q lq. sym (value_is i q l lq)) h)

  from_values : (i : ℕ) → i < d.count → IsCombination (times_in p) n_of (value p) i (value p i) → IsCombination (gf_mul d.bits p.modulus) n_of (value_at d p.modulus p.points) i (value_at d p.modulus p.points i)
  from_values i l h =
      combination_of (gf_mul d.bits p.modulus) n_of (value p) (value_at d p.modulus p.points) i (value p i) (value_at d p.modulus p.points i)
      (λ u q lu lq. value_is u q (omega arith) lq) (λ q lq. value_is i q l lq)
      (subst (λ (mul : ℕ → ℕ → ℕ). IsCombination mul n_of (value p) i (value p i)) (sym mul_same) h)

  pub new_of_member : (i : ℕ) → IsMember d p.modulus p.points i → is_new p i ≡ true
  unfolding is_new
  new_of_member i m = elim (cases_Bool (in_span (2 ^ p.bits) (times_in p) n_of (value p) i (value p i))) [
    | inl y ↦ absurd (m.new (from_values i m.below (in_span-yes (2 ^ p.bits) (times_in p) field n_of (value p) i (value p i) y)))
    | inr n ↦ ap not n
  ]

  pub member_of_new : (i : ℕ) → i < d.count → is_new p i ≡ true → IsMember d p.modulus p.points i
  unfolding is_new
  member_of_new i l y = record {
    below = l;
    new = λ h. both_ways (in_span (2 ^ p.bits) (times_in p) n_of (value p) i (value p i))
        (not_true (in_span (2 ^ p.bits) (times_in p) n_of (value p) i (value p i)) y)
        (in_span-from (2 ^ p.bits) (times_in p) field n_of (value p) i (value p i) (to_values i l h));
  }

  -- where the rule checks every member, none is free
  pub full_of_checked : AreAllChecked d p.modulus p.points p.rule → IsFull p
  unfolding free members
  full_of_checked all =
      none_kept (λ i. not (is_checked p i)) (filter (is_new p) (range_with_len 0 (functions_in p).count))
      (λ k l.
      let w : (q : ℕ) × (q < length (range_with_len 0 (functions_in p).count)) × (get_or (filter (is_new p) (range_with_len 0 (functions_in p).count)) k 0 ≡ get_or (range_with_len 0 (functions_in p).count) q 0) × (is_new p (get_or (range_with_len 0 (functions_in p).count) q 0) ≡ true) =
      filter_at (is_new p) (range_with_len 0 (functions_in p).count) k l in
      let low : w.0 < (functions_in p).count = omega (arith, w.1, length-range_with_len 0 (functions_in p).count) in
      let at : get_or (range_with_len 0 (functions_in p).count) w.0 0 ≡ w.0 = omega (arith, get_or-range_with_len 0 (functions_in p).count w.0 0 low) in
      let m : IsMember d p.modulus p.points w.0 = member_of_new w.0 (subst (λ (c : ℕ). w.0 < c) (sym count_same) low) (subst (λ (i : ℕ). is_new p i ≡ true) at w.3) in
      ap (λ (i : ℕ). not (is_checked p i)) (w.2 ∙ at) ∙ ap not (sym (checked_is w.0) ∙ all.each w.0 m))

module _ (p : Parts) (d : Domain) (field : IsField (2 ^ p.bits) (times_in p)) (named : functions_of d ≡ functions_in p) (bits_are : d.bits ≡ p.bits)
    (b : Basis) (built : IsBuilt d p.modulus p.points b) (sound : IsSoundBasis b) where
  n_ranks : length b.ranks ≡ b.n
  n_ranks = sound.sound.shape.n_ranks

  -- the members of the basis are the new functions
  pub ranks_are : b.ranks ≡ members p
  unfolding members
  ranks_are =
      let n : length b.ranks ≡ b.n = n_ranks in
      rising_is_filter (functions_in p).count (is_new p) b.ranks
      (λ i j l lj. built.members.ranks_rise i j l (omega arith))
      (λ k l.
      let m : IsMember d p.modulus p.points (rank_at b k) = member_at d p.modulus p.points b p.rule built k (omega arith) in
      (subst (λ (c : ℕ). rank_at b k < c) (count_same p d field named bits_are) m.below, new_of_member p d field named bits_are (rank_at b k) m))
      (λ i l y.
      let w : (k : ℕ) × (k < b.n) × (i ≡ rank_at b k) = number_of d p.modulus p.points b p.rule built i (member_of_new p d field named bits_are i (subst (λ (c : ℕ). i < c) (sym (count_same p d field named bits_are)) l) y) in
      (w.0, omega (arith, w.1), sym w.2))

  -- what is told of each member is told of the list of members
  pub told : {X : Type 0} (f : ℕ → X) (ys : List X) (e : X) → length ys ≡ b.n → ((k : ℕ) → k < b.n → get_or ys k e ≡ f (rank_at b k)) → ys ≡ map f (members p)
  told f ys e long at = mapped f b.ranks ys e (long ∙ sym n_ranks) (λ k l. at k (subst (λ (m : ℕ). k < m) n_ranks l)) ∙ ap (map f) ranks_are

  pub below_count : (k : ℕ) → k < b.n → rank_at b k < d.count
  below_count k l = (member_at d p.modulus p.points b p.rule built k l).below

  pub labels_are : b.labels ≡ map (functions_in p).label (members p)
  labels_are =
      told (functions_in p).label b.labels 0 sound.sound.shape.n_labels
      (λ k l. built.labels k l ∙ ap (λ (f : Functions). f.label (rank_at b k)) named)

  pub pairs_are : b.pair_counts ≡ map (pairs_of p) (members p)
  pairs_are =
      told (pairs_of p) b.pair_counts 0 sound.sound.shape.n_pair_counts
      (λ k l. built.pairs_are k l ∙ sym (pair_count-is d (rank_at b k)) ∙ ap (λ (f : Functions). pair_count f (rank_at b k)) named)

  pub vectors_are : b.vectors ≡ map (values p) (members p)
  vectors_are = told (values p) b.vectors [] sound.sound.shape.n_vectors each
    where
      each : (k : ℕ) → k < b.n → get_or b.vectors k [] ≡ values p (rank_at b k)
      each k l =
          let n_vectors : length b.vectors ≡ b.n = sound.sound.shape.n_vectors in
          let long : length (get_or b.vectors k []) ≡ b.n = (All-get_or (IsWord b.bits b.n) b.vectors k [] (omega arith) sound.sound.shape.vector_words).n_long in
          let n_is : b.n ≡ length p.points = built.n_is in
          same_number_lists (get_or b.vectors k []) (values p (rank_at b k)) (long ∙ n_is ∙ sym (length-values (functions_in p) p.modulus p.points (rank_at b k)))
          (λ q lq. built.members.vectors k q l (omega arith) ∙ sym (value_is p d field named bits_are (rank_at b k) q (below_count k l) (omega arith)))

  -- member k of the basis is member k of the descriptor
  pub n_members : length (members p) ≡ b.n
  n_members = sym (ap length ranks_are) ∙ n_ranks

  pub member_is : (k : ℕ) → rank_at b k ≡ slice_index (members p) k
  member_is k = ap (λ (xs : List ℕ). slice_index xs k) ranks_are

  pub marks_are : checked_by b p.rule ≡ map (is_checked p) (members p)
  marks_are =
      told (is_checked p) (checked_by b p.rule) false (length-map-range_with_len (λ k. rule_checks p.rule (label b k) (pairs_at b k)) 0 b.n)
      (λ k l.
      get_or-map-range_with_len (λ k. rule_checks p.rule (label b k) (pairs_at b k)) 0 b.n k k false l (omega arith)
      ∙ ap (λ (w : ℕ). rule_checks p.rule w (pairs_at b k)) (built.labels k l ∙ ap (λ (f : Functions). f.label (rank_at b k)) named)
      ∙ ap (rule_checks p.rule ((functions_in p).label (rank_at b k)))
      (built.pairs_are k l ∙ sym (pair_count-is d (rank_at b k)) ∙ ap (λ (f : Functions). pair_count f (rank_at b k)) named))
