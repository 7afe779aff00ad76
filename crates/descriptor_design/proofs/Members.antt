-- A set of members, by the marks of a basis and by a test of functions
use Rattle.std.proofs.Common.{◌≡◌, ℕ, ◌+◌, ◌*◌, ◌<◌, ◌≤◌, Bool, true, false, not, List, length, map, filter, get_or, sym, ◌∙◌, ap, subst, refl, arith}
use Rattle.std.specs.Prelude.{slice_index}
use Rattle.std.specs.List.{range_with_len}
use Rattle.std.proofs.lemmas.List.{get_or-map, length-map}
use Rattle.std.proofs.lemmas.List.FromFn.{length-map-range_with_len, get_or-map-range_with_len}
use Rattle.order_theory.specs.Basis.{Basis, label, pairs_at}
use Rattle.order_theory.specs.Codes.{marked, IsOrderBound}
use Rattle.block_theory.specs.Marked.{chosen}
use Rattle.eval_basis.specs.declared.checked.CheckRule.{CheckRule}
use Rattle.eval_basis.specs.declared.checked.CheckRule.TheVariants.{Small}
use Rattle.eval_basis.specs.Rules.{rule_checks, checked_by}
use Rattle.eval_basis.proofs.Marks.{marked-checked_by}
use Rattle.code_descriptor.specs.Parts.{Parts}
use Rattle.descriptor_code.specs.Plain.{functions_in, members, pairs_of, least_of}
use Rattle.descriptor_code.specs.Tables.{member_at}
use Rattle.descriptor_code.specs.Codes.{domain_of}
use Rattle.descriptor_code.proofs.Spaces.{field_in, named_in, bits_in}
use Rattle.descriptor_code.proofs.Lists.{mapped, chosen-map, count-map, least_is, filter_at, filter_has}
use Rattle.descriptor_code.proofs.Built.{labels_are, pairs_are, n_members}
use Rattle.code_design.specs.Serving as basis
use Rattle.code_design.specs.Serving.{size_of}
use Rattle.descriptor_design.specs.Sets.{by_rule, checked_in, free_in, bound_of, Serves}
use Rattle.descriptor_design.specs.Plans.{improved, few, member_numbers}
use Rattle.descriptor_design.specs.Steps.{IsBasisOf, numbers_at, few_numbers}
use Rattle.descriptor_design.proofs.Least.{least_low, least_reached}
use Rattle.code_texts.specs.declared.design.MemberNumbers.{MemberNumbers}

not_true : (t : Bool) → not t ≡ true → t ≡ false
not_true true e = let no : false ≡ true = e in absurd (cc)
not_true false e = refl

member_with : ℕ → ℕ → MemberNumbers
member_with label pairs = record { label = label; pairs = pairs }

module _ (p : Parts) (b : Basis) (h : IsBasisOf p b) where
  pub n_are : length (members p) ≡ b.n
  n_are = n_members p (domain_of p) (field_in p h.descriptor) (named_in p) (bits_in p h.descriptor) b h.built h.sound

  told_are : {X : Type 0} (f : ℕ → X) (ys : List X) (e : X) → length ys ≡ b.n → ((k : ℕ) → k < b.n → get_or ys k e ≡ f (member_at p k)) → ys ≡ map f (members p)
  told_are f ys e long at = mapped f (members p) ys e (long ∙ sym n_are) (λ k l. at k (omega (arith, n_are)))

  pub label_at : (k : ℕ) → k < b.n → label b k ≡ (functions_in p).label (member_at p k)
  label_at k l =
      ap (λ (xs : List ℕ). slice_index xs k) (labels_are p (domain_of p) (field_in p h.descriptor) (named_in p) (bits_in p h.descriptor) b h.built h.sound)
      ∙ get_or-map (functions_in p).label (members p) k 0 0 (omega (arith, n_are))

  pub pairs_of_at : (k : ℕ) → k < b.n → pairs_at b k ≡ pairs_of p (member_at p k)
  pairs_of_at k l =
      ap (λ (xs : List ℕ). slice_index xs k) (pairs_are p (domain_of p) (field_in p h.descriptor) (named_in p) (bits_in p h.descriptor) b h.built h.sound)
      ∙ get_or-map (pairs_of p) (members p) k 0 0 (omega (arith, n_are))

  pub numbers_are : (k : ℕ) → k < b.n → numbers_at b k ≡ member_numbers p (member_at p k)
  unfolding member_with
  numbers_are k l =
      let whole : member_with (label b k) (pairs_at b k) ≡ member_with ((functions_in p).label (member_at p k)) (pairs_of p (member_at p k)) = rw (label_at k l, pairs_of_at k l) refl in
      whole

  -- ---- the marks of a test

  pub marks_of : (ℕ → Bool) → List Bool
  marks_of passes = map passes (members p)

  pub mark_at : (passes : ℕ → Bool) (k : ℕ) → k < b.n → marked (map passes (members p)) k ≡ passes (member_at p k)
  mark_at passes k l = get_or-map passes (members p) k 0 false (omega (arith, n_are))

  pub rule_marks : (rule : CheckRule) → checked_by b rule ≡ map (by_rule p rule) (members p)
  rule_marks rule =
      told_are (by_rule p rule) (checked_by b rule) false (length-map-range_with_len (λ k. rule_checks rule (label b k) (pairs_at b k)) 0 b.n)
      (λ k l.
      marked-checked_by b rule k l
      ∙ ap (λ (w : ℕ). rule_checks rule w (pairs_at b k)) (label_at k l)
      ∙ ap (rule_checks rule ((functions_in p).label (member_at p k))) (pairs_of_at k l))

  pub size_is : (passes : ℕ → Bool) → size_of (map passes (members p)) ≡ length (checked_in p passes)
  unfolding checked_in
  size_is passes = count-map passes (members p)

  pub few_are : (t : ℕ) → few_numbers b t ≡ map (member_numbers p) (few p t)
  unfolding checked_in
  few_are t =
      ap (λ (ms : List Bool). chosen ms (map (numbers_at b) (range_with_len 0 b.n))) (rule_marks (Small (2 * t + 1)))
      ∙ ap (chosen (map (improved p t) (members p)))
      (told_are (member_numbers p) (map (numbers_at b) (range_with_len 0 b.n)) (member_with 0 0) (length-map-range_with_len (numbers_at b) 0 b.n)
      (λ k l. get_or-map-range_with_len (numbers_at b) 0 b.n k k (member_with 0 0) l (omega arith) ∙ numbers_are k l))
      ∙ chosen-map (improved p t) (member_numbers p) (members p)

  -- ---- which members pass, and which do not

  pub passing_at : (passes : ℕ → Bool) (q : ℕ) → q < length (checked_in p passes) → (k : ℕ) × (k < b.n) × (get_or (checked_in p passes) q 0 ≡ member_at p k) × (passes (member_at p k) ≡ true)
  unfolding checked_in
  passing_at passes q l =
      let w : (k : ℕ) × (k < length (members p)) × (get_or (filter passes (members p)) q 0 ≡ get_or (members p) k 0) × (passes (get_or (members p) k 0) ≡ true) = filter_at passes (members p) q l in
      (w.0, omega (arith, w.1, n_are), w.2, w.3)

  pub passing_has : (passes : ℕ → Bool) (k : ℕ) → k < b.n → passes (member_at p k) ≡ true → (q : ℕ) × (q < length (checked_in p passes)) × (get_or (checked_in p passes) q 0 ≡ member_at p k)
  unfolding checked_in
  passing_has passes k l e = filter_has passes (members p) k (omega (arith, n_are)) e

  free_at : (passes : ℕ → Bool) (q : ℕ) → q < length (free_in p passes) → (k : ℕ) × (k < b.n) × (get_or (free_in p passes) q 0 ≡ member_at p k) × (marked (map passes (members p)) k ≡ false)
  unfolding free_in
  free_at passes q l =
      let w : (k : ℕ) × (k < length (members p)) × (get_or (filter (λ i. not (passes i)) (members p)) q 0 ≡ get_or (members p) k 0) × (not (passes (get_or (members p) k 0)) ≡ true) =
      filter_at (λ i. not (passes i)) (members p) q l in
      let low : w.0 < b.n = omega (arith, w.1, n_are) in
      (w.0, low, w.2, mark_at passes w.0 low ∙ not_true (passes (member_at p w.0)) w.3)

  free_has : (passes : ℕ → Bool) (k : ℕ) → k < b.n → marked (map passes (members p)) k ≡ false → (q : ℕ) × (q < length (free_in p passes)) × (get_or (free_in p passes) q 0 ≡ member_at p k)
  unfolding free_in
  free_has passes k l mark = filter_has (λ i. not (passes i)) (members p) k (omega (arith, n_are)) (ap not (sym (mark_at passes k l) ∙ mark))

  -- the pairs of the free members, in their list and in the basis
  free_pairs_at : (passes : ℕ → Bool) (q k : ℕ) → k < b.n → q < length (free_in p passes) → get_or (free_in p passes) q 0 ≡ member_at p k → get_or (map (pairs_of p) (free_in p passes)) q 0 ≡ pairs_at b k
  free_pairs_at passes q k lk lq at = get_or-map (pairs_of p) (free_in p passes) q 0 0 lq ∙ ap (pairs_of p) at ∙ sym (pairs_of_at k lk)

  -- ---- the bound of a set

  pub bound_same : (passes : ℕ → Bool) (d : ℕ) → IsOrderBound b (map passes (members p)) d → bound_of p passes ≡ d
  unfolding bound_of
  bound_same passes d o =
      let (k, l, mark, pairs) = o.reached in
      let w : (q : ℕ) × (q < length (free_in p passes)) × (get_or (free_in p passes) q 0 ≡ member_at p k) = free_has passes k l mark in
      least_is (map (pairs_of p) (free_in p passes)) d w.0 (subst (λ (m : ℕ). w.0 < m) (sym (length-map (free_in p passes) (pairs_of p))) w.1)
      (free_pairs_at passes w.0 k l w.1 w.2 ∙ pairs)
      (λ q lq.
      let low : q < length (free_in p passes) = subst (λ (m : ℕ). q < m) (length-map (free_in p passes) (pairs_of p)) lq in
      let (i, li, at, free_i) = free_at passes q low in
      let least : d ≤ pairs_at b i = o.least.at_most i li free_i in
      let same : get_or (map (pairs_of p) (free_in p passes)) q 0 ≡ pairs_at b i = free_pairs_at passes q i li low at in
      omega arith)

  pub serves_to : (t : ℕ) (passes : ℕ → Bool) → basis.Serves b (map passes (members p)) t → Serves p t passes
  serves_to t passes w =
      let same : bound_of p passes ≡ w.bound = bound_same passes w.bound w.is_bound in
      let below : 2 * t < w.bound = w.below in
      omega arith

  pub serves_from : (t : ℕ) (passes : ℕ → Bool) → Serves p t passes → basis.Serves b (map passes (members p)) t
  unfolding bound_of
  serves_from t passes above =
      let w : (q : ℕ) × (q < length (map (pairs_of p) (free_in p passes))) × (get_or (map (pairs_of p) (free_in p passes)) q 0 ≡ least_of (map (pairs_of p) (free_in p passes))) =
      least_reached (map (pairs_of p) (free_in p passes)) (omega arith) in
      let low : w.0 < length (free_in p passes) = subst (λ (m : ℕ). w.0 < m) (length-map (free_in p passes) (pairs_of p)) w.1 in
      let (k, lk, at, mark) = free_at passes w.0 low in
      record {
        bound = bound_of p passes;
        is_bound = record {
          reached = (k, lk, mark, sym (free_pairs_at passes w.0 k lk low at) ∙ w.2);
          least = record {
            at_most = λ j lj free_j.
                let v : (q : ℕ) × (q < length (free_in p passes)) × (get_or (free_in p passes) q 0 ≡ member_at p j) = free_has passes j lj free_j in
                let in_list : v.0 < length (map (pairs_of p) (free_in p passes)) = subst (λ (m : ℕ). v.0 < m) (sym (length-map (free_in p passes) (pairs_of p))) v.1 in
                let lowest : least_of (map (pairs_of p) (free_in p passes)) ≤ get_or (map (pairs_of p) (free_in p passes)) v.0 0 = least_low (map (pairs_of p) (free_in p passes)) v.0 in_list in
                let same : get_or (map (pairs_of p) (free_in p passes)) v.0 0 ≡ pairs_at b j = free_pairs_at passes v.0 j lj v.1 v.2 in
                omega arith;
          };
        };
        below = above;
      }
