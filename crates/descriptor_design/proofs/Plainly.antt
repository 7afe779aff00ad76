-- The plans of a basis are those of a descriptor
use Rattle.std.proofs.Common.{◌≡◌, ℕ, ◌+◌, ◌*◌, ◌<◌, ◌≤◌, Bool, true, List, [], length, map, get_or, Option, None, Some, MatchOption, option_map, sym, ◌∙◌, ap, subst, refl, inl, inr, arith}
use Rattle.std.specs.Prelude.{All, slice_index}
use Rattle.std.proofs.lemmas.Bool.{cases_Bool, cases_lt, cases_eq, ltb-true, lt-ltb}
use Rattle.std.proofs.lemmas.List.{get_or-map, length-map, get_or_default}
use Rattle.std.proofs.lemmas.List.Elements.{All-from_get_or}
use Rattle.order_theory.specs.Basis.{Basis, label, pairs_at, rank_at}
use Rattle.order_theory.specs.Codes.{IsOrderBound}
use Rattle.eval_basis.specs.declared.checked.CheckRule.TheVariants.{AtMost, Small}
use Rattle.code_descriptor.specs.Parts.{Parts}
use Rattle.descriptor_code.specs.Plain.{functions_in, members, pairs_of}
use Rattle.descriptor_code.specs.Tables.{member_at}
use Rattle.descriptor_code.specs.Codes.{domain_of}
use Rattle.descriptor_code.proofs.Spaces.{field_in, named_in, bits_in}
use Rattle.descriptor_code.proofs.Lists.{none_kept}
use Rattle.descriptor_code.proofs.Built.{ranks_are}
use Rattle.code_design.specs.Serving as basis
use Rattle.code_design.specs.Serving.{size_of, IsSmall, AreAllSmall, IsMostPairs}
use Rattle.code_design.specs.declared.plans.Plan.{Plan}
use Rattle.code_design.specs.Designs as designs
use Rattle.code_design.specs.Designs.{IsOrderPlan, HasNoOrderPlan, IsPlan, HasLeastWeight, HasLastStop, HasStopLabel}
use Rattle.code_texts.specs.declared.design.PlanNumbers.{PlanNumbers}
use Rattle.code_texts.specs.declared.design.MemberNumbers.{MemberNumbers}
use Rattle.code_texts.specs.Designs.{design_text_of}
use Rattle.descriptor_design.specs.Sets.{Serves, up_to, checked_in, bound_of}
use Rattle.descriptor_design.specs.Plans.{improved, few, IsOrderWeight, HasNoOrder, IsStop, HasFewest, IsTied, order_numbers, improved_numbers, member_numbers, HasDesign, HasNoDesign}
use Rattle.descriptor_design.specs.Steps.{IsBasisOf, plan_numbers, order_of, stop_of, improved_of, few_numbers}
use Rattle.descriptor_design.proofs.Members.{n_are, label_at, pairs_of_at, numbers_are, mark_at, rule_marks, size_is, few_are, passing_at, passing_has, bound_same, serves_to, serves_from}

module _ (p : Parts) (b : Basis) (h : IsBasisOf p b) (t : ℕ) where
  -- ---- the members with few pairs

  small_of : (k : ℕ) → k < b.n → improved p t (member_at p k) ≡ true → IsSmall b t k
  small_of k l e =
      let few_pairs : pairs_of p (member_at p k) < 2 * t + 1 = ltb-true (pairs_of p (member_at p k)) (2 * t + 1) e in
      record { within = l; few_pairs = omega (arith, pairs_of_at p b h k l) }

  small_passes : (k : ℕ) → IsSmall b t k → improved p t (member_at p k) ≡ true
  small_passes k s =
      let few_pairs : pairs_at b k ≤ 2 * t = s.few_pairs in
      lt-ltb (pairs_of p (member_at p k)) (2 * t + 1) (omega (arith, pairs_of_at p b h k s.within))

  -- what holds of each of them holds of each of the list
  few_all : (P : ℕ → Type 0) → ((k : ℕ) → IsSmall b t k → P (member_at p k)) → All P (few p t)
  few_all P each =
      All-from_get_or P (few p t) 0
      (λ q l.
      let (k, lk, at, pass) = passing_at p b h (improved p t) q l in
      subst P (sym at) (each k (small_of k lk pass)))

  -- ---- the stop

  pub stop_to : (stop : Option ℕ) → MatchOption stop (basis.HasNoStop b t) (basis.IsStop b t) → MatchOption (option_map (member_at p) stop) (few p t ≡ []) (IsStop p t)
  unfolding checked_in
  stop_to None none =
      none_kept (improved p t) (members p)
      (λ k l. elim (cases_Bool (improved p t (get_or (members p) k 0))) [
        | inl y ↦ absurd (none.none k (small_of k (omega (arith, n_are p b h)) y))
        | inr n ↦ n
      ])
  stop_to (Some k) is = record {
    is_few =
        let (q, lq, at) = passing_has p b h (improved p t) k is.is_small.within (small_passes k is.is_small) in
        (q, lq, get_or_default (few p t) q (member_at p k) 0 lq ∙ at);
    greatest = few_all (λ j. (functions_in p).label j ≤ (functions_in p).label (member_at p k))
        (λ j s.
        let up : label b j ≤ label b k = is.greatest j s in
        omega (arith, label_at p b h j s.within, label_at p b h k is.is_small.within));
  }

  pub stop_numbers_are : (stop : Option ℕ) → MatchOption stop (basis.HasNoStop b t) (basis.IsStop b t) → stop_of b stop ≡ option_map (member_numbers p) (option_map (member_at p) stop)
  stop_numbers_are None none = refl
  stop_numbers_are (Some k) is = ap Some (numbers_are p b h k is.is_small.within)

  -- ---- the order plan

  order_to : (order : Option ℕ) (checks bound : ℕ) → MatchOption order (HasNoOrderPlan b t checks bound) (λ w. IsOrderPlan b t w checks bound) → MatchOption order (HasNoOrder p t) (IsOrderWeight p t)
  order_to None checks bound none =
      λ s serves. none.no_weight.none s (subst (λ (ms : List Bool). basis.Serves b ms t) (sym (rule_marks p b h (AtMost s))) (serves_from p b h t (up_to p s) serves))
  order_to (Some weight) checks bound is = record {
    serves = serves_to p b h t (up_to p weight) (subst (λ (ms : List Bool). basis.Serves b ms t) (rule_marks p b h (AtMost weight)) is.is_weight.serves);
    least = λ s serves. is.is_weight.least s (subst (λ (ms : List Bool). basis.Serves b ms t) (sym (rule_marks p b h (AtMost s))) (serves_from p b h t (up_to p s) serves));
  }

  order_numbers_are : (order : Option ℕ) (checks bound : ℕ) → MatchOption order (HasNoOrderPlan b t checks bound) (λ w. IsOrderPlan b t w checks bound) →
      option_map (λ w. plan_numbers w checks bound) order ≡ option_map (order_numbers p) order
  order_numbers_are None checks bound none = refl
  order_numbers_are (Some weight) checks bound is =
      let size : checks ≡ length (checked_in p (up_to p weight)) = is.checks_are ∙ ap size_of (rule_marks p b h (AtMost weight)) ∙ size_is p b h (up_to p weight) in
      let least : bound_of p (up_to p weight) ≡ bound = bound_same p b h (up_to p weight) bound (subst (λ (ms : List Bool). IsOrderBound b ms bound) (rule_marks p b h (AtMost weight)) is.is_bound) in
      ap (λ (c : ℕ). Some (plan_numbers weight c bound)) size ∙ ap (λ (d : ℕ). Some (plan_numbers weight (length (checked_in p (up_to p weight))) d)) (sym least)

  module _ (plan : Plan) (is_plan : IsPlan b t plan) where
    order_is : MatchOption plan.order (HasNoOrder p t) (IsOrderWeight p t)
    order_is = order_to plan.order plan.order_checks plan.order_bound is_plan.order_is

    improved_serves : Serves p t (improved p t)
    improved_serves = serves_to p b h t (improved p t) (subst (λ (ms : List Bool). basis.Serves b ms t) (rule_marks p b h (Small (2 * t + 1))) is_plan.serves)

    few_size : plan.checks ≡ length (few p t)
    few_size = is_plan.checks_are ∙ ap size_of (rule_marks p b h (Small (2 * t + 1))) ∙ size_is p b h (improved p t)

    improved_bound : bound_of p (improved p t) ≡ plan.bound
    improved_bound = bound_same p b h (improved p t) plan.bound (subst (λ (ms : List Bool). IsOrderBound b ms plan.bound) (rule_marks p b h (Small (2 * t + 1))) is_plan.is_bound)

    improved_are : improved_of plan ≡ improved_numbers p t
    improved_are =
        ap (λ (f : ℕ). plan_numbers f plan.checks plan.bound) is_plan.pairs_are
        ∙ ap (λ (c : ℕ). plan_numbers (2 * t + 1) c plan.bound) few_size
        ∙ ap (λ (d : ℕ). plan_numbers (2 * t + 1) (length (few p t)) d) (sym improved_bound)

    fewest_of : designs.HasFewest b t plan → HasFewest p t
    fewest_of f = record {
      has_few = λ passes serves.
          few_all (λ i. passes i ≡ true)
          (λ k s. sym (mark_at p b h passes k s.within) ∙ (f.has_small (map passes (members p)) (serves_from p b h t passes serves)).each k s);
      at_least = λ passes serves.
          let most : plan.checks ≤ size_of (map passes (members p)) = f.at_least (map passes (members p)) (serves_from p b h t passes serves) in
          omega (arith, few_size, size_is p b h passes);
    }

    -- ranks rise, so that the last member has the greatest index
    last_index : (k : ℕ) → k + 1 ≡ b.n → All (λ j. j ≤ member_at p k) (members p)
    last_index k last =
        All-from_get_or (λ j. j ≤ member_at p k) (members p) 0
        (λ i l. elim (cases_eq i k) [
          | inl same ↦ (let e : get_or (members p) i 0 ≡ member_at p k = ap (λ (j : ℕ). get_or (members p) j 0) same in omega arith)
          | inr other ↦
              let ranks : b.ranks ≡ members p = ranks_are p (domain_of p) (field_in p h.descriptor) (named_in p) (bits_in p h.descriptor) b h.built h.sound in
              let up : rank_at b i < rank_at b k = h.built.members.ranks_rise i k (omega (arith, n_are p b h)) (omega arith) in
              let rise : get_or (members p) i 0 < get_or (members p) k 0 = subst (λ (xs : List ℕ). slice_index xs i < slice_index xs k) ranks up in
              omega arith
        ])

    tied_of : HasLastStop b plan → HasStopLabel b plan → (order stop : Option ℕ) → plan.order ≡ order → plan.stop ≡ stop → MatchOption stop (basis.HasNoStop b t) (basis.IsStop b t) → IsTied p order (option_map (member_at p) stop)
    tied_of last tied (Some weight) (Some k) order_e stop_e is = λ above.
        let (s, found, label_is) = tied.of_stop weight order_e above in
        let same : Some k ≡ Some s = sym stop_e ∙ found in
        label_is ∙ ap (label b) (sym (some_same k s same)) ∙ label_at p b h k is.is_small.within
      where
        some_same : (i j : ℕ) → Some i ≡ Some j → i ≡ j
        some_same i j e = cc e
    tied_of last tied (Some weight) None order_e stop_e none = elim (cases_lt 0 weight) [
      | inl above ↦ absurd (let (s, found, label_is) = tied.of_stop weight order_e above in let no : None ≡ Some s = sym stop_e ∙ found in cc no)
      | inr zero_w ↦ omega arith
    ]
    tied_of last tied None (Some k) order_e stop_e is = last_index k (last.last order_e k stop_e)
    tied_of last tied None None order_e stop_e none = n_are p b h ∙ last.alone order_e stop_e

    pub has_design : designs.HasFewest b t plan → HasLastStop b plan → HasStopLabel b plan → (text : List ℕ) →
        text ≡ design_text_of t (order_of plan) (stop_of b plan.stop) (improved_of plan) (few_numbers b t) → HasDesign p t text
    has_design f last tied text is = record {
      order = plan.order;
      stop = option_map (member_at p) plan.stop;
      order_is = order_is;
      stop_is = stop_to plan.stop is_plan.stop_is;
      tied = tied_of last tied plan.order plan.stop refl refl is_plan.stop_is;
      serves = improved_serves;
      fewest = fewest_of f;
      text_is = is
          ∙ ap (λ (o : Option PlanNumbers). design_text_of t o (stop_of b plan.stop) (improved_of plan) (few_numbers b t)) (order_numbers_are plan.order plan.order_checks plan.order_bound is_plan.order_is)
          ∙ ap (λ (s : Option MemberNumbers). design_text_of t (option_map (order_numbers p) plan.order) s (improved_of plan) (few_numbers b t)) (stop_numbers_are plan.stop is_plan.stop_is)
          ∙ ap (λ (i : PlanNumbers). design_text_of t (option_map (order_numbers p) plan.order) (option_map (member_numbers p) (option_map (member_at p) plan.stop)) i (few_numbers b t)) improved_are
          ∙ ap (λ (ms : List MemberNumbers). design_text_of t (option_map (order_numbers p) plan.order) (option_map (member_numbers p) (option_map (member_at p) plan.stop)) (improved_numbers p t) ms) (few_are p b h t);
    }

    pub stop_within : (stop : Option ℕ) → MatchOption stop (basis.HasNoStop b t) (basis.IsStop b t) → (k : ℕ) → stop ≡ Some k → k < b.n
    stop_within stop is k e = (subst (λ (s : Option ℕ). MatchOption s (basis.HasNoStop b t) (basis.IsStop b t)) e is).is_small.within

  -- ---- where no set serves

  pub has_no_design : (most : ℕ) → AreAllSmall b t → IsMostPairs b most → HasNoDesign p t most
  has_no_design most all m = record {
    is_most = record {
      reached =
          let (k, l, e) = m.reached in
          let low : k < length (map (pairs_of p) (members p)) = omega (arith, n_are p b h, length-map (members p) (pairs_of p)) in
          (k, low, get_or-map (pairs_of p) (members p) k 0 most (omega (arith, n_are p b h)) ∙ sym (pairs_of_at p b h k l) ∙ e);
      greatest =
          All-from_get_or (λ i. pairs_of p i ≤ most) (members p) 0
          (λ k l.
          let low : k < b.n = omega (arith, n_are p b h) in
          let up : pairs_at b k ≤ most = m.greatest k low in
          let same : pairs_at b k ≡ pairs_of p (get_or (members p) k 0) = pairs_of_at p b h k low in
          omega arith);
    };
    at_most = (let (k, l, e) = m.reached in let s : pairs_at b k ≤ 2 * t = (all.each k l).few_pairs in omega arith);
    none_serves = λ passes serves.
        let w : basis.Serves b (map passes (members p)) t = serves_from p b h t passes serves in
        let (k, l, mark, pairs) = w.is_bound.reached in
        let s : pairs_at b k ≤ 2 * t = (all.each k l).few_pairs in
        let below : 2 * t < w.bound = w.below in
        absurd (omega arith);
  }
