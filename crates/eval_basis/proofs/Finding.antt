-- The search for the members: the values of a function, and the members so far
use Rattle.std.proofs.Common.{◌≡◌, ℕ, zero, suc, ◌+◌, ◌*◌, ◌<◌, ◌≤◌, ◌^◌, Bool, true, false, Option, Some, Vec, Global, List, [], ◌∷◌, ◌++◌, length, slice_index, replicate, All, sym, ◌∙◌, ap, subst, refl, inl, inr, arith}
use Rattle.std.proofs.Math.ListN.{set}
use Rattle.std.proofs.lemmas.List.{get_or-set_same, get_or-set_other, get_or_append_left, get_or-append-add, get_or_push, length-append, length_push, length-replicate, with_items_is}
use Rattle.std.specs.Vec.{with_items}
use Rattle.std.proofs.lemmas.Nat.{mul-add-lt}
use Rattle.std.proofs.lemmas.Bool.{cases_eq}
use Rattle.field_theory.specs.Sums.{put, unit}
use Rattle.field_theory.proofs.Sums.{eq_or_below}
use Rattle.gf_theory.specs.Field.{gf_mul, IsModulus}
use Rattle.linear_theory.specs.Functionals.{AreFunctionals}
use Rattle.linear_theory.specs.Linear.{IsCombination}
use Rattle.linear_theory.proofs.Spans.{put-same, put-other}
use Rattle.linear_theory.proofs.Duals.{unit-flip}
use Rattle.linear_theory.proofs.Entries.{dot_entries}
use Rattle.linear_theory.proofs.Tables.{place_below}
use Rattle.order_theory.specs.Codes.{marked}
use Rattle.order_theory.proofs.OldSums.{old_sum}
use Rattle.linear_theory.proofs.Functionals.{functionals_none, functionals_kept, functionals_same}
use Rattle.gf_linear.specs.Cells.{cell}
use Rattle.order_domain.specs.declared.Point.{Point}
use Rattle.order_domain.specs.Points.{point_at}
use Rattle.order_domain.specs.Domain.{Domain, ArePoints, IsOrderDomain}
use Rattle.order_domain.specs.Values.{value_at, sum_or_count, lead_at, HasOrderedValues}
use Rattle.order_domain.proofs.Values.{value_at-is, value_at-symbol, sum_or_count-some, values_law}
use Rattle.eval_basis.specs.Flat.{IsTable}
use Rattle.eval_basis.specs.Lists.{list_of, AreLists, IsStep}
use Rattle.eval_basis.specs.Found.{AreStored, AreSoFar, AreMembers, AreFirstLists, AreMarked}
use Rattle.eval_basis.proofs.Stepping.{field_of}
use Rattle.eval_basis.proofs.Orders.{functionals_skipped}

-- ---- the values of function i, one after the other
pub values_more : (d : Domain) (modulus : ℕ) (points : List Point) (i p v : ℕ) (xs : List ℕ) → i < d.count → p < length xs → length xs ≡ length points
    → ((q : ℕ) → q < p → slice_index xs q ≡ value_at d modulus points i q) → v ≡ d.eval modulus i (point_at points p)
    → (q : ℕ) → q < p + 1 → slice_index (set xs p v) q ≡ value_at d modulus points i q
values_more d modulus points i p v xs li lp long h is q lq = elim (eq_or_below q p (let w : q < suc p = omega arith in w)) [
  | inl e ↦
      subst (λ (s : ℕ). slice_index (set xs p v) s ≡ value_at d modulus points i s) (sym e)
      (get_or-set_same xs p v 0 lp ∙ is ∙ sym (value_at-is d modulus points i p li (omega arith)))
  | inr b ↦ get_or-set_other xs p q v 0 (λ e. omega arith) ∙ h q b
]

-- ---- marks of functions that are sums with function i
pub marks_none : (d : Domain) (i : ℕ) (old : List Bool) → AreMarked d i old old
marks_none d i old = record { marks = λ s m. inl m }

pub marks_more : (d : Domain) (i g s : ℕ) (first old now : List Bool) → AreMarked d i first old → now ≡ set old s true → g < d.count → d.sum g i ≡ Some s → AreMarked d i first now
marks_more d i g s first old now h e lg is = record {
  marks = λ t m. elim (cases_eq t s) [
    | inl f ↦ inr (g, lg, is ∙ ap (λ (x : ℕ). let o : Option ℕ = Some x in o) (sym f))
    | inr n ↦ h.marks t (sym (get_or-set_other old s t true false n) ∙ ap (λ (w : List Bool). marked w t) (sym e) ∙ m)
  ];
}

-- the marks of a Vec that was lent as a slice
pub record IsLent (d : Domain) (i : ℕ) (old now : List Bool) : Type 0 where
  pub marked_now : AreMarked d i old now
  pub long : length now ≡ length old

pub lent : (d : Domain) (i : ℕ) (v : Vec Bool Global) (old now : List Bool) → length v.items ≡ v.len → old ≡ v.items → length now ≡ length old → AreMarked d i old now → IsLent d i v.items (with_items v now).items
lent d i v old now ok e long h =
    let is : (with_items v now).items ≡ now = with_items_is v now (long ∙ ap (λ (w : List Bool). length w) e ∙ ok) in
    record {
      marked_now = subst (λ (w : List Bool). AreMarked d i v.items w) (sym is) (subst (λ (w : List Bool). AreMarked d i w now) e h);
      long = ap (λ (w : List Bool). length w) is ∙ long ∙ ap (λ (w : List Bool). length w) e;
    }

-- ---- one member more
stored_more : (d : Domain) (modulus : ℕ) (points : List Point) (i : ℕ) (ranks vectors values : List ℕ) → length values ≡ length points → ((p : ℕ) → p < length points → slice_index values p ≡ value_at d modulus points i p)
    → AreStored d modulus points ranks vectors → AreStored d modulus points (ranks ++ i ∷ []) (vectors ++ values)
stored_more d modulus points i ranks vectors values long is h = record {
  n_vectors = length-append vectors values ∙ ap (λ (x : ℕ). x + length values) h.n_vectors ∙ ap (λ (x : ℕ). length ranks * length points + x) long
      ∙ sym (ap (λ (x : ℕ). x * length points) (length_push ranks i) ∙ (let e : (length ranks + 1) * length points ≡ length ranks * length points + length points = omega arith in e));
  values = λ k p lk lp. elim (eq_or_below k (length ranks) (let w : k < suc (length ranks) = omega (arith, length_push ranks i) in w)) [
    | inl e ↦
        subst (λ (s : ℕ). slice_index (vectors ++ values) (s * length points + p) ≡ value_at d modulus points (slice_index (ranks ++ i ∷ []) s) p) (sym e)
        (ap (λ (s : ℕ). slice_index (vectors ++ values) (s + p)) (sym h.n_vectors) ∙ get_or-append-add vectors values p 0 ∙ is p lp
        ∙ ap (λ (s : ℕ). value_at d modulus points s p) (sym (get_or_push ranks i 0 (length ranks) refl)))
    | inr b ↦
        get_or_append_left vectors values 0 (k * length points + p) (omega (arith, mul-add-lt k (length points) p (length ranks) b lp, h.n_vectors))
        ∙ h.values k p b lp ∙ ap (λ (s : ℕ). value_at d modulus points s p) (sym (get_or_append_left ranks (i ∷ []) 0 k b))
  ];
}

module _ (d : Domain) (modulus : ℕ) (points : List Point) (lawful : IsOrderDomain d) (is_modulus : IsModulus d.bits modulus) (are : ArePoints d modulus points) where
  values_small : (i p : ℕ) → value_at d modulus points i p < 2 ^ d.bits
  values_small = value_at-symbol d modulus points lawful is_modulus are

  abbrev IsOld : ℕ → Type 0
  IsOld j = IsCombination (gf_mul d.bits modulus) (length points) (value_at d modulus points) j (value_at d modulus points j)

  step_is : (bits s k m : ℕ) (values symbols order now order' : List ℕ) (t : Bool) → bits ≡ d.bits → s ≡ length points → k ≡ m → IsStep (2 ^ bits) (gf_mul bits modulus) s k values symbols order now order' t
      → IsStep (2 ^ d.bits) (gf_mul d.bits modulus) (length points) m values symbols order now order' t
  step_is bits s k m values symbols order now order' t e f g step =
      subst (λ (j : ℕ). IsStep (2 ^ d.bits) (gf_mul d.bits modulus) (length points) j values symbols order now order' t) g
      (subst (λ (n : ℕ). IsStep (2 ^ d.bits) (gf_mul d.bits modulus) n k values symbols order now order' t) f
      (subst (λ (b : ℕ). IsStep (2 ^ b) (gf_mul b modulus) s k values symbols order now order' t) e step))

  lists_are : (bits s : ℕ) (now order' : List ℕ) (used : List Bool) → bits ≡ d.bits → s ≡ length points → AreLists bits s now order' used → AreLists d.bits (length points) now order' used
  lists_are bits s now order' used e f h = subst (λ (n : ℕ). AreLists d.bits n now order' used) f (subst (λ (b : ℕ). AreLists b s now order' used) e h)

  no_marks : (n : ℕ) (old : List Bool) → old ≡ replicate n false → (p : ℕ) → marked old p ≡ false
  no_marks n old e p = ap (λ (w : List Bool). marked w p) e ∙ no_mark n p
    where
      no_mark : (n p : ℕ) → marked (replicate n false) p ≡ false
      no_mark zero p = refl
      no_mark (suc n) zero = refl
      no_mark (suc n) (suc p) = no_mark n p

  first_lists : (bits : ℕ) (symbols order : List ℕ) (used : List Bool) → bits ≡ d.bits → AreFirstLists bits (length points) symbols order used → AreLists d.bits (length points) symbols order used
  first_lists bits symbols order used e h = record {
    n_symbols = h.symbols_are.long;
    over = subst (λ (b : ℕ). All (λ x. x < 2 ^ b) symbols) e h.over;
    n_order = h.order_is.long;
    n_used = h.n_used;
    numbers = λ k l. subst (λ (s : ℕ). s < length points) (sym (h.order_is.entries k l)) l;
    distinct = λ j k l lk f. let g : j ≡ k = sym (h.order_is.entries j (omega arith)) ∙ f ∙ h.order_is.entries k lk in omega arith;
    units = λ p q lp lq u. h.symbols_are.entries p q lp lq;
  }

  pub so_far_none : (bits count : ℕ) (ranks vectors symbols order : List ℕ) (used old : List Bool) → bits ≡ d.bits → ranks ≡ [] → vectors ≡ [] → AreFirstLists bits (length points) symbols order used → count ≡ d.count → old ≡ replicate count false
      → AreSoFar d modulus points 0 ranks vectors symbols order used old
  so_far_none bits count ranks vectors symbols order used old e er ev first ec eo = subst (λ (xs : List ℕ). AreSoFar d modulus points 0 xs vectors symbols order used old) (sym er) (subst (λ (ys : List ℕ). AreSoFar d modulus points 0 [] ys symbols order used old) (sym ev) (record {
    functionals =
        functionals_same (2 ^ d.bits) (gf_mul d.bits modulus) (field_of d.bits modulus is_modulus) (length points) (value_at d modulus points) values_small 0 0 (slice_index []) (slice_index []) unit (list_of (length points) symbols order)
        (λ k p lk lp. ap (λ (s : ℕ). cell symbols (length points) p s) (first.order_is.entries k lk) ∙ first.symbols_are.entries p k lp lk ∙ unit-flip p k) (λ t l. refl)
        (functionals_none (2 ^ d.bits) (gf_mul d.bits modulus) (field_of d.bits modulus is_modulus) (length points) (value_at d modulus points) values_small (slice_index []));
    stored = record { n_vectors = (let e : 0 ≡ 0 * length points = omega arith in e); values = λ k p lk lp. absurd (omega arith) };
    are_lists = first_lists bits symbols order used e first;
    few = omega arith;
    n_old = ap length eo ∙ length-replicate count _ ∙ ec;
    old_are = λ j l m. absurd (true_false (sym m ∙ no_marks count old eo j));
  }))
    where
      true_false : true ≡ false → ⊥
      true_false e = cc

  -- with as many members as points no further function is new
  pub so_far_full : (i : ℕ) (ranks vectors symbols order : List ℕ) (used old : List Bool) → length points ≤ length ranks → AreSoFar d modulus points i ranks vectors symbols order used old → AreSoFar d modulus points (i + 1) ranks vectors symbols order used old
  so_far_full i ranks vectors symbols order used old full h = record {
    functionals =
        functionals_kept (2 ^ d.bits) (gf_mul d.bits modulus) (field_of d.bits modulus is_modulus) (length points) (value_at d modulus points) values_small i (length ranks) (slice_index ranks) (list_of (length points) symbols order) h.functionals
        (λ q a b. absurd (omega arith));
    stored = h.stored;
    are_lists = h.are_lists;
    few = h.few;
    n_old = h.n_old;
    old_are = h.old_are;
  }

  -- sums with a function that is a combination of those before it are such combinations
  pub marks_kept : (i : ℕ) (old now : List Bool) → i < d.count → IsOld i → AreMarked d i old now → ((j : ℕ) → j < d.count → marked old j ≡ true → IsOld j) → (j : ℕ) → j < d.count → marked now j ≡ true → IsOld j
  marks_kept i old now li is m before j lj mark = elim (m.marks j mark) [
    | inl e ↦ before j lj e
    | inr w ↦
        let law : HasOrderedValues d modulus points = values_law d modulus points lawful is_modulus are in
        let lg : w.0 < d.count = w.1 in
        let is_sum : sum_or_count d w.0 i ≡ j = sum_or_count-some d w.0 i j w.2 in
        let flipped : sum_or_count d i w.0 ≡ j = law.ordered.commute i w.0 li lg ∙ is_sum in
        subst (λ (s : ℕ). IsOld s) flipped
        (old_sum (2 ^ d.bits) (gf_mul d.bits modulus) (length points) d.count (field_of d.bits modulus is_modulus) (value_at d modulus points) (sum_or_count d) (lead_at d modulus) law.ordered
        i w.0 li lg (subst (λ (s : ℕ). s < d.count) (sym flipped) lj) is)
  ]

  -- a function that is a combination of those before it is no member
  pub so_far_passed : (i : ℕ) (ranks vectors symbols order : List ℕ) (used old : List Bool) → IsOld i → AreSoFar d modulus points i ranks vectors symbols order used old
      → AreSoFar d modulus points (i + 1) ranks vectors symbols order used old
  so_far_passed i ranks vectors symbols order used old is h = record {
    functionals =
        functionals_skipped (2 ^ d.bits) (gf_mul d.bits modulus) (length points) (value_at d modulus points) (field_of d.bits modulus is_modulus) i (length ranks) (slice_index ranks) (list_of (length points) symbols order) is h.functionals;
    stored = h.stored;
    are_lists = h.are_lists;
    few = h.few;
    n_old = h.n_old;
    old_are = h.old_are;
  }

  -- the sums with it are marked
  pub so_far_marked : (i at : ℕ) (ranks vectors symbols order : List ℕ) (used old now : List Bool) → i < d.count → IsOld i → IsLent d i old now → AreSoFar d modulus points at ranks vectors symbols order used old
      → AreSoFar d modulus points at ranks vectors symbols order used now
  so_far_marked i at ranks vectors symbols order used old now li is m h = record {
    functionals = h.functionals;
    stored = h.stored;
    are_lists = h.are_lists;
    few = h.few;
    n_old = m.long ∙ h.n_old;
    old_are = marks_kept i old now li is m.marked_now h.old_are;
  }

  pub so_far_skipped : (i : ℕ) (ranks vectors symbols order : List ℕ) (used old now : List Bool) → i < d.count → marked old i ≡ true → IsLent d i old now → AreSoFar d modulus points i ranks vectors symbols order used old
      → AreSoFar d modulus points (i + 1) ranks vectors symbols order used now
  so_far_skipped i ranks vectors symbols order used old now li mark m h =
      let is : IsOld i = h.old_are i li mark in
      record {
        functionals =
            functionals_skipped (2 ^ d.bits) (gf_mul d.bits modulus) (length points) (value_at d modulus points) (field_of d.bits modulus is_modulus) i (length ranks) (slice_index ranks) (list_of (length points) symbols order) is h.functionals;
        stored = h.stored;
        are_lists = h.are_lists;
        few = h.few;
        n_old = m.long ∙ h.n_old;
        old_are = marks_kept i old now li is m.marked_now h.old_are;
      }

  pub so_far_old : (bits s k i : ℕ) (ranks vectors values symbols order now order' : List ℕ) (used used' old marks : List Bool) → bits ≡ d.bits → s ≡ length points → k ≡ length ranks → i < d.count → ((p : ℕ) → p < length points → slice_index values p ≡ value_at d modulus points i p)
      → IsStep (2 ^ bits) (gf_mul bits modulus) s k values symbols order now order' false → AreLists bits s now order' used' → IsLent d i old marks
      → AreSoFar d modulus points i ranks vectors symbols order used old → AreSoFar d modulus points (i + 1) ranks vectors now order' used' marks
  so_far_old bits s k i ranks vectors values symbols order now order' used used' old marks e f g li is step shape m h =
      let w : IsStep (2 ^ d.bits) (gf_mul d.bits modulus) (length points) (length ranks) values symbols order now order' false = step_is bits s k (length ranks) values symbols order now order' false e f g step in
      let after : AreFunctionals (2 ^ d.bits) (gf_mul d.bits modulus) (length points) (value_at d modulus points) (i + 1) (length ranks) (slice_index ranks) (list_of (length points) now order') =
      w.step (value_at d modulus points) i (slice_index ranks) values_small is h.functionals in
      let old_here : IsOld i = after.others i (omega arith) (λ t l u. let b : slice_index ranks t < i = h.functionals.below t l in omega arith) in
      record {
        functionals = after;
        stored = h.stored;
        are_lists = lists_are bits s now order' used' e f shape;
        few = h.few;
        n_old = m.long ∙ h.n_old;
        old_are = marks_kept i old marks li old_here m.marked_now h.old_are;
      }

  pub so_far_new : (bits s k i : ℕ) (ranks vectors values ranks' vectors' symbols order now order' : List ℕ) (used used' old : List Bool) → bits ≡ d.bits → s ≡ length points → k ≡ length ranks → k < length points → length values ≡ length points
      → ((p : ℕ) → p < length points → slice_index values p ≡ value_at d modulus points i p)
      → IsStep (2 ^ bits) (gf_mul bits modulus) s k values symbols order now order' true → AreLists bits s now order' used' → ranks' ≡ ranks ++ i ∷ [] → vectors' ≡ vectors ++ values
      → AreSoFar d modulus points i ranks vectors symbols order used old → AreSoFar d modulus points (i + 1) ranks' vectors' now order' used' old
  so_far_new bits s k i ranks vectors values ranks' vectors' symbols order now order' used used' old e f g few long is step shape er ev h =
      let w : IsStep (2 ^ d.bits) (gf_mul d.bits modulus) (length points) (length ranks) values symbols order now order' true = step_is bits s k (length ranks) values symbols order now order' true e f g step in
      let grown : AreFunctionals (2 ^ d.bits) (gf_mul d.bits modulus) (length points) (value_at d modulus points) (i + 1) (length ranks + 1) (put (slice_index ranks) (length ranks) i) (list_of (length points) now order') =
      w.step (value_at d modulus points) i (slice_index ranks) values_small is h.functionals in
      let named : AreFunctionals (2 ^ d.bits) (gf_mul d.bits modulus) (length points) (value_at d modulus points) (i + 1) (length ranks + 1) (slice_index (ranks ++ i ∷ [])) (list_of (length points) now order') =
      functionals_same (2 ^ d.bits) (gf_mul d.bits modulus) (field_of d.bits modulus is_modulus) (length points) (value_at d modulus points) values_small (i + 1) (length ranks + 1)
      (put (slice_index ranks) (length ranks) i) (slice_index (ranks ++ i ∷ [])) (list_of (length points) now order') (list_of (length points) now order') (λ q p lq lp. refl) (λ t l. picked ranks i t l) grown in
      let whole : AreSoFar d modulus points (i + 1) (ranks ++ i ∷ []) (vectors ++ values) now order' used' old = record {
        functionals = subst (λ (m : ℕ). AreFunctionals (2 ^ d.bits) (gf_mul d.bits modulus) (length points) (value_at d modulus points) (i + 1) m (slice_index (ranks ++ i ∷ [])) (list_of (length points) now order')) (sym (length_push ranks i)) named;
        stored = stored_more d modulus points i ranks vectors values long is h.stored;
        are_lists = lists_are bits s now order' used' e f shape;
        few = omega (arith, length_push ranks i);
        n_old = h.n_old;
        old_are = h.old_are;
      } in
      subst (λ (xs : List ℕ). AreSoFar d modulus points (i + 1) xs vectors' now order' used' old) (sym er) (subst (λ (ys : List ℕ). AreSoFar d modulus points (i + 1) (ranks ++ i ∷ []) ys now order' used' old) (sym ev) whole)
    where
      picked : (ranks : List ℕ) (i t : ℕ) → t < length ranks + 1 → slice_index (ranks ++ i ∷ []) t ≡ put (slice_index ranks) (length ranks) i t
      picked ranks i t l = elim (eq_or_below t (length ranks) (let w : t < suc (length ranks) = omega arith in w)) [
        | inl e ↦ subst (λ (s : ℕ). slice_index (ranks ++ i ∷ []) s ≡ put (slice_index ranks) (length ranks) i s) (sym e) (get_or_push ranks i 0 (length ranks) refl ∙ sym (put-same (slice_index ranks) (length ranks) i))
        | inr b ↦ get_or_append_left ranks (i ∷ []) 0 t b ∙ sym (put-other (slice_index ranks) (length ranks) i t (omega arith))
      ]

  -- after the last function there are as many members as points; the lists in their order are dual to them
  pub so_far_all : (i s : ℕ) (ranks vectors symbols order duals : List ℕ) (used old : List Bool) → i ≡ d.count → s ≡ length points → IsTable s (list_of s symbols order) duals → AreSoFar d modulus points i ranks vectors symbols order used old → AreMembers d modulus points ranks vectors duals
  so_far_all i s ranks vectors symbols order duals used old e es table h =
      let law : HasOrderedValues d modulus points = values_law d modulus points lawful is_modulus are in
      let f : AreFunctionals (2 ^ d.bits) (gf_mul d.bits modulus) (length points) (value_at d modulus points) d.count (length ranks) (slice_index ranks) (list_of (length points) symbols order) =
      subst (λ (s : ℕ). AreFunctionals (2 ^ d.bits) (gf_mul d.bits modulus) (length points) (value_at d modulus points) s (length ranks) (slice_index ranks) (list_of (length points) symbols order)) e h.functionals in
      let t : IsTable (length points) (list_of (length points) symbols order) duals = subst (λ (m : ℕ). IsTable m (list_of m symbols order) duals) es table in
      let n_ranks : length ranks ≡ length points = f.counted ∙ law.new_count in
      record {
        n_ranks = n_ranks;
        below = λ k l. f.below k (omega arith);
        rising = λ j k l m. f.rising j k l (omega arith);
        fresh = λ k l. f.fresh k (omega arith);
        others = λ u l none. f.others u l (λ t m. none t (omega arith));
        stored = h.stored;
        n_duals = t.long;
        symbols = λ q p lq lp.
            subst (λ (x : ℕ). x < 2 ^ d.bits) (sym (t.entries q p lq lp))
            (h.are_lists.over (p * length points + slice_index order q) 0 (place_below (length points) (length points) p (slice_index order q) (length symbols) lp (h.are_lists.numbers q lq) h.are_lists.n_symbols));
        dual = λ k q lk lq.
            dot_entries (gf_mul d.bits modulus) (length points) (value_at d modulus points (slice_index ranks k)) (cell duals (length points) q) (value_at d modulus points (slice_index ranks k)) (list_of (length points) symbols order q)
            (λ p lp. refl) (λ p lp. t.entries q p lq lp)
            ∙ f.products k q (omega arith) lq;
      }
