-- The text that passes the checks is the table of the basis
use Rattle.std.proofs.Common.{◌≡◌, ◌≢◌, ℕ, zero, suc, ◌+◌, ◌^◌, ◌<◌, ◌≤◌, Bool, false, List, [], ◌∷◌, ◌++◌, length, map, get_or, refl, ap, sym, ◌∙◌, subst, arith, inl, inr, All, count_by, ◌-◌}
use Rattle.std.specs.Prelude.{slice_index}
use Rattle.std.specs.List.{range_with_len, flat_map}
use Rattle.std.proofs.lemmas.Bool.{cases_eq, cases_lt}
use Rattle.std.proofs.lemmas.List.{append-nil, get_or-map, length-map}
use Rattle.std.proofs.lemmas.List.Sums.{count_by-le-length}
use Rattle.std.proofs.lemmas.List.FromFn.{get_or-map-range_with_len, length-map-range_with_len}
use Rattle.field_theory.specs.Sums.{unit}
use Rattle.field_theory.proofs.Sums.{sum-same, sum-zero, zero-mul}
use Rattle.linear_theory.proofs.Spans.{put-same, put-other}
use Rattle.gf_theory.specs.Field.{IsModulus, gf_mul}
use Rattle.linear_theory.specs.Linear.{dot}
use Rattle.linear_theory.proofs.Duals.{dot_comm}
use Rattle.counting_theory.specs.Votes.{pairs}
use Rattle.order_theory.specs.Basis.{Basis, IsWord, IsSoundBasis, times, rank_at, label, vector, dual, pairs_at}
use Rattle.order_theory.specs.Codes.{marked, IsOrderBound}
use Rattle.order_theory.specs.Domains.{IsOrdered}
use Rattle.order_theory.proofs.Shape.{cases_value}
use Rattle.order_theory.proofs.Known.{spanned_same}
use Rattle.order_theory.proofs.Origins.{spanned_all}
use Rattle.order_theory.proofs.Theorems.{syndrome_law}
use Rattle.order_domain.specs.declared.Point.{Point}
use Rattle.order_domain.specs.Domain.{Domain, ArePoints, IsOrderDomain}
use Rattle.order_domain.specs.Values.{value_at, sum_or_count, lead_at}
use Rattle.order_domain.proofs.Values.{ordered_values}
use Rattle.eval_basis.specs.declared.checked.CheckRule.{CheckRule}
use Rattle.eval_basis.specs.Rules.{rule_checks, checked_by}
use Rattle.eval_basis.specs.Built.{IsBuilt}
use Rattle.eval_basis.proofs.Marks.{marked-checked_by}
use Rattle.order_bound.specs.TableText.{Entry, title, head_line, entry_line, entry_of, table_text, basis_table, IsTableOf}
use Rattle.order_bound.specs.TableForm.{IsForm, IsHead}
use Rattle.order_bound.specs.TableChecks.{entry_at, IsIndex, IsGoodLabel, dual_product, IsGoodDual, AreGood, IsGoodHead, IsSaid, IsAccepted}
use Rattle.order_bound.proofs.Counting.{pairs-le-count}
use Rattle.order_bound.proofs.Conversions.{count_marks}

pub lists_same : {A : Type 0} (xs ys : List A) (d : A) → length xs ≡ length ys → ((k : ℕ) → k < length xs → get_or xs k d ≡ get_or ys k d) → xs ≡ ys
lists_same [] [] d e h = refl
lists_same [] (y ∷ ys) d e h = absurd (let z : 0 ≡ suc (length ys) = e in omega arith)
lists_same (x ∷ xs) [] d e h = absurd (let z : suc (length xs) ≡ 0 = e in omega arith)
lists_same (x ∷ xs) (y ∷ ys) d e h =
    let z : suc (length xs) ≡ suc (length ys) = e in
    ap (λ z. z ∷ xs) (h 0 (omega arith)) ∙ ap (λ zs. y ∷ zs) (lists_same xs ys d (omega arith) (λ k l. h (suc k) (omega arith)))

-- n rising numbers below n are 0 to n - 1
module _ (n : ℕ) (R : ℕ → ℕ → Type 0) (some : (k : ℕ) → k < n → (q : ℕ) × (q < n) × R k q) (below : (k q : ℕ) → k < n → R k q → q < n)
    (rise : (k q p : ℕ) → suc k < n → R k q → R (suc k) p → q < p) where
  low : (k q : ℕ) → k < n → R k q → k ≤ q
  low zero q l r = omega arith
  low (suc k) q l r =
      let s = some k (omega arith) in
      let i : k ≤ s.0 = low k s.0 (omega arith) s.2 in
      let j : s.0 < q = rise k s.0 q l s.2 r in
      omega arith

  high : (m k q : ℕ) → k + m + 1 ≡ n → R k q → q ≤ k
  high zero k q e r = let l : q < n = below k q (omega arith) r in omega arith
  high (suc m) k q e r =
      let s = some (suc k) (omega arith) in
      let i : s.0 ≤ suc k = high m (suc k) s.0 (omega arith) s.2 in
      let j : q < s.0 = rise k q s.0 (omega arith) r s.2 in
      omega arith

  pub each_is : (k : ℕ) → k < n → R k k
  each_is k l =
      let s = some k l in
      let a : k ≤ s.0 = low k s.0 l s.2 in
      let m : (m : ℕ) × (k + m + 1 ≡ n) = (n - k - 1, omega arith) in
      let c : s.0 ≤ k = high m.0 k s.0 m.1 s.2 in
      let e : s.0 ≡ k = omega arith in
      subst (λ (q : ℕ). R k q) e s.2

pub entry_same : (e : Entry) (w p : ℕ) (m : Bool) (x : List ℕ) → e.label ≡ w → e.pairs ≡ p → e.mark ≡ m → e.dual ≡ x → e ≡ record { label = w; pairs = p; mark = m; dual = x }
entry_same e w p m x ew ep em ex =
    ap (λ (v : ℕ). record { label = v; pairs = e.pairs; mark = e.mark; dual = e.dual }) ew
    ∙ ap (λ (v : ℕ). record { label = w; pairs = v; mark = e.mark; dual = e.dual }) ep
    ∙ ap (λ (v : Bool). record { label = w; pairs = p; mark = v; dual = e.dual }) em
    ∙ ap (λ (v : List ℕ). record { label = w; pairs = p; mark = m; dual = v }) ex

module _ (d : Domain) (modulus : ℕ) (points : List Point) (b : Basis) (rule : CheckRule) (lawful : IsOrderDomain d) (are : ArePoints d modulus points) (built : IsBuilt d modulus points b) (sound : IsSoundBasis b) where
  is_modulus : IsModulus d.bits modulus
  is_modulus = rw (← built.bits_are, ← built.modulus_is) sound.modulus

  ordered : IsOrdered (2 ^ b.bits) (times b) b.n b.count (value_at d modulus points) (sum_or_count d) (lead_at d modulus)
  ordered = rw (built.bits_are, built.modulus_is, built.n_is, built.count_is) (ordered_values d modulus points lawful is_modulus are)

  product_is : (x : ℕ → ℕ) (i : ℕ) → dot (times b) b.n x (value_at d modulus points i) ≡ dot (gf_mul d.bits modulus) (length points) x (value_at d modulus points i)
  product_is x i = rw (built.bits_are, built.modulus_is, built.n_is) refl

  member_product : (x : ℕ → ℕ) (k : ℕ) → k < b.n → dot (times b) b.n x (value_at d modulus points (rank_at b k)) ≡ dot (times b) b.n x (vector b k)
  member_product x k l = sum-same b.n (λ p. times b (x p) (value_at d modulus points (rank_at b k) p)) (λ p. times b (x p) (vector b k p)) (λ p lp. ap (λ (y : ℕ). times b (x p) y) (sym (built.members.vectors k p l lp)))

  zero_products : (v : ℕ → ℕ) → dot (times b) b.n (λ p. 0) v ≡ 0
  zero_products v = sum-zero b.n (λ p. times b 0 (v p)) (λ p k. zero-mul (2 ^ b.bits) (times b) sound.sound.field (v p))

  -- what is 0 at the members up to a function is 0 at that function
  zero_at : (x : ℕ → ℕ) (i : ℕ) → i < b.count → ((m : ℕ) → m < b.n → rank_at b m < suc i → dot (times b) b.n x (vector b m) ≡ 0) → dot (times b) b.n x (value_at d modulus points i) ≡ 0
  zero_at x i li h =
      spanned_same (times b) b sound.sound x (λ p. 0) (suc i) (value_at d modulus points i) (λ m lm before. h m lm before ∙ sym (zero_products (vector b m)))
      (spanned_all (times b) b sound.sound.field (value_at d modulus points) (sum_or_count d) (lead_at d modulus) ordered built.members b.count (omega arith) i li)
      ∙ zero_products (value_at d modulus points i)

  dual_vector : (k m : ℕ) → k < b.n → m < b.n → dot (times b) b.n (dual b k) (vector b m) ≡ unit m k
  dual_vector k m lk lm = dot_comm (2 ^ b.bits) (times b) sound.sound.field b.n (dual b k) (vector b m) ∙ sound.sound.shape.duals_fit.products m k lm lk

  rank_below : (k : ℕ) → k < b.n → rank_at b k < d.count
  rank_below k l = let e : b.count ≡ d.count = built.count_is in omega (arith, built.members.ranks_below k l)

  -- labels and indices rise together
  index_below : (i j : ℕ) → i < d.count → j < d.count → d.label i < d.label j → i < j
  index_below i j li lj less = elim (cases_lt i j) [
    | inl l ↦ l
    | inr more ↦ elim (cases_eq i j) [
      | inl e ↦ absurd (let f : d.label i ≡ d.label j = ap d.label e in omega arith)
      | inr other ↦ absurd (omega (arith, lawful.labels_rise j i (omega arith) li))
    ]
  ]

  index_same : (i j : ℕ) → i < d.count → j < d.count → d.label i ≡ d.label j → i ≡ j
  index_same i j li lj e = elim (cases_eq i j) [
    | inl q ↦ q
    | inr other ↦ elim (cases_lt i j) [
      | inl less ↦ absurd (omega (arith, lawful.labels_rise i j less lj))
      | inr more ↦ absurd (omega (arith, lawful.labels_rise j i (omega arith) li))
    ]
  ]

  member_below : (i j : ℕ) → i < b.n → j < b.n → rank_at b i < rank_at b j → i < j
  member_below i j li lj less = elim (cases_lt i j) [
    | inl l ↦ l
    | inr more ↦ elim (cases_eq i j) [
      | inl e ↦ absurd (let f : rank_at b i ≡ rank_at b j = ap (rank_at b) e in omega arith)
      | inr other ↦ absurd (omega (arith, built.members.ranks_rise j i (omega arith) li))
    ]
  ]

  member_index : (k : ℕ) → k < b.n → IsIndex d (label b k) (rank_at b k)
  member_index k l = record { below = rank_below k l; is = sym (built.labels k l) }

  mark_of : (k : ℕ) → k < b.n → marked (checked_by b rule) k ≡ rule_checks rule (label b k) (pairs_at b k)
  mark_of k l = marked-checked_by b rule k l

  n_marks : length (checked_by b rule) ≡ b.n
  n_marks = length-map-range_with_len (λ k. rule_checks rule (label b k) (pairs_at b k)) 0 b.n

  module _ (entries : List Entry) (long : length entries ≡ b.n) where
    abbrev pub AreMembers : Type 0
    AreMembers = (k : ℕ) → k < b.n → entry_at entries k ≡ entry_of b (checked_by b rule) k

    -- ---- the entries of the table
    module _ (at : AreMembers) where
      whole : entries ≡ map (entry_of b (checked_by b rule)) (range_with_len 0 b.n)
      whole = lists_same entries (map (entry_of b (checked_by b rule)) (range_with_len 0 b.n)) (record { label = 0; pairs = 0; mark = false; dual = [] })
          (long ∙ sym (length-map-range_with_len (entry_of b (checked_by b rule)) 0 b.n))
          (λ k l. at k (omega arith) ∙ sym (get_or-map-range_with_len (entry_of b (checked_by b rule)) 0 b.n k k _ (omega arith) (omega arith)))

      marks_same : map (λ (e : Entry). e.mark) entries ≡ checked_by b rule
      marks_same = lists_same (map (λ (e : Entry). e.mark) entries) (checked_by b rule) false (length-map entries (λ (e : Entry). e.mark) ∙ long ∙ sym n_marks)
          (λ k l. let lk : k < length entries = omega (arith, length-map entries (λ (e : Entry). e.mark)) in get_or-map (λ (e : Entry). e.mark) entries k _ false lk ∙ ap (λ (e : Entry). e.mark) (at k (omega arith)))

      pub marks_counted : count_by (λ (e : Entry). e.mark) entries ≡ count_by (λ (m : Bool). m) (checked_by b rule)
      marks_counted = sym (count_marks entries) ∙ ap (λ (ms : List Bool). count_by (λ (m : Bool). m) ms) marks_same

      pub table_is : (checked bound : ℕ) (text : List ℕ) → IsSaid (2 ^ d.bits) (length points) text checked bound entries → IsGoodHead checked bound entries → text ≡ basis_table b (checked_by b rule) bound
      table_is checked bound text s h =
          s.lines.is ∙ append-nil (title ++ head_line (length points) checked bound ++ flat_map entry_line entries)
          ∙ ap (λ (n : ℕ). table_text n checked bound entries) (sym built.n_is)
          ∙ ap (λ (m : ℕ). table_text b.n m bound entries) (h.checked_are ∙ marks_counted)
          ∙ ap (table_text b.n (count_by (λ (m : Bool). m) (checked_by b rule)) bound) whole

      pub bound_is : (checked bound : ℕ) → IsGoodHead checked bound entries → IsOrderBound b (checked_by b rule) bound
      bound_is checked bound h =
          let lk : h.reached.0 < b.n = omega (arith, h.reached.1) in
          record {
            reached = (h.reached.0, lk, sym (ap (λ (e : Entry). e.mark) (at h.reached.0 lk)) ∙ h.reached.2, sym (ap (λ (e : Entry). e.pairs) (at h.reached.0 lk)) ∙ h.reached.3);
            least = record { at_most = λ k l f. omega (arith, ap (λ (e : Entry). e.pairs) (at k l), h.least k (omega arith) (ap (λ (e : Entry). e.mark) (at k l) ∙ f)) };
          }

      -- ---- and that the table passes the checks
      product_at : (k i : ℕ) → k < b.n → dual_product d modulus points entries k i ≡ dot (times b) b.n (dual b k) (value_at d modulus points i)
      product_at k i l = ap (λ (e : Entry). dot (gf_mul d.bits modulus) (length points) (slice_index e.dual) (value_at d modulus points i)) (at k l) ∙ sym (product_is (dual b k) i)

      index_at : (k i : ℕ) → k < b.n → IsIndex d (entry_at entries k).label i → i ≡ rank_at b k
      index_at k i l x = index_same i (rank_at b k) x.below (rank_below k l) (x.is ∙ ap (λ (e : Entry). e.label) (at k l) ∙ built.labels k l)

      pub good_label : (k : ℕ) → k < b.n → IsGoodLabel d rule entries k
      good_label k l = record {
        index = rank_at b k;
        is_index = record { below = rank_below k l; is = sym (built.labels k l) ∙ sym (ap (λ (e : Entry). e.label) (at k l)) };
        above = λ j e. omega (arith, ap (λ (e : Entry). e.label) (at k l), ap (λ (e : Entry). e.label) (at j (omega arith)), sound.sound.shape.labels_rise j k (omega arith) l);
        pairs_are = ap (λ (e : Entry). e.pairs) (at k l) ∙ built.pairs_are k l;
        mark_is = ap (λ (e : Entry). e.mark) (at k l) ∙ mark_of k l ∙ sym (ap (λ (e : Entry). rule_checks rule e.label e.pairs) (at k l));
      }

      pub good_dual : (k : ℕ) → k < b.n → IsGoodDual d modulus points entries k
      good_dual k l = record {
        before = λ i li less.
            let e : b.count ≡ d.count = built.count_is in
            let low : i < rank_at b k = index_below i (rank_at b k) li (rank_below k l) (omega (arith, ap (λ (e : Entry). e.label) (at k l), built.labels k l)) in
            product_at k i l ∙ zero_at (dual b k) i (omega arith)
            (λ m lm up. dual_vector k m l lm ∙ put-other (λ i. 0) m 1 k (λ q. let f : rank_at b k ≡ rank_at b m = ap (rank_at b) q in omega arith));
        own = λ i x. product_at k i l ∙ ap (λ (j : ℕ). dot (times b) b.n (dual b k) (value_at d modulus points j)) (index_at k i l x) ∙ member_product (dual b k) k l ∙ dual_vector k k l l ∙ put-same (λ i. 0) k 1;
        later = λ j i less lj x.
            let m : j < b.n = omega arith in
            product_at k i l ∙ ap (λ (q : ℕ). dot (times b) b.n (dual b k) (value_at d modulus points q)) (index_at j i m x) ∙ member_product (dual b k) j m ∙ dual_vector k j l m ∙ put-other (λ i. 0) j 1 k (λ q. omega arith);
      }

      pub good_head : (bound : ℕ) → IsOrderBound b (checked_by b rule) bound → IsGoodHead (count_by (λ (m : Bool). m) (checked_by b rule)) bound entries
      good_head bound o = record {
        checked_are = sym marks_counted;
        reached = let lk : o.reached.0 < b.n = o.reached.1 in (o.reached.0, omega arith, ap (λ (e : Entry). e.mark) (at o.reached.0 lk) ∙ o.reached.2, ap (λ (e : Entry). e.pairs) (at o.reached.0 lk) ∙ o.reached.3);
        least = λ k l f. let lk : k < b.n = omega arith in omega (arith, ap (λ (e : Entry). e.pairs) (at k lk), o.least.at_most k lk (sym (ap (λ (e : Entry). e.mark) (at k lk)) ∙ f));
      }

    -- ---- lines that pass the checks are those of the members
    module _ (labels : AreGood (length points) (IsGoodLabel d rule entries)) (duals : AreGood (length points) (IsGoodDual d modulus points entries)) (forms : All (IsForm (2 ^ d.bits) (length points)) entries) where
      good_at : (k : ℕ) → k < b.n → IsGoodLabel d rule entries k
      good_at k l = labels.each k (let e : b.n ≡ length points = built.n_is in omega arith)

      dual_at : (k : ℕ) → k < b.n → IsGoodDual d modulus points entries k
      dual_at k l = duals.each k (let e : b.n ≡ length points = built.n_is in omega arith)

      list_product : (k i : ℕ) → dot (times b) b.n (slice_index (entry_at entries k).dual) (value_at d modulus points i) ≡ dual_product d modulus points entries k i
      list_product k i = product_is (slice_index (entry_at entries k).dual) i

      -- the function of a line is a member's
      is_member : (k : ℕ) → k < b.n → (q : ℕ) × (q < b.n) × IsIndex d (entry_at entries k).label (rank_at b q)
      is_member k l = elim (cases_value b.n (rank_at b) (good_at k l).index) [
        | inl w ↦ (w.0, w.1, subst (λ (i : ℕ). IsIndex d (entry_at entries k).label i) w.2 (good_at k l).is_index)
        | inr other ↦
            let i : ℕ = (good_at k l).index in
            let x : IsIndex d (entry_at entries k).label (good_at k l).index = (good_at k l).is_index in
            let e : b.count ≡ d.count = built.count_is in
            let one : dual_product d modulus points entries k (good_at k l).index ≡ 1 = (dual_at k l).own (good_at k l).index x in
            let none : dot (times b) b.n (slice_index (entry_at entries k).dual) (value_at d modulus points (good_at k l).index) ≡ 0 =
            zero_at (slice_index (entry_at entries k).dual) (good_at k l).index (omega (arith, x.below))
            (λ m lm up.
            let o : (good_at k l).index ≢ rank_at b m = other m lm in
            let less : d.label (rank_at b m) < d.label (good_at k l).index = lawful.labels_rise (rank_at b m) (good_at k l).index (omega arith) x.below in
            sym (member_product (slice_index (entry_at entries k).dual) m lm) ∙ list_product k (rank_at b m) ∙ (dual_at k l).before (rank_at b m) (rank_below m lm) (omega (arith, x.is))) in
            absurd (omega (arith, list_product k (good_at k l).index))
      ]

      abbrev IsLine : ℕ → ℕ → Type 0
      IsLine k q = (q < b.n) × IsIndex d (entry_at entries k).label (rank_at b q)

      line_rise : (k q p : ℕ) → suc k < b.n → IsLine k q → IsLine (suc k) p → q < p
      line_rise k q p l x y =
          member_below q p x.0 y.0 (index_below (rank_at b q) (rank_at b p) (rank_below q x.0) (rank_below p y.0) (omega (arith, x.1.is, y.1.is, (good_at (suc k) l).above k refl)))

      line_is : (k : ℕ) → k < b.n → IsLine k k
      line_is = each_is b.n IsLine (λ k l. let m = is_member k l in (m.0, m.1, (m.1, m.2))) (λ k q l x. x.0) line_rise

      pub are_members : AreMembers
      are_members k l =
          let x : IsIndex d (entry_at entries k).label (rank_at b k) = (line_is k l).1 in
          let g : IsGoodLabel d rule entries k = good_at k l in
          let same : g.index ≡ rank_at b k = index_same g.index (rank_at b k) g.is_index.below x.below (g.is_index.is ∙ sym x.is) in
          let w : (entry_at entries k).label ≡ label b k = sym x.is ∙ sym (built.labels k l) in
          let p : (entry_at entries k).pairs ≡ pairs_at b k = g.pairs_are ∙ ap (pairs d.count (sum_or_count d)) same ∙ sym (built.pairs_are k l) in
          let m : (entry_at entries k).mark ≡ marked (checked_by b rule) k = g.mark_is ∙ ap (λ (v : ℕ). rule_checks rule v (entry_at entries k).pairs) w ∙ ap (rule_checks rule (label b k)) p ∙ sym (mark_of k l) in
          entry_same (entry_at entries k) (label b k) (pairs_at b k) (marked (checked_by b rule) k) (get_or b.duals k []) w p m (same_dual k l x)
        where
          form_at : (k : ℕ) → k < b.n → IsForm (2 ^ d.bits) (length points) (entry_at entries k)
          form_at k l = forms k _ (omega arith)

          words : (k : ℕ) → k < b.n → IsWord b.bits b.n (entry_at entries k).dual
          words k l = record { n_long = (form_at k l).n_symbols ∙ sym built.n_is; symbols = subst (λ (m : ℕ). All (λ y. y < 2 ^ m) (entry_at entries k).dual) (sym built.bits_are) (form_at k l).symbols }

          products : (k m : ℕ) → k < b.n → m < b.n → IsIndex d (entry_at entries k).label (rank_at b k) → dot (times b) b.n (slice_index (entry_at entries k).dual) (vector b m) ≡ unit m k
          products k m l lm x = sym (member_product (slice_index (entry_at entries k).dual) m lm) ∙ list_product k (rank_at b m) ∙ elim (cases_lt m k) [
            | inl less ↦
                let up : rank_at b m < rank_at b k = built.members.ranks_rise m k less l in
                (dual_at k l).before (rank_at b m) (rank_below m lm) (omega (arith, x.is, lawful.labels_rise (rank_at b m) (rank_at b k) up (rank_below k l))) ∙ sym (put-other (λ i. 0) m 1 k (λ q. omega arith))
            | inr more ↦ elim (cases_eq m k) [
              | inl e ↦ ap (λ (j : ℕ). dual_product d modulus points entries k (rank_at b j)) e ∙ (dual_at k l).own (rank_at b k) x ∙ sym (put-same (λ i. 0) k 1) ∙ ap (λ (j : ℕ). unit j k) (sym e)
              | inr other ↦ (dual_at k l).later m (rank_at b m) (omega arith) (omega arith) (line_is m lm).1 ∙ sym (put-other (λ i. 0) m 1 k (λ q. omega arith))
            ]
          ]

          same_dual : (k : ℕ) → (l : k < b.n) → IsIndex d (entry_at entries k).label (rank_at b k) → (entry_at entries k).dual ≡ get_or b.duals k []
          same_dual k l x =
              syndrome_law (times b) b (entry_at entries k).dual (get_or b.duals k []) sound.sound (words k l) (sound.sound.shape.dual_words k [] (let e : length b.duals ≡ b.n = sound.sound.shape.n_duals in omega arith))
              (record { each = λ m lm. products k m l lm x ∙ sym (dual_vector k m l lm) })

  -- ---- both ways
  pub accepted_is_table : (text : List ℕ) (bound : ℕ) → IsAccepted d modulus points rule text bound → IsOrderBound b (checked_by b rule) bound × (text ≡ basis_table b (checked_by b rule) bound)
  accepted_is_table text bound a =
      let long : length a.entries ≡ b.n = a.is_said.n_entries ∙ sym built.n_is in
      let at : AreMembers a.entries long = are_members a.entries long a.labels a.duals a.is_said.lines.forms in
      (bound_is a.entries long at a.checked bound a.head, table_is a.entries long at a.checked bound text a.is_said a.head)

  module _ (text : List ℕ) (t : IsTableOf b (checked_by b rule) text) (few : d.count < 2 ^ 32) (readable : (i : ℕ) → i < d.count → d.label i < 2 ^ 32) where
    entries_of : List Entry
    entries_of = map (entry_of b (checked_by b rule)) (range_with_len 0 b.n)

    n_entries : length entries_of ≡ b.n
    unfolding entries_of
    n_entries = length-map-range_with_len (entry_of b (checked_by b rule)) 0 b.n

    are_entries : AreMembers entries_of n_entries
    unfolding entries_of
    are_entries k l = get_or-map-range_with_len (entry_of b (checked_by b rule)) 0 b.n k k _ l (omega arith)

    pairs_small : (k : ℕ) → k < b.n → pairs_at b k < 2 ^ 32
    pairs_small k l = omega (arith, built.pairs_are k l, pairs-le-count d lawful (rank_at b k) (rank_below k l))

    label_small : (k : ℕ) → k < b.n → label b k < 2 ^ 32
    label_small k l = omega (arith, built.labels k l, readable (rank_at b k) (rank_below k l))

    form_of : (k : ℕ) → k < b.n → IsForm (2 ^ d.bits) (length points) (entry_of b (checked_by b rule) k)
    form_of k l =
        let w : IsWord b.bits b.n (get_or b.duals k []) = sound.sound.shape.dual_words k [] (let e : length b.duals ≡ b.n = sound.sound.shape.n_duals in omega arith) in
        record {
          label_read = omega (arith, label_small k l);
          pairs_read = omega (arith, pairs_small k l);
          n_symbols = w.n_long ∙ built.n_is;
          symbols = subst (λ (m : ℕ). All (λ y. y < 2 ^ m) (get_or b.duals k [])) built.bits_are w.symbols;
        }

    forms_of : All (IsForm (2 ^ d.bits) (length points)) entries_of
    unfolding entries_of
    forms_of k e l =
        let lk : k < b.n = omega (arith, n_entries) in
        subst (λ (x : Entry). IsForm (2 ^ d.bits) (length points) x) (sym (get_or-map-range_with_len (entry_of b (checked_by b rule)) 0 b.n k k e lk (omega arith))) (form_of k lk)

    head_of : IsHead (count_by (λ (m : Bool). m) (checked_by b rule)) t.bound
    head_of =
        let r = t.is_bound.reached in
        record {
          checked_read = omega (arith, count_by-le-length (λ (m : Bool). m) (checked_by b rule), n_marks, sound.sound.shape.few_members);
          bound_read = omega (arith, r.3, pairs_small r.0 r.1);
        }

    pub table_is_accepted : IsAccepted d modulus points rule text t.bound
    unfolding entries_of
    table_is_accepted = record {
      checked = count_by (λ (m : Bool). m) (checked_by b rule);
      entries = entries_of;
      is_said = record {
        lines = record {
          head = head_of;
          forms = forms_of;
          is = t.is ∙ ap (λ (n : ℕ). table_text n (count_by (λ (m : Bool). m) (checked_by b rule)) t.bound entries_of) built.n_is
              ∙ sym (append-nil (title ++ head_line (length points) (count_by (λ (m : Bool). m) (checked_by b rule)) t.bound ++ flat_map entry_line entries_of));
        };
        n_entries = n_entries ∙ built.n_is;
      };
      labels = record { each = λ k l. good_label entries_of n_entries are_entries k (let e : b.n ≡ length points = built.n_is in omega arith) };
      duals = record { each = λ k l. good_dual entries_of n_entries are_entries k (let e : b.n ≡ length points = built.n_is in omega arith) };
      head = good_head entries_of n_entries are_entries t.bound t.is_bound;
    }
