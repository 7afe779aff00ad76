-- The checks by plain lists are the checks of the label lines
use Rattle.std.proofs.Common.{◌≡◌, ℕ, zero, suc, ◌+◌, ◌-◌, ◌*◌, ◌<◌, Bool, true, false, cond, List, [], ◌∷◌, ◌++◌, length, take, drop, map, get_or, refl, ap, sym, ◌∙◌, subst, arith, inl, inr, All, count_by}
use Rattle.std.specs.Prelude.{slice_index, MatchBool}
use Rattle.std.specs.List.{fold, flat_map, slice_range}
use Rattle.std.proofs.Math.Seq.{drop-append-add}
use Rattle.std.proofs.lemmas.Bool.{cases_eq, cases_lt}
use Rattle.std.proofs.lemmas.List.{get_or-map, take-append-le, length-append, length-map, take_all}
use Rattle.std.proofs.lemmas.List.Elements.{All-append, All-nil}
use Rattle.field_theory.proofs.Sums.{sum-same}
use Rattle.gf_theory.specs.Field.{gf_mul}
use Rattle.linear_theory.specs.Linear.{dot, combine}
use Rattle.gf_linear.specs.Cells.{cell}
use Rattle.counting_theory.specs.Votes.{pairs}
use Rattle.order_theory.specs.Codes.{marked}
use Rattle.order_domain.specs.declared.Point.{Point}
use Rattle.order_domain.specs.Domain.{Domain}
use Rattle.order_domain.specs.Values.{value_at, sum_or_count}
use Rattle.eval_basis.specs.declared.checked.CheckRule.{CheckRule}
use Rattle.eval_basis.specs.Rules.{rule_checks}
use Rattle.order_bound.specs.declared.functions.Functions.{Functions}
use Rattle.order_bound.specs.declared.reader.Entries.{Entries}
use Rattle.order_bound.specs.TableText.{Entry}
use Rattle.order_bound.specs.TableForm.{IsForm}
use Rattle.order_bound.specs.Reading.{AreColumns}
use Rattle.order_bound.specs.Checking.{IsGrid, AreFunctions, IsIndexOf, AreIndices, IsLabelBy, product_of, IsDualBy, IsHeadBy}
use Rattle.order_bound.specs.TableChecks.{entry_at, IsIndex, IsGoodLabel, dual_product, IsGoodDual, AreGood, IsFirstBad, IsGoodHead}

-- ---- dual lists in a row
long_duals : (n : ℕ) (entries : List Entry) → All (λ (e : Entry). length e.dual ≡ n) entries → length (flat_map (λ (e : Entry). e.dual) entries) ≡ length entries * n
long_duals n [] h = let z : 0 ≡ 0 * n = omega arith in z
long_duals n (e ∷ es) h =
    let here : length e.dual ≡ n = h 0 e (omega arith) in
    let there : length (flat_map (λ (e : Entry). e.dual) es) ≡ length es * n = long_duals n es (λ k d l. h (suc k) d (omega arith)) in
    length-append e.dual (flat_map (λ (e : Entry). e.dual) es) ∙ (let z : length e.dual + length (flat_map (λ (e : Entry). e.dual) es) ≡ suc (length es) * n = omega arith in z)

dual_row : (n k : ℕ) (entries : List Entry) (d : Entry) → All (λ (e : Entry). length e.dual ≡ n) entries → k < length entries → take n (drop (k * n) (flat_map (λ (e : Entry). e.dual) entries)) ≡ (get_or entries k d).dual
dual_row n k [] d h l = absurd (omega arith)
dual_row n zero (e ∷ es) d h l =
    let here : length e.dual ≡ n = h 0 e (omega arith) in
    ap (λ (i : ℕ). take n (drop i (e.dual ++ flat_map (λ (e : Entry). e.dual) es))) (let z : 0 * n ≡ 0 = omega arith in z)
    ∙ take-append-le n e.dual (flat_map (λ (e : Entry). e.dual) es) (omega arith) ∙ take_all n e.dual (omega arith)
dual_row n (suc k) (e ∷ es) d h l =
    let here : length e.dual ≡ n = h 0 e (omega arith) in
    ap (λ (i : ℕ). take n (drop i (e.dual ++ flat_map (λ (e : Entry). e.dual) es))) (let z : suc k * n ≡ length e.dual + k * n = omega arith in z)
    ∙ ap (take n) (drop-append-add e.dual (flat_map (λ (e : Entry). e.dual) es) (k * n))
    ∙ dual_row n k es d (λ i x m. h (suc i) x (omega arith)) (omega arith)

small_duals : (size : ℕ) (entries : List Entry) → All (λ (e : Entry). All (λ x. x < size) e.dual) entries → All (λ x. x < size) (flat_map (λ (e : Entry). e.dual) entries)
small_duals size [] h = All-nil (λ x. x < size)
small_duals size (e ∷ es) h = All-append (λ x. x < size) e.dual (flat_map (λ (e : Entry). e.dual) es) (h 0 e (omega arith)) (small_duals size es (λ k d l. h (suc k) d (omega arith)))

fold_marks : (entries : List Entry) (a : ℕ) → fold (λ (k : ℕ) (m : Bool). k + cond m 1 0) a (map (λ (e : Entry). e.mark) entries) ≡ fold (λ (k : ℕ) (e : Entry). k + cond e.mark 1 0) a entries
fold_marks [] a = refl
fold_marks (e ∷ es) a = fold_marks es (a + cond e.mark 1 0)

pub count_marks : (entries : List Entry) → count_by (λ (m : Bool). m) (map (λ (e : Entry). e.mark) entries) ≡ count_by (λ (e : Entry). e.mark) entries
count_marks entries = fold_marks entries 0

-- ---- columns
module _ (size n : ℕ) (entries : List Entry) (c : Entries) (cols : AreColumns entries c) (forms : All (IsForm size n) entries) (long : length entries ≡ n) where
  duals_long : All (λ (e : Entry). length e.dual ≡ n) entries
  duals_long k d l = (forms k d l).n_symbols

  pub n_duals : length c.duals.items ≡ n * n
  n_duals = ap length cols.duals_are ∙ long_duals n entries duals_long ∙ ap (λ (x : ℕ). x * n) long

  pub duals_small : All (λ x. x < size) c.duals.items
  duals_small = subst (λ (z : List ℕ). All (λ x. x < size) z) (sym cols.duals_are) (small_duals size entries (λ k d l. (forms k d l).symbols))

  module _ (k : ℕ) (l : k < n) where
    pub label_is : slice_index c.labels.items k ≡ (entry_at entries k).label
    label_is = ap (λ (z : List ℕ). get_or z k 0) cols.labels_are ∙ get_or-map (λ (e : Entry). e.label) entries k _ 0 (omega arith)

    pub pairs_is : slice_index c.pairs.items k ≡ (entry_at entries k).pairs
    pairs_is = ap (λ (z : List ℕ). get_or z k 0) cols.pairs_are ∙ get_or-map (λ (e : Entry). e.pairs) entries k _ 0 (omega arith)

    pub mark_is : marked c.marks.items k ≡ (entry_at entries k).mark
    mark_is = ap (λ (z : List Bool). get_or z k false) cols.marks_are ∙ get_or-map (λ (e : Entry). e.mark) entries k _ false (omega arith)

    pub dual_is : slice_range c.duals.items (k * n) (k * n + n) ≡ (entry_at entries k).dual
    dual_is = ap (λ (z : List ℕ). slice_range z (k * n) (k * n + n)) cols.duals_are
        ∙ ap (λ (i : ℕ). take i (drop (k * n) (flat_map (λ (e : Entry). e.dual) entries))) (let z : k * n + n - k * n ≡ n = omega arith in z)
        ∙ dual_row n k entries _ duals_long (omega arith)

  -- ---- the second line
  module _ (checked bound : ℕ) where
    n_marks : length c.marks.items ≡ n
    n_marks = ap length cols.marks_are ∙ length-map entries (λ (e : Entry). e.mark) ∙ long

    marks_counted : count_by (λ (m : Bool). m) c.marks.items ≡ count_by (λ (e : Entry). e.mark) entries
    marks_counted = ap (λ (z : List Bool). count_by (λ (m : Bool). m) z) cols.marks_are ∙ count_marks entries

    pub head_from : IsHeadBy checked bound c.pairs.items c.marks.items → IsGoodHead checked bound entries
    head_from h = record {
      checked_are = h.checked_are ∙ marks_counted;
      reached =
          let k : ℕ = h.least.reached.0 in
          let below : h.least.reached.0 < n = omega (arith, h.least.reached.1, n_marks) in
          (k, omega arith, sym (mark_is k below) ∙ h.least.reached.2, sym (pairs_is k below) ∙ h.least.reached.3);
      least = λ k l f. let below : k < n = omega arith in omega (arith, pairs_is k below, h.least.lower k (omega (arith, n_marks)) (mark_is k below ∙ f));
    }

    pub head_to : IsGoodHead checked bound entries → IsHeadBy checked bound c.pairs.items c.marks.items
    head_to h = record {
      checked_are = h.checked_are ∙ sym marks_counted;
      least = record {
        reached =
            let k : ℕ = h.reached.0 in
            let below : h.reached.0 < n = omega (arith, h.reached.1) in
            (k, omega (arith, n_marks), mark_is k below ∙ h.reached.2, pairs_is k below ∙ h.reached.3);
        lower = λ k l f. let below : k < n = omega (arith, n_marks) in omega (arith, pairs_is k below, h.least k (omega arith) (sym (mark_is k below) ∙ f));
      };
    }

  -- ---- labels
  module _ (d : Domain) (functions : Functions) (are : AreFunctions d functions) (indices : List ℕ) (at : AreIndices functions.labels.items c.labels.items indices) where
    n_labels : length c.labels.items ≡ n
    n_labels = ap length cols.labels_are ∙ length-map entries (λ (e : Entry). e.label) ∙ long

    pub n_indices : length indices ≡ n
    n_indices = at.long ∙ n_labels

    pub index_at : (k : ℕ) → k < n → IsIndexOf functions.labels.items (slice_index c.labels.items k) (slice_index indices k)
    index_at k l = at.each k (omega (arith, n_labels))

    label_same : (i j : ℕ) → i < d.count → j < d.count → d.label i ≡ d.label j → i ≡ j
    label_same i j li lj e = elim (cases_eq i j) [
      | inl q ↦ q
      | inr other ↦ elim (cases_lt i j) [
        | inl less ↦ absurd (omega (arith, are.lawful.labels_rise i j less lj))
        | inr more ↦ absurd (omega (arith, are.lawful.labels_rise j i (omega arith) li))
      ]
    ]

    found_is : (k : ℕ) → k < n → slice_index indices k < d.count → IsIndex d (entry_at entries k).label (slice_index indices k)
    found_is k l f = record {
      below = f;
      is = sym (are.labels_are.entries (slice_index indices k) f) ∙ (index_at k l).found (omega (arith, are.labels_are.long)) ∙ label_is k l;
    }

    found_if : (k i : ℕ) → k < n → IsIndex d (entry_at entries k).label i → slice_index indices k < d.count
    found_if k i l x = elim (cases_eq (slice_index indices k) (length functions.labels.items)) [
      | inl q ↦ absurd ((index_at k l).missing q i (omega (arith, are.labels_are.long, x.below)) (are.labels_are.entries i x.below ∙ x.is ∙ sym (label_is k l)))
      | inr other ↦ omega (arith, (index_at k l).within, are.labels_are.long)
    ]

    only_is : (k i : ℕ) → k < n → slice_index indices k < d.count → IsIndex d (entry_at entries k).label i → i ≡ slice_index indices k
    only_is k i l f x = label_same i (slice_index indices k) x.below f (x.is ∙ sym (found_is k l f).is)

    module _ (rule : CheckRule) where
      pub label_from : (k : ℕ) → k < n → IsLabelBy d functions rule c.labels.items c.pairs.items c.marks.items indices k → IsGoodLabel d rule entries k
      label_from k l h =
          let f : slice_index indices k < d.count = omega (arith, h.found, are.labels_are.long) in
          let p : (entry_at entries k).pairs ≡ pairs d.count (sum_or_count d) (slice_index indices k) = sym (pairs_is k l) ∙ h.pairs_are in
          let q : slice_index functions.labels.items (slice_index indices k) ≡ (entry_at entries k).label = (index_at k l).found (omega (arith, h.found)) ∙ label_is k l in
          record {
            index = slice_index indices k;
            is_index = found_is k l f;
            above = λ j e. omega (arith, label_is k l, label_is j (omega arith), h.above j e);
            pairs_are = p;
            mark_is = sym (mark_is k l) ∙ h.mark_is ∙ ap (λ (x : ℕ). rule_checks rule x (pairs d.count (sum_or_count d) (slice_index indices k))) q ∙ ap (rule_checks rule (entry_at entries k).label) (sym p);
          }

      pub label_to : (k : ℕ) → k < n → IsGoodLabel d rule entries k → IsLabelBy d functions rule c.labels.items c.pairs.items c.marks.items indices k
      label_to k l g =
          let f : slice_index indices k < d.count = found_if k g.index l g.is_index in
          let same : g.index ≡ slice_index indices k = only_is k g.index l f g.is_index in
          let p : slice_index c.pairs.items k ≡ pairs d.count (sum_or_count d) (slice_index indices k) =
          pairs_is k l ∙ g.pairs_are ∙ ap (pairs d.count (sum_or_count d)) same in
          let q : slice_index functions.labels.items (slice_index indices k) ≡ (entry_at entries k).label = (index_at k l).found (omega (arith, are.labels_are.long)) ∙ label_is k l in
          record {
            found = omega (arith, are.labels_are.long);
            above = λ j e. omega (arith, label_is k l, label_is j (omega arith), g.above j e);
            pairs_are = p;
            mark_is = mark_is k l ∙ g.mark_is ∙ ap (λ (x : ℕ). rule_checks rule x (entry_at entries k).pairs) (sym q) ∙ ap (rule_checks rule (slice_index functions.labels.items (slice_index indices k))) (sym (pairs_is k l) ∙ p);
          }

      pub indices_found : AreGood n (IsLabelBy d functions rule c.labels.items c.pairs.items c.marks.items indices) → (k : ℕ) → k < n → slice_index indices k < d.count
      indices_found good k l = omega (arith, (good.each k l).found, are.labels_are.long)

    -- ---- dual lists
    module _ (modulus : ℕ) (points : List Point) (end : ℕ) (values : List ℕ) (grid : IsGrid (length points) end (λ p i. value_at d modulus points i p) values) (n_points : n ≡ length points)
        (above : (k : ℕ) → k < n → slice_index indices k < end) (found : (k : ℕ) → k < n → slice_index indices k < d.count) where
      product_is : (k i : ℕ) → k < n → i < end → product_of d.bits modulus n end values c.duals.items k i ≡ dual_product d modulus points entries k i
      product_is k i l li =
          sum-same n (λ p. gf_mul d.bits modulus (slice_index (slice_range c.duals.items (k * n) (k * n + n)) p) (slice_index values (p * end + i))) (λ p. gf_mul d.bits modulus (slice_index (entry_at entries k).dual p) (value_at d modulus points i p))
          (λ p lp.
          ap (λ (z : List ℕ). gf_mul d.bits modulus (slice_index z p) (slice_index values (p * end + i))) (dual_is k l)
          ∙ ap (λ (x : ℕ). gf_mul d.bits modulus (slice_index (entry_at entries k).dual p) x) (grid.entries p i (omega arith) li))
          ∙ ap (λ (m : ℕ). dot (gf_mul d.bits modulus) m (slice_index (entry_at entries k).dual) (value_at d modulus points i)) n_points

      pub dual_from : (k : ℕ) → k < n → IsDualBy d.bits modulus n end values c.duals.items indices k → IsGoodDual d modulus points entries k
      dual_from k l h = record {
        before = λ i li less.
            let up : i < slice_index indices k = elim (cases_lt i (slice_index indices k)) [
              | inl s ↦ s
              | inr more ↦ elim (cases_eq i (slice_index indices k)) [
                | inl q ↦ absurd (let e : d.label i ≡ d.label (slice_index indices k) = ap d.label q in omega (arith, (found_is k l (found k l)).is))
                | inr other ↦ absurd (omega (arith, are.lawful.labels_rise (slice_index indices k) i (omega arith) li, (found_is k l (found k l)).is))
              ]
            ] in
            let a : slice_index indices k < end = above k l in
            sym (product_is k i l (omega arith)) ∙ h.before.each i up;
        own = λ i x. let e : i ≡ slice_index indices k = only_is k i l (found k l) x in let a : slice_index indices k < end = above k l in sym (product_is k i l (omega arith)) ∙ ap (product_of d.bits modulus n end values c.duals.items k) (only_is k i l (found k l) x) ∙ h.own;
        later = λ j i less lj x.
            let below : j < n = omega arith in
            let e : i ≡ slice_index indices j = only_is j i below (found j below) x in
            let a : slice_index indices j < end = above j below in
            sym (product_is k i l (omega arith)) ∙ ap (product_of d.bits modulus n end values c.duals.items k) e ∙ h.later.each j less below;
      }

      pub dual_to : (k : ℕ) → k < n → IsGoodDual d modulus points entries k → IsDualBy d.bits modulus n end values c.duals.items indices k
      dual_to k l g = record {
        before = record {
          each = λ i less.
              let f : slice_index indices k < d.count = found k l in
              let low : d.label i < d.label (slice_index indices k) = are.lawful.labels_rise i (slice_index indices k) less f in
              let a : slice_index indices k < end = above k l in
              product_is k i l (omega arith) ∙ g.before i (omega arith) (omega (arith, (found_is k l f).is));
        };
        own = product_is k (slice_index indices k) l (above k l) ∙ g.own (slice_index indices k) (found_is k l (found k l));
        later = record { each = λ j less below. product_is k (slice_index indices j) l (above j below) ∙ g.later j (slice_index indices j) less (omega arith) (found_is j below (found j below)) };
      }

-- ---- first lines that fail
pub first_bad : (n k : ℕ) (P Q : ℕ → Type 0) → ((j : ℕ) → j < n → P j → Q j) → ((j : ℕ) → j < n → Q j → P j) → IsFirstBad n P k → IsFirstBad n Q k
first_bad n k P Q to from h = record {
  within = h.within;
  before = λ j l. let m : k < n = h.within in to j (omega arith) (h.before j l);
  bad = λ q. h.bad (from k h.within q);
}

pub all_good : (n : ℕ) (P Q : ℕ → Type 0) → ((j : ℕ) → j < n → P j → Q j) → AreGood n P → AreGood n Q
all_good n P Q to h = record { each = λ j l. to j l (h.each j l) }

-- ---- the products of a list, as they were made
pub products_of : (bits modulus n functions k : ℕ) (values duals list products : List ℕ) → list ≡ slice_range duals (k * n) (k * n + n) → length list ≡ n
    → ((i : ℕ) → i < functions → slice_index products i ≡ combine (gf_mul bits modulus) (length list) (slice_index list) (cell values functions) i)
    → (i : ℕ) → i < functions → slice_index products i ≡ product_of bits modulus n functions values duals k i
products_of bits modulus n functions k values duals list products e long are i l =
    are i l ∙ ap (λ (m : ℕ). combine (gf_mul bits modulus) m (slice_index list) (cell values functions) i) long
    ∙ ap (λ (w : List ℕ). combine (gf_mul bits modulus) n (slice_index w) (cell values functions) i) e

-- a verdict on the last of three checks is that on all
pub verdict_of : (A B : Type 0) (r : Bool) → (A → B) → (B → A) → MatchBool r A (A → ⊥) → MatchBool r B (B → ⊥)
verdict_of A B true to from h = to h
verdict_of A B false to from h = λ b. h (from b)
