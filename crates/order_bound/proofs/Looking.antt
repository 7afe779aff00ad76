-- Lists that are dual to the functions of the lines: which functions they show to be combinations of those before them
use Rattle.std.proofs.Common.{◌≡◌, ◌≢◌, ℕ, suc, ◌+◌, ◌*◌, ◌/◌, ◌%◌, ◌<◌, ◌^◌, Bool, true, false, List, length, map, slice_index, All, sym, ◌∙◌, ap, subst, refl, inl, inr, arith, bit_xor, cond, ltb}
use Rattle.std.specs.Int.Bits.{xor_zero_r}
use Rattle.std.specs.List.{range_with_len}
use Rattle.std.specs.Prelude.{nat_eq}
use Rattle.std.proofs.lemmas.Bool.Decides.{nat_tests}
use Rattle.std.proofs.lemmas.Bool.{cases_lt, cond-true, cond-false, lt-ltb, le-ltb}
use Rattle.std.proofs.lemmas.List.FromFn.{get_or-map-range_with_len, length-map-range_with_len}
use Rattle.std.proofs.lemmas.Nat.{div-mul-add, mod-mul-add}
use Rattle.field_theory.specs.Field.{IsField}
use Rattle.field_theory.specs.Sums.{put}
use Rattle.field_theory.proofs.Sums.{eq_or_below, zero-mul, sum-zero}
use Rattle.gf_theory.specs.Field.{gf_mul, IsModulus}
use Rattle.linear_theory.specs.Functionals.{AreFunctionals}
use Rattle.linear_theory.specs.Linear.{dot, combine, IsCombination, IsDual}
use Rattle.linear_theory.proofs.Spans.{put-same, put-other}
use Rattle.linear_theory.proofs.Duals.{dual_combination, dual-flip}
use Rattle.linear_theory.proofs.Entries.{dot_entries}
use Rattle.linear_theory.proofs.Tables.{place_below}
use Rattle.linear_theory.proofs.Ranks.{rank_zero}
use Rattle.linear_theory.proofs.Functionals.{functionals_kept, functionals_grown, functionals_full, functionals_same}
use Rattle.order_theory.specs.Codes.{marked}
use Rattle.gf_linear.specs.Cells.{cell}
use Rattle.gf_linear.proofs.Steps.{All-cells}
use Rattle.order_domain.specs.declared.Point.{Point}
use Rattle.order_domain.specs.Domain.{Domain, ArePoints, IsOrderDomain}
use Rattle.order_domain.specs.Values.{value_at}
use Rattle.order_domain.proofs.Values.{value_at-symbol}
use Rattle.eval_basis.specs.Flat.{IsTable}
use Rattle.eval_basis.specs.Found.{AreMarked}
use Rattle.eval_basis.proofs.Stepping.{field_of}
use Rattle.eval_basis.proofs.Orders.{functionals_skipped}
use Rattle.eval_basis.proofs.Finding.{marks_kept}
use Rattle.order_bound.specs.Looking.{product_at, AreDualTo, IsLookedAt, AreNewLines, HaveMembers}

-- the products of a list of values, as they were made
pub products_are : (d : Domain) (modulus : ℕ) (points : List Point) (bits n m : ℕ) (lists values products : List ℕ) (i : ℕ) → bits ≡ d.bits → n ≡ length points → m ≡ length points
    → ((p : ℕ) → p < length points → slice_index values p ≡ value_at d modulus points i p)
    → ((q : ℕ) → q < m → slice_index products q ≡ combine (gf_mul bits modulus) n (slice_index values) (cell lists m) q)
    → (q : ℕ) → q < length points → slice_index products q ≡ product_at d modulus points lists i q
products_are d modulus points bits n m lists values products i eb en em is are q l =
    are q (omega arith)
    ∙ ap (λ (b : ℕ). combine (gf_mul b modulus) n (slice_index values) (cell lists m) q) eb
    ∙ ap (λ (r : ℕ). combine (gf_mul d.bits modulus) r (slice_index values) (cell lists m) q) en
    ∙ ap (λ (r : ℕ). combine (gf_mul d.bits modulus) (length points) (slice_index values) (cell lists r) q) em
    ∙ dot_entries (gf_mul d.bits modulus) (length points) (slice_index values) (λ p. cell lists (length points) p q) (value_at d modulus points i) (λ p. cell lists (length points) p q) is (λ p lp. refl)

pub same_is : (a b : ℕ) → nat_eq a b ≡ true → a ≡ b
same_is a b t = grind (arith, nat_tests)

-- the values of the functions of the lines, in a row
abbrev value_in : Domain → (modulus : ℕ) → List Point → List ℕ → ℕ → ℕ
value_in d modulus points indices m = value_at d modulus points (slice_index indices (m / length points)) (m % length points)

-- a vector, and 0 beyond its length
cut : ℕ → (ℕ → ℕ) → ℕ → ℕ
cut n w p = cond (ltb p n) (w p) 0

cut-within : (n : ℕ) (w : ℕ → ℕ) (p : ℕ) → p < n → cut n w p ≡ w p
unfolding cut
cut-within n w p l = cond-true (ltb p n) (w p) 0 (lt-ltb p n l)

cut-small : (n size : ℕ) (w : ℕ → ℕ) → 0 < size → ((p : ℕ) → p < n → w p < size) → (p : ℕ) → cut n w p < size
unfolding cut
cut-small n size w some h p = elim (cases_lt p n) [
  | inl l ↦ subst (λ (x : ℕ). x < size) (sym (cond-true (ltb p n) (w p) 0 (lt-ltb p n l))) (h p l)
  | inr m ↦ subst (λ (x : ℕ). x < size) (sym (cond-false (ltb p n) (w p) 0 (le-ltb p n m))) some
]

-- the first functions were looked at, and so many lines are theirs
pub record AreLooked (d : Domain) (modulus : ℕ) (points : List Point) (indices lists : List ℕ) (i next : ℕ) (old : List Bool) : Type 0 where
  pub functionals : AreFunctionals (2 ^ d.bits) (gf_mul d.bits modulus) (length points) (value_at d modulus points) i next (slice_index indices) (λ q p. cell lists (length points) p q)
  pub old_are : (j : ℕ) → j < d.count → marked old j ≡ true → IsCombination (gf_mul d.bits modulus) (length points) (value_at d modulus points) j (value_at d modulus points j)

module _ (d : Domain) (modulus : ℕ) (points : List Point) (lawful : IsOrderDomain d) (is_modulus : IsModulus d.bits modulus) (are : ArePoints d modulus points) (indices lists : List ℕ) where
  field : IsField (2 ^ d.bits) (gf_mul d.bits modulus)
  field = field_of d.bits modulus is_modulus

  values_small : (i p : ℕ) → value_at d modulus points i p < 2 ^ d.bits
  values_small = value_at-symbol d modulus points lawful is_modulus are

  module _ (paired : AreDualTo d modulus points indices lists) where
    is_dual : IsDual (gf_mul d.bits modulus) (length points) (λ q p. cell lists (length points) p q) (λ k. value_at d modulus points (slice_index indices k))
    is_dual = dual-flip (2 ^ d.bits) (gf_mul d.bits modulus) field (length points) (λ k. value_at d modulus points (slice_index indices k)) (λ q p. cell lists (length points) p q)
        (record { products = λ k q lk lq. paired.each k q lk lq })

    -- a vector on which all lists vanish is zero
    seen_by : (w : ℕ → ℕ) → ((p : ℕ) → p < length points → w p < 2 ^ d.bits) → ((q : ℕ) → q < length points → dot (gf_mul d.bits modulus) (length points) w (λ p. cell lists (length points) p q) ≡ 0)
        → (p : ℕ) → p < length points → w p ≡ 0
    seen_by w low none p lp =
        let some : 0 < 2 ^ d.bits = let s : w p < 2 ^ d.bits = low p lp in omega arith in
        sym (cut-within (length points) w p lp)
        ∙ dual_combination (2 ^ d.bits) (gf_mul d.bits modulus) field (length points) (λ q p. cell lists (length points) p q) (λ k. value_at d modulus points (slice_index indices k)) (cut (length points) w)
        (λ k j. values_small (slice_index indices k) j) (cut-small (length points) (2 ^ d.bits) w some low) is_dual p lp
        ∙ sum-zero (length points) (λ q. gf_mul d.bits modulus (dot (gf_mul d.bits modulus) (length points) (cut (length points) w) (λ j. cell lists (length points) j q)) (value_at d modulus points (slice_index indices q) p))
        (λ q lq.
        ap (λ (y : ℕ). gf_mul d.bits modulus y (value_at d modulus points (slice_index indices q) p))
        (dot_entries (gf_mul d.bits modulus) (length points) (cut (length points) w) (λ j. cell lists (length points) j q) w (λ j. cell lists (length points) j q) (λ j lj. cut-within (length points) w j lj) (λ j lj. refl) ∙ none q lq)
        ∙ zero-mul (2 ^ d.bits) (gf_mul d.bits modulus) field (value_at d modulus points (slice_index indices q) p))

    -- before the first function
    pub looked_none : (old : List Bool) → ((j : ℕ) → marked old j ≡ false) → AreLooked d modulus points indices lists 0 0 old
    looked_none old none = record {
      functionals = record {
        below = λ t l. absurd (omega arith);
        rising = λ s t l m. absurd (omega arith);
        fresh = λ t l c. omega arith;
        others = λ i l n. absurd (omega arith);
        products = λ t q l m. absurd (omega arith);
        seen = seen_by;
        counted = sym (rank_zero (2 ^ d.bits) (gf_mul d.bits modulus) field (length points) (value_at d modulus points));
      };
      old_are = λ j l mark. absurd (true_false (sym mark ∙ none j));
    }
      where
        true_false : true ≡ false → ⊥
        true_false e = cc

    -- the function of the next line
    pub looked_line : (i next : ℕ) (old : List Bool) → next < length points → slice_index indices next ≡ i → AreLooked d modulus points indices lists i next old → AreLooked d modulus points indices lists (i + 1) (next + 1) old
    looked_line i next old few is h =
        let one : dot (gf_mul d.bits modulus) (length points) (value_at d modulus points i) (λ p. cell lists (length points) p next) ≡ 1 =
        subst (λ (j : ℕ). product_at d modulus points lists j next ≡ 1) is (paired.each next next few few ∙ put-same (λ j. 0) next 1) in
        let none : (q : ℕ) → q < length points → q ≢ next → dot (gf_mul d.bits modulus) (length points) (value_at d modulus points i) (λ p. cell lists (length points) p q) ≡ 0 =
        λ q l o. subst (λ (j : ℕ). product_at d modulus points lists j q ≡ 0) is (paired.each next q few l ∙ put-other (λ j. 0) next 1 q o) in
        record {
          functionals = functionals_same (2 ^ d.bits) (gf_mul d.bits modulus) field (length points) (value_at d modulus points) values_small (i + 1) (next + 1)
              (put (slice_index indices) next i) (slice_index indices) (λ q p. cell lists (length points) p q) (λ q p. cell lists (length points) p q) (λ q p lq lp. refl) names
              (functionals_grown (2 ^ d.bits) (gf_mul d.bits modulus) field (length points) (value_at d modulus points) values_small i next (slice_index indices) (λ q p. cell lists (length points) p q) h.functionals
              (λ p. cell lists (length points) p next) (λ q p. cell lists (length points) p q) few
              (record {
                one = one;
                vanishes = λ t l. paired.each t next (omega arith) few ∙ put-other (λ j. 0) t 1 next (λ e. omega arith);
                sees = λ w z rest. z;
              })
              (record {
                pivot = λ p l. refl;
                others = λ q l o p lp.
                    sym (ap (λ (y : ℕ). bit_xor (cell lists (length points) p q) y)
                    (ap (λ (y : ℕ). gf_mul d.bits modulus y (cell lists (length points) p next)) (none q l o) ∙ zero-mul (2 ^ d.bits) (gf_mul d.bits modulus) field (cell lists (length points) p next))
                    ∙ xor_zero_r (cell lists (length points) p q));
              }));
          old_are = h.old_are;
        }
      where
        names : (t : ℕ) → t < next + 1 → slice_index indices t ≡ put (slice_index indices) next i t
        names t l = elim (eq_or_below t next (let w : t < suc next = omega arith in w)) [
          | inl e ↦ subst (λ (s : ℕ). slice_index indices s ≡ put (slice_index indices) next i s) (sym e) (is ∙ sym (put-same (slice_index indices) next i))
          | inr b ↦ sym (put-other (slice_index indices) next i t (omega arith))
        ]

  -- a function on no line
  pub looked_other : (i next : ℕ) (old now : List Bool) → i < d.count → IsLookedAt d modulus points lists old i next → AreMarked d i old now → AreLooked d modulus points indices lists i next old → AreLooked d modulus points indices lists (i + 1) next now
  looked_other i next old now li look marks h = elim look [
    | inl mark ↦
        let is : IsCombination (gf_mul d.bits modulus) (length points) (value_at d modulus points) i (value_at d modulus points i) = h.old_are i li mark in
        record {
          functionals = functionals_skipped (2 ^ d.bits) (gf_mul d.bits modulus) (length points) (value_at d modulus points) field i next (slice_index indices) (λ q p. cell lists (length points) p q) is h.functionals;
          old_are = marks_kept d modulus points lawful is_modulus are i old now li is marks h.old_are;
        }
    | inr vanish ↦
        let after : AreFunctionals (2 ^ d.bits) (gf_mul d.bits modulus) (length points) (value_at d modulus points) (i + 1) next (slice_index indices) (λ q p. cell lists (length points) p q) =
        functionals_kept (2 ^ d.bits) (gf_mul d.bits modulus) field (length points) (value_at d modulus points) values_small i next (slice_index indices) (λ q p. cell lists (length points) p q) h.functionals
        (λ q a l. vanish.each q a l) in
        let is : IsCombination (gf_mul d.bits modulus) (length points) (value_at d modulus points) i (value_at d modulus points i) =
        after.others i (omega arith) (λ t l e. let b : slice_index indices t < i = h.functionals.below t l in omega arith) in
        record { functionals = after; old_are = marks_kept d modulus points lawful is_modulus are i old now li is marks h.old_are }
  ]

  -- once all lines were met
  pub looked_all : (end next : ℕ) (old : List Bool) → next ≡ length points → AreLooked d modulus points indices lists end next old → AreNewLines d modulus points indices
  looked_all end next old full h = record {
    rising = λ j k l m. h.functionals.rising j k l (omega arith);
    fresh = λ k l. h.functionals.fresh k (omega arith);
    others = λ i l none. elim (cases_lt i end) [
      | inl before ↦ h.functionals.others i before (λ t m. none t (omega arith))
      | inr after ↦
          functionals_full (2 ^ d.bits) (gf_mul d.bits modulus) field (length points) (value_at d modulus points) values_small end next (slice_index indices) (λ q p. cell lists (length points) p q) h.functionals full i after
    ];
  }

-- the functions of the lines are the members
pub members_are : (d : Domain) (modulus : ℕ) (points : List Point) (indices lists duals : List ℕ) → length indices ≡ length points → ((k : ℕ) → k < length points → slice_index indices k < d.count)
    → length duals ≡ length points * length points → All (λ x. x < 2 ^ d.bits) duals → IsTable (length points) (λ p q. cell duals (length points) q p) lists
    → AreDualTo d modulus points indices lists → AreNewLines d modulus points indices → HaveMembers d modulus points indices duals
members_are d modulus points indices lists duals long below n_duals over table paired h = record {
  vectors = map (value_in d modulus points indices) (range_with_len 0 (length indices * length points));
  are = record {
    n_ranks = long;
    below = below;
    rising = h.rising;
    fresh = h.fresh;
    others = h.others;
    stored = record {
      n_vectors = length-map-range_with_len (value_in d modulus points indices) 0 (length indices * length points);
      values = λ k p lk lp.
          get_or-map-range_with_len (value_in d modulus points indices) 0 (length indices * length points) (k * length points + p) (k * length points + p) 0
          (place_below (length indices) (length points) k p (length indices * length points) lk lp refl) (omega arith)
          ∙ ap (λ (j : ℕ). value_at d modulus points (slice_index indices j) ((k * length points + p) % length points)) (div-mul-add k (length points) p lp)
          ∙ ap (λ (j : ℕ). value_at d modulus points (slice_index indices k) j) (mod-mul-add k (length points) p lp);
    };
    n_duals = n_duals;
    symbols = λ q p lq lp. over (q * length points + p) 0 (place_below (length points) (length points) q p (length duals) lq lp n_duals);
    dual = λ k q lk lq.
        sym (dot_entries (gf_mul d.bits modulus) (length points) (value_at d modulus points (slice_index indices k)) (λ p. cell lists (length points) p q) (value_at d modulus points (slice_index indices k)) (cell duals (length points) q)
        (λ p lp. refl) (λ p lp. table.entries p q lp lq))
        ∙ paired.each k q lk lq;
  };
}

-- the symbols of the lists are those of the dual lists
pub lists_small : (size n : ℕ) (duals lists : List ℕ) → length duals ≡ n * n → All (λ x. x < size) duals → IsTable n (λ p q. cell duals n q p) lists → All (λ x. x < size) lists
lists_small size n duals lists long over table = All-cells (λ x. x < size) n n lists table.long
    (λ p q lp lq. subst (λ (x : ℕ). x < size) (sym (table.entries p q lp lq)) (over (q * n + p) 0 (place_below n n q p (length duals) lq lp long)))
