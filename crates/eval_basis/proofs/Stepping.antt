-- One function more: it is a combination of those before it, or a new member
use Rattle.std.proofs.Common.{◌≡◌, ◌≢◌, ℕ, ◌<◌, ◌≤◌, ◌^◌, Bool, true, false, List, length, slice_index, sym, ◌∙◌, ap, subst, refl, inl, inr, arith, bit_xor, All}
use Rattle.std.proofs.Math.ListN.{set}
use Rattle.std.specs.Int.Bits.{xor_zero_r}
use Rattle.std.proofs.lemmas.Bool.{cases_eq}
use Rattle.std.proofs.lemmas.List.{get_or-set_same, get_or-set_other, length-set}
use Rattle.field_theory.specs.Field.{IsField}
use Rattle.field_theory.specs.Sums.{unit}
use Rattle.field_theory.proofs.Sums.{mul-zero, zero-mul}
use Rattle.gf_theory.specs.Field.{gf_mul, IsModulus}
use Rattle.gf_theory.proofs.Fields.{field_of_modulus}
use Rattle.linear_theory.specs.Linear.{dot, combine}
use Rattle.linear_theory.specs.Functionals.{AreFunctionals, IsPivotList}
use Rattle.linear_theory.proofs.Entries.{dot_entries}
use Rattle.linear_theory.proofs.Spans.{put-same, put-other}
use Rattle.linear_theory.proofs.Functionals.{functionals_kept, functionals_grown, pivot_of_scaled}
use Rattle.order_theory.specs.Codes.{marked}
use Rattle.gf_linear.specs.Cells.{cell}
use Rattle.eval_basis.specs.Lists.{list_of, taken, AreLists, IsTaken, IsStep}
use Rattle.eval_basis.proofs.Orders.{swapped, swapped-first, swapped-second, swapped-back, swapped-below, swapped-apart, apart, functionals_swapped}

pub field_of : (bits modulus : ℕ) → IsModulus bits modulus → IsField (2 ^ bits) (gf_mul bits modulus)
field_of bits modulus h = let two : 2 ≤ bits = h.at_least_two in field_of_modulus bits modulus (omega arith) h.irreducible

-- the products of the values with all lists
pub record HasProducts (mul : ℕ → ℕ → ℕ) (n : ℕ) (values symbols products : List ℕ) : Type 0 where
  pub are : (q : ℕ) → q < n → slice_index products q ≡ combine mul n (slice_index values) (cell symbols n) q

-- list i of the order was taken, and stands at k
pub record IsFound (mul : ℕ → ℕ → ℕ) (n k i : ℕ) (products symbols order now order' : List ℕ) : Type 0 where
  pub up : k ≤ i
  pub below : i < n
  pub order_is : (t : ℕ) → slice_index order' t ≡ slice_index order (swapped k i t)
  pub is_taken : IsTaken mul n (slice_index order i) products symbols now

module _ (bits modulus : ℕ) (is_modulus : IsModulus bits modulus) (n k : ℕ) (values symbols order products : List ℕ) (used : List Bool)
    (lists : AreLists bits n symbols order used) (h : HasProducts (gf_mul bits modulus) n values symbols products) where
  product_of : (rows : ℕ → ℕ → ℕ) (r : ℕ) → ((p : ℕ) → p < n → slice_index values p ≡ rows r p) → (t : ℕ) → t < n →
      dot (gf_mul bits modulus) n (rows r) (list_of n symbols order t) ≡ slice_index products (slice_index order t)
  product_of rows r same t l =
      dot_entries (gf_mul bits modulus) n (rows r) (list_of n symbols order t) (slice_index values) (list_of n symbols order t) (λ p lp. sym (same p lp)) (λ p lp. refl)
      ∙ sym (h.are (slice_index order t) (lists.numbers t l))

  pub step_none : ((i : ℕ) → k ≤ i → i < length order → slice_index products (slice_index order i) ≡ 0) → IsStep (2 ^ bits) (gf_mul bits modulus) n k values symbols order symbols order false
  step_none none = record {
    step = λ rows r picks small same f.
        functionals_kept (2 ^ bits) (gf_mul bits modulus) (field_of bits modulus is_modulus) n rows small r k picks (list_of n symbols order) f
        (λ i a l. product_of rows r same i l ∙ none i a (subst (λ (s : ℕ). i < s) (sym lists.n_order) l));
  }

  module _ (i : ℕ) (now order' : List ℕ) (found : IsFound (gf_mul bits modulus) n k i products symbols order now order') where
    few : k < n
    few = let a : k ≤ i = found.up in let b : i < n = found.below in omega arith

    -- the number of list t after the exchange
    number-below : (t : ℕ) → t < n → slice_index order (swapped k i t) < n
    number-below t l = lists.numbers (swapped k i t) (swapped-below k i t n few found.below l)

    number-apart : (t : ℕ) → t < n → t ≢ k → slice_index order (swapped k i t) ≢ slice_index order i
    number-apart t l d =
        apart n order lists.distinct (swapped k i t) i (swapped-below k i t n few found.below l) found.below
        (λ e. d (sym (swapped-back k i t) ∙ ap (λ (s : ℕ). swapped k i s) e ∙ swapped-second k i))

    symbol_at_k : (p : ℕ) → p < n → list_of n now order' k p ≡ gf_mul bits modulus found.is_taken.factor (cell symbols n p (slice_index order i))
    symbol_at_k p l =
        ap (λ (s : ℕ). cell now n p s) (found.order_is k ∙ ap (λ (s : ℕ). slice_index order s) (swapped-first k i))
        ∙ found.is_taken.rows p (slice_index order i) l (lists.numbers i found.below)
        ∙ put-same (λ j. bit_xor (cell symbols n p j) (gf_mul bits modulus (gf_mul bits modulus found.is_taken.factor (cell symbols n p (slice_index order i))) (slice_index products j))) (slice_index order i) (gf_mul bits modulus found.is_taken.factor (cell symbols n p (slice_index order i)))

    symbol_else : (t p : ℕ) → t < n → t ≢ k → p < n →
        list_of n now order' t p
        ≡ bit_xor (cell symbols n p (slice_index order (swapped k i t)))
        (gf_mul bits modulus (gf_mul bits modulus found.is_taken.factor (cell symbols n p (slice_index order i))) (slice_index products (slice_index order (swapped k i t))))
    symbol_else t p l d lp =
        ap (λ (s : ℕ). cell now n p s) (found.order_is t)
        ∙ found.is_taken.rows p (slice_index order (swapped k i t)) lp (number-below t l)
        ∙ put-other (λ j. bit_xor (cell symbols n p j) (gf_mul bits modulus (gf_mul bits modulus found.is_taken.factor (cell symbols n p (slice_index order i))) (slice_index products j)))
        (slice_index order i) (gf_mul bits modulus found.is_taken.factor (cell symbols n p (slice_index order i))) (slice_index order (swapped k i t)) (number-apart t l d)

    pub step_found : IsStep (2 ^ bits) (gf_mul bits modulus) n k values symbols order now order' true
    step_found = record {
      step = λ rows r picks small same f.
          let field : IsField (2 ^ bits) (gf_mul bits modulus) = field_of bits modulus is_modulus in
          let here : AreFunctionals (2 ^ bits) (gf_mul bits modulus) n rows r k picks (λ t. list_of n symbols order (swapped k i t)) =
          functionals_swapped (2 ^ bits) (gf_mul bits modulus) n rows r k i picks (list_of n symbols order) found.up found.below f in
          let at : (t : ℕ) → t < n → dot (gf_mul bits modulus) n (rows r) (list_of n symbols order (swapped k i t)) ≡ slice_index products (slice_index order (swapped k i t)) =
          λ t l. product_of rows r same (swapped k i t) (swapped-below k i t n few found.below l) in
          let list : IsPivotList (gf_mul bits modulus) n rows r k picks (λ t. list_of n symbols order (swapped k i t)) (λ p. gf_mul bits modulus found.is_taken.factor (cell symbols n p (slice_index order i))) =
          pivot_of_scaled (2 ^ bits) (gf_mul bits modulus) field n rows small r k picks (λ t. list_of n symbols order (swapped k i t)) here
          (λ p. gf_mul bits modulus found.is_taken.factor (cell symbols n p (slice_index order i))) found.is_taken.factor few
          (λ p lp. ap (λ (s : ℕ). gf_mul bits modulus found.is_taken.factor (cell symbols n p (slice_index order s))) (sym (swapped-first k i)))
          (ap (λ (y : ℕ). gf_mul bits modulus found.is_taken.factor y) (at k few ∙ ap (λ (s : ℕ). slice_index products (slice_index order s)) (swapped-first k i)) ∙ found.is_taken.inverse) in
          functionals_grown (2 ^ bits) (gf_mul bits modulus) field n rows small r k picks (λ t. list_of n symbols order (swapped k i t)) here
          (λ p. gf_mul bits modulus found.is_taken.factor (cell symbols n p (slice_index order i))) (list_of n now order') few list (record {
            pivot = symbol_at_k;
            others = λ t l d p lp.
                symbol_else t p l d lp
                ∙ ap (λ (y : ℕ). bit_xor (cell symbols n p (slice_index order (swapped k i t))) y)
                (field.mul_comm (gf_mul bits modulus found.is_taken.factor (cell symbols n p (slice_index order i))) (slice_index products (slice_index order (swapped k i t)))
                ∙ ap (λ (y : ℕ). gf_mul bits modulus y (gf_mul bits modulus found.is_taken.factor (cell symbols n p (slice_index order i)))) (sym (at t l)));
          });
    }

    pub lists_taken : (used' : List Bool) → length now ≡ length symbols → length order' ≡ length order → used' ≡ set used (slice_index order i) true → All (λ x. x < 2 ^ bits) now → AreLists bits n now order' used'
    lists_taken used' long long_order is_used over = record {
      n_symbols = long ∙ lists.n_symbols;
      over = over;
      n_order = long_order ∙ lists.n_order;
      n_used = ap (λ (w : List Bool). length w) is_used ∙ length-set used (slice_index order i) true ∙ lists.n_used;
      numbers = λ t l. subst (λ (s : ℕ). s < n) (sym (found.order_is t)) (number-below t l);
      distinct = λ s t l lt e.
          apart n order lists.distinct (swapped k i s) (swapped k i t) (swapped-below k i s n few found.below (omega arith)) (swapped-below k i t n few found.below lt)
          (swapped-apart k i s t (λ f. omega arith)) (sym (found.order_is s) ∙ e ∙ found.order_is t);
      units = λ p j lp lj mark.
          let lq : slice_index order i < n = lists.numbers i found.below in
          let before : marked (set used (slice_index order i) true) p ≡ false = ap (λ (w : List Bool). marked w p) (sym is_used) ∙ mark in
          let other : p ≢ slice_index order i =
          λ e. true_false (sym (ap (λ (s : ℕ). marked (set used (slice_index order i) true) s) e ∙ get_or-set_same used (slice_index order i) true false (subst (λ (s : ℕ). slice_index order i < s) (sym lists.n_used) lq)) ∙ before) in
          let free : marked used p ≡ false = sym (get_or-set_other used (slice_index order i) p true false other) ∙ before in
          let zero : cell symbols n p (slice_index order i) ≡ 0 = lists.units p (slice_index order i) lp lq free ∙ put-other (λ x. 0) p 1 (slice_index order i) (λ e. other (sym e)) in
          let none : gf_mul bits modulus found.is_taken.factor (cell symbols n p (slice_index order i)) ≡ 0 =
          ap (λ (y : ℕ). gf_mul bits modulus found.is_taken.factor y) zero ∙ mul-zero (2 ^ bits) (gf_mul bits modulus) (field_of bits modulus is_modulus) found.is_taken.factor in
          found.is_taken.rows p j lp lj ∙ elim (cases_eq j (slice_index order i)) [
            | inl e ↦
                subst (λ (s : ℕ). taken (gf_mul bits modulus) found.is_taken.factor (slice_index order i) (cell symbols n p) (slice_index products) s ≡ unit p s) (sym e)
                (put-same (λ j. bit_xor (cell symbols n p j) (gf_mul bits modulus (gf_mul bits modulus found.is_taken.factor (cell symbols n p (slice_index order i))) (slice_index products j))) (slice_index order i) (gf_mul bits modulus found.is_taken.factor (cell symbols n p (slice_index order i))) ∙ none ∙ sym (put-other (λ x. 0) p 1 (slice_index order i) (λ e. other (sym e))))
            | inr d ↦
                put-other (λ j. bit_xor (cell symbols n p j) (gf_mul bits modulus (gf_mul bits modulus found.is_taken.factor (cell symbols n p (slice_index order i))) (slice_index products j)))
                (slice_index order i) (gf_mul bits modulus found.is_taken.factor (cell symbols n p (slice_index order i))) j d
                ∙ ap (λ (y : ℕ). bit_xor (cell symbols n p j) (gf_mul bits modulus y (slice_index products j))) none
                ∙ ap (λ (y : ℕ). bit_xor (cell symbols n p j) y) (zero-mul (2 ^ bits) (gf_mul bits modulus) (field_of bits modulus is_modulus) (slice_index products j))
                ∙ xor_zero_r (cell symbols n p j) ∙ lists.units p j lp lj free
          ];
    }
      where
        true_false : true ≡ false → ⊥
        true_false e = cc
