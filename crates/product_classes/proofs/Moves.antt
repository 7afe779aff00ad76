-- The classes of a listing that is complete, and values by classes
use Rattle.std.proofs.Common.{ℕ, ◌≡◌, refl, ◌+◌, ◌-◌, ◌*◌, ◌^◌, ◌<◌, ◌≤◌, List, length, take, All, sym, ◌∙◌, ap, subst, inl, inr, arith}
use Rattle.std.specs.Prelude.{slice_index, sum}
use Rattle.std.proofs.lemmas.Bool.{cases_lt}
use Rattle.std.proofs.lemmas.List.{get_or-take, length-take-le}
use Rattle.std.proofs.lemmas.List.Elements.{All-take}
use Rattle.field_theory.proofs.Sums.{sum-same, zero-mul}
use Rattle.field_theory.specs.Sums.{xor_sum}
use Rattle.linear_theory.specs.Linear.{combine}
use Rattle.gf_linear.specs.Cells.{cell}
use Rattle.order_theory.specs.Basis.{Basis, IsSoundBasis, times, vector}
use Rattle.order_theory.specs.Errors.{entry}
use Rattle.product_classes.specs.Table.{ClassTable, AreReaches, AreClassesOf, HasColumns, class_at, left, right, first_sum}
use Rattle.product_classes.specs.Values.{AreValues, IsZeroBefore}
use Rattle.product_classes.specs.Listings.{IsListed}
use Rattle.product_classes.specs.Columns.{ArePairs, AreRising, AreColumns}
use Rattle.product_classes.proofs.Places.{sum_most}
use Rattle.product_classes.proofs.Growth.{class_moves, same_sum}
use Rattle.product_classes.proofs.Sums.{sum-drop, all_below}

-- all pairs are listed
pub listed_all : (b : Basis) (v : ClassTable) (s limit : ℕ) (reaches : List ℕ) → IsListed b v s 0 → b.count ≤ s → limit ≤ b.count → length v.reaches ≡ b.n → AreReaches b limit reaches
    → AreClassesOf b (record v { limit = limit; reaches = reaches })
listed_all b v s limit reaches h all low rows are =
    let w : ClassTable = record v { limit = limit; reaches = reaches } in
    let most : sum v.reaches ≤ length v.reaches * b.n = sum_most b.n v.reaches (λ p l. h.within p (omega (arith, rows))) in
    let most' : sum v.reaches ≤ v.n * v.n = subst (λ (x : ℕ). sum v.reaches ≤ x * v.n) (rows ∙ sym h.n_is) (subst (λ (x : ℕ). sum v.reaches ≤ length v.reaches * x) (sym h.n_is) most) in
    record {
      n_is = h.n_is;
      few = omega (arith, h.few);
      low_limit = low;
      reaches_are = are;
      stand = λ c l.
          let k = h.stand c l in
          record { row = k.row; column = omega (arith, k.column, h.within (left v c) k.row); own = k.own };
      rise = h.rise;
      each = λ i j li lj l.
          class_moves b v w i j (class_at v i j) refl refl (omega arith) (h.each i j li (h.before i j li lj l (omega arith)));
    }

-- a table with the same classes
pub classes_move : (b : Basis) (v : ClassTable) (size most first width : ℕ) (lefts rights columns : List ℕ)
    → ((c : ℕ) → c < v.count → slice_index lefts c ≡ left v c) → ((c : ℕ) → c < v.count → slice_index rights c ≡ right v c) → AreClassesOf b v
    → AreClassesOf b (record v { size = size; most = most; first = first; width = width; lefts = lefts; rights = rights; columns = columns })
classes_move b v size most first width lefts rights columns el er h =
    let w : ClassTable = record v { size = size; most = most; first = first; width = width; lefts = lefts; rights = rights; columns = columns } in
    record {
      n_is = h.n_is;
      few = h.few;
      low_limit = h.low_limit;
      reaches_are = h.reaches_are;
      stand = λ c l.
          let k = h.stand c l in
          record {
            row = omega (arith, k.row, el c l);
            column = omega (arith, k.column, er c l);
            own = ap (λ (x : ℕ). class_at v x (slice_index rights c)) (el c l) ∙ ap (λ (y : ℕ). class_at v (left v c) y) (er c l) ∙ k.own;
          };
      rise = λ c d l u. omega (arith, h.rise c d l u, same_sum b v w c (el c (omega arith)) (er c (omega arith)), same_sum b v w d (el d u) (er d u));
      each = λ i j li lj l.
          let k = h.each i j li lj l in
          class_moves b v w i j (class_at v i j) (el (class_at v i j) k.number) (er (class_at v i j) k.number) (omega arith) k;
    }

-- values of all classes with sums below s
pub values_hold : (b : Basis) (v : ClassTable) (list values : List ℕ) (s : ℕ) → AreClassesOf b v → s ≤ b.count
    → ((c : ℕ) → c < v.count → first_sum b v c < s → slice_index values c ≡ entry (times b) b list (left v c) (right v c)) → AreValues b v list values s
values_hold b v list values s h low are = record {
  at = λ i j li lj l.
      let k = h.each i j li lj (omega arith) in
      are (class_at v i j) k.number (omega (arith, k.lowest)) ∙ sym (k.same list);
}

-- the values of the classes from `start` to `end` are written
pub values_written : (b : Basis) (v : ClassTable) (list values now : List ℕ) (from to start end : ℕ) → AreClassesOf b v → to ≤ b.count
    → ((c : ℕ) → c < start → c < v.count → first_sum b v c < from) → ((c : ℕ) → end ≤ c → c < v.count → to ≤ first_sum b v c)
    → ((c : ℕ) → start ≤ c → c < end → c < v.count → slice_index now c ≡ entry (times b) b list (left v c) (right v c)) → ((c : ℕ) → c < start → slice_index now c ≡ slice_index values c)
    → AreValues b v list values from → AreValues b v list now to
values_written b v list values now from to start end h low below above written kept were = values_hold b v list now to h low (λ c l u. elim (cases_lt c start) [
  | inl w ↦
      let k = h.stand c l in
      kept c w ∙ ap (λ (x : ℕ). slice_index values x) (sym k.own) ∙ were.at (left v c) (right v c) k.row k.column (below c w l)
  | inr w ↦ elim (cases_lt c end) [
    | inl x ↦ written c w x l
    | inr x ↦ absurd (omega (arith, above c x l))
  ]
])

-- the combination of the columns
pub values_combined : (b : Basis) (v : ClassTable) (list rest values : List ℕ) (k : ℕ) → AreClassesOf b v → HasColumns b v → IsZeroBefore v.first list
    → k ≡ b.n - v.first → ((q : ℕ) → slice_index rest q ≡ slice_index list (v.first + q)) → IsSoundBasis b
    → ((c : ℕ) → c < v.width → slice_index values c ≡ combine (times b) k (slice_index rest) (cell v.columns v.width) c) → AreValues b v list values v.limit
values_combined b v list rest values k h columns zeros ek er sound is = values_hold b v list values v.limit h h.low_limit (λ c l u.
    let f : ℕ → ℕ = λ p. times b (slice_index list p) (times b (vector b (left v c) p) (vector b (right v c) p)) in
    is c (columns.enough c l u)
    ∙ sum-same k (λ q. times b (slice_index rest q) (cell v.columns v.width q c)) (λ q. f (v.first + q))
    (λ q lq. ap (λ (x : ℕ). times b x (cell v.columns v.width q c)) (er q) ∙ ap (λ (y : ℕ). times b (slice_index list (v.first + q)) y) (columns.products q c (omega (arith, columns.low_first)) l u))
    ∙ sym (sum-drop k v.first f (λ p lp. ap (λ (x : ℕ). times b x (times b (vector b (left v c) p) (vector b (right v c) p))) (zeros.zeros p lp) ∙ zero-mul (2 ^ b.bits) (times b) sound.sound.field (times b (vector b (left v c) p) (vector b (right v c) p))))
    ∙ ap (λ (n : ℕ). xor_sum n f) (let e : v.first + k ≡ b.n = omega (arith, columns.low_first) in e))

-- the pairs of all classes
pub pairs_of : (b : Basis) (v : ClassTable) → AreClassesOf b v → v.count ≡ length v.lefts → length v.rights ≡ length v.lefts → ArePairs b.n v.lefts v.rights
pairs_of b v h e same = record {
  same = same;
  rows = all_below v.lefts b.n (λ c l. (h.stand c (omega arith)).row);
  columns = all_below v.rights b.n (λ c l. (h.stand c (omega arith)).column);
}

pub rising_of : (b : Basis) (v : ClassTable) → AreClassesOf b v → v.count ≡ length v.lefts → AreRising b v.lefts v.rights
rising_of b v h e = record { rise = λ c d l u. h.rise c d l (omega arith) }

pub pairs_take : (n k : ℕ) (lefts rights : List ℕ) → k ≤ length lefts → ArePairs n lefts rights → ArePairs n (take k lefts) (take k rights)
pairs_take n k lefts rights l h = record {
  same = length-take-le k rights (omega (arith, h.same)) ∙ sym (length-take-le k lefts l);
  rows = All-take (λ x. x < n) k lefts h.rows;
  columns = All-take (λ x. x < n) k rights h.columns;
}

-- the columns of the classes below the limit
pub columns_hold : (b : Basis) (v : ClassTable) (below : ℕ) → v.first ≤ b.n → v.width ≤ v.size → below ≤ v.width → length v.columns ≡ (b.n - v.first) * v.width → All (λ x. x < 2 ^ b.bits) v.columns
    → ((c : ℕ) → below ≤ c → c < v.count → v.limit ≤ first_sum b v c) → AreColumns b (take below v.lefts) (take below v.rights) v.first v.width below v.columns → HasColumns b v
columns_hold b v below lf lw lb long symbols above columns = record {
  low_first = lf;
  narrow = lw;
  long = long;
  symbols = symbols;
  enough = λ c l u. let w : c < below = under c l u in omega arith;
  products = λ p c lp l u.
      let w : c < below = under c l u in
      columns.at p c lp w
      ∙ ap (λ (x : ℕ). times b (vector b x (v.first + p)) (vector b (slice_index (take below v.rights) c) (v.first + p))) (get_or-take below v.lefts c 0 w)
      ∙ ap (λ (y : ℕ). times b (vector b (left v c) (v.first + p)) (vector b y (v.first + p))) (get_or-take below v.rights c 0 w);
} where
  under : (c : ℕ) → c < v.count → first_sum b v c < v.limit → c < below
  under c l u = elim (cases_lt c below) [
    | inl w ↦ w
    | inr w ↦ absurd (omega (arith, above c w l))
  ]
