-- The steps of a listing
use Rattle.std.proofs.Common.{ℕ, [], ◌∷◌, ◌++◌, ◌≡◌, ◌≢◌, refl, ◌+◌, ◌-◌, ◌*◌, ◌<◌, ◌≤◌, List, length, set, sym, ◌∙◌, ap, subst, inl, inr, arith}
use Rattle.std.specs.Prelude.{slice_index, sum}
use Rattle.std.proofs.lemmas.Bool.{cases_eq, cases_lt}
use Rattle.std.proofs.lemmas.List.{get_or-set_same, get_or-set_other, length-set, length-append, get_or_append_left, get_or-append_right}
use Rattle.std.proofs.lemmas.List.Elements.{All-set}
use Rattle.order_theory.specs.Basis.{Basis, IsSoundBasis, times, sum_at}
use Rattle.order_theory.specs.Errors.{entry}
use Rattle.product_classes.specs.Table.{ClassTable, IsOfClass, class_at, left, right, first_sum}
use Rattle.product_classes.specs.Listings.{IsListed, IsListedPair}
use Rattle.product_classes.proofs.Places.{set-same, set-other, sum_more, sum_most}

-- a pair with a sum that is an index: no smaller pair has a greater sum
pub least_of : (b : Basis) (i j p q : ℕ) → IsSoundBasis b → p < b.n → q < b.n → i ≤ p → j ≤ q → sum_at b p q < b.count → sum_at b i j ≤ sum_at b p q
least_of b i j p q sound lp lq li lj l = elim (cases_lt (i + j) (p + q)) [
  | inl u ↦ let w : sum_at b i j < sum_at b p q = sound.sound.sums_order.rise.rises p q i j lp lq li lj u l in omega arith
  | inr u ↦
      let ei : i ≡ p = omega arith in
      let ej : j ≡ q = omega arith in
      let e : sum_at b i j ≡ sum_at b p q = ap (λ (x : ℕ). sum_at b x j) ei ∙ ap (λ (y : ℕ). sum_at b p y) ej in
      omega arith
]

-- where a class keeps its pair
pub same_sum : (b : Basis) (v w : ClassTable) (c : ℕ) → left w c ≡ left v c → right w c ≡ right v c → first_sum b w c ≡ first_sum b v c
same_sum b v w c el er = ap (λ (x : ℕ). sum_at b x (right w c)) el ∙ ap (λ (y : ℕ). sum_at b (left v c) y) er

pub class_moves : (b : Basis) (v w : ClassTable) (p q c : ℕ) → left w c ≡ left v c → right w c ≡ right v c → v.count ≤ w.count → IsOfClass b v p q c → IsOfClass b w p q c
class_moves b v w p q c el er lc h = record {
  number = omega (arith, h.number);
  lowest = omega (arith, h.lowest, same_sum b v w c el er);
  same = λ e. h.same e ∙ sym (ap (λ (x : ℕ). entry (times b) b e x (right w c)) el ∙ ap (λ (y : ℕ). entry (times b) b e (left v c) y) er);
}

-- a pair of the current sum is of the class of a listed pair at which all matrices have the same entry
pub class_of_source : (b : Basis) (v : ClassTable) (k i j p q c : ℕ) → IsListed b v (sum_at b i j) k → p < b.n → q < slice_index v.reaches p → c ≡ class_at v p q
    → ((w : List ℕ) → entry (times b) b w i j ≡ entry (times b) b w p q) → IsOfClass b v i j c
class_of_source b v k i j p q c h lp lq e same =
    let here : IsOfClass b v p q (class_at v p q) = h.each p q lp lq in
    subst (λ (x : ℕ). IsOfClass b v i j x) (sym e) (record {
      number = here.number;
      lowest = (h.stand (class_at v p q) here.number).low;
      same = λ w. same w ∙ here.same w;
    })

module _ (b : Basis) (v : ClassTable) (i j c k : ℕ) (ls rs : List ℕ) (sound : IsSoundBasis b) (h : IsListed b v (sum_at b i j) i) (li : i < b.n) (lj : j < b.n)
    (at : slice_index v.reaches i ≡ j) (index : sum_at b i j < b.count) (long : length v.numbers ≡ b.n * b.n) (rows : length v.reaches ≡ b.n)
    (up : v.count ≤ k) (one : k ≤ v.count + 1)
    (same_left : (d : ℕ) → d < v.count → slice_index ls d ≡ left v d) (same_right : (d : ℕ) → d < v.count → slice_index rs d ≡ right v d)
    (new_left : (d : ℕ) → v.count ≤ d → d < k → slice_index ls d ≡ i) (new_right : (d : ℕ) → v.count ≤ d → d < k → slice_index rs d ≡ j) (new_class : (d : ℕ) → v.count ≤ d → d < k → c ≡ d) where
  abbrev pub after : ClassTable
  after = record v { count = k; numbers = set v.numbers (i * v.n + j) c; reaches = set v.reaches i (j + 1); lefts = ls; rights = rs }

  rises : (p q p' q' : ℕ) → p < b.n → q < b.n → p' ≤ p → q' ≤ q → p' + q' < p + q → sum_at b p q < b.count → sum_at b p' q' < sum_at b p q
  rises = sound.sound.sums_order.rise.rises

  long' : length v.numbers ≡ v.n * v.n
  long' = long ∙ sym (ap (λ (x : ℕ). x * x) h.n_is)

  reach_here : slice_index (set v.reaches i (j + 1)) i ≡ j + 1
  reach_here = get_or-set_same v.reaches i (j + 1) 0 (omega (arith, rows))

  reach_there : (p : ℕ) → p ≢ i → slice_index (set v.reaches i (j + 1)) p ≡ slice_index v.reaches p
  reach_there p d = get_or-set_other v.reaches i p (j + 1) 0 d

  reach_grows : (p q : ℕ) → q < slice_index v.reaches p → q < slice_index (set v.reaches i (j + 1)) p
  reach_grows p q l = elim (cases_eq p i) [
    | inr d ↦ subst (λ (x : ℕ). q < x) (sym (reach_there p d)) l
    | inl e ↦
        let r : slice_index (set v.reaches i (j + 1)) p ≡ j + 1 = ap (λ (x : ℕ). slice_index (set v.reaches i (j + 1)) x) e ∙ reach_here in
        let o : slice_index v.reaches p ≡ j = ap (λ (x : ℕ). slice_index v.reaches x) e ∙ at in
        omega arith
  ]

  class_here : slice_index (set v.numbers (i * v.n + j) c) (i * v.n + j) ≡ c
  class_here = set-same v.n v.numbers i j c (omega (arith, h.n_is)) (omega (arith, h.n_is)) long'

  class_there : (p q : ℕ) → q < b.n → (p ≡ i → q ≡ j → ⊥) → slice_index (set v.numbers (i * v.n + j) c) (p * v.n + q) ≡ class_at v p q
  class_there p q lq d = set-other v.n v.numbers i j c p q (omega (arith, h.n_is)) (omega (arith, h.n_is)) d

  -- a pair that was listed before is another one
  listed_other : (p q : ℕ) → q < slice_index v.reaches p → p ≡ i → q ≡ j → ⊥
  listed_other p q l e f = let o : slice_index v.reaches p ≡ j = ap (λ (x : ℕ). slice_index v.reaches x) e ∙ at in absurd (omega arith)

  stands : (d : ℕ) → d < k → IsListedPair b after (sum_at b i j) d
  stands d ld = elim (cases_lt d v.count) [
    | inl u ↦
        let was : IsListedPair b v (sum_at b i j) d = h.stand d u in
        let el : slice_index ls d ≡ left v d = same_left d u in
        let er : slice_index rs d ≡ right v d = same_right d u in
        let inside : right v d < b.n = omega (arith, was.column, h.within (left v d) was.row) in
        record {
          row = omega (arith, was.row);
          column = subst (λ (x : ℕ). slice_index rs d < slice_index (set v.reaches i (j + 1)) x) (sym el) (subst (λ (y : ℕ). y < slice_index (set v.reaches i (j + 1)) (left v d)) (sym er) (reach_grows (left v d) (right v d) was.column));
          own = ap (λ (x : ℕ). class_at after x (slice_index rs d)) el ∙ ap (λ (y : ℕ). class_at after (left v d) y) er
              ∙ class_there (left v d) (right v d) inside (listed_other (left v d) (right v d) was.column) ∙ was.own;
          low = omega (arith, was.low, same_sum b v after d el er);
        }
    | inr u ↦
        let el : slice_index ls d ≡ i = new_left d (omega arith) ld in
        let er : slice_index rs d ≡ j = new_right d (omega arith) ld in
        record {
          row = omega arith;
          column = subst (λ (x : ℕ). slice_index rs d < slice_index (set v.reaches i (j + 1)) x) (sym el) (omega (arith, reach_here));
          own = ap (λ (x : ℕ). class_at after x (slice_index rs d)) el ∙ ap (λ (y : ℕ). class_at after i y) er ∙ class_here ∙ new_class d (omega arith) ld;
          low = let e : first_sum b after d ≡ sum_at b i j = ap (λ (x : ℕ). sum_at b x (slice_index rs d)) el ∙ ap (λ (y : ℕ). sum_at b i y) er in omega arith;
        }
  ]

  rising : (d e : ℕ) → d ≤ e → e < k → first_sum b after d ≤ first_sum b after e
  rising d e l le = elim (cases_lt e v.count) [
    | inl u ↦
        let w : d < v.count = omega arith in
        let x : first_sum b after d ≡ first_sum b v d = same_sum b v after d (same_left d w) (same_right d w) in
        let y : first_sum b after e ≡ first_sum b v e = same_sum b v after e (same_left e u) (same_right e u) in
        omega (arith, h.rise d e l u)
    | inr u ↦
        let y : first_sum b after e ≡ sum_at b i j = ap (λ (x : ℕ). sum_at b x (slice_index rs e)) (new_left e (omega arith) le) ∙ ap (λ (q : ℕ). sum_at b i q) (new_right e (omega arith) le) in
        omega (arith, (stands d (omega arith)).low)
  ]

  each_old : (p q : ℕ) → p < b.n → q < slice_index v.reaches p → IsOfClass b after p q (class_at after p q)
  each_old p q lp lq =
      let was : IsOfClass b v p q (class_at v p q) = h.each p q lp lq in
      let e : class_at after p q ≡ class_at v p q = class_there p q (omega (arith, h.within p lp)) (listed_other p q lq) in
      subst (λ (x : ℕ). IsOfClass b after p q x) (sym e) (class_moves b v after p q (class_at v p q) (same_left (class_at v p q) was.number) (same_right (class_at v p q) was.number) up was)

  pub grown : c < k → IsOfClass b after i j c → IsListed b after (sum_at b i j) (i + 1)
  grown lc fresh = record {
    n_is = h.n_is;
    within = λ p lp. elim (cases_eq p i) [
      | inr d ↦ subst (λ (x : ℕ). x ≤ b.n) (sym (reach_there p d)) (h.within p lp)
      | inl e ↦ let r : slice_index (set v.reaches i (j + 1)) p ≡ j + 1 = ap (λ (x : ℕ). slice_index (set v.reaches i (j + 1)) x) e ∙ reach_here in omega arith
    ];
    numbers_low = All-set (λ x. x < k) v.numbers (i * v.n + j) c lc (λ q d l. let u = h.numbers_low q d l in omega arith);
    few = omega (arith, h.few, sum_more v.reaches i j (omega (arith, rows)) at);
    before = λ p q lp lq ls l. reach_grows p q (h.before p q lp lq ls l);
    here = λ p q l lp lq ls le. elim (cases_eq p i) [
      | inr d ↦ reach_grows p q (h.here p q (omega arith) lp lq ls le)
      | inl e ↦
          let r : slice_index (set v.reaches i (j + 1)) p ≡ j + 1 = ap (λ (x : ℕ). slice_index (set v.reaches i (j + 1)) x) e ∙ reach_here in
          elim (cases_lt q (j + 1)) [
            | inl u ↦ omega arith
            | inr u ↦ absurd (let w : sum_at b i j < sum_at b p q = rises p q i j lp lq (omega arith) (omega arith) (omega arith) ls in omega arith)
          ]
    ];
    stand = stands;
    rise = rising;
    each = λ p q lp lq. elim (cases_lt q (slice_index v.reaches p)) [
      | inl u ↦ each_old p q lp u
      | inr u ↦ elim (cases_eq p i) [
        | inr d ↦ absurd (let r : slice_index (set v.reaches i (j + 1)) p ≡ slice_index v.reaches p = reach_there p d in omega arith)
        | inl e ↦
            let r : slice_index (set v.reaches i (j + 1)) p ≡ j + 1 = ap (λ (x : ℕ). slice_index (set v.reaches i (j + 1)) x) e ∙ reach_here in
            let o : slice_index v.reaches p ≡ j = ap (λ (x : ℕ). slice_index v.reaches x) e ∙ at in
            let f : q ≡ j = omega arith in
            subst (λ (x : ℕ). IsOfClass b after x q (class_at after x q)) (sym e) (subst (λ (y : ℕ). IsOfClass b after i y (class_at after i y)) (sym f)
            (subst (λ (x : ℕ). IsOfClass b after i j x) (sym class_here) fresh))
      ]
    ];
  }

-- a pair of a class that was begun before
pub noted : (b : Basis) (v : ClassTable) (i j c : ℕ) → IsSoundBasis b → IsListed b v (sum_at b i j) i → i < b.n → j < b.n
    → slice_index v.reaches i ≡ j → sum_at b i j < b.count → length v.numbers ≡ b.n * b.n → length v.reaches ≡ b.n → IsOfClass b v i j c
    → IsListed b (record v { numbers = set v.numbers (i * v.n + j) c; reaches = set v.reaches i (j + 1) }) (sum_at b i j) (i + 1)
noted b v i j c sound h li lj at index long rows is =
    let w : ClassTable = record v { numbers = set v.numbers (i * v.n + j) c; reaches = set v.reaches i (j + 1) } in
    grown b v i j c v.count v.lefts v.rights sound h li lj at index long rows (omega arith) (omega arith)
    (λ d l. refl) (λ d l. refl) (λ d l u. absurd (omega arith)) (λ d l u. absurd (omega arith)) (λ d l u. absurd (omega arith))
    is.number (class_moves b v w i j c refl refl (omega arith) is)

reach_low : (n : ℕ) (xs : List ℕ) (i j p : ℕ) → i < length xs → j < n → ((q : ℕ) → q < length xs → slice_index xs q ≤ n) → p < length xs → slice_index (set xs i (j + 1)) p ≤ n
reach_low n xs i j p li lj h lp = elim (cases_eq p i) [
  | inr d ↦ subst (λ (x : ℕ). x ≤ n) (sym (get_or-set_other xs i p (j + 1) 0 d)) (h p lp)
  | inl e ↦ let r : slice_index (set xs i (j + 1)) p ≡ j + 1 = ap (λ (x : ℕ). slice_index (set xs i (j + 1)) x) e ∙ get_or-set_same xs i (j + 1) 0 li in omega arith
]

-- what was put at the end of a list
last_of : (xs : List ℕ) (x k : ℕ) → k ≡ length xs → slice_index (xs ++ x ∷ []) k ≡ x
last_of xs x k e = get_or-append_right xs (x ∷ []) (length xs) k 0 refl (omega arith) ∙ ap (λ (p : ℕ). slice_index (x ∷ []) p) (let f : k - length xs ≡ 0 = omega arith in f)

-- there is room for a pair more
pub room_left : (b : Basis) (v : ClassTable) (s k i j : ℕ) → IsListed b v s k → i < b.n → j < b.n → slice_index v.reaches i ≡ j → length v.reaches ≡ b.n → v.count < b.n * b.n
room_left b v s k i j h li lj at rows =
    let more : sum (set v.reaches i (j + 1)) ≡ sum v.reaches + 1 = sum_more v.reaches i j (omega (arith, rows)) at in
    let long : length (set v.reaches i (j + 1)) ≡ b.n = length-set v.reaches i (j + 1) ∙ rows in
    let most : sum (set v.reaches i (j + 1)) ≤ length (set v.reaches i (j + 1)) * b.n = sum_most b.n (set v.reaches i (j + 1)) (λ p l. reach_low b.n v.reaches i j p (omega (arith, rows)) lj (λ q u. h.within q (omega (arith, rows))) (omega (arith, length-set v.reaches i (j + 1)))) in
    let most' : sum (set v.reaches i (j + 1)) ≤ b.n * b.n = subst (λ (x : ℕ). sum (set v.reaches i (j + 1)) ≤ x * b.n) long most in
    omega (arith, h.few)

-- a pair that begins a class
pub begun : (b : Basis) (v : ClassTable) (i j : ℕ) → IsSoundBasis b → IsListed b v (sum_at b i j) i → i < b.n → j < b.n
    → slice_index v.reaches i ≡ j → sum_at b i j < b.count → length v.numbers ≡ b.n * b.n → length v.reaches ≡ b.n → v.count ≡ length v.lefts → v.count ≡ length v.rights
    → IsListed b (record v { count = length (v.lefts ++ i ∷ []); numbers = set v.numbers (i * v.n + j) v.count; reaches = set v.reaches i (j + 1); lefts = v.lefts ++ i ∷ []; rights = v.rights ++ j ∷ [] }) (sum_at b i j) (i + 1)
begun b v i j sound h li lj at index long rows nl nr =
    let ls : List ℕ = v.lefts ++ i ∷ [] in
    let rs : List ℕ = v.rights ++ j ∷ [] in
    let more : length ls ≡ v.count + 1 = length-append v.lefts (i ∷ []) ∙ ap (λ (x : ℕ). x + 1) (sym nl) in
    let w : ClassTable = record v { count = length ls; numbers = set v.numbers (i * v.n + j) v.count; reaches = set v.reaches i (j + 1); lefts = ls; rights = rs } in
    let el : slice_index ls v.count ≡ i = last_of v.lefts i v.count nl in
    let er : slice_index rs v.count ≡ j = last_of v.rights j v.count nr in
    grown b v i j v.count (length ls) ls rs sound h li lj at index long rows (omega arith) (omega arith)
    (λ d l. get_or_append_left v.lefts (i ∷ []) 0 d (omega arith)) (λ d l. get_or_append_left v.rights (j ∷ []) 0 d (omega arith))
    (λ d l u. ap (λ (x : ℕ). slice_index ls x) (let e : d ≡ v.count = omega arith in e) ∙ el)
    (λ d l u. ap (λ (x : ℕ). slice_index rs x) (let e : d ≡ v.count = omega arith in e) ∙ er)
    (λ d l u. omega arith)
    (omega arith)
    (record {
      number = omega arith;
      lowest = let e : first_sum b w v.count ≡ sum_at b i j = ap (λ (x : ℕ). sum_at b x (slice_index rs v.count)) el ∙ ap (λ (y : ℕ). sum_at b i y) er in omega arith;
      same = λ e. sym (ap (λ (x : ℕ). entry (times b) b e x (slice_index rs v.count)) el ∙ ap (λ (y : ℕ). entry (times b) b e i y) er);
    })

-- a row that has no pair of the sum
pub passed : (b : Basis) (v : ClassTable) (s i j : ℕ) → IsSoundBasis b → IsListed b v s i → i < b.n → slice_index v.reaches i ≡ j → (j < b.n → sum_at b i j ≢ s) → IsListed b v s (i + 1)
passed b v s i j sound h li at differs = record {
  n_is = h.n_is;
  within = h.within;
  numbers_low = h.numbers_low;
  few = h.few;
  before = h.before;
  stand = h.stand;
  rise = h.rise;
  each = h.each;
  here = λ p q l lp lq ls le. elim (cases_eq p i) [
    | inr d ↦ h.here p q (omega arith) lp lq ls le
    | inl e ↦
        let o : slice_index v.reaches p ≡ j = ap (λ (x : ℕ). slice_index v.reaches x) e ∙ at in
        elim (cases_lt q j) [
          | inl u ↦ omega arith
          | inr u ↦
              let lj : j < b.n = omega arith in
              let least : sum_at b p j ≤ sum_at b p q = least_of b p j p q sound lp lq (omega arith) (omega arith) ls in
              elim (cases_lt (sum_at b p j) s) [
                | inl v ↦ absurd (let w = h.before p j lp lj (omega arith) v in omega arith)
                | inr v ↦ absurd (differs lj (ap (λ (x : ℕ). sum_at b x j) (sym e) ∙ (let f : sum_at b p j ≡ s = omega arith in f)))
              ]
        ]
  ];
}

-- all rows are gone through
pub next_sum : (b : Basis) (v : ClassTable) (s i : ℕ) → IsListed b v s i → ((p q : ℕ) → i ≤ p → p < b.n → q < b.n → sum_at b p q < b.count → sum_at b p q ≤ s → ⊥) → IsListed b v (s + 1) 0
next_sum b v s i h rest = record {
  n_is = h.n_is;
  within = h.within;
  numbers_low = h.numbers_low;
  few = h.few;
  rise = h.rise;
  each = h.each;
  before = λ p q lp lq ls l. elim (cases_lt p i) [
    | inl u ↦ h.here p q u lp lq ls (omega arith)
    | inr u ↦ absurd (rest p q (omega arith) lp lq ls (omega arith))
  ];
  here = λ p q l lp lq ls le. absurd (omega arith);
  stand = λ c l. let w = h.stand c l in record { row = w.row; column = w.column; own = w.own; low = omega (arith, w.low) };
}

-- a row whose first sum is above s, and the rows after it
pub rest_above : (b : Basis) (v : ClassTable) (s i : ℕ) → IsSoundBasis b → IsListed b v s i → s < sum_at b i 0 → IsListed b v (s + 1) 0
rest_above b v s i sound h l = next_sum b v s i h (λ p q u lp lq ls le. absurd (let w : sum_at b i 0 ≤ sum_at b p q = least_of b i 0 p q sound lp lq u (omega arith) ls in omega arith))
