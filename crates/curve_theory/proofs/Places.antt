-- The functions by rising weight: the laws of labels and sums
use Rattle.std.proofs.Common.{◌≡◌, ℕ, zero, suc, ◌+◌, ◌<◌, ◌≤◌, Bool, true, cond, ltb, leb, sym, ◌∙◌, ap, subst, refl, inl, inr, arith, Some, None, add_comm}
use Rattle.std.proofs.lemmas.Bool.{cases_eq, cases_lt, cases_Bool, le-leb, lt-leb, ltb-true, lt-ltb, cond-true, cond-false}
use Rattle.field_theory.specs.Sums.{count_below}
use Rattle.field_theory.proofs.Counts.{count_below-yes, count_below-no, count_below-mono, count_below-lt}
use Rattle.curve_theory.specs.Semigroup.{first_below, is_member, at_place, function_count, weight_at, place_of, sum_of}
use Rattle.curve_theory.proofs.Semigroup.{first_below-holds, first_below-at_most, is_member-add, is_member-zero}

pub at_place-count : (n : ℕ) (p : ℕ → Bool) (w : ℕ) → w < n → p w ≡ true → at_place n p (count_below w p) ≡ w
unfolding at_place
at_place-count n p w l h =
    let i : ℕ = count_below w p in
    let test : ℕ → Bool = λ k. ltb i (count_below (suc k) p) in
    let yes : count_below (suc w) p ≡ i + 1 = count_below-yes w p h in
    let le : first_below n test ≤ w = first_below-at_most n test w (lt-ltb i (count_below (suc w) p) (omega arith)) in
    let holds : i < count_below (suc (first_below n test)) p =
    ltb-true i (count_below (suc (first_below n test)) p) (first_below-holds n test (omega arith)) in
    elim (cases_lt (first_below n test) w) [
      | inl m ↦
          let c : count_below (suc (first_below n test)) p ≤ i = count_below-mono (suc (first_below n test)) w p (omega arith) in
          absurd (omega arith)
      | inr m ↦ omega arith
    ]

pub record IsPlace (n : ℕ) (p : ℕ → Bool) (i v : ℕ) : Type 0 where
  pub below : v < n
  pub holds : p v ≡ true
  pub count : count_below v p ≡ i

at_place_low : (n : ℕ) (p : ℕ → Bool) (i v : ℕ) → first_below n (λ k. ltb i (count_below (suc k) p)) ≡ v → count_below v p ≤ i
at_place_low n p i zero e = omega arith
at_place_low n p i (suc v) e =
    elim (cases_lt i (count_below (suc v) p)) [
      | inl m ↦
          let h : first_below n (λ k. ltb i (count_below (suc k) p)) ≤ v = first_below-at_most n (λ k. ltb i (count_below (suc k) p)) v (lt-ltb i (count_below (suc v) p) m) in
          absurd (omega arith)
      | inr m ↦ m
    ]

at_place_top : (n : ℕ) (p : ℕ → Bool) (i : ℕ) → i < count_below n p → first_below n (λ k. ltb i (count_below (suc k) p)) < n
at_place_top zero p i l = absurd (omega arith)
at_place_top (suc n) p i l =
    let h : first_below (suc n) (λ k. ltb i (count_below (suc k) p)) ≤ n = first_below-at_most (suc n) (λ k. ltb i (count_below (suc k) p)) n (lt-ltb i (count_below (suc n) p) l) in
    omega arith

pub at_place-is : (n : ℕ) (p : ℕ → Bool) (i : ℕ) → i < count_below n p → IsPlace n p i (at_place n p i)
unfolding at_place
at_place-is n p i l =
    let v : ℕ = first_below n (λ k. ltb i (count_below (suc k) p)) in
    let below : v < n = at_place_top n p i l in
    let low : count_below v p ≤ i = at_place_low n p i v refl in
    let high : i < count_below (suc v) p = ltb-true i (count_below (suc v) p) (first_below-holds n (λ k. ltb i (count_below (suc k) p)) below) in
    elim (cases_Bool (p v)) [
      | inl h ↦
          let e : count_below (suc v) p ≡ count_below v p + 1 = count_below-yes v p h in
          record { below = below; holds = h; count = omega arith }
      | inr h ↦ let e : count_below (suc v) p ≡ count_below v p = count_below-no v p h in absurd (omega arith)
    ]

-- what is known of function i
pub record IsFunction (a b top i w : ℕ) : Type 0 where
  pub within : w ≤ top
  pub member : is_member a b w ≡ true
  pub place : place_of a b w ≡ i

pub weight_at-is : (a b top i : ℕ) → i < function_count a b top → IsFunction a b top i (weight_at a b top i)
unfolding function_count weight_at place_of
weight_at-is a b top i l =
    let h : IsPlace (top + 1) (is_member a b) i (at_place (top + 1) (is_member a b) i) = at_place-is (top + 1) (is_member a b) i l in
    record { within = omega arith; member = h.holds; place = h.count }

-- each member up to top is the weight of one function
pub weight_at-place : (a b top w : ℕ) → w ≤ top → is_member a b w ≡ true → weight_at a b top (place_of a b w) ≡ w
unfolding weight_at place_of
weight_at-place a b top w l h = at_place-count (top + 1) (is_member a b) w (omega arith) h

pub place_of-lt : (a b u w : ℕ) → u < w → is_member a b u ≡ true → place_of a b u < place_of a b w
unfolding place_of
place_of-lt a b u w l h = count_below-lt u w (is_member a b) l h

pub place_of-below : (a b top w : ℕ) → w ≤ top → is_member a b w ≡ true → place_of a b w < function_count a b top
unfolding place_of function_count
place_of-below a b top w l h = count_below-lt w (top + 1) (is_member a b) (omega arith) h

-- labels rise with the index
pub weight_at-lt : (a b top i j : ℕ) → i < j → j < function_count a b top → weight_at a b top i < weight_at a b top j
weight_at-lt a b top i j l m =
    let f : IsFunction a b top i (weight_at a b top i) = weight_at-is a b top i (omega arith) in
    let g : IsFunction a b top j (weight_at a b top j) = weight_at-is a b top j m in
    elim (cases_lt (weight_at a b top i) (weight_at a b top j)) [
      | inl u ↦ u
      | inr u ↦ elim (cases_eq (weight_at a b top i) (weight_at a b top j)) [
        | inl e ↦ let p : place_of a b (weight_at a b top i) ≡ place_of a b (weight_at a b top j) = ap (place_of a b) e in
            let q : place_of a b (weight_at a b top i) ≡ i = f.place in
            let r : place_of a b (weight_at a b top j) ≡ j = g.place in absurd (omega arith)
        | inr e ↦ let p : place_of a b (weight_at a b top j) < place_of a b (weight_at a b top i) = place_of-lt a b (weight_at a b top j) (weight_at a b top i) (omega arith) g.member in
            let q : place_of a b (weight_at a b top i) ≡ i = f.place in
            let r : place_of a b (weight_at a b top j) ≡ j = g.place in absurd (omega arith)
      ]
    ]

-- the sum of two functions is the function of the sum of the weights
pub record IsSum (a b top i j s : ℕ) : Type 0 where
  pub below : s < function_count a b top
  pub weight_is : weight_at a b top s ≡ weight_at a b top i + weight_at a b top j

pub sum_of-from : (a b top i j : ℕ) → weight_at a b top i + weight_at a b top j ≤ top → sum_of a b top i j ≡ Some (place_of a b (weight_at a b top i + weight_at a b top j))
unfolding sum_of
sum_of-from a b top i j l =
    cond-true (leb (weight_at a b top i + weight_at a b top j) top) (Some (place_of a b (weight_at a b top i + weight_at a b top j))) None
    (le-leb (weight_at a b top i + weight_at a b top j) top l)

sum_of-none : (a b top i j : ℕ) → top < weight_at a b top i + weight_at a b top j → sum_of a b top i j ≡ None
unfolding sum_of
sum_of-none a b top i j l =
    cond-false (leb (weight_at a b top i + weight_at a b top j) top) (Some (place_of a b (weight_at a b top i + weight_at a b top j))) None
    (lt-leb (weight_at a b top i + weight_at a b top j) top l)

pub sum_of-within : (a b top i j s : ℕ) → sum_of a b top i j ≡ Some s → weight_at a b top i + weight_at a b top j ≤ top
sum_of-within a b top i j s h =
    elim (cases_lt top (weight_at a b top i + weight_at a b top j)) [
      | inl m ↦ let e : sum_of a b top i j ≡ None = sum_of-none a b top i j m in cc
      | inr m ↦ m
    ]

pub sum_of-some : (a b top i j s : ℕ) → 0 < a → i < function_count a b top → j < function_count a b top → sum_of a b top i j ≡ Some s → IsSum a b top i j s
sum_of-some a b top i j s pos l m h =
    let f : IsFunction a b top i (weight_at a b top i) = weight_at-is a b top i l in
    let g : IsFunction a b top j (weight_at a b top j) = weight_at-is a b top j m in
    let w : ℕ = weight_at a b top i + weight_at a b top j in
    let within : w ≤ top = sum_of-within a b top i j s h in
    let e : sum_of a b top i j ≡ Some (place_of a b w) = sum_of-from a b top i j within in
    let d : s ≡ place_of a b w = cc in
    let member : is_member a b w ≡ true = is_member-add a b (weight_at a b top i) (weight_at a b top j) pos f.member g.member in
    record {
      below = subst (λ (x : ℕ). x < function_count a b top) (sym d) (place_of-below a b top w within member);
      weight_is = ap (weight_at a b top) d ∙ weight_at-place a b top w within member;
    }

pub sum_of_comm : (a b top i j : ℕ) → sum_of a b top i j ≡ sum_of a b top j i
unfolding sum_of
sum_of_comm a b top i j = ap (λ (x : ℕ). cond (leb x top) (Some (place_of a b x)) None) (add_comm (weight_at a b top i) (weight_at a b top j))

weight_at-le : (a b top i j : ℕ) → i ≤ j → j < function_count a b top → weight_at a b top i ≤ weight_at a b top j
weight_at-le a b top i j l m =
    elim (cases_eq i j) [
      | inl e ↦ let h : weight_at a b top i ≡ weight_at a b top j = ap (weight_at a b top) e in omega arith
      | inr e ↦ let h : weight_at a b top i < weight_at a b top j = weight_at-lt a b top i j (omega arith) m in omega arith
    ]

pub record IsSmallerSum (a b top i j s : ℕ) : Type 0 where
  pub index : ℕ
  pub answers : sum_of a b top i j ≡ Some index
  pub smaller : index < s

-- where the sum of i and j answers, that of smaller ones answers a smaller index
pub sum_of-smaller : (a b top i j k l s : ℕ) → 0 < a → i < function_count a b top → j < function_count a b top → k ≤ i → l ≤ j → k + l < i + j → sum_of a b top i j ≡ Some s → IsSmallerSum a b top k l s
sum_of-smaller a b top i j k l s pos below_i below_j le_k le_l lt h =
    let weights : weight_at a b top k + weight_at a b top l < weight_at a b top i + weight_at a b top j =
    elim (cases_lt k i) [
      | inl m ↦ let p : weight_at a b top k < weight_at a b top i = weight_at-lt a b top k i m below_i in
          let q : weight_at a b top l ≤ weight_at a b top j = weight_at-le a b top l j le_l below_j in omega arith
      | inr m ↦ let p : weight_at a b top k ≤ weight_at a b top i = weight_at-le a b top k i le_k below_i in
          let q : weight_at a b top l < weight_at a b top j = weight_at-lt a b top l j (omega arith) below_j in omega arith
    ] in
    let within : weight_at a b top i + weight_at a b top j ≤ top = sum_of-within a b top i j s h in
    let f : IsFunction a b top k (weight_at a b top k) = weight_at-is a b top k (omega arith) in
    let g : IsFunction a b top l (weight_at a b top l) = weight_at-is a b top l (omega arith) in
    let d : sum_of a b top i j ≡ Some (place_of a b (weight_at a b top i + weight_at a b top j)) = sum_of-from a b top i j within in
    let e : s ≡ place_of a b (weight_at a b top i + weight_at a b top j) = cc in
    let lower : place_of a b (weight_at a b top k + weight_at a b top l) < place_of a b (weight_at a b top i + weight_at a b top j) =
    place_of-lt a b (weight_at a b top k + weight_at a b top l) (weight_at a b top i + weight_at a b top j) weights
    (is_member-add a b (weight_at a b top k) (weight_at a b top l) pos f.member g.member) in
    record {
      index = place_of a b (weight_at a b top k + weight_at a b top l);
      answers = sum_of-from a b top k l (omega arith);
      smaller = omega arith;
    }

weight_at-zero : (a b top : ℕ) → 0 < a → weight_at a b top 0 ≡ 0
unfolding place_of
weight_at-zero a b top pos = weight_at-place a b top 0 (omega arith) (is_member-zero a b pos)

-- function 0 is neutral
pub sum_of-zero : (a b top i : ℕ) → 0 < a → i < function_count a b top → sum_of a b top 0 i ≡ Some i
sum_of-zero a b top i pos l =
    let f : IsFunction a b top i (weight_at a b top i) = weight_at-is a b top i l in
    let z : weight_at a b top 0 ≡ 0 = weight_at-zero a b top pos in
    let e : weight_at a b top 0 + weight_at a b top i ≡ weight_at a b top i = omega arith in
    let w : weight_at a b top i ≤ top = f.within in
    sum_of-from a b top 0 i (omega arith) ∙ ap (λ (x : ℕ). Some (place_of a b x)) e ∙ ap (λ (x : ℕ). Some x) f.place
