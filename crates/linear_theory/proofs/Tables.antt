-- The rows of a flat list: how many there are, how long they are, where their entries stand, and what a write leaves
use Rattle.std.proofs.Common.{◌≡◌, ◌≢◌, ℕ, zero, suc, ◌+◌, ◌*◌, ◌-◌, ◌<◌, ◌≤◌, List, [], ◌∷◌, ◌++◌, length, min, take, drop, get_or, replicate, sym, ◌∙◌, ap, subst, refl, inl, inr, arith, All}
use Rattle.std.proofs.Math.Nat.{suc-mul, mul-le-mul_right}
use Rattle.std.proofs.Math.ListN.{set}
use Rattle.std.proofs.Math.Seq.{take-set-lt}
use Rattle.std.proofs.lemmas.List.{drop-drop, get_or-take, get_or-drop, get_or_append_left, get_or-append_right, length-append, length-take, length-take-le, ext_get_or, length-drop, take-set-le, drop-set-lt, drop-set-add, take_at, drop_at, take-replicate, drop-replicate, drop-append-le, drop-take}
use Rattle.std.proofs.lemmas.Nat.{row_fits, mul-add-lt}
use Rattle.std.proofs.lemmas.Bool.{cases_lt}
use Rattle.std.proofs.lemmas.Slice.{take-put_mid_below, between-put_mid}
use borrow.Rule.Slice.PartMut.{put_mid}
use Rattle.linear_theory.specs.Tables.{rows_of}

pub length-rows_of : (rows cols : ℕ) (xs : List ℕ) → length (rows_of rows cols xs) ≡ rows
unfolding rows_of
length-rows_of zero cols xs = refl
length-rows_of (suc rows) cols xs = ap suc (length-rows_of rows cols (drop cols xs))

-- row i stands from place i * cols on
pub row-rows_of : (rows cols : ℕ) (xs : List ℕ) (i : ℕ) (d : List ℕ) → i < rows → get_or (rows_of rows cols xs) i d ≡ take cols (drop (i * cols) xs)
unfolding rows_of
row-rows_of zero cols xs i d l = absurd (omega arith)
row-rows_of (suc rows) cols xs zero d l = ap (λ (k : ℕ). take cols (drop k xs)) (let z : 0 ≡ 0 * cols = omega arith in z)
row-rows_of (suc rows) cols xs (suc i) d l =
    row-rows_of rows cols (drop cols xs) i d (omega arith)
    ∙ ap (λ (ys : List ℕ). take cols ys) (drop-drop (i * cols) cols xs ∙ ap (λ (k : ℕ). drop k xs) (omega arith))

-- entry j of row i stands at place i * cols + j
pub entry-rows_of : (rows cols : ℕ) (xs : List ℕ) (i j : ℕ) → i < rows → j < cols → get_or (get_or (rows_of rows cols xs) i []) j 0 ≡ get_or xs (i * cols + j) 0
entry-rows_of rows cols xs i j li lj =
    ap (λ (row : List ℕ). get_or row j 0) (row-rows_of rows cols xs i [] li)
    ∙ get_or-take cols (drop (i * cols) xs) j 0 lj
    ∙ get_or-drop (i * cols) xs j 0

pub length-row : (rows cols : ℕ) (xs : List ℕ) (i : ℕ) (d : List ℕ) → rows * cols ≤ length xs → i < rows → length (get_or (rows_of rows cols xs) i d) ≡ cols
length-row rows cols xs i d long l =
    let fits : i * cols + cols ≤ rows * cols = row_fits i cols rows cols l (omega arith) in
    ap length (row-rows_of rows cols xs i d l)
    ∙ length-take-le cols (drop (i * cols) xs) (omega (arith, length-drop (i * cols) xs))

pub place_below : (rows cols i j n : ℕ) → i < rows → j < cols → n ≡ rows * cols → i * cols + j < n
place_below rows cols i j n li lj e = grind (arith, mul-add-lt i cols j rows li lj)

pub row_end : (rows cols i n : ℕ) → i < rows → n ≡ rows * cols → i * cols + cols ≤ n
row_end rows cols i n l e = let k : suc i * cols ≤ rows * cols = mul-le-mul_right cols l in omega (arith, suc-mul i cols)

-- ---- after a write
-- the first row and the rest
drop_row : (cols i : ℕ) (m : List ℕ) → drop (suc i * cols) m ≡ drop (i * cols) (drop cols m)
drop_row cols i m = sym (drop-drop (i * cols) cols m ∙ ap (λ n. drop n m) (let e : cols + i * cols ≡ suc i * cols = omega (arith, suc-mul i cols) in e))

drop_none : (cols : ℕ) (m : List ℕ) → drop (0 * cols) m ≡ m
drop_none cols m = ap (λ n. drop n m) (let e : 0 * cols ≡ 0 = omega arith in e)

-- one entry is written
pub rows_of-set : (r cols : ℕ) (m : List ℕ) (i j v : ℕ) → i < r → j < cols → rows_of r cols (set m (i * cols + j) v) ≡ set (rows_of r cols m) i (set (take cols (drop (i * cols) m)) j v)
unfolding rows_of
rows_of-set zero cols m i j v li lj = absurd (omega arith)
rows_of-set (suc r) cols m zero j v li lj =
    let e : 0 * cols + j ≡ j = omega arith in
    ap (λ p. rows_of (suc r) cols (set m p v)) e ∙ ap (λ w. w ∷ rows_of r cols (drop cols (set m j v))) (take-set-lt cols m j v lj ∙ ap (λ w. set (take cols w) j v) (sym (drop_none cols m)))
    ∙ ap (λ w. set (take cols (drop (0 * cols) m)) j v ∷ rows_of r cols w) (drop-set-lt cols m j v lj)
rows_of-set (suc r) cols m (suc i) j v li lj =
    let e : suc i * cols + j ≡ cols + (i * cols + j) = omega (arith, suc-mul i cols) in
    ap (λ p. rows_of (suc r) cols (set m p v)) e ∙ ap (λ w. w ∷ rows_of r cols (drop cols (set m (cols + (i * cols + j)) v))) (take-set-le cols m (cols + (i * cols + j)) v (omega arith))
    ∙ ap (λ w. take cols m ∷ rows_of r cols w) (drop-set-add cols m (i * cols + j) v)
    ∙ ap (λ w. take cols m ∷ w) (rows_of-set r cols (drop cols m) i j v (omega arith) lj)
    ∙ ap (λ w. take cols m ∷ set (rows_of r cols (drop cols m)) i (set (take cols w) j v)) (sym (drop_row cols i m))

pub rows_of-replicate : (r cols x : ℕ) → rows_of r cols (replicate (r * cols) x) ≡ replicate r (replicate cols x)
unfolding rows_of
rows_of-replicate zero cols x = refl
rows_of-replicate (suc r) cols x =
    ap (λ n. rows_of (suc r) cols (replicate n x)) (suc-mul r cols) ∙
    ap (λ w. w ∷ rows_of r cols (drop cols (replicate (r * cols + cols) x))) (take-replicate cols (r * cols + cols) x (omega arith))
    ∙ ap (λ w. replicate cols x ∷ rows_of r cols w) (drop-replicate cols (r * cols + cols) x ∙ ap (λ n. replicate n x) (let e : r * cols + cols - cols ≡ r * cols = omega arith in e))
    ∙ ap (λ w. replicate cols x ∷ w) (rows_of-replicate r cols x)

-- one row is written
drop_below-put_mid : (n b k : ℕ) (xs ys : List ℕ) → n + b ≤ length xs → drop n (put_mid (n + b) k xs ys) ≡ put_mid b k (drop n xs) ys
drop_below-put_mid n b k xs ys l =
    drop-append-le n (take (n + b) xs) (ys ++ drop k (drop (n + b) xs)) (rw (length-take-le (n + b) xs l) (omega arith))
    ∙ ap (λ w. w ++ (ys ++ drop k (drop (n + b) xs))) (drop-take n b xs)
    ∙ ap (λ w. take b (drop n xs) ++ (ys ++ drop k w)) (sym (drop-drop b n xs))

pub rows_of-put_mid : (r cols : ℕ) (m : List ℕ) (i : ℕ) (ys : List ℕ) → i < r → length m ≡ r * cols → length ys ≡ cols → rows_of r cols (put_mid (i * cols) cols m ys) ≡ set (rows_of r cols m) i ys
unfolding rows_of
rows_of-put_mid zero cols m i ys li lm ly = absurd (omega arith)
rows_of-put_mid (suc r) cols m zero ys li lm ly =
    let e : 0 * cols ≡ 0 = omega arith in
    ap (λ p. rows_of (suc r) cols (put_mid p cols m ys)) e
    ∙ ap (λ w. w ∷ rows_of r cols (drop cols (ys ++ drop cols m))) (take_at ys (drop cols m) cols ly)
    ∙ ap (λ w. ys ∷ rows_of r cols w) (drop_at ys (drop cols m) cols ly)
rows_of-put_mid (suc r) cols m (suc i) ys li lm ly =
    let e : suc i * cols ≡ cols + i * cols = omega (arith, suc-mul i cols) in
    let below : i ≤ r = omega arith in
    let k : i * cols ≤ r * cols = mul-le-mul_right cols below in
    let room : cols + i * cols ≤ length m = omega (arith, suc-mul r cols) in
    ap (λ p. rows_of (suc r) cols (put_mid p cols m ys)) e
    ∙ ap (λ w. w ∷ rows_of r cols (drop cols (put_mid (cols + i * cols) cols m ys))) (take-put_mid_below (cols + i * cols) cols m ys cols (omega arith) room)
    ∙ ap (λ w. take cols m ∷ rows_of r cols w) (drop_below-put_mid cols (i * cols) cols m ys room)
    ∙ ap (λ w. take cols m ∷ w) (rows_of-put_mid r cols (drop cols m) i ys (omega arith) (rw length-drop (omega (arith, suc-mul r cols))) ly)

pub length-put_mid : (a k : ℕ) (xs ys : List ℕ) → a + k ≤ length xs → length ys ≡ k → length (put_mid a k xs ys) ≡ length xs
length-put_mid a k xs ys l e =
    rw (length-append, length-append, length-drop, length-drop, length-take-le a xs (let h : a ≤ length xs = omega arith in h)) (omega arith)

-- ---- a part of a list is written: its entries before, within and after that part
pub put_mid-before : (a k : ℕ) (xs ys : List ℕ) (p d : ℕ) → p < a → a ≤ length xs → get_or (put_mid a k xs ys) p d ≡ get_or xs p d
put_mid-before a k xs ys p d l h =
    get_or_append_left (take a xs) (ys ++ drop k (drop a xs)) d p (rw (length-take-le a xs h) l) ∙ get_or-take a xs p d l

pub put_mid-within : (a k : ℕ) (xs ys : List ℕ) (p d : ℕ) → p < k → a ≤ length xs → length ys ≡ k → get_or (put_mid a k xs ys) (a + p) d ≡ get_or ys p d
put_mid-within a k xs ys p d l h e =
    get_or-append_right (take a xs) (ys ++ drop k (drop a xs)) a (a + p) d (length-take-le a xs h) (omega arith)
    ∙ ap (λ n. get_or (ys ++ drop k (drop a xs)) n d) (let w : a + p - a ≡ p = omega arith in w)
    ∙ get_or_append_left ys (drop k (drop a xs)) d p (omega arith)

pub put_mid-after : (a k : ℕ) (xs ys : List ℕ) (p d : ℕ) → a + k ≤ p → a ≤ length xs → length ys ≡ k → get_or (put_mid a k xs ys) p d ≡ get_or xs p d
put_mid-after a k xs ys p d l h e =
    get_or-append_right (take a xs) (ys ++ drop k (drop a xs)) a p d (length-take-le a xs h) (omega arith)
    ∙ get_or-append_right ys (drop k (drop a xs)) k (p - a) d e (omega arith)
    ∙ get_or-drop k (drop a xs) (p - a - k) d ∙ get_or-drop a xs (k + (p - a - k)) d
    ∙ ap (λ n. get_or xs n d) (let w : a + (k + (p - a - k)) ≡ p = omega arith in w)

-- row q is written
pub put_row-same : (cols q : ℕ) (xs ys : List ℕ) (p : ℕ) → p < cols → q * cols ≤ length xs → length ys ≡ cols → get_or (put_mid (q * cols) cols xs ys) (q * cols + p) 0 ≡ get_or ys p 0
put_row-same cols q xs ys p l h e = put_mid-within (q * cols) cols xs ys p 0 l h e

pub put_row-other : (cols q : ℕ) (xs ys : List ℕ) (i p : ℕ) → p < cols → i ≢ q → q * cols ≤ length xs → length ys ≡ cols → get_or (put_mid (q * cols) cols xs ys) (i * cols + p) 0 ≡ get_or xs (i * cols + p) 0
put_row-other cols q xs ys i p l d h e = elim (cases_lt i q) [
  | inl u ↦ put_mid-before (q * cols) cols xs ys (i * cols + p) 0 (let w : i * cols + cols ≤ q * cols = row_end q cols i (q * cols) u refl in omega arith) h
  | inr u ↦ put_mid-after (q * cols) cols xs ys (i * cols + p) 0 (let w : q * cols + cols ≤ i * cols = row_end i cols q (i * cols) (omega arith) refl in omega arith) h e
]

pub All-put_mid : (P : ℕ → Type 0) (a k : ℕ) (xs ys : List ℕ) → All P xs → All P ys → a + k ≤ length xs → length ys ≡ k → All P (put_mid a k xs ys)
All-put_mid P a k xs ys hx hy l e n d b =
    let len : n < length xs = subst (λ (m : ℕ). n < m) (length-put_mid a k xs ys l e) b in
    elim (cases_lt n a) [
      | inl u ↦ subst P (sym (put_mid-before a k xs ys n d u (omega arith))) (hx n d len)
      | inr u ↦ elim (cases_lt n (a + k)) [
        | inl v ↦
            let w : a + (n - a) ≡ n = omega arith in
            subst (λ (m : ℕ). P (get_or (put_mid a k xs ys) m d)) w (subst P (sym (put_mid-within a k xs ys (n - a) d (omega arith) (omega arith) e)) (hy (n - a) d (omega arith)))
        | inr v ↦ subst P (sym (put_mid-after a k xs ys n d v (omega arith) e)) (hx n d len)
      ]
    ]

-- ---- the rows after row q is written
pub row-put_mid_same : (cols q k : ℕ) (xs ys : List ℕ) → k ≡ cols → q * cols + cols ≤ length xs → length ys ≡ k → take cols (drop (q * cols) (put_mid (q * cols) k xs ys)) ≡ ys
row-put_mid_same cols q k xs ys e h l =
    ap (λ (n : ℕ). take n (drop (q * cols) (put_mid (q * cols) k xs ys))) (let w : cols ≡ q * cols + cols - q * cols = omega arith in w)
    ∙ between-put_mid (q * cols) k xs ys (q * cols + cols) (omega arith) (omega arith)

pub row-put_mid_other : (cols q k i : ℕ) (xs ys : List ℕ) → k ≡ cols → i ≢ q → q * cols + cols ≤ length xs → length ys ≡ k → take cols (drop (i * cols) (put_mid (q * cols) k xs ys)) ≡ take cols (drop (i * cols) xs)
row-put_mid_other cols q k i xs ys e d h l =
    subst (λ (n : ℕ). take cols (drop (i * cols) (put_mid (q * cols) n xs ys)) ≡ take cols (drop (i * cols) xs)) (sym e)
    (let fit : length (put_mid (q * cols) cols xs ys) ≡ length xs = length-put_mid (q * cols) cols xs ys h (l ∙ e) in
    let size : length (take cols (drop (i * cols) (put_mid (q * cols) cols xs ys))) ≡ length (take cols (drop (i * cols) xs)) =
    length-take cols (drop (i * cols) (put_mid (q * cols) cols xs ys)) ∙ ap (λ n. min cols n) (length-drop (i * cols) (put_mid (q * cols) cols xs ys) ∙ ap (λ n. n - i * cols) fit ∙ sym (length-drop (i * cols) xs))
    ∙ sym (length-take cols (drop (i * cols) xs)) in
    ext_get_or 0 (take cols (drop (i * cols) (put_mid (q * cols) cols xs ys))) (take cols (drop (i * cols) xs)) size
    (λ p lp.
    let low : p < min cols (length (drop (i * cols) (put_mid (q * cols) cols xs ys))) = subst (λ (n : ℕ). p < n) (length-take cols (drop (i * cols) (put_mid (q * cols) cols xs ys))) lp in
    let lc : p < cols = omega arith in
    get_or-take cols (drop (i * cols) (put_mid (q * cols) cols xs ys)) p 0 lc ∙ get_or-drop (i * cols) (put_mid (q * cols) cols xs ys) p 0
    ∙ put_row-other cols q xs ys i p lc d (omega arith) (l ∙ e)
    ∙ sym (get_or-take cols (drop (i * cols) xs) p 0 lc ∙ get_or-drop (i * cols) xs p 0)))
