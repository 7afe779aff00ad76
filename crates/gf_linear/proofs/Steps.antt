-- The entries of a matrix after a step on its rows
use Rattle.std.proofs.Common.{◌≡◌, ◌≢◌, ℕ, ◌+◌, ◌*◌, ◌-◌, ◌/◌, ◌%◌, ◌<◌, ◌≤◌, List, ◌++◌, length, min, take, drop, get_or, sym, ◌∙◌, ap, subst, inl, inr, arith, bit_xor, All}
use Rattle.std.proofs.lemmas.Bool.{cases_eq, cases_lt}
use Rattle.std.proofs.lemmas.Nat.{div-add-mod', div_below, mod_below}
use Rattle.std.proofs.lemmas.List.{get_or-take, get_or-drop, get_or_append_left, get_or-append_right, get_or-append-add, length-append, length-drop, length-take, length-take-le, get_or_default}
use Rattle.std.proofs.lemmas.List.Elements.{All-append}
use Rattle.std.specs.Int.Bits.{xor_zero_r}
use borrow.Rule.Slice.PartMut.{put_mid}
use Rattle.gf_theory.specs.Field.{gf_mul}
use Rattle.gf_theory.proofs.Product.{gf_mul-zero_right}
use Rattle.linear_theory.proofs.Tables.{put_mid-before, put_mid-within, put_row-same, put_row-other, row_end, place_below}
use Rattle.gf_linear.specs.Cells.{cell, AreKept}

-- x times a row that is 0 before place a is added from place a on
pub cleared_part : (b m a k x : ℕ) (xs ys ps xs2 ps2 : List ℕ) → xs2 ≡ drop a xs → ps2 ≡ drop a ps → a ≤ length xs → a + k ≡ length xs → length ys ≡ k
    → ((p : ℕ) → p < a → get_or ps p 0 ≡ 0)
    → ((p : ℕ) → p < length xs2 → get_or ys p 0 ≡ bit_xor (get_or xs2 p 0) (gf_mul b m x (get_or ps2 p 0)))
    → (p : ℕ) → p < length xs → get_or (put_mid a k xs ys) p 0 ≡ bit_xor (get_or xs p 0) (gf_mul b m x (get_or ps p 0))
cleared_part b m a k x xs ys ps xs2 ps2 ex ep la e ly zeros value p l = elim (cases_lt p a) [
  | inl u ↦ put_mid-before a k xs ys p 0 u la ∙ sym (xor_zero_r (get_or xs p 0)) ∙ ap (λ w. bit_xor (get_or xs p 0) w) (sym (ap (λ w. gf_mul b m x w) (zeros p u) ∙ gf_mul-zero_right b m x))
  | inr u ↦
      let w : a + (p - a) ≡ p = omega arith in
      subst (λ (q : ℕ). get_or (put_mid a k xs ys) q 0 ≡ bit_xor (get_or xs q 0) (gf_mul b m x (get_or ps q 0))) w
      (put_mid-within a k xs ys (p - a) 0 (omega arith) la ly ∙ value (p - a) (rw (ex, length-drop) (omega arith))
      ∙ ap (λ v. bit_xor v (gf_mul b m x (get_or ps2 (p - a) 0))) (ap (λ v. get_or v (p - a) 0) ex ∙ get_or-drop a xs (p - a) 0)
      ∙ ap (λ v. bit_xor (get_or xs (a + (p - a)) 0) (gf_mul b m x v)) (ap (λ v. get_or v (p - a) 0) ep ∙ get_or-drop a ps (p - a) 0))
]

-- a part of the list at row q, as its row
pub part-row : (cols q k : ℕ) (xs : List ℕ) (p : ℕ) → k ≡ cols → p < cols → get_or (take k (drop (q * cols) xs)) p 0 ≡ cell xs cols q p
part-row cols q k xs p e l = get_or-take k (drop (q * cols) xs) p 0 (omega arith) ∙ get_or-drop (q * cols) xs p 0

-- rows are done one after the other: m is the list before row q is done, and row q becomes ys
pub record IsWritten (cols q : ℕ) (m m2 ys : List ℕ) : Type 0 where
  pub here : (p : ℕ) → p < cols → cell m2 cols q p ≡ get_or ys p 0
  pub others : (i p : ℕ) → i ≢ q → p < cols → cell m2 cols i p ≡ cell m cols i p

pub row_written : (rows cols q k : ℕ) (m ys : List ℕ) → q < rows → length m ≡ rows * cols → k ≡ cols → length ys ≡ k → IsWritten cols q m (put_mid (q * cols) k m ys) ys
row_written rows cols q k m ys l lm e ly =
    let room : q * cols + cols ≤ length m = row_end rows cols q (length m) l lm in
    subst (λ (n : ℕ). IsWritten cols q m (put_mid (q * cols) n m ys) ys) (sym e) (record {
      here = λ p lp. put_row-same cols q m ys p lp (omega arith) (ly ∙ e);
      others = λ i p d lp. put_row-other cols q m ys i p lp d (omega arith) (ly ∙ e);
    })

pub row_more : (cols q : ℕ) (m m2 ys : List ℕ) (F : ℕ → ℕ → ℕ) → IsWritten cols q m m2 ys → ((i p : ℕ) → i < q → p < cols → cell m cols i p ≡ F i p) → ((p : ℕ) → p < cols → get_or ys p 0 ≡ F q p)
    → (i p : ℕ) → i < q + 1 → p < cols → cell m2 cols i p ≡ F i p
row_more cols q m m2 ys F w done here i p li lp = elim (cases_lt i q) [
  | inl u ↦ w.others i p (omega arith) lp ∙ done i p u lp
  | inr u ↦ let e : q ≡ i = omega arith in subst (λ (t : ℕ). cell m2 cols t p ≡ F t p) e (w.here p lp ∙ here p lp)
]

pub row_rest : (cols q : ℕ) (m0 m m2 ys : List ℕ) → IsWritten cols q m m2 ys → ((i p : ℕ) → q ≤ i → p < cols → cell m cols i p ≡ cell m0 cols i p)
    → (i p : ℕ) → q + 1 ≤ i → p < cols → cell m2 cols i p ≡ cell m0 cols i p
row_rest cols q m0 m m2 ys w rest i p li lp = w.others i p (omega arith) lp ∙ rest i p (omega arith) lp

-- row q is cleared: rs is the row before, and ys the row after
pub cleared_here : (b m cols col q : ℕ) (xs0 xs rs ys ps : List ℕ) → col < cols → length rs ≡ cols
    → ((p : ℕ) → p < cols → get_or rs p 0 ≡ cell xs cols q p)
    → ((i p : ℕ) → q ≤ i → p < cols → cell xs cols i p ≡ cell xs0 cols i p)
    → ((p : ℕ) → p < length rs → get_or ys p 0 ≡ bit_xor (get_or rs p 0) (gf_mul b m (get_or rs col 0) (get_or ps p 0)))
    → (p : ℕ) → p < cols → get_or ys p 0 ≡ bit_xor (cell xs0 cols q p) (gf_mul b m (cell xs0 cols q col) (get_or ps p 0))
cleared_here b m cols col q xs0 xs rs ys ps lc lr row rest value p lp =
    value p (omega arith)
    ∙ ap (λ v. bit_xor v (gf_mul b m (get_or rs col 0) (get_or ps p 0))) (row p lp ∙ rest q p (omega arith) lp)
    ∙ ap (λ v. bit_xor (cell xs0 cols q p) (gf_mul b m v (get_or ps p 0))) (row col lc ∙ rest q col (omega arith) lc)

-- ---- a matrix cut at row k: the rows above, row k, and the rows below
pub record IsCut (cols k : ℕ) (xs above here below : List ℕ) : Type 0 where
  pub before : (q p : ℕ) → q < k → p < cols → cell xs cols q p ≡ cell above cols q p
  pub at : (p : ℕ) → p < cols → cell xs cols k p ≡ get_or here p 0
  pub after : (q p : ℕ) → k < q → p < cols → cell xs cols q p ≡ cell below cols (q - k - 1) p

sum_of_rows : (cols k d : ℕ) → (k + (1 + d)) * cols ≡ k * cols + cols + d * cols
sum_of_rows cols k d = grind arith

rows_apart : (cols k q : ℕ) → k < q → q * cols ≡ k * cols + cols + (q - k - 1) * cols
rows_apart cols k q l = ap (λ n. n * cols) (let e : q ≡ k + (1 + (q - k - 1)) = omega arith in e) ∙ sum_of_rows cols k (q - k - 1)

pub rest_of_rows : (rows cols k n : ℕ) → k < rows → n + cols + k * cols ≡ rows * cols → n ≡ (rows - k - 1) * cols
rest_of_rows rows cols k n l e = omega (arith, rows_apart cols k rows l)

pub cut_of : (cols k : ℕ) (above here below : List ℕ) → length above ≡ k * cols → length here ≡ cols → IsCut cols k (above ++ (here ++ below)) above here below
cut_of cols k above here below ea eh = record {
  before = λ q p lq lp. get_or_append_left above (here ++ below) 0 (q * cols + p) (place_below k cols q p (length above) lq lp ea);
  at = λ p lp.
      get_or-append_right above (here ++ below) (k * cols) (k * cols + p) 0 ea (omega arith)
      ∙ ap (λ n. get_or (here ++ below) n 0) (let w : k * cols + p - k * cols ≡ p = omega arith in w)
      ∙ get_or_append_left here below 0 p (omega arith);
  after = λ q p lq lp.
      let w : q * cols ≡ k * cols + cols + (q - k - 1) * cols = rows_apart cols k q lq in
      get_or-append_right above (here ++ below) (k * cols) (q * cols + p) 0 ea (omega arith)
      ∙ get_or-append_right here below cols (q * cols + p - k * cols) 0 eh (omega arith)
      ∙ ap (λ n. get_or below n 0) (let v : q * cols + p - k * cols - cols ≡ (q - k - 1) * cols + p = omega arith in v);
}

joined : (b m x x2 y y2 z z2 : ℕ) → x ≡ x2 → y ≡ y2 → z ≡ z2 → bit_xor x2 (gf_mul b m y2 z2) ≡ bit_xor x (gf_mul b m y z)
joined b m x x2 y y2 z z2 e f h = cc

-- the rows above and below row k are cleared
pub bands_cleared :
    (b m rows cols k col : ℕ) (xs xs2 above here below above2 below2 : List ℕ) → col < cols → IsCut cols k xs above here below → IsCut cols k xs2 above2 here below2
    → ((q p : ℕ) → q < k → p < cols → cell above2 cols q p ≡ bit_xor (cell above cols q p) (gf_mul b m (cell above cols q col) (get_or here p 0)))
    → ((q p : ℕ) → q < rows - k - 1 → p < cols → cell below2 cols q p ≡ bit_xor (cell below cols q p) (gf_mul b m (cell below cols q col) (get_or here p 0)))
    → (q p : ℕ) → q < rows → q ≢ k → p < cols → cell xs2 cols q p ≡ bit_xor (cell xs cols q p) (gf_mul b m (cell xs cols q col) (cell xs cols k p))
bands_cleared b m rows cols k col xs xs2 above here below above2 below2 lc was is va vb q p lq d lp = elim (cases_lt q k) [
  | inl u ↦ is.before q p u lp ∙ va q p u lp ∙ joined b m _ _ _ _ _ _ (was.before q p u lp) (was.before q col u lc) (was.at p lp)
  | inr u ↦
      let v : k < q = omega arith in
      is.after q p v lp ∙ vb (q - k - 1) p (omega arith) lp ∙ joined b m _ _ _ _ _ _ (was.after q p v lp) (was.after q col v lc) (was.at p lp)
]

-- .. where the width is that of row k
pub others_cleared :
    (b m rows cols k col : ℕ) (xs xs2 above here below above2 below2 : List ℕ) → col < cols → IsCut cols k xs above here below → IsCut cols k xs2 above2 here below2 → length here ≡ cols
    → ((q p : ℕ) → q < k → p < length here → cell above2 (length here) q p ≡ bit_xor (cell above (length here) q p) (gf_mul b m (cell above (length here) q col) (get_or here p 0)))
    → ((q p : ℕ) → q < rows - k - 1 → p < length here → cell below2 (length here) q p ≡ bit_xor (cell below (length here) q p) (gf_mul b m (cell below (length here) q col) (get_or here p 0)))
    → (q p : ℕ) → q < rows → q ≢ k → p < cols → cell xs2 cols q p ≡ bit_xor (cell xs cols q p) (gf_mul b m (cell xs cols q col) (cell xs cols k p))
others_cleared b m rows cols k col xs xs2 above here below above2 below2 lc was is e va vb =
    bands_cleared b m rows cols k col xs xs2 above here below above2 below2 lc was is
    (subst (λ (n : ℕ). (q p : ℕ) → q < k → p < n → cell above2 n q p ≡ bit_xor (cell above n q p) (gf_mul b m (cell above n q col) (get_or here p 0))) e va)
    (subst (λ (n : ℕ). (q p : ℕ) → q < rows - k - 1 → p < n → cell below2 n q p ≡ bit_xor (cell below n q p) (gf_mul b m (cell below n q col) (get_or here p 0))) e vb)

pub All-cut : (P : ℕ → Type 0) (above here below : List ℕ) → All P above → All P here → All P below → All P (above ++ (here ++ below))
All-cut P above here below a h b = All-append P above (here ++ below) a (All-append P here below h b)

pub cut_at : (cols k : ℕ) (xs above here below rest : List ℕ) → xs ≡ above ++ rest → rest ≡ here ++ below → length above ≡ k * cols → length here ≡ cols → IsCut cols k xs above here below
cut_at cols k xs above here below rest e f ea eh = subst (λ (w : List ℕ). IsCut cols k w above here below) (sym (e ∙ ap (λ (w : List ℕ). above ++ w) f)) (cut_of cols k above here below ea eh)

pub All-here : (P : ℕ → Type 0) (xs above here below rest : List ℕ) → xs ≡ above ++ rest → rest ≡ here ++ below → All P xs → All P here
All-here P xs above here below rest e f h n d l =
    let at : get_or xs (length above + n) d ≡ get_or here n d =
    ap (λ (w : List ℕ). get_or w (length above + n) d) (e ∙ ap (λ (w : List ℕ). above ++ w) f) ∙ get_or-append-add above (here ++ below) n d ∙ get_or_append_left here below d n l in
    let long : length above + n < length xs = rw (e, length-append, f, length-append) (omega arith) in
    subst P at (h (length above + n) d long)

pub All-above : (P : ℕ → Type 0) (xs above rest : List ℕ) → xs ≡ above ++ rest → All P xs → All P above
All-above P xs above rest e h n d l =
    subst P (ap (λ (w : List ℕ). get_or w n d) e ∙ get_or_append_left above rest d n l) (h n d (rw (e, length-append) (omega arith)))

pub All-below : (P : ℕ → Type 0) (xs above rest : List ℕ) → xs ≡ above ++ rest → All P xs → All P rest
All-below P xs above rest e h n d l =
    subst P (ap (λ (w : List ℕ). get_or w (length above + n) d) e ∙ get_or-append-add above rest n d) (h (length above + n) d (rw (e, length-append) (omega arith)))

pub All-part : (P : ℕ → Type 0) (s k : ℕ) (xs : List ℕ) → All P xs → All P (take k (drop s xs))
All-part P s k xs h n d l =
    let m : n < min k (length xs - s) = subst (λ (z : ℕ). n < z) (length-take k (drop s xs) ∙ ap (λ z. min k z) (length-drop s xs)) l in
    subst P (sym (get_or-take k (drop s xs) n d (omega arith) ∙ get_or-drop s xs n d)) (h (s + n) d (omega arith))

-- the rows but row k stay
pub cut_kept : (rows cols k : ℕ) (xs xs2 above here here2 below : List ℕ) → IsCut cols k xs above here below → IsCut cols k xs2 above here2 below → AreKept rows cols (λ q. q ≢ k) xs xs2
cut_kept rows cols k xs xs2 above here here2 below was is = record {
  same = λ q l d p lp. elim (cases_lt q k) [
    | inl u ↦ is.before q p u lp ∙ sym (was.before q p u lp)
    | inr u ↦ is.after q p (omega arith) lp ∙ sym (was.after q p (omega arith) lp)
  ];
}

pub written_kept : (rows cols k : ℕ) (m m2 ys : List ℕ) → IsWritten cols k m m2 ys → AreKept rows cols (λ q. q ≢ k) m m2
written_kept rows cols k m m2 ys w = record { same = λ q l d p lp. w.others q p d lp }

-- row p is added to row k
pub added_row : (b m rows cols k p s : ℕ) (xs xs2 above here here2 below : List ℕ) → k < p → s ≡ cols → length here ≡ cols
    → IsCut cols k xs above here below → IsCut cols k xs2 above here2 below
    → ((j : ℕ) → j < length here → get_or here2 j 0 ≡ bit_xor (get_or here j 0) (gf_mul b m 1 (get_or (take s (drop ((p - k - 1) * cols) below)) j 0)))
    → (j : ℕ) → j < cols → cell xs2 cols k j ≡ bit_xor (cell xs cols k j) (gf_mul b m 1 (cell xs cols p j))
added_row b m rows cols k p s xs xs2 above here here2 below l es eh was is value j lj =
    is.at j lj ∙ value j (omega arith)
    ∙ ap (λ v. bit_xor v (gf_mul b m 1 (get_or (take s (drop ((p - k - 1) * cols) below)) j 0))) (sym (was.at j lj))
    ∙ ap (λ v. bit_xor (cell xs cols k j) (gf_mul b m 1 v)) (part-row cols (p - k - 1) s below j es lj ∙ sym (was.after p j l lj))

-- row k is multiplied
pub scaled_row : (b m cols k s x : ℕ) (xs xs2 ys : List ℕ) → s ≡ cols → length (take s (drop (k * cols) xs)) ≡ cols → IsWritten cols k xs xs2 ys
    → ((p : ℕ) → p < length (take s (drop (k * cols) xs)) → get_or ys p 0 ≡ gf_mul b m x (get_or (take s (drop (k * cols) xs)) p 0))
    → (p : ℕ) → p < cols → cell xs2 cols k p ≡ gf_mul b m x (cell xs cols k p)
scaled_row b m cols k s x xs xs2 ys es el w value p lp = w.here p lp ∙ value p (omega arith) ∙ ap (λ v. gf_mul b m x v) (part-row cols k s xs p es lp)

pub part-length : (rows cols k s : ℕ) (xs : List ℕ) → k < rows → length xs ≡ rows * cols → s ≡ cols → length (take s (drop (k * cols) xs)) ≡ s
part-length rows cols k s xs l e es =
    let room : k * cols + cols ≤ length xs = row_end rows cols k (length xs) l e in
    length-take-le s (drop (k * cols) xs) (rw length-drop (omega arith))

-- the entries are symbols where those of each row are
pub All-cells : (P : ℕ → Type 0) (rows cols : ℕ) (m : List ℕ) → length m ≡ rows * cols → ((i j : ℕ) → i < rows → j < cols → P (cell m cols i j)) → All P m
All-cells P rows cols m e h n d l = elim (cases_eq cols 0) [
  | inl z ↦ absurd (let w : rows * cols ≡ 0 = ap (λ (x : ℕ). rows * x) z ∙ (let y : rows * 0 ≡ 0 = omega arith in y) in omega arith)
  | inr s ↦
      let place : n / cols * cols + n % cols ≡ n = div-add-mod' n cols in
      let low : n / cols < rows = div_below n cols rows (omega arith) (omega arith) in
      let rest : n % cols < cols = mod_below n cols (omega arith) in
      let at : get_or m n d ≡ cell m cols (n / cols) (n % cols) = get_or_default m n d 0 l ∙ ap (λ (p : ℕ). get_or m p 0) (sym place) in
      subst P (sym at) (h (n / cols) (n % cols) low rest)
]
