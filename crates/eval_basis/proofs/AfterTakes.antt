-- A row of symbols after the takes of a band: what it depends on, one take more, and a combination of rows
use Rattle.std.proofs.Common.{◌≡◌, ℕ, zero, suc, ◌+◌, ◌*◌, ◌<◌, ◌^◌, cond, eqb, List, [], ◌∷◌, ◌++◌, length, take, drop, get_or, slice_index, sym, ◌∙◌, ap, subst, refl, inl, inr, arith, bit_xor, All}
use Rattle.std.proofs.Math.ListN.{set}
use Rattle.std.proofs.lemmas.Bool.{cases_eq}
use Rattle.std.proofs.lemmas.List.{get_or_append_left, get_or-append-add, get_or_push, length-append, length_push, length-set, get_or-set_same}
use Rattle.std.proofs.lemmas.List.Elements.{All-append, All-push}
use Rattle.field_theory.specs.Field.{IsField}
use Rattle.field_theory.proofs.Sums.{eq_or_below, sum-same, sum-xor, mul-sum, sum-mul, mul_left_comm, xor_below}
use Rattle.linear_theory.specs.Linear.{combine}
use Rattle.linear_theory.proofs.Tables.{place_below}
use Rattle.linear_theory.proofs.Spans.{put-same, put-other}
use Rattle.gf_linear.specs.Cells.{cell}
use Rattle.gf_linear.proofs.Steps.{part-row}
use Rattle.eval_basis.specs.Flat.{IsTable}
use Rattle.eval_basis.specs.Lists.{taken, after_takes, lists_after, AreTakes, IsTakeOf}
use Rattle.eval_basis.proofs.FlatTables.{tabled_is, is_tabled}
use Rattle.eval_basis.proofs.ListSteps.{taken_row, taken_same}

pub after_none : (mul : ℕ → ℕ → ℕ) (n : ℕ) (ns fs t : List ℕ) (row : ℕ → ℕ) (p : ℕ) → after_takes mul n ns fs t 0 row p ≡ row p
unfolding after_takes
after_none mul n ns fs t row p = refl

pub after_more : (mul : ℕ → ℕ → ℕ) (n : ℕ) (ns fs t : List ℕ) (m : ℕ) (row : ℕ → ℕ) (p : ℕ)
    → after_takes mul n ns fs t (m + 1) row p ≡ taken mul (slice_index fs m) (slice_index ns m) (after_takes mul n ns fs t m row) (cell t n m) p
unfolding after_takes
after_more mul n ns fs t m row p = ap (λ (s : ℕ). after_takes mul n ns fs t s row p) (let e : m + 1 ≡ suc m = omega arith in e)

taken_products : (mul : ℕ → ℕ → ℕ) (f q j : ℕ) (row x y : ℕ → ℕ) → x j ≡ y j → taken mul f q row x j ≡ taken mul f q row y j
taken_products mul f q j row x y e = ap (λ (v : ℕ). cond (eqb j q) (mul f (row q)) (bit_xor (row j) (mul (mul f (row q)) v))) e

-- rows that agree at the n lists
pub after_same : (mul : ℕ → ℕ → ℕ) (n : ℕ) (ns fs t : List ℕ) (m : ℕ) → ((i : ℕ) → i < m → slice_index ns i < n) → (x y : ℕ → ℕ) → ((p : ℕ) → p < n → x p ≡ y p)
    → (p : ℕ) → p < n → after_takes mul n ns fs t m x p ≡ after_takes mul n ns fs t m y p
unfolding after_takes
after_same mul n ns fs t zero below x y h p lp = h p lp
after_same mul n ns fs t (suc m) below x y h p lp =
    taken_row mul (slice_index fs m) (slice_index ns m) p (after_takes mul n ns fs t m x) (after_takes mul n ns fs t m y) (cell t n m)
    (after_same mul n ns fs t m (λ i l. below i (omega arith)) x y h p lp)
    (after_same mul n ns fs t m (λ i l. below i (omega arith)) x y h (slice_index ns m) (below m (omega arith)))

-- the first takes are the same
pub after_longer : (mul : ℕ → ℕ → ℕ) (n : ℕ) (ns fs t ns' fs' t' : List ℕ) (m : ℕ) → ((i : ℕ) → i < m → slice_index ns i < n)
    → ((i : ℕ) → i < m → slice_index ns' i ≡ slice_index ns i) → ((i : ℕ) → i < m → slice_index fs' i ≡ slice_index fs i)
    → ((i j : ℕ) → i < m → j < n → cell t' n i j ≡ cell t n i j) → (row : ℕ → ℕ) (p : ℕ) → p < n → after_takes mul n ns' fs' t' m row p ≡ after_takes mul n ns fs t m row p
unfolding after_takes
after_longer mul n ns fs t ns' fs' t' zero below en ef et row p lp = refl
after_longer mul n ns fs t ns' fs' t' (suc m) below en ef et row p lp =
    let lm : m < suc m = omega arith in
    let ih : (j : ℕ) → j < n → after_takes mul n ns' fs' t' m row j ≡ after_takes mul n ns fs t m row j =
    λ j lj. after_longer mul n ns fs t ns' fs' t' m (λ i l. below i (omega arith)) (λ i l. en i (omega arith)) (λ i l. ef i (omega arith)) (λ i j l lj. et i j (omega arith) lj) row j lj in
    ap (λ (f : ℕ). taken mul f (slice_index ns' m) (after_takes mul n ns' fs' t' m row) (cell t' n m) p) (ef m lm)
    ∙ ap (λ (q : ℕ). taken mul (slice_index fs m) q (after_takes mul n ns' fs' t' m row) (cell t' n m) p) (en m lm)
    ∙ taken_row mul (slice_index fs m) (slice_index ns m) p (after_takes mul n ns' fs' t' m row) (after_takes mul n ns fs t m row) (cell t' n m) (ih p lp) (ih (slice_index ns m) (below m lm))
    ∙ taken_products mul (slice_index fs m) (slice_index ns m) p (after_takes mul n ns fs t m row) (cell t' n m) (cell t n m) (et m p lm lp)

-- a row is changed take by take
pub take_one : (mul : ℕ → ℕ → ℕ) (n : ℕ) (ns fs t : List ℕ) (m k : ℕ) (xs ys : List ℕ) (first : ℕ → ℕ) → k ≡ n → slice_index ns m < n
    → ((j : ℕ) → j < n → get_or xs j 0 ≡ after_takes mul n ns fs t m first j)
    → ((j : ℕ) → j < n → get_or ys j 0 ≡ taken mul (get_or fs m 0) (get_or ns m 0) (slice_index xs) (slice_index (take k (drop (m * n) t))) j)
    → (j : ℕ) → j < n → get_or ys j 0 ≡ after_takes mul n ns fs t (m + 1) first j
take_one mul n ns fs t m k xs ys first e below before is j l =
    is j l
    ∙ taken_row mul (get_or fs m 0) (get_or ns m 0) j (slice_index xs) (after_takes mul n ns fs t m first) (slice_index (take k (drop (m * n) t))) (before j l) (before (slice_index ns m) below)
    ∙ taken_products mul (get_or fs m 0) (get_or ns m 0) j (after_takes mul n ns fs t m first) (slice_index (take k (drop (m * n) t))) (cell t n m) (part-row n m k t j e l)
    ∙ sym (after_more mul n ns fs t m first j)

-- ---- one take more
pub after_added : (mul : ℕ → ℕ → ℕ) (b n q : ℕ) (products ns fs t ns' fs' t' : List ℕ) → AreTakes b n ns fs t → (h : IsTakeOf mul q products ns fs t ns' fs' t') → q < n → (row : ℕ → ℕ) (p : ℕ) → p < n
    → after_takes mul n ns' fs' t' (length ns') row p ≡ taken mul h.factor q (after_takes mul n ns fs t (length ns) row) (slice_index products) p
after_added mul b n q products ns fs t ns' fs' t' takes h lq row p lp =
    let m : ℕ = length ns in
    let long : length ns' ≡ m + 1 = ap length h.numbers_are ∙ length_push ns q in
    let en : (i : ℕ) → i < m → slice_index ns' i ≡ slice_index ns i = λ i l. ap (λ (w : List ℕ). get_or w i 0) h.numbers_are ∙ get_or_append_left ns (q ∷ []) 0 i l in
    let ef : (i : ℕ) → i < m → slice_index fs' i ≡ slice_index fs i =
    λ i l. ap (λ (w : List ℕ). get_or w i 0) h.factors_are ∙ get_or_append_left fs (h.factor ∷ []) 0 i (subst (λ (s : ℕ). i < s) (sym takes.n_factors) l) in
    let et : (i j : ℕ) → i < m → j < n → cell t' n i j ≡ cell t n i j =
    λ i j l lj. ap (λ (w : List ℕ). get_or w (i * n + j) 0) h.table_is
    ∙ get_or_append_left t (set products q 1) 0 (i * n + j) (place_below m n i j (length t) l lj takes.n_table) in
    let last_number : slice_index ns' m ≡ q = ap (λ (w : List ℕ). get_or w m 0) h.numbers_are ∙ get_or_push ns q 0 m refl in
    let last_factor : slice_index fs' m ≡ h.factor = ap (λ (w : List ℕ). get_or w m 0) h.factors_are ∙ get_or_push fs h.factor 0 m takes.n_factors in
    let last_row : cell t' n m p ≡ slice_index (set products q 1) p =
    ap (λ (w : List ℕ). get_or w (m * n + p) 0) h.table_is ∙ ap (λ (s : ℕ). get_or (t ++ set products q 1) (s + p) 0) (sym takes.n_table) ∙ get_or-append-add t (set products q 1) p 0 in
    let before : (j : ℕ) → j < n → after_takes mul n ns' fs' t' m row j ≡ after_takes mul n ns fs t m row j = λ j lj. after_longer mul n ns fs t ns' fs' t' m takes.below en ef et row j lj in
    ap (λ (s : ℕ). after_takes mul n ns' fs' t' s row p) long
    ∙ after_more mul n ns' fs' t' m row p
    ∙ ap (λ (f : ℕ). taken mul f (slice_index ns' m) (after_takes mul n ns' fs' t' m row) (cell t' n m) p) last_factor
    ∙ ap (λ (s : ℕ). taken mul h.factor s (after_takes mul n ns' fs' t' m row) (cell t' n m) p) last_number
    ∙ taken_products mul h.factor q p (after_takes mul n ns' fs' t' m row) (cell t' n m) (slice_index (set products q 1)) last_row
    ∙ taken_same mul h.factor q 1 p (after_takes mul n ns' fs' t' m row) products
    ∙ taken_row mul h.factor q p (after_takes mul n ns' fs' t' m row) (after_takes mul n ns fs t m row) (slice_index products) (before p lp) (before q lq)

pub takes_added : (mul : ℕ → ℕ → ℕ) (b n q : ℕ) (products ns fs t ns' fs' t' : List ℕ) → AreTakes b n ns fs t → (h : IsTakeOf mul q products ns fs t ns' fs' t') → q < n → length products ≡ n
    → h.factor < 2 ^ b → All (λ x. x < 2 ^ b) (set products q 1) → AreTakes b n ns' fs' t'
takes_added mul b n q products ns fs t ns' fs' t' takes h lq long small over =
    let m : ℕ = length ns in
    let n_numbers : length ns' ≡ m + 1 = ap length h.numbers_are ∙ length_push ns q in
    let last_number : slice_index ns' m ≡ q = ap (λ (w : List ℕ). get_or w m 0) h.numbers_are ∙ get_or_push ns q 0 m refl in
    let first_number : (i : ℕ) → i < m → slice_index ns' i ≡ slice_index ns i = λ i l. ap (λ (w : List ℕ). get_or w i 0) h.numbers_are ∙ get_or_append_left ns (q ∷ []) 0 i l in
    let last_cell : (j : ℕ) → cell t' n m j ≡ slice_index (set products q 1) j =
    λ j. ap (λ (w : List ℕ). get_or w (m * n + j) 0) h.table_is ∙ ap (λ (s : ℕ). get_or (t ++ set products q 1) (s + j) 0) (sym takes.n_table) ∙ get_or-append-add t (set products q 1) j 0 in
    let first_cell : (i j : ℕ) → i < m → j < n → cell t' n i j ≡ cell t n i j =
    λ i j l lj. ap (λ (w : List ℕ). get_or w (i * n + j) 0) h.table_is
    ∙ get_or_append_left t (set products q 1) 0 (i * n + j) (place_below m n i j (length t) l lj takes.n_table) in
    record {
      n_factors = ap length h.factors_are ∙ length_push fs h.factor ∙ ap (λ (s : ℕ). s + 1) takes.n_factors ∙ sym n_numbers;
      n_table = ap length h.table_is ∙ length-append t (set products q 1) ∙ ap (λ (s : ℕ). s + length (set products q 1)) takes.n_table
          ∙ ap (λ (s : ℕ). m * n + s) (length-set products q 1 ∙ long) ∙ (let e : m * n + n ≡ (m + 1) * n = omega arith in e) ∙ ap (λ (s : ℕ). s * n) (sym n_numbers);
      below = λ i l. elim (eq_or_below i m (let w : i < suc m = omega arith in w)) [
        | inl e ↦ subst (λ (s : ℕ). slice_index ns' s < n) (sym e) (subst (λ (s : ℕ). s < n) (sym last_number) lq)
        | inr u ↦ subst (λ (s : ℕ). s < n) (sym (first_number i u)) (takes.below i u)
      ];
      ones = λ i l. elim (eq_or_below i m (let w : i < suc m = omega arith in w)) [
        | inl e ↦
            subst (λ (s : ℕ). cell t' n s (slice_index ns' s) ≡ 1) (sym e)
            (last_cell (slice_index ns' m) ∙ ap (λ (s : ℕ). slice_index (set products q 1) s) last_number ∙ get_or-set_same products q 1 0 (subst (λ (s : ℕ). q < s) (sym long) lq))
        | inr u ↦
            ap (λ (s : ℕ). cell t' n i s) (first_number i u) ∙ first_cell i (slice_index ns i) u (takes.below i u) ∙ takes.ones i u
      ];
      factor_symbols = subst (λ (w : List ℕ). All (λ x. x < 2 ^ b) w) (sym h.factors_are) (All-push (λ x. x < 2 ^ b) fs h.factor takes.factor_symbols small);
      table_symbols = subst (λ (w : List ℕ). All (λ x. x < 2 ^ b) w) (sym h.table_is) (All-append (λ x. x < 2 ^ b) t (set products q 1) takes.table_symbols over);
    }

-- ---- a combination of rows after the takes is what the takes leave of the combination
module _ (size : ℕ) (mul : ℕ → ℕ → ℕ) (field : IsField size mul) where
  taken_combined : (r : ℕ) (v : ℕ → ℕ) (f q j : ℕ) (rows : ℕ → ℕ → ℕ) (x : ℕ → ℕ) → combine mul r v (λ p. taken mul f q (rows p) x) j ≡ taken mul f q (combine mul r v rows) x j
  taken_combined r v f q j rows x = elim (cases_eq j q) [
    | inl e ↦
        subst (λ (s : ℕ). combine mul r v (λ p. taken mul f q (rows p) x) s ≡ taken mul f q (combine mul r v rows) x s) (sym e)
        (sum-same r (λ p. mul (v p) (taken mul f q (rows p) x q)) (λ p. mul f (mul (v p) (rows p q)))
        (λ p lp. ap (λ (y : ℕ). mul (v p) y) (put-same (λ i. bit_xor (rows p i) (mul (mul f (rows p q)) (x i))) q (mul f (rows p q))) ∙ mul_left_comm size mul field (v p) f (rows p q))
        ∙ sym (mul-sum size mul field f r (λ p. mul (v p) (rows p q)))
        ∙ sym (put-same (λ i. bit_xor (combine mul r v rows i) (mul (mul f (combine mul r v rows q)) (x i))) q (mul f (combine mul r v rows q))))
    | inr d ↦
        sum-same r (λ p. mul (v p) (taken mul f q (rows p) x j)) (λ p. bit_xor (mul (v p) (rows p j)) (mul (mul f (mul (v p) (rows p q))) (x j)))
        (λ p lp. ap (λ (y : ℕ). mul (v p) y) (put-other (λ i. bit_xor (rows p i) (mul (mul f (rows p q)) (x i))) q (mul f (rows p q)) j d)
        ∙ field.mul_xor (v p) (rows p j) (mul (mul f (rows p q)) (x j))
        ∙ ap (λ (y : ℕ). bit_xor (mul (v p) (rows p j)) y)
        (sym (field.mul_assoc (v p) (mul f (rows p q)) (x j)) ∙ ap (λ (y : ℕ). mul y (x j)) (mul_left_comm size mul field (v p) f (rows p q))))
        ∙ sum-xor r (λ p. mul (v p) (rows p j)) (λ p. mul (mul f (mul (v p) (rows p q))) (x j))
        ∙ ap (λ (y : ℕ). bit_xor (combine mul r v rows j) y)
        (sym (sum-mul size mul field r (λ p. mul f (mul (v p) (rows p q))) (x j))
        ∙ ap (λ (y : ℕ). mul y (x j)) (sym (mul-sum size mul field f r (λ p. mul (v p) (rows p q)))))
        ∙ sym (put-other (λ i. bit_xor (combine mul r v rows i) (mul (mul f (combine mul r v rows q)) (x i))) q (mul f (combine mul r v rows q)) j d)
  ]

  after_combined : (n : ℕ) (ns fs t : List ℕ) (m r : ℕ) (v : ℕ → ℕ) (rows : ℕ → ℕ → ℕ) (j : ℕ)
      → combine mul r v (λ p. after_takes mul n ns fs t m (rows p)) j ≡ after_takes mul n ns fs t m (combine mul r v rows) j
  unfolding after_takes
  after_combined n ns fs t zero r v rows j = refl
  after_combined n ns fs t (suc m) r v rows j =
      taken_combined r v (slice_index fs m) (slice_index ns m) j (λ p. after_takes mul n ns fs t m (rows p)) (cell t n m)
      ∙ taken_row mul (slice_index fs m) (slice_index ns m) j (combine mul r v (λ p. after_takes mul n ns fs t m (rows p))) (after_takes mul n ns fs t m (combine mul r v rows)) (cell t n m)
      (after_combined n ns fs t m r v rows j) (after_combined n ns fs t m r v rows (slice_index ns m))

  -- the products with the lists before the band become those with the lists after the takes
  pub products_after : (b n : ℕ) (ns fs t symbols : List ℕ) (v x : ℕ → ℕ) → AreTakes b n ns fs t → ((q : ℕ) → q < n → x q ≡ combine mul n v (cell symbols n) q)
      → (q : ℕ) → q < n → after_takes mul n ns fs t (length ns) x q ≡ combine mul n v (cell (lists_after mul n ns fs t symbols) n) q
  products_after b n ns fs t symbols v x takes is q l =
      let table : IsTable n (λ p. after_takes mul n ns fs t (length ns) (cell symbols n p)) (lists_after mul n ns fs t symbols) = tabled_is n (λ p. after_takes mul n ns fs t (length ns) (cell symbols n p)) in
      after_same mul n ns fs t (length ns) takes.below x (combine mul n v (cell symbols n)) is q l
      ∙ sym (after_combined n ns fs t (length ns) n v (cell symbols n) q)
      ∙ sum-same n (λ p. mul (v p) (after_takes mul n ns fs t (length ns) (cell symbols n p) q)) (λ p. mul (v p) (cell (lists_after mul n ns fs t symbols) n p q))
      (λ p lp. ap (λ (y : ℕ). mul (v p) y) (sym (table.entries p q lp l)))

  pub taken_below : (f q j : ℕ) (row x : ℕ → ℕ) → row j < size → taken mul f q row x j < size
  taken_below f q j row x small = elim (cases_eq j q) [
    | inl e ↦ subst (λ (s : ℕ). taken mul f q row x s < size) (sym e) (subst (λ (y : ℕ). y < size) (sym (put-same (λ i. bit_xor (row i) (mul (mul f (row q)) (x i))) q (mul f (row q)))) (field.mul_below f (row q)))
    | inr d ↦
        subst (λ (y : ℕ). y < size) (sym (put-other (λ i. bit_xor (row i) (mul (mul f (row q)) (x i))) q (mul f (row q)) j d))
        (xor_below size mul field (row j) (mul (mul f (row q)) (x j)) small (field.mul_below (mul f (row q)) (x j)))
  ]

-- without takes the lists are as they were
pub lists_none : (mul : ℕ → ℕ → ℕ) (n : ℕ) (ns fs t symbols : List ℕ) → ns ≡ [] → length symbols ≡ n * n → symbols ≡ lists_after mul n ns fs t symbols
lists_none mul n ns fs t symbols e long = is_tabled n (λ p. after_takes mul n ns fs t (length ns) (cell symbols n p)) symbols (record {
  long = long;
  entries = λ p j lp lj. sym (ap (λ (m : ℕ). after_takes mul n ns fs t m (cell symbols n p) j) (ap length e) ∙ after_none mul n ns fs t (cell symbols n p) j);
})

-- a row was copied, and all takes were applied to it
pub row_copied : (mul : ℕ → ℕ → ℕ) (bits n b k : ℕ) (products copied row ns fs t ns2 fs2 t2 : List ℕ) → k ≡ n → length copied ≡ n → copied ≡ take k (drop (b * n) products) → ns2 ≡ ns → fs2 ≡ fs → t2 ≡ t → AreTakes bits n ns fs t
    → ((j : ℕ) → j < length copied → slice_index row j ≡ after_takes mul (length copied) ns2 fs2 t2 (length ns2) (slice_index copied) j)
    → (j : ℕ) → j < n → slice_index row j ≡ after_takes mul n ns fs t (length ns) (cell products n b) j
row_copied mul bits n b k products copied row ns fs t ns2 fs2 t2 e long is en ef et takes h j l =
    let h1 : (j : ℕ) → j < n → slice_index row j ≡ after_takes mul n ns2 fs2 t2 (length ns2) (slice_index copied) j =
    subst (λ (s : ℕ). (j : ℕ) → j < s → slice_index row j ≡ after_takes mul s ns2 fs2 t2 (length ns2) (slice_index copied) j) long h in
    let h2 : (j : ℕ) → j < n → slice_index row j ≡ after_takes mul n ns fs2 t2 (length ns) (slice_index copied) j =
    subst (λ (w : List ℕ). (j : ℕ) → j < n → slice_index row j ≡ after_takes mul n w fs2 t2 (length w) (slice_index copied) j) en h1 in
    let h3 : (j : ℕ) → j < n → slice_index row j ≡ after_takes mul n ns fs t2 (length ns) (slice_index copied) j =
    subst (λ (w : List ℕ). (j : ℕ) → j < n → slice_index row j ≡ after_takes mul n ns w t2 (length ns) (slice_index copied) j) ef h2 in
    let h4 : (j : ℕ) → j < n → slice_index row j ≡ after_takes mul n ns fs t (length ns) (slice_index copied) j =
    subst (λ (w : List ℕ). (j : ℕ) → j < n → slice_index row j ≡ after_takes mul n ns fs w (length ns) (slice_index copied) j) et h3 in
    h4 j l
    ∙ after_same mul n ns fs t (length ns) takes.below (slice_index copied) (cell products n b)
    (λ p lp. ap (λ (w : List ℕ). slice_index w p) is ∙ part-row n b k products p e lp) j l
