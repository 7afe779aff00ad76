-- What a flat table shows: the symbols in it, its rows, and how often a number stands in it
use Rattle.std.proofs.Common.{◌≡◌, ℕ, zero, suc, ◌+◌, ◌*◌, ◌/◌, ◌%◌, ◌<◌, ◌≤◌, ◌^◌, Bool, eqb, List, [], length, get_or, take, drop, sym, ◌∙◌, ap, subst, refl, inl, inr, arith, count_by, All, add-one}
use Rattle.std.proofs.lemmas.Bool.{cases_Bool}
use Rattle.std.proofs.lemmas.Nat.{div-add-mod', div_below, mod_below}
use Rattle.std.proofs.lemmas.List.{get_or_default, take_all}
use Rattle.std.proofs.lemmas.List.Elements.{All-take, All-drop}
use Rattle.std.proofs.lemmas.List.Sums.{count_by_more_yes, count_by_more_no}
use Rattle.field_theory.specs.Sums.{total, one_if, count_pairs}
use Rattle.field_theory.proofs.Totals.{total_same}
use Rattle.counting_theory.specs.Votes.{pairs}
use Rattle.linear_theory.specs.Tables.{rows_of}
use Rattle.linear_theory.proofs.Tables.{length-rows_of, row-rows_of, entry-rows_of, length-row}
use Rattle.order_theory.specs.Basis.{IsWord}
use Rattle.eval_basis.specs.Flat.{IsTable}

pub table_symbols : (n m : ℕ) (f : ℕ → ℕ → ℕ) (xs : List ℕ) → 1 ≤ n → IsTable n f xs → ((i j : ℕ) → f i j < m) → All (λ x. x < m) xs
table_symbols n m f xs some h low k d l =
    let place : k / n * n + k % n ≡ k = div-add-mod' k n in
    let row : k / n < n = div_below k n n some (omega (arith, h.long)) in
    let column : k % n < n = mod_below k n some in
    let is : get_or xs k d ≡ f (k / n) (k % n) = get_or_default xs k d 0 l ∙ ap (λ (i : ℕ). get_or xs i 0) (sym place) ∙ h.entries (k / n) (k % n) row column in
    subst (λ (x : ℕ). x < m) (sym is) (low (k / n) (k % n))

pub table_row : (n : ℕ) (f : ℕ → ℕ → ℕ) (xs : List ℕ) (i j : ℕ) → IsTable n f xs → i < n → j < n → get_or (get_or (rows_of n n xs) i []) j 0 ≡ f i j
table_row n f xs i j h li lj = entry-rows_of n n xs i j li lj ∙ h.entries i j li lj

pub rows_words : (bits n : ℕ) (xs : List ℕ) → length xs ≡ n * n → All (λ x. x < 2 ^ bits) xs → All (IsWord bits n) (rows_of n n xs)
rows_words bits n xs long low k d l =
    let lk : k < n = omega (arith, length-rows_of n n xs) in
    record {
      n_long = length-row n n xs k d (omega arith) lk;
      symbols = subst (λ (row : List ℕ). All (λ x. x < 2 ^ bits) row) (sym (row-rows_of n n xs k d lk)) (All-take (λ x. x < 2 ^ bits) n (drop (k * n) xs) (All-drop (λ x. x < 2 ^ bits) (k * n) xs low));
    }

pub rows_long : (n : ℕ) (xs : List ℕ) → length xs ≡ n * n → All (λ row. length row ≡ n) (rows_of n n xs)
rows_long n xs long k d l = length-row n n xs k d (omega arith) (omega (arith, length-rows_of n n xs))

-- ---- counts
count_take : (p : ℕ → Bool) (xs : List ℕ) (m : ℕ) → m ≤ length xs → count_by p (take m xs) ≡ total m (λ i. one_if (p (get_or xs i 0)))
count_take p xs zero l = refl
count_take p xs (suc m) l =
    let ih : count_by p (take m xs) ≡ total m (λ i. one_if (p (get_or xs i 0))) = count_take p xs m (omega arith) in
    elim (cases_Bool (p (get_or xs m 0))) [
      | inl e ↦
          let here : one_if (p (get_or xs m 0)) ≡ 1 = ap (λ (b : Bool). one_if b) e in
          ap (λ (k : ℕ). count_by p (take k xs)) (sym (add-one m)) ∙ count_by_more_yes p xs m 0 (omega arith) e ∙ omega arith
      | inr e ↦
          let here : one_if (p (get_or xs m 0)) ≡ 0 = ap (λ (b : Bool). one_if b) e in
          ap (λ (k : ℕ). count_by p (take k xs)) (sym (add-one m)) ∙ count_by_more_no p xs m 0 (omega arith) e ∙ omega arith
    ]

total_after : (a b : ℕ) (g : ℕ → ℕ) → total (a + b) g ≡ total a g + total b (λ j. g (a + j))
total_after a zero g = ap (λ (k : ℕ). total k g) (let e : a + 0 ≡ a = omega arith in e) ∙ omega arith
total_after a (suc b) g =
    let ih : total (a + b) g ≡ total a g + total b (λ j. g (a + j)) = total_after a b g in
    ap (λ (k : ℕ). total k g) (let e : a + suc b ≡ suc (a + b) = omega arith in e) ∙ omega arith

total_rows : (r n : ℕ) (g : ℕ → ℕ) → total (r * n) g ≡ total r (λ i. total n (λ j. g (i * n + j)))
total_rows zero n g = ap (λ (k : ℕ). total k g) (let e : 0 * n ≡ 0 = omega arith in e)
total_rows (suc r) n g =
    let ih : total (r * n) g ≡ total r (λ i. total n (λ j. g (i * n + j))) = total_rows r n g in
    ap (λ (k : ℕ). total k g) (let e : suc r * n ≡ r * n + n = omega arith in e) ∙ total_after (r * n) n g ∙ ap (λ (x : ℕ). x + total n (λ j. g (r * n + j))) ih

pub table_pairs : (n s : ℕ) (f : ℕ → ℕ → ℕ) (xs : List ℕ) → IsTable n f xs → count_by (λ x. eqb x s) xs ≡ pairs n f s
unfolding pairs count_pairs
table_pairs n s f xs h =
    ap (λ (ys : List ℕ). count_by (λ x. eqb x s) ys) (sym (take_all (n * n) xs (omega (arith, h.long))))
    ∙ count_take (λ x. eqb x s) xs (n * n) (omega (arith, h.long))
    ∙ total_rows n n (λ i. one_if (eqb (get_or xs i 0) s))
    ∙ total_same n (λ i. total n (λ j. one_if (eqb (get_or xs (i * n + j) 0) s))) (λ i. total n (λ j. one_if (eqb (f i j) s)))
    (λ i li. total_same n (λ j. one_if (eqb (get_or xs (i * n + j) 0) s)) (λ j. one_if (eqb (f i j) s)) (λ j lj. ap (λ (x : ℕ). one_if (eqb x s)) (h.entries i j li lj)))
