-- Lists and tables of the values of a function, and the rows of a table that became such lists
use Rattle.std.proofs.Common.{◌≡◌, ℕ, zero, suc, ◌+◌, ◌*◌, ◌/◌, ◌%◌, ◌<◌, ◌^◌, List, [], ◌++◌, length, get_or, sym, ◌∙◌, ap, subst, refl, inl, inr, arith, All}
use Rattle.std.proofs.lemmas.Bool.{cases_eq}
use Rattle.std.proofs.lemmas.List.{ext_get_or}
use Rattle.std.proofs.lemmas.List.FromFn.{length-map-range_with_len, get_or-map-range_with_len}
use Rattle.std.proofs.lemmas.Nat.{div-add-mod', div_below, mod_below}
use Rattle.linear_theory.specs.Tables.{rows_of}
use Rattle.linear_theory.proofs.Tables.{length-rows_of, row-rows_of, length-row, entry-rows_of}
use Rattle.ag_pool.specs.Acts.{Acted}
use Rattle.gf_linear.specs.Cells.{cell}
use Rattle.gf_linear.proofs.Steps.{All-part}
use Rattle.eval_basis.specs.Flat.{IsTable, listed, tabled}
use Rattle.eval_basis.proofs.Pushing.{IsPushed, pushed_none, pushed_list, pushed_all}

pub length-listed : (n : ℕ) (f : ℕ → ℕ) → length (listed n f) ≡ n
length-listed n f = length-map-range_with_len f 0 n

pub get_or-listed : (n : ℕ) (f : ℕ → ℕ) (k : ℕ) → k < n → get_or (listed n f) k 0 ≡ f k
get_or-listed n f k l = get_or-map-range_with_len f 0 n k k 0 l (omega arith)

pub is_listed : (n : ℕ) (f : ℕ → ℕ) (xs : List ℕ) → length xs ≡ n → ((k : ℕ) → k < n → get_or xs k 0 ≡ f k) → xs ≡ listed n f
is_listed n f xs e h =
    ext_get_or 0 xs (listed n f) (e ∙ sym (length-listed n f))
    (λ k l. let u : k < n = subst (λ (s : ℕ). k < s) e l in h k u ∙ sym (get_or-listed n f k u))

pushed_tabled : (r n : ℕ) (f : ℕ → ℕ → ℕ) → IsPushed n f (tabled r n f) r 0
unfolding tabled
pushed_tabled zero n f = pushed_none n f [] refl
pushed_tabled (suc r) n f =
    subst (λ (s : ℕ). IsPushed n f (tabled r n f ++ listed n (f r)) s 0) (let e : r + 1 ≡ suc r = omega arith in e)
    (pushed_list n f (tabled r n f) (listed n (f r)) (tabled r n f ++ listed n (f r)) r (pushed_tabled r n f) refl (length-listed n (f r)) (λ b lb. get_or-listed n (f r) b lb))

pub tabled_is : (n : ℕ) (f : ℕ → ℕ → ℕ) → IsTable n f (tabled n n f)
tabled_is n f = pushed_all n n f (tabled n n f) (pushed_tabled n n f) refl

pub is_tabled : (n : ℕ) (f : ℕ → ℕ → ℕ) (xs : List ℕ) → IsTable n f xs → xs ≡ tabled n n f
is_tabled n f xs h =
    let t : IsTable n f (tabled n n f) = tabled_is n f in
    ext_get_or 0 xs (tabled n n f) (h.long ∙ sym t.long) (λ x l.
    let low : x < n * n = subst (λ (s : ℕ). x < s) h.long l in
    elim (cases_eq n 0) [
      | inl z ↦ absurd (let w : n * n ≡ 0 = ap (λ (s : ℕ). n * s) z ∙ (let y : n * 0 ≡ 0 = omega arith in y) in omega arith)
      | inr s ↦
          let place : x / n * n + x % n ≡ x = div-add-mod' x n in
          let row : x / n < n = div_below x n n (omega arith) low in
          let col : x % n < n = mod_below x n (omega arith) in
          ap (λ (p : ℕ). get_or xs p 0) (sym place) ∙ h.entries (x / n) (x % n) row col
          ∙ sym (t.entries (x / n) (x % n) row col) ∙ ap (λ (p : ℕ). get_or (tabled n n f) p 0) place
    ])

-- the rows after each became the list of the values of a function of the row
pub acted_cells : (rows cols : ℕ) (F : ℕ → (ℕ → ℕ) → ℕ → ℕ) (xs zs : List ℕ) → length xs ≡ rows * cols
    → ((x y : ℕ → ℕ) → ((p : ℕ) → p < cols → x p ≡ y p) → (p : ℕ) → p < cols → F cols x p ≡ F cols y p)
    → Acted (λ _ row. listed (length row) (F (length row) (λ p. get_or row p 0))) (rows_of rows cols xs) (rows_of rows cols zs)
    → (q p : ℕ) → q < rows → p < cols → cell zs cols q p ≡ F cols (cell xs cols q) p
acted_cells rows cols F xs zs e same acted q p lq lp =
    let row : List ℕ = get_or (rows_of rows cols xs) q [] in
    let long : length row ≡ cols = length-row rows cols xs q [] (omega arith) lq in
    sym (entry-rows_of rows cols zs q p lq lp)
    ∙ ap (λ (w : List ℕ). get_or w p 0) (acted q [] (subst (λ (n : ℕ). q < n) (sym (length-rows_of rows cols xs)) lq))
    ∙ get_or-listed (length row) (F (length row) (λ p. get_or row p 0)) p (omega arith)
    ∙ ap (λ (n : ℕ). F n (λ p. get_or row p 0) p) long
    ∙ same (λ p. get_or row p 0) (cell xs cols q) (λ j lj. entry-rows_of rows cols xs q j lq lj) p lp

-- each row may be acted on
pub rows_meet : (Q : ℕ → Type 0) (b rows cols : ℕ) (xs : List ℕ) → length xs ≡ rows * cols → Q cols → All (λ a. a < 2 ^ b) xs
    → All (λ row. Q (length row) × All (λ a. a < 2 ^ b) row) (rows_of rows cols xs)
rows_meet Q b rows cols xs e h s q d l =
    let lq : q < rows = subst (λ (n : ℕ). q < n) (length-rows_of rows cols xs) l in
    let long : length (get_or (rows_of rows cols xs) q d) ≡ cols = length-row rows cols xs q d (omega arith) lq in
    (subst Q (sym long) h, subst (λ (w : List ℕ). All (λ a. a < 2 ^ b) w) (sym (row-rows_of rows cols xs q d lq)) (All-part (λ a. a < 2 ^ b) (q * cols) cols xs s))
