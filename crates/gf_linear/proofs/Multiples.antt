-- A list plus a multiple of another, place by place; and the rows of a table that became such lists
use Rattle.std.proofs.Common.{◌≡◌, ℕ, zero, suc, ◌+◌, ◌*◌, ◌<◌, ◌^◌, List, [], ◌∷◌, length, drop, get_or, sym, ◌∙◌, ap, subst, refl, arith, bit_xor, All}
use Rattle.std.proofs.lemmas.List.{ext_get_or, get_or-drop}
use Rattle.linear_theory.specs.Tables.{rows_of}
use Rattle.linear_theory.proofs.Tables.{length-rows_of, row-rows_of, length-row, entry-rows_of}
use Rattle.ag_pool.specs.Acts.{Acted}
use Rattle.gf_linear.specs.Cells.{cell}
use Rattle.gf_linear.specs.Elimination.{plus_multiple}
use Rattle.gf_linear.proofs.Steps.{All-part}

pub length-plus_multiple : (mul : ℕ → ℕ → ℕ) (x : ℕ) (xs ys : List ℕ) → length (plus_multiple mul x xs ys) ≡ length xs
length-plus_multiple mul x [] ys = refl
length-plus_multiple mul x (a ∷ xs) ys = ap suc (length-plus_multiple mul x xs (drop 1 ys))

pub get_or-plus_multiple : (mul : ℕ → ℕ → ℕ) (x : ℕ) (xs ys : List ℕ) (p : ℕ) → p < length xs → get_or (plus_multiple mul x xs ys) p 0 ≡ bit_xor (get_or xs p 0) (mul x (get_or ys p 0))
get_or-plus_multiple mul x [] ys p l = absurd (omega arith)
get_or-plus_multiple mul x (a ∷ xs) ys zero l = refl
get_or-plus_multiple mul x (a ∷ xs) ys (suc p) l =
    get_or-plus_multiple mul x xs (drop 1 ys) p (omega arith)
    ∙ ap (λ v. bit_xor (get_or xs p 0) (mul x v)) (get_or-drop 1 ys p 0 ∙ ap (λ (n : ℕ). get_or ys n 0) (let w : 1 + p ≡ suc p = omega arith in w))

pub is_plus_multiple : (mul : ℕ → ℕ → ℕ) (x : ℕ) (xs ys zs : List ℕ) → length zs ≡ length xs → ((p : ℕ) → p < length xs → get_or zs p 0 ≡ bit_xor (get_or xs p 0) (mul x (get_or ys p 0))) → zs ≡ plus_multiple mul x xs ys
is_plus_multiple mul x xs ys zs e h =
    ext_get_or 0 zs (plus_multiple mul x xs ys) (e ∙ sym (length-plus_multiple mul x xs ys))
    (λ p l. let u : p < length xs = subst (λ (n : ℕ). p < n) e l in h p u ∙ sym (get_or-plus_multiple mul x xs ys p u))

-- the entries of the table after each row became itself plus its entry at `col` times the pivot row
pub rows_multiplied : (mul : ℕ → ℕ → ℕ) (rows cols col : ℕ) (xs zs ps : List ℕ) → length xs ≡ rows * cols → col < cols
    → Acted (λ _ row. plus_multiple mul (get_or row col 0) row ps) (rows_of rows cols xs) (rows_of rows cols zs)
    → (q p : ℕ) → q < rows → p < cols → cell zs cols q p ≡ bit_xor (cell xs cols q p) (mul (cell xs cols q col) (get_or ps p 0))
rows_multiplied mul rows cols col xs zs ps e lc acted q p lq lp =
    let row : List ℕ = get_or (rows_of rows cols xs) q [] in
    let long : length row ≡ cols = length-row rows cols xs q [] (omega arith) lq in
    sym (entry-rows_of rows cols zs q p lq lp)
    ∙ ap (λ (w : List ℕ). get_or w p 0) (acted q [] (subst (λ (n : ℕ). q < n) (sym (length-rows_of rows cols xs)) lq))
    ∙ get_or-plus_multiple mul (get_or row col 0) row ps p (omega arith)
    ∙ ap (λ v. bit_xor v (mul (get_or row col 0) (get_or ps p 0))) (entry-rows_of rows cols xs q p lq lp)
    ∙ ap (λ v. bit_xor (cell xs cols q p) (mul v (get_or ps p 0))) (entry-rows_of rows cols xs q col lq lc)

-- each row may be acted on
pub rows_ready : (b rows cols col : ℕ) (xs ps : List ℕ) → length xs ≡ rows * cols → length ps ≡ cols → col < cols → All (λ a. a < 2 ^ b) xs → All (λ a. a < 2 ^ b) ps
    → All (λ row. (length row ≡ length ps) × (col < length row) × All (λ a. a < 2 ^ b) row × All (λ a. a < 2 ^ b) ps) (rows_of rows cols xs)
rows_ready b rows cols col xs ps e lp lc sx sp q d l =
    let lq : q < rows = subst (λ (n : ℕ). q < n) (length-rows_of rows cols xs) l in
    let long : length (get_or (rows_of rows cols xs) q d) ≡ cols = length-row rows cols xs q d (omega arith) lq in
    (long ∙ sym lp, subst (λ (n : ℕ). col < n) (sym long) lc, subst (λ (w : List ℕ). All (λ a. a < 2 ^ b) w) (sym (row-rows_of rows cols xs q d lq)) (All-part (λ a. a < 2 ^ b) (q * cols) cols xs sx), sp)
