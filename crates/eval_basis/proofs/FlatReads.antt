-- What a reader of a flat table gives: a row, or an entry
use Rattle.std.proofs.Common.{◌≡◌, ℕ, ◌+◌, ◌-◌, ◌*◌, ◌<◌, List, [], take, drop, length, get_or, sym, ◌∙◌, ap, arith}
use Rattle.std.proofs.lemmas.List.{get_or_read}
use Rattle.std.proofs.lemmas.Nat.{mul-add-lt}
use Rattle.linear_theory.specs.Tables.{rows_of}
use Rattle.linear_theory.proofs.Tables.{row-rows_of, entry-rows_of}

pub row_read : (n k : ℕ) (xs ys : List ℕ) (table : List (List ℕ)) → rows_of n n xs ≡ table → ys ≡ xs → k < n → take (k * n + n - k * n) (drop (k * n) ys) ≡ get_or table k []
row_read n k xs ys table is same l =
    ap (λ (m : ℕ). take m (drop (k * n) ys)) (omega arith)
    ∙ ap (λ (zs : List ℕ). take n (drop (k * n) zs)) same
    ∙ sym (row-rows_of n n xs k [] l)
    ∙ ap (λ (rows : List (List ℕ)). get_or rows k []) is

pub entry_read : (n i j x : ℕ) (xs : List ℕ) (table : List (List ℕ)) → rows_of n n xs ≡ table → length xs ≡ n * n → x ≡ get_or xs (i * n + j) x → i < n → j < n → x ≡ get_or (get_or table i []) j 0
entry_read n i j x xs table is long read li lj =
    get_or_read xs (i * n + j) x (omega (arith, mul-add-lt i n j n li lj)) read 0
    ∙ sym (entry-rows_of n n xs i j li lj)
    ∙ ap (λ (rows : List (List ℕ)). get_or (get_or rows i []) j 0) is
