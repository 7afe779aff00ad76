-- Reading and filling tables, over plain lists.
use Rattle.std.proofs.Common.{◌≡◌, ◌≢◌, ℕ, ◌+◌, ◌<◌, ◌^◌, List, [], length, get_or, sym, ap, ◌∙◌, subst, arith, below_more, get_or-set_other, get_or-set_same}
use Rattle.std.proofs.Math.ListN.{set}
use Rattle.std.proofs.lemmas.List.{get_or_read}
use Rattle.gf_theory.specs.Field.{gf_mul}
use Rattle.gf_theory.proofs.Product.{gf_mul-below}
use Rattle.gf_tables.specs.Tables.{AreProducts}

-- what is known of the entries below i is known of those below i + 1, once entry i is written
pub entries_more :
    (P : ℕ → ℕ → Type 0) (xs : List ℕ) (i v : ℕ) → i < length xs → ((q : ℕ) → q < i → P q (get_or xs q 0)) → P i v
    → (q : ℕ) → q < i + 1 → P q (get_or (set xs i v) q 0)
entries_more P xs i v l before here =
    below_more (λ q. P q (get_or (set xs i v) q 0)) i
    (λ q k. (let d : q ≢ i = omega arith in subst (P q) (sym (get_or-set_other xs i q v 0 d)) (before q k)))
    (subst (P i) (sym (get_or-set_same xs i v 0 l)) here)

-- an entry of a table of products is a product
pub read_product :
    (m p x y : ℕ) (rows : List (List ℕ)) (row : List ℕ) → AreProducts m p rows → x < 2 ^ m → y < 2 ^ m → row ≡ get_or rows x row
    → get_or row y 0 ≡ gf_mul m p x y
read_product m p x y rows row tables lx ly read =
    let size : length rows ≡ 2 ^ m = tables.size in
    ap (λ (r : List ℕ). get_or r y 0) (get_or_read rows x row (omega arith) read []) ∙ (tables.row x lx).products y ly

pub read_product-below :
    (m p x y i j : ℕ) (rows : List (List ℕ)) (row : List ℕ) → AreProducts m p rows → x < 2 ^ m → y < 2 ^ m → i ≡ x → j ≡ y → row ≡ get_or rows i row
    → get_or row j 0 < 2 ^ m
read_product-below m p x y i j rows row tables lx ly ei ej read =
    subst (λ (v : ℕ). v < 2 ^ m)
    (sym (ap (λ (k : ℕ). get_or row k 0) ej ∙ read_product m p x y rows row tables lx ly (read ∙ ap (λ (k : ℕ). get_or rows k row) ei)))
    (gf_mul-below m p x y)
