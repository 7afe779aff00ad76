-- The rows of a table that is cut into bands of whole rows
use Rattle.std.proofs.Common.{◌≡◌, ℕ, suc, ◌+◌, ◌-◌, ◌*◌, ◌/◌, ◌%◌, ◌<◌, ◌≤◌, ◌^◌, List, [], length, min, take, drop, sym, ◌∙◌, ap, subst, arith, All}
use Rattle.std.proofs.Math.Nat.{mul-div_left, mul-le-mul_right, le_of_mul-le-mul_right, div-mul-le_self, suc-mul, mul_assoc}
use Rattle.std.proofs.lemmas.Nat.{div-add-mod', div_below, mod_below, mul-lt}
use Rattle.std.proofs.lemmas.List.{drop-drop, drop-take, take-take, length-take, length-drop}
use Rattle.std.specs.Fork.{IsChunk, slice_chunk}
use Rattle.linear_theory.specs.Tables.{rows_of}
use Rattle.linear_theory.proofs.Tables.{row-rows_of, length-rows_of}
use Rattle.ag_pool.specs.Acts.{Acted}
use Rattle.ag_pool.specs.Rows.{AreReady, ActedFrom}

-- a row of a part
pub part_row : (cols s k q : ℕ) (xs : List ℕ) → q * cols + cols ≤ k → take cols (drop (q * cols) (take k (drop s xs))) ≡ take cols (drop (s + q * cols) xs)
part_row cols s k q xs l =
    let e : k ≡ q * cols + (k - q * cols) = omega arith in
    ap (λ (n : ℕ). take cols (drop (q * cols) (take n (drop s xs)))) e
    ∙ ap (λ w. take cols w) (drop-take (q * cols) (k - q * cols) (drop s xs))
    ∙ take-take cols (k - q * cols) (drop (q * cols) (drop s xs)) (omega arith)
    ∙ ap (λ w. take cols w) (drop-drop (q * cols) s xs)

band_start : (n band cols : ℕ) → n * (band * cols) ≡ n * band * cols
band_start n band cols = sym (mul_assoc n band cols)

rows_sum : (a q cols : ℕ) → a * cols + q * cols ≡ (a + q) * cols
rows_sum a q cols = grind arith

row_within : (r rows cols n : ℕ) → 0 < cols → n ≡ rows * cols → r * cols + cols ≤ n → r < rows
row_within r rows cols n sc e l = le_of_mul-le-mul_right (let w : suc r * cols ≤ rows * cols = omega (arith, suc-mul r cols) in w) sc

-- the rows of the parts are done, so the rows of the table are
pub bands_acted : (after : ℕ → List ℕ → List ℕ) (rows cols band : ℕ) (xs ys : List ℕ) → 0 < cols → 0 < band → length xs ≡ rows * cols
    → ((n : ℕ) → n * (band * cols) < length xs → ActedFrom after (n * (band * cols) / cols) cols (slice_chunk xs (band * cols) n) (slice_chunk ys (band * cols) n))
    → Acted after (rows_of rows cols xs) (rows_of rows cols ys)
bands_acted after rows cols band xs ys sc sb e parts r d l =
    let low : r < rows = subst (λ (m : ℕ). r < m) (length-rows_of rows cols xs) l in
    let n : ℕ = r / band in
    let q : ℕ = r % band in
    let place : n * band + q ≡ r = div-add-mod' r band in
    let inside : q < band = mod_below r band sb in
    let start : n * (band * cols) ≡ n * band * cols = band_start n band cols in
    let first : n * (band * cols) / cols ≡ n * band = ap (λ (m : ℕ). m / cols) start ∙ mul-div_left (n * band) sc in
    let at : n * (band * cols) + q * cols ≡ r * cols = ap (λ (m : ℕ). m + q * cols) start ∙ rows_sum (n * band) q cols ∙ ap (λ (m : ℕ). m * cols) place in
    let room : r * cols + cols ≤ rows * cols = (let w : suc r * cols ≤ rows * cols = mul-le-mul_right cols low in omega (arith, suc-mul r cols)) in
    let fits : q * cols + cols ≤ band * cols = (let w : suc q * cols ≤ band * cols = mul-le-mul_right cols inside in omega (arith, suc-mul q cols)) in
    let long : length (slice_chunk xs (band * cols) n) ≡ min (band * cols) (length xs - n * (band * cols)) =
    length-take (band * cols) (drop (n * (band * cols)) xs) ∙ ap (λ (m : ℕ). min (band * cols) m) (length-drop (n * (band * cols)) xs) in
    let done : take cols (drop (q * cols) (slice_chunk ys (band * cols) n)) ≡ after (n * (band * cols) / cols + q) (take cols (drop (q * cols) (slice_chunk xs (band * cols) n))) =
    parts n (omega arith) q (omega arith) in
    row-rows_of rows cols ys r d low ∙ ap (λ (m : ℕ). take cols (drop m ys)) (sym at) ∙ sym (part_row cols (n * (band * cols)) (band * cols) q ys fits)
    ∙ done
    ∙ ap (λ (m : ℕ). after m (take cols (drop (q * cols) (slice_chunk xs (band * cols) n)))) (ap (λ (m : ℕ). m + q) first ∙ place)
    ∙ ap (after r) (part_row cols (n * (band * cols)) (band * cols) q xs fits ∙ ap (λ (m : ℕ). take cols (drop m xs)) at ∙ sym (row-rows_of rows cols xs r d low))

-- each part may be acted on
pub part_ready : (ready : List ℕ → Type 0) (rows cols band start : ℕ) (xs part : List ℕ) → 0 < cols → length xs ≡ rows * cols → All ready (rows_of rows cols xs) → IsChunk xs (band * cols) start part → 0 < band → AreReady ready cols part
part_ready ready rows cols band start xs part sc e h chunk sb q l =
    let size : 0 < band * cols = mul-lt 0 0 band cols sb sc in
    let n : ℕ = start / (band * cols) in
    let whole : n * (band * cols) ≡ start = (let w : n * (band * cols) + start % (band * cols) ≡ start = div-add-mod' start (band * cols) in let z : start % (band * cols) ≡ 0 = chunk.start_is_multiple in omega arith) in
    let at : start + q * cols ≡ (n * band + q) * cols = ap (λ (m : ℕ). m + q * cols) (sym whole ∙ band_start n band cols) ∙ rows_sum (n * band) q cols in
    let within : start + length part ≤ length xs = chunk.in_bounds in
    let low : n * band + q < rows = row_within (n * band + q) rows cols (length xs) sc e (omega arith) in
    let most : length part ≤ band * cols = chunk.at_most_size in
    subst ready
    (row-rows_of rows cols xs (n * band + q) [] low ∙ ap (λ (m : ℕ). take cols (drop m xs)) (sym at)
    ∙ sym (ap (λ w. take cols (drop (q * cols) w)) chunk.value ∙ part_row cols start (band * cols) q xs (omega arith)))
    (h (n * band + q) [] (subst (λ (m : ℕ). n * band + q < m) (sym (length-rows_of rows cols xs)) low))

-- the numbers of the rows of a part
pub part_numbers : (rows cols start : ℕ) (xs part : List ℕ) → 0 < cols → length xs ≡ rows * cols → rows < 2 ^ 32 → start + length part ≤ length xs → start / cols + length part / cols ≤ 2 ^ 32
part_numbers rows cols start xs part sc e few l =
    let a : start / cols * cols ≤ start = div-mul-le_self start cols in
    let b : length part / cols * cols ≤ length part = div-mul-le_self (length part) cols in
    let sum : start / cols * cols + length part / cols * cols ≡ (start / cols + length part / cols) * cols = rows_sum (start / cols) (length part / cols) cols in
    let all : start / cols + length part / cols ≤ rows = le_of_mul-le-mul_right (let w : (start / cols + length part / cols) * cols ≤ rows * cols = omega arith in w) sc in
    omega arith

pub part_first : (rows cols start : ℕ) (xs part : List ℕ) → 0 < cols → length xs ≡ rows * cols → rows < 2 ^ 32 → 0 < length part → start + length part ≤ length xs → start / cols < 2 ^ 32
part_first rows cols start xs part sc e few some l =
    let low : start / cols < rows = div_below start cols rows sc (omega arith) in
    omega arith

pub row_of_part : (n cols q : ℕ) → 0 < cols → q < n / cols → q * cols + cols ≤ n
row_of_part n cols q sc l =
    let a : suc q * cols ≤ n / cols * cols = mul-le-mul_right cols l in
    let b : n / cols * cols ≤ n = div-mul-le_self n cols in
    omega (arith, suc-mul q cols)

pub acted_same : (after : ℕ → List ℕ → List ℕ) (first cols : ℕ) {xs ys xs2 ys2 : List ℕ} → xs ≡ xs2 → ys ≡ ys2 → ActedFrom after first cols xs ys → ActedFrom after first cols xs2 ys2
acted_same after first cols {xs = xs} {ys2 = ys2} e f h =
    subst (λ (w : List ℕ). ActedFrom after first cols w ys2) e (subst (λ (w : List ℕ). ActedFrom after first cols xs w) f h)
