-- The points of a row and of the plane, one more at a time
use Rattle.std.proofs.lemmas.Bool.{cond-true, cond-false}
use Rattle.std.proofs.lemmas.List.FromFn.{filter_of_map_range_with_len_more}
use Rattle.std.proofs.Common.{◌≡◌, ℕ, zero, suc, ◌+◌, Bool, true, false, List, [], ◌∷◌, ◌++◌, filter, sym, ◌∙◌, ap, arith, append_assoc, add-one}
use Rattle.std.proofs.lemmas.List.{append-nil}
use Rattle.std.proofs.lemmas.List.Elements.{filter-append}
use Rattle.std.proofs.lemmas.List.Concat.{flat_map-append}
use Rattle.std.specs.List.{range_with_len, flat_map}
use Rattle.order_domain.specs.declared.Point.{Point}
use Rattle.cab_curve.specs.Points.{points_of_row}

-- the first points of a row, and the first rows of a plane
abbrev pub row_front : (x n : ℕ) → List Point
row_front x n = points_of_row n x

abbrev pub plane_front : (size n : ℕ) → List Point
plane_front size n = flat_map (points_of_row size) (range_with_len 0 n)

range_with_len_more : (a n : ℕ) → range_with_len a (suc n) ≡ range_with_len a n ++ (a + n) ∷ []
range_with_len_more a zero = let e : a + 0 ≡ a = omega arith in ap (λ x. x ∷ []) (sym e)
range_with_len_more a (suc n) =
    let e : a + 1 + n ≡ a + suc n = omega arith in
    ap (λ xs. a ∷ xs) (range_with_len_more (a + 1) n ∙ ap (λ x. range_with_len (a + 1) n ++ x ∷ []) e)

pub filter-plane_front_more : (size n : ℕ) (p : Point → Bool) → filter p (plane_front size (n + 1)) ≡ filter p (plane_front size n) ++ filter p (points_of_row size n)
filter-plane_front_more size n p =
    let e : 0 + n ≡ n = omega arith in
    let range : range_with_len 0 (n + 1) ≡ range_with_len 0 n ++ n ∷ [] =
    ap (range_with_len 0) (add-one n) ∙ range_with_len_more 0 n ∙ ap (λ x. range_with_len 0 n ++ x ∷ []) e in
    ap (λ xs. filter p (flat_map (points_of_row size) xs)) range
    ∙ ap (filter p) (flat_map-append (points_of_row size) (range_with_len 0 n) (n ∷ []))
    ∙ ap (λ xs. filter p (plane_front size n ++ xs)) (append-nil (points_of_row size n))
    ∙ filter-append p (plane_front size n) (points_of_row size n)

-- a row, where the next point is on the curve and where it is not
pub row-more : (p : Point → Bool) (x y : ℕ) (before items : List Point) → items ≡ before ++ filter p (row_front x y) → p (record { x = x; y = y; z = 0 }) ≡ true →
    items ++ record { x = x; y = y; z = 0 } ∷ [] ≡ before ++ filter p (row_front x (y + 1))
row-more p x y before items e on =
    let here : Point = record { x = x; y = y; z = 0 } in
    let s : 0 + y ≡ y = omega arith in
    ap (λ xs. xs ++ here ∷ []) e ∙ append_assoc before (filter p (row_front x y)) (here ∷ [])
    ∙ ap (λ xs. before ++ (filter p (row_front x y) ++ xs)) (sym (cond-true (p here) (here ∷ []) [] on))
    ∙ ap (λ xs. before ++ xs) (sym (filter_of_map_range_with_len_more p (λ v. record { x = x; y = v; z = 0 }) 0 y y s))

pub row-same : (p : Point → Bool) (x y : ℕ) (before items : List Point) → items ≡ before ++ filter p (row_front x y) → p (record { x = x; y = y; z = 0 }) ≡ false →
    items ≡ before ++ filter p (row_front x (y + 1))
row-same p x y before items e off =
    let here : Point = record { x = x; y = y; z = 0 } in
    let s : 0 + y ≡ y = omega arith in
    e ∙ ap (λ xs. before ++ xs) (sym (append-nil (filter p (row_front x y))))
    ∙ ap (λ xs. before ++ (filter p (row_front x y) ++ xs)) (sym (cond-false (p here) (here ∷ []) [] off))
    ∙ ap (λ xs. before ++ xs) (sym (filter_of_map_range_with_len_more p (λ v. record { x = x; y = v; z = 0 }) 0 y y s))
