-- The weight of a list, and the distance of two lists, position by position
use Rattle.std.proofs.Common.{◌≡◌, ◌≢◌, ℕ, zero, suc, ◌+◌, ◌<◌, ◌≤◌, Bool, true, false, cond, eqb, not, List, [], ◌∷◌, length, get_or, sym, ◌∙◌, ap, refl, inl, inr, arith, bit_xor}
use Rattle.std.proofs.lemmas.Bool.{cases_eq, cond-true, cond-false, eq-eqb, ne_eqb}
use Rattle.std.specs.Int.Bits.{xor_self}
use Rattle.std.proofs.lemmas.List.Sums.{sum_by-cons}
use Rattle.linear_theory.specs.Linear.{weight as weight_below}
use Rattle.std.proofs.lemmas.Grind.{same_number_lists}
use Rattle.field_theory.proofs.Sums.{xor_cancel, xor_same}
use Rattle.order_theory.specs.Errors.{weight}
use Rattle.order_theory.specs.Codes.{list_sum, distance}

-- 1 where a number is not 0
abbrev one_at : ℕ → ℕ
one_at x = cond (eqb x 0) 0 1

zero_one : (x : ℕ) → x ≡ 0 → one_at x ≡ 0
zero_one x e = cond-true (eqb x 0) 0 1 (eq-eqb x 0 e)

one_one : (x : ℕ) → x ≢ 0 → one_at x ≡ 1
one_one x d = cond-false (eqb x 0) 0 1 (ne_eqb x 0 d)

pub weight_same : (n : ℕ) (f g : ℕ → ℕ) → ((p : ℕ) → p < n → f p ≡ g p) → weight_below n f ≡ weight_below n g
weight_same zero f g h = refl
weight_same (suc n) f g h =
    let e : weight_below n f ≡ weight_below n g = weight_same n f g (λ p l. h p (omega arith)) in
    let d : f n ≡ g n = h n (omega arith) in
    let c : one_at (f n) ≡ one_at (g n) = ap (λ (x : ℕ). one_at x) d in
    omega arith

pub weight_zero : (n : ℕ) (f : ℕ → ℕ) → ((p : ℕ) → p < n → f p ≡ 0) → weight_below n f ≡ 0
weight_zero zero f h = refl
weight_zero (suc n) f h =
    let e : weight_below n f ≡ 0 = weight_zero n f (λ p l. h p (omega arith)) in
    let c : one_at (f n) ≡ 0 = zero_one (f n) (h n (omega arith)) in
    omega arith

-- where both differences are 0 at a position, so is the third
triangle_at : (a b c : ℕ) → one_at (bit_xor a b) ≤ one_at (bit_xor a c) + one_at (bit_xor b c)
triangle_at a b c = elim (cases_eq (bit_xor a c) 0) [
  | inr d ↦ omega (arith, one_one (bit_xor a c) d, one_at_most (bit_xor a b))
  | inl e ↦ elim (cases_eq (bit_xor b c) 0) [
    | inr d ↦ omega (arith, one_one (bit_xor b c) d, one_at_most (bit_xor a b))
    | inl f ↦
        let same : a ≡ b = xor_same a c e ∙ sym (xor_same b c f) in
        omega (arith, zero_one (bit_xor a b) (ap (λ (x : ℕ). bit_xor x b) same ∙ xor_self b))
  ]
]
  where
    one_at_most : (x : ℕ) → one_at x ≤ 1
    one_at_most x = elim (cases_eq x 0) [ inl e ↦ omega (arith, zero_one x e) | inr d ↦ omega (arith, one_one x d) ]

pub weight_triangle : (n : ℕ) (u w y : ℕ → ℕ) → weight_below n (λ p. bit_xor (u p) (w p)) ≤ weight_below n (λ p. bit_xor (u p) (y p)) + weight_below n (λ p. bit_xor (w p) (y p))
weight_triangle zero u w y = omega arith
weight_triangle (suc n) u w y = omega (arith, weight_triangle n u w y, triangle_at (u n) (w n) (y n))

-- ---- lists
weight_first : (n : ℕ) (f : ℕ → ℕ) → weight_below (suc n) f ≡ one_at (f 0) + weight_below n (λ p. f (suc p))
weight_first zero f = omega arith
weight_first (suc n) f = omega (arith, weight_first n f)

abbrev zero_if : Bool → ℕ
zero_if t = cond t 0 1

abbrev one_unless : Bool → ℕ
one_unless t = cond (not t) 1 0

turned : (t : Bool) → zero_if t ≡ one_unless t
turned true = refl
turned false = refl

weight_of_list : (xs : List ℕ) → weight_below (length xs) (λ p. get_or xs p 0) ≡ weight xs
weight_of_list [] = refl
weight_of_list (x ∷ xs) =
    omega (arith, weight_first (length xs) (λ p. get_or (x ∷ xs) p 0), sum_by-cons (λ (y : ℕ). one_unless (eqb y 0)) x xs, weight_of_list xs, turned (eqb x 0))

pub weight_is : (n : ℕ) (xs : List ℕ) → length xs ≡ n → weight_below n (λ p. get_or xs p 0) ≡ weight xs
weight_is n xs e = ap (λ (m : ℕ). weight_below m (λ p. get_or xs p 0)) (sym e) ∙ weight_of_list xs

same_test : (x y : ℕ) → eqb (bit_xor x y) 0 ≡ eqb x y
same_test x y = elim (cases_eq x y) [
  | inl e ↦ eq-eqb (bit_xor x y) 0 (ap (λ (z : ℕ). bit_xor z y) e ∙ xor_self y) ∙ sym (eq-eqb x y e)
  | inr d ↦ ne_eqb (bit_xor x y) 0 (λ z. d (xor_same x y z)) ∙ sym (ne_eqb x y d)
]

distance_of_lists : (xs ys : List ℕ) → length xs ≡ length ys → weight_below (length xs) (λ p. bit_xor (get_or xs p 0) (get_or ys p 0)) ≡ distance xs ys
distance_of_lists [] ys e = refl
distance_of_lists (x ∷ xs) [] e = absurd (omega arith)
distance_of_lists (x ∷ xs) (y ∷ ys) e =
    omega (
      arith,
      weight_first (length xs) (λ p. bit_xor (get_or (x ∷ xs) p 0) (get_or (y ∷ ys) p 0)),
      distance_of_lists xs ys (omega arith),
      ap zero_if (same_test x y),
    )

pub distance_is : (n : ℕ) (xs ys : List ℕ) → length xs ≡ n → length ys ≡ n → weight_below n (λ p. bit_xor (get_or xs p 0) (get_or ys p 0)) ≡ distance xs ys
distance_is n xs ys e f = ap (λ (m : ℕ). weight_below m (λ p. bit_xor (get_or xs p 0) (get_or ys p 0))) (sym e) ∙ distance_of_lists xs ys (e ∙ sym f)

pub length-list_sum : (xs ys : List ℕ) → length xs ≡ length ys → length (list_sum xs ys) ≡ length xs
length-list_sum [] ys e = refl
length-list_sum (x ∷ xs) [] e = absurd (omega arith)
length-list_sum (x ∷ xs) (y ∷ ys) e = omega (arith, length-list_sum xs ys (omega arith))

pub get_or-list_sum : (xs ys : List ℕ) (p : ℕ) → length xs ≡ length ys → get_or (list_sum xs ys) p 0 ≡ bit_xor (get_or xs p 0) (get_or ys p 0)
get_or-list_sum [] [] p e = refl
get_or-list_sum [] (y ∷ ys) p e = absurd (omega arith)
get_or-list_sum (x ∷ xs) [] p e = absurd (omega arith)
get_or-list_sum (x ∷ xs) (y ∷ ys) zero e = refl
get_or-list_sum (x ∷ xs) (y ∷ ys) (suc p) e = get_or-list_sum xs ys p (omega arith)

pub weight-le : (n : ℕ) (f g : ℕ → ℕ) → ((p : ℕ) → p < n → g p ≡ 0 → f p ≡ 0) → weight_below n f ≤ weight_below n g
weight-le zero f g h = omega arith
weight-le (suc n) f g h =
    let ih : weight_below n f ≤ weight_below n g = weight-le n f g (λ p l. h p (omega arith)) in
    elim (cases_eq (g n) 0) [
      | inl e ↦ omega (arith, ih, zero_one (f n) (h n (omega arith) e), zero_one (g n) e)
      | inr d ↦ omega (arith, ih, at_most_one (f n), one_one (g n) d)
    ]
  where
    at_most_one : (x : ℕ) → one_at x ≤ 1
    at_most_one x = elim (cases_eq x 0) [ inl e ↦ omega (arith, zero_one x e) | inr d ↦ omega (arith, one_one x d) ]

pub list_sum_back : (xs ys : List ℕ) → length xs ≡ length ys → list_sum xs (list_sum xs ys) ≡ ys
list_sum_back xs ys e =
    let one : length (list_sum xs ys) ≡ length xs = length-list_sum xs ys e in
    let two : length (list_sum xs (list_sum xs ys)) ≡ length xs = length-list_sum xs (list_sum xs ys) (sym one) in
    same_number_lists (list_sum xs (list_sum xs ys)) ys (two ∙ e)
    (λ p l.
    get_or-list_sum xs (list_sum xs ys) p (sym one)
    ∙ ap (λ (x : ℕ). bit_xor (get_or xs p 0) x) (get_or-list_sum xs ys p e) ∙ xor_cancel (get_or xs p 0) (get_or ys p 0))
