-- What is in filtered and in mapped lists, what a search finds, and the lists of n symbols.
use Rattle.std.proofs.Common.{ℕ, zero, suc, ◌+◌, ◌<◌, ◌≡◌, Bool, true, false, cond, List, [], ◌∷◌, length, map, filter, find, Contains, All, Some, refl, ap, sym, ◌∙◌, subst, arith, nat_eq}
use Rattle.std.proofs.lemmas.List.Elements.{All-nil, All-cons}
use Rattle.stored_form.specs.Search.{all_lists}
use Rattle.stored_form.proofs.DifferenceLemmas.{from_joined}
use Rattle.stored_form.specs.Form.{distance as bytes_distance}
use Rattle.order_theory.specs.Codes.{distance}

-- ---- a filtered list

filter_more-has : {X : Type 0} (p : X → Bool) (first : X) (xs : List X) (x : X) → (Contains xs x → Contains (filter p xs) x) → Contains (first ∷ xs) x → p x ≡ true → (b : Bool) → p first ≡ b → Contains (cond b (first ∷ filter p xs) (filter p xs)) x
filter_more-has p first xs x later (zero, below, e) pass true is = (0, omega arith, e)
filter_more-has p first xs x later (suc k, below, e) pass true is = let (q, l, f) = later (k, omega arith, e) in (suc q, omega arith, f)
filter_more-has p first xs x later (zero, below, e) pass false is = absurd (let same = ap p e in cc)
filter_more-has p first xs x later (suc k, below, e) pass false is = later (k, omega arith, e)

pub filter-has : {X : Type 0} (p : X → Bool) (xs : List X) (x : X) → Contains xs x → p x ≡ true → Contains (filter p xs) x
filter-has p [] x (k, below, e) pass = absurd (omega arith)
filter-has p (first ∷ xs) x has pass = filter_more-has p first xs x (λ later. filter-has p xs x later pass) has pass (p first) refl

filter_more-from : {X : Type 0} (p : X → Bool) (first : X) (xs : List X) (x : X) → (Contains (filter p xs) x → Contains xs x × (p x ≡ true)) → (b : Bool) → p first ≡ b → Contains (cond b (first ∷ filter p xs) (filter p xs)) x → Contains (first ∷ xs) x × (p x ≡ true)
filter_more-from p first xs x later true is (zero, below, e) = ((0, omega arith, e), ap p (sym e) ∙ is)
filter_more-from p first xs x later true is (suc k, below, e) = let ((q, l, f), pass) = later (k, omega arith, e) in ((suc q, omega arith, f), pass)
filter_more-from p first xs x later false is has = let ((q, l, f), pass) = later has in ((suc q, omega arith, f), pass)

pub filter-from : {X : Type 0} (p : X → Bool) (xs : List X) (x : X) → Contains (filter p xs) x → Contains xs x × (p x ≡ true)
filter-from p [] x (k, below, e) = absurd (omega arith)
filter-from p (first ∷ xs) x has = filter_more-from p first xs x (filter-from p xs x) (p first) refl has

pub map-from : {X Y : Type 0} (f : X → Y) (xs : List X) (y : Y) → Contains (map f xs) y → (x : X) × Contains xs x × (f x ≡ y)
map-from f [] y (k, below, e) = absurd (omega arith)
map-from f (x ∷ xs) y (zero, below, e) = (x, (0, omega arith, refl), e)
map-from f (x ∷ xs) y (suc k, below, e) = let (z, (q, l, g), h) = map-from f xs y (k, omega arith, e) in (z, (suc q, omega arith, g), h)

-- ---- what a search finds

found_more : {X : Type 0} (p : X → Bool) (first : X) (xs : List X) (x : X) → (find p xs ≡ Some x → Contains xs x × (p x ≡ true)) → (b : Bool) → p first ≡ b → cond b (Some first) (find p xs) ≡ Some x → Contains (first ∷ xs) x × (p x ≡ true)
found_more p first xs x later true is found = let same : first ≡ x = cc in ((0, omega arith, same), ap p (sym same) ∙ is)
found_more p first xs x later false is found = let ((k, below, e), pass) = later found in ((suc k, omega arith, e), pass)

pub found_passes : {X : Type 0} (p : X → Bool) (xs : List X) (x : X) → find p xs ≡ Some x → Contains xs x × (p x ≡ true)
found_passes p [] x found = absurd (cc)
found_passes p (first ∷ xs) x found = found_more p first xs x (found_passes p xs x) (p first) refl found

finds_more : {X : Type 0} (p : X → Bool) (first : X) (xs : List X) (x : X) → (Contains xs x → (y : X) × (find p xs ≡ Some y)) → Contains (first ∷ xs) x → p x ≡ true → (b : Bool) → p first ≡ b → (y : X) × (cond b (Some first) (find p xs) ≡ Some y)
finds_more p first xs x later has pass true is = (first, refl)
finds_more p first xs x later (zero, below, e) pass false is = absurd (let same = ap p e in cc)
finds_more p first xs x later (suc k, below, e) pass false is = later (k, omega arith, e)

pub finds : {X : Type 0} (p : X → Bool) (xs : List X) (x : X) → Contains xs x → p x ≡ true → (y : X) × (find p xs ≡ Some y)
finds p [] x (k, below, e) pass = absurd (omega arith)
finds p (first ∷ xs) x has pass = finds_more p first xs x (λ later. finds p xs x later pass) has pass (p first) refl

-- ---- all lists of k numbers below q

pub all_lists-from : (q k : ℕ) (xs : List ℕ) → Contains (all_lists q k) xs → (length xs ≡ k) × All (λ s. s < q) xs
all_lists-from q zero xs (zero, below, e) = (ap length (sym e), subst (All (λ s. s < q)) e (All-nil (λ s. s < q)))
all_lists-from q zero xs (suc i, below, e) = absurd (omega arith)
all_lists-from q (suc k) xs has =
    let (s, low, high, in_part) = from_joined (λ s. map (λ rest. s ∷ rest) (all_lists q k)) q 0 xs has in
    let (rest, in_rest, e) = map-from (λ rest. s ∷ rest) (all_lists q k) xs in_part in
    let (long, fit) = all_lists-from q k rest in_rest in
    (ap length (sym e) ∙ ap suc long, subst (All (λ s. s < q)) e (All-cons (λ s. s < q) s rest (omega arith) fit))

-- ---- the two distances are one

pub distance_same : (xs ys : List ℕ) → bytes_distance xs ys ≡ distance xs ys
distance_same [] ys = refl
distance_same (x ∷ xs) [] = refl
distance_same (x ∷ xs) (y ∷ ys) = ap (λ (d : ℕ). cond (nat_eq x y) 0 1 + d) (distance_same xs ys)
