-- The items of a list whose marks are set: how many there are, and where each stands.
use Rattle.std.proofs.Common.{◌≡◌, ℕ, zero, suc, ◌+◌, ◌<◌, ◌≤◌, Bool, true, false, cond, List, [], ◌∷◌, length, get_or, count_by, refl, ap, arith}
use Rattle.std.proofs.lemmas.List.Recursion.{is_count_by}
use Rattle.order_theory.specs.Codes.{marked}
use Rattle.block_theory.specs.Marked.{chosen}

-- how many marks are set
abbrev pub set_marks : List Bool → ℕ
set_marks [] = 0
set_marks (m ∷ ms) = cond m (1 + set_marks ms) (set_marks ms)

pub set_marks-count_by : (ms : List Bool) → set_marks ms ≡ count_by (λ m. m) ms
set_marks-count_by = is_count_by set_marks (λ m. m) refl (λ m ms. refl)

pub length-chosen : {X : Type 0} (ms : List Bool) (xs : List X) → length ms ≡ length xs → length (chosen ms xs) ≡ set_marks ms
length-chosen [] xs e = refl
length-chosen (m ∷ ms) [] e = absurd (omega arith)
length-chosen (true ∷ ms) (x ∷ xs) e = let h : length (chosen ms xs) ≡ set_marks ms = length-chosen ms xs (omega arith) in omega arith
length-chosen (false ∷ ms) (x ∷ xs) e = length-chosen ms xs (omega arith)

-- where item number t of the chosen ones stands
abbrev pub place_of : List Bool → ℕ → ℕ
place_of [] t = 0
place_of (true ∷ ms) zero = 0
place_of (true ∷ ms) (suc t) = suc (place_of ms t)
place_of (false ∷ ms) t = suc (place_of ms t)

pub chosen-at : {X : Type 0} (ms : List Bool) (xs : List X) (t : ℕ) (d : X) → length ms ≡ length xs → t < set_marks ms → get_or (chosen ms xs) t d ≡ get_or xs (place_of ms t) d
chosen-at [] xs t d e l = absurd (omega arith)
chosen-at (m ∷ ms) [] t d e l = absurd (omega arith)
chosen-at (true ∷ ms) (x ∷ xs) zero d e l = refl
chosen-at (true ∷ ms) (x ∷ xs) (suc t) d e l = chosen-at ms xs t d (omega arith) (omega arith)
chosen-at (false ∷ ms) (x ∷ xs) t d e l = chosen-at ms xs t d (omega arith) l

pub place_of-below : (ms : List Bool) (t : ℕ) → t < set_marks ms → place_of ms t < length ms
place_of-below [] t l = absurd (omega arith)
place_of-below (true ∷ ms) zero l = omega arith
place_of-below (true ∷ ms) (suc t) l = let h : place_of ms t < length ms = place_of-below ms t (omega arith) in omega arith
place_of-below (false ∷ ms) t l = let h : place_of ms t < length ms = place_of-below ms t l in omega arith

pub place_of-marked : (ms : List Bool) (t : ℕ) → t < set_marks ms → marked ms (place_of ms t) ≡ true
place_of-marked [] t l = absurd (omega arith)
place_of-marked (true ∷ ms) zero l = refl
place_of-marked (true ∷ ms) (suc t) l = place_of-marked ms t (omega arith)
place_of-marked (false ∷ ms) t l = place_of-marked ms t l

pub place_of-rises : (ms : List Bool) (t u : ℕ) → t < u → u < set_marks ms → place_of ms t < place_of ms u
place_of-rises [] t u a l = absurd (omega arith)
place_of-rises (true ∷ ms) zero zero a l = absurd (omega arith)
place_of-rises (true ∷ ms) zero (suc u) a l = omega arith
place_of-rises (true ∷ ms) (suc t) zero a l = absurd (omega arith)
place_of-rises (true ∷ ms) (suc t) (suc u) a l = let h : place_of ms t < place_of ms u = place_of-rises ms t u (omega arith) (omega arith) in omega arith
place_of-rises (false ∷ ms) t u a l = let h : place_of ms t < place_of ms u = place_of-rises ms t u a l in omega arith

-- each marked place is one of them
pub place_of-found : (ms : List Bool) (k : ℕ) → marked ms k ≡ true → (t : ℕ) × (t < set_marks ms) × (place_of ms t ≡ k)
place_of-found [] k e = cc
place_of-found (true ∷ ms) zero e = (0, omega arith, refl)
place_of-found (true ∷ ms) (suc k) e =
    let (t, l, p) = place_of-found ms k e in
    (suc t, omega arith, ap suc p)
place_of-found (false ∷ ms) zero e = cc
place_of-found (false ∷ ms) (suc k) e =
    let (t, l, p) = place_of-found ms k e in
    (t, l, ap suc p)

pub set_marks-le : (ms : List Bool) → set_marks ms ≤ length ms
set_marks-le [] = omega arith
set_marks-le (true ∷ ms) = omega (arith, set_marks-le ms)
set_marks-le (false ∷ ms) = omega (arith, set_marks-le ms)

-- where as many are set as there are, each is
pub all_set : (ms : List Bool) → length ms ≤ set_marks ms → (k : ℕ) → k < length ms → marked ms k ≡ true
all_set [] h k l = absurd (omega arith)
all_set (true ∷ ms) h zero l = refl
all_set (true ∷ ms) h (suc k) l = all_set ms (omega arith) k (omega arith)
all_set (false ∷ ms) h k l = absurd (omega (arith, set_marks-le ms))
