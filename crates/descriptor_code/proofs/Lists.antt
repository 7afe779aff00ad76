-- Lists of numbers: one that rises is the filter of a range, and what is chosen, least or counted in a list
use Rattle.std.proofs.Common.{◌≡◌, ◌⊎◌, ℕ, zero, suc, ◌+◌, ◌<◌, ◌≤◌, Bool, true, false, cond, not, min, List, [], ◌∷◌, ◌++◌, length, map, filter, get_or, take, sym, ◌∙◌, ap, subst, refl, inl, inr, arith, count_by, append-nil}
use Rattle.std.proofs.lemmas.Bool.{cases_Bool}
use Rattle.std.proofs.lemmas.List.{get_or-map, length-map, ext_get_or}
use Rattle.std.specs.Bool.{⊤}
use Rattle.std.specs.List.{range_with_len}
use Rattle.std.proofs.lemmas.List.Sums.{length-filter}
use Rattle.block_theory.specs.Marked.{chosen}
use Rattle.descriptor_code.specs.Plain.{least_of}

-- ---- a list that rises

abbrev RisesFrom : ℕ → List ℕ → Type 0
RisesFrom a [] = ⊤
RisesFrom a (x ∷ xs) = (a ≤ x) × RisesFrom (x + 1) xs

abbrev Has : List ℕ → ℕ → Type 0
Has [] i = ⊥
Has (x ∷ xs) i = (i ≡ x) ⊎ Has xs i

abbrev ArePassing : (ℕ → Bool) → ℕ → List ℕ → Type 0
ArePassing t top [] = ⊤
ArePassing t top (x ∷ xs) = (x < top) × (t x ≡ true) × ArePassing t top xs

rises_of : (xs : List ℕ) (a : ℕ) → ((i j : ℕ) → i < j → j < length xs → get_or xs i 0 < get_or xs j 0) → (0 < length xs → a ≤ get_or xs 0 0) → RisesFrom a xs
rises_of [] a h first = tt
rises_of (x ∷ xs) a h first = (first (omega arith), rises_of xs (x + 1) (λ i j l m. h (suc i) (suc j) (omega arith) (omega arith)) (λ l. let s : x < get_or xs 0 0 = h 0 1 (omega arith) (omega arith) in omega arith))

has_of : (xs : List ℕ) (i k : ℕ) → k < length xs → get_or xs k 0 ≡ i → Has xs i
has_of [] i k l e = absurd (omega arith)
has_of (x ∷ xs) i zero l e = inl (sym e)
has_of (x ∷ xs) i (suc k) l e = inr (has_of xs i k (omega arith) e)

passing_of : (t : ℕ → Bool) (top : ℕ) (xs : List ℕ) → ((k : ℕ) → k < length xs → (get_or xs k 0 < top) × (t (get_or xs k 0) ≡ true)) → ArePassing t top xs
passing_of t top [] h = tt
passing_of t top (x ∷ xs) h = (let w : (x < top) × (t x ≡ true) = h 0 (omega arith) in (w.0, w.1, passing_of t top xs (λ k l. h (suc k) (omega arith))))

at_least : (a : ℕ) (xs : List ℕ) (i : ℕ) → RisesFrom a xs → Has xs i → a ≤ i
at_least a [] i r h = absurd h
at_least a (x ∷ xs) i r h = elim h [
  | inl e ↦ omega (arith, r.0)
  | inr m ↦ omega (arith, r.0, at_least (x + 1) xs i r.1 m)
]

-- the first number of the range passes, so that it is the first of the list
first_is : (a : ℕ) (xs : List ℕ) → RisesFrom a xs → Has xs a → (rest : List ℕ) × (xs ≡ a ∷ rest) × RisesFrom (a + 1) rest
first_is a [] r h = absurd h
first_is a (x ∷ xs) r h = elim h [
  | inl e ↦ (xs, ap (λ (y : ℕ). y ∷ xs) (sym e), subst (λ (y : ℕ). RisesFrom (y + 1) xs) (sym e) r.1)
  | inr m ↦ absurd (omega (arith, r.0, at_least (x + 1) xs a r.1 m))
]

-- it does not, so that the list rises from the next
rises_later : (t : ℕ → Bool) (top a : ℕ) (xs : List ℕ) → RisesFrom a xs → ArePassing t top xs → t a ≡ false → RisesFrom (a + 1) xs
rises_later t top a [] r p f = tt
rises_later t top a (x ∷ xs) r p f = (later (cases_order_of a x r.0), r.1)
  where
    cases_order_of : (u v : ℕ) → u ≤ v → (u ≡ v) ⊎ (u + 1 ≤ v)
    cases_order_of zero zero l = inl refl
    cases_order_of zero (suc v) l = inr (omega arith)
    cases_order_of (suc u) zero l = absurd (omega arith)
    cases_order_of (suc u) (suc v) l = elim (cases_order_of u v (omega arith)) [ inl e ↦ inl (ap suc e) | inr m ↦ inr (omega arith) ]

    later : (a ≡ x) ⊎ (a + 1 ≤ x) → a + 1 ≤ x
    later c = elim c [
      | inl e ↦ (let no : true ≡ false = sym p.1 ∙ ap t (sym e) ∙ f in absurd (cc))
      | inr m ↦ m
    ]

filtered : (n a : ℕ) (t : ℕ → Bool) (xs : List ℕ) → RisesFrom a xs → ArePassing t (a + n) xs → ((i : ℕ) → a ≤ i → i < a + n → t i ≡ true → Has xs i) → xs ≡ filter t (range_with_len a n)
filtered zero a t [] r p all = refl
filtered zero a t (x ∷ xs) r p all = absurd (omega (arith, r.0, p.0))
filtered (suc n) a t xs r p all = elim (cases_Bool (t a)) [
  | inl yes_a ↦
      let f : (rest : List ℕ) × (xs ≡ a ∷ rest) × RisesFrom (a + 1) rest = first_is a xs r (all a (omega arith) (omega arith) yes_a) in
      f.1
      ∙ ap (λ (ys : List ℕ). a ∷ ys)
      (filtered n (a + 1) t f.0 f.2
      (subst (λ (top : ℕ). ArePassing t top f.0) next (subst (λ (ys : List ℕ). ArePassing t (a + suc n) ys) f.1 p).2)
      (λ i l m y. rest_has f.0 i (omega arith) (subst (λ (ys : List ℕ). Has ys i) f.1 (all i (omega arith) (omega arith) y))))
      ∙ sym (ap (λ (b : Bool). cond b (a ∷ filter t (range_with_len (a + 1) n)) (filter t (range_with_len (a + 1) n))) yes_a)
  | inr no_a ↦
      filtered n (a + 1) t xs (rises_later t (a + suc n) a xs r p no_a) (subst (λ (top : ℕ). ArePassing t top xs) next p) (λ i l m y. all i (omega arith) (omega arith) y)
      ∙ sym (ap (λ (b : Bool). cond b (a ∷ filter t (range_with_len (a + 1) n)) (filter t (range_with_len (a + 1) n))) no_a)
]
  where
    next : a + suc n ≡ a + 1 + n
    next = omega arith

    rest_has : (rest : List ℕ) (i : ℕ) → a < i → Has (a ∷ rest) i → Has rest i
    rest_has rest i l h = elim h [ inl e ↦ absurd (omega arith) | inr m ↦ m ]

-- a list that rises, and has exactly the numbers below n that pass, is these
pub rising_is_filter :
    (n : ℕ) (t : ℕ → Bool) (xs : List ℕ) → ((i j : ℕ) → i < j → j < length xs → get_or xs i 0 < get_or xs j 0) →
    ((k : ℕ) → k < length xs → (get_or xs k 0 < n) × (t (get_or xs k 0) ≡ true)) →
    ((i : ℕ) → i < n → t i ≡ true → (k : ℕ) × (k < length xs) × (get_or xs k 0 ≡ i)) → xs ≡ filter t (range_with_len 0 n)
rising_is_filter n t xs rise pass all =
    let top : n ≡ 0 + n = omega arith in
    filtered n 0 t xs (rises_of xs 0 rise (λ l. omega arith)) (subst (λ (m : ℕ). ArePassing t m xs) top (passing_of t n xs pass))
    (λ i l m y. let w : (k : ℕ) × (k < length xs) × (get_or xs k 0 ≡ i) = all i (omega arith) y in has_of xs i w.0 w.1 w.2)

-- ---- lists made of one another

pub mapped : {X : Type 0} (f : ℕ → X) (xs : List ℕ) (ys : List X) (d : X) → length ys ≡ length xs → ((k : ℕ) → k < length xs → get_or ys k d ≡ f (get_or xs k 0)) → ys ≡ map f xs
mapped f xs ys d long at = ext_get_or d ys (map f xs) (long ∙ sym (length-map xs f)) (λ k l. at k (omega arith) ∙ sym (get_or-map f xs k 0 d (omega arith)))

pub chosen-map : {X Y : Type 0} (t : X → Bool) (f : X → Y) (xs : List X) → chosen (map t xs) (map f xs) ≡ map f (filter t xs)
chosen-map t f [] = refl
chosen-map t f (x ∷ xs) = step (t x) (chosen-map t f xs)
  where
    step : (b : Bool) → chosen (map t xs) (map f xs) ≡ map f (filter t xs) → cond b (f x ∷ chosen (map t xs) (map f xs)) (chosen (map t xs) (map f xs)) ≡ map f (cond b (x ∷ filter t xs) (filter t xs))
    step true ih = ap (λ (ys : List _). f x ∷ ys) ih
    step false ih = ih

filter-marks : {X : Type 0} (t : X → Bool) (xs : List X) → length (filter (λ m. m) (map t xs)) ≡ length (filter t xs)
filter-marks t [] = refl
filter-marks t (x ∷ xs) = step (t x) (filter-marks t xs)
  where
    step : (b : Bool) → length (filter (λ m. m) (map t xs)) ≡ length (filter t xs) → length (cond b (b ∷ filter (λ m. m) (map t xs)) (filter (λ m. m) (map t xs))) ≡ length (cond b (x ∷ filter t xs) (filter t xs))
    step true ih = ap suc ih
    step false ih = ih

pub count-map : {X : Type 0} (t : X → Bool) (xs : List X) → count_by (λ m. m) (map t xs) ≡ length (filter t xs)
count-map t xs = sym (length-filter (λ m. m) (map t xs)) ∙ filter-marks t xs

-- ---- the least of a list

least_below : (x : ℕ) (xs : List ℕ) (d : ℕ) → ((k : ℕ) → k < length (x ∷ xs) → d ≤ get_or (x ∷ xs) k 0) → d ≤ least_of (x ∷ xs)
least_below x [] d h = h 0 (omega arith)
least_below x (y ∷ ys) d h = omega (arith, h 0 (omega arith), least_below y ys d (λ k l. h (suc k) (omega arith)))

pub least_is : (xs : List ℕ) (d k : ℕ) → k < length xs → get_or xs k 0 ≡ d → ((q : ℕ) → q < length xs → d ≤ get_or xs q 0) → least_of xs ≡ d
least_is [] d k l e h = absurd (omega arith)
least_is (x ∷ []) d zero l e h = e
least_is (x ∷ []) d (suc k) l e h = absurd (omega arith)
least_is (x ∷ (y ∷ ys)) d zero l e h =
    let low : d ≤ least_of (y ∷ ys) = least_below y ys d (λ q m. h (suc q) (omega arith)) in
    let same : x ≡ d = e in
    omega arith
least_is (x ∷ (y ∷ ys)) d (suc k) l e h =
    let same : least_of (y ∷ ys) ≡ d = least_is (y ∷ ys) d k (omega arith) e (λ q m. h (suc q) (omega arith)) in
    let low : d ≤ x = h 0 (omega arith) in
    omega arith

-- ---- what a filter keeps

abbrev IsAt : (ℕ → Bool) → List ℕ → List ℕ → ℕ → Type 0
IsAt t ys xs k = (q : ℕ) × (q < length xs) × (get_or ys k 0 ≡ get_or xs q 0) × (t (get_or xs q 0) ≡ true)

pub filter_at : (t : ℕ → Bool) (xs : List ℕ) (k : ℕ) → k < length (filter t xs) → (q : ℕ) × (q < length xs) × (get_or (filter t xs) k 0 ≡ get_or xs q 0) × (t (get_or xs q 0) ≡ true)
filter_at t [] k l = absurd (omega arith)
filter_at t (x ∷ xs) k l = step (t x) refl (filter_at t xs) k l
  where
    later : (ys : List ℕ) (k j : ℕ) → get_or ys k 0 ≡ get_or (filter t xs) j 0 → IsAt t (filter t xs) xs j → IsAt t ys (x ∷ xs) k
    later ys k j e w = (suc w.0, omega (arith, w.1), e ∙ w.2, w.3)

    step : (b : Bool) → t x ≡ b → ((j : ℕ) → j < length (filter t xs) → IsAt t (filter t xs) xs j) → (k : ℕ) → k < length (cond b (x ∷ filter t xs) (filter t xs)) →
        IsAt t (cond b (x ∷ filter t xs) (filter t xs)) (x ∷ xs) k
    step true e ih zero l = (0, omega arith, refl, e)
    step true e ih (suc j) l = later (x ∷ filter t xs) (suc j) j refl (ih j (omega arith))
    step false e ih k l = later (filter t xs) k k refl (ih k l)

pub filter_has : (t : ℕ → Bool) (xs : List ℕ) (q : ℕ) → q < length xs → t (get_or xs q 0) ≡ true → (k : ℕ) × (k < length (filter t xs)) × (get_or (filter t xs) k 0 ≡ get_or xs q 0)
filter_has t [] q l y = absurd (omega arith)
filter_has t (x ∷ xs) zero l y = (
  0,
  subst (λ (b : Bool). 0 < length (cond b (x ∷ filter t xs) (filter t xs))) (sym y) (omega arith),
  ap (λ (b : Bool). get_or (cond b (x ∷ filter t xs) (filter t xs)) 0 0) y,
)
filter_has t (x ∷ xs) (suc q) l y =
    let w : (k : ℕ) × (k < length (filter t xs)) × (get_or (filter t xs) k 0 ≡ get_or xs q 0) = filter_has t xs q (omega arith) y in
    elim (cases_Bool (t x)) [
      | inl b ↦ (
        suc w.0,
        subst (λ (b : Bool). suc w.0 < length (cond b (x ∷ filter t xs) (filter t xs))) (sym b) (let lw : w.0 < length (filter t xs) = w.1 in omega arith),
        ap (λ (b : Bool). get_or (cond b (x ∷ filter t xs) (filter t xs)) (suc w.0) 0) b ∙ w.2,
      )
      | inr b ↦ (
        w.0,
        subst (λ (b : Bool). w.0 < length (cond b (x ∷ filter t xs) (filter t xs))) (sym b) w.1,
        ap (λ (b : Bool). get_or (cond b (x ∷ filter t xs) (filter t xs)) w.0 0) b ∙ w.2,
      )
    ]

pub none_kept : (t : ℕ → Bool) (xs : List ℕ) → ((k : ℕ) → k < length xs → t (get_or xs k 0) ≡ false) → filter t xs ≡ []
none_kept t [] h = refl
none_kept t (x ∷ xs) h =
    ap (λ (b : Bool). cond b (x ∷ filter t xs) (filter t xs)) (h 0 (omega arith)) ∙ none_kept t xs (λ k l. h (suc k) (omega arith))

-- ---- what is chosen of the first items

chosen_suc : {X : Type 0} (ms : List Bool) (xs : List X) (k : ℕ) (x : X) → k < length ms → k < length xs →
    chosen (take (suc k) ms) (take (suc k) xs) ≡ chosen (take k ms) (take k xs) ++ cond (get_or ms k false) (get_or xs k x ∷ []) []
chosen_suc {X = X} [] xs k x l m = absurd (omega arith)
chosen_suc {X = X} (t ∷ ms) [] k x l m = absurd (omega arith)
chosen_suc {X = X} (t ∷ ms) (y ∷ xs) zero x l m = refl
chosen_suc {X = X} (t ∷ ms) (y ∷ xs) (suc k) x l m =
    ap (λ (zs : List _). cond t (y ∷ zs) zs) (chosen_suc ms xs k x (omega arith) (omega arith))
    ∙ step t (chosen (take k ms) (take k xs)) (cond (get_or ms k false) (get_or xs k x ∷ []) [])
  where
    step : (b : Bool) (us vs : List X) → cond b (y ∷ (us ++ vs)) (us ++ vs) ≡ cond b (y ∷ us) us ++ vs
    step true us vs = refl
    step false us vs = refl

pub chosen_more : {X : Type 0} (ms : List Bool) (xs : List X) (k : ℕ) (x : X) → k < length ms → k < length xs →
    chosen (take (k + 1) ms) (take (k + 1) xs) ≡ chosen (take k ms) (take k xs) ++ cond (get_or ms k false) (get_or xs k x ∷ []) []
chosen_more ms xs k x l m =
    ap (λ (n : ℕ). chosen (take n ms) (take n xs)) (let s : k + 1 ≡ suc k = omega arith in s) ∙ chosen_suc ms xs k x l m

pub chosen_kept : {X : Type 0} (ms : List Bool) (xs : List X) (k : ℕ) (x : X) (now next : List X) → k < length ms → k < length xs → get_or ms k false ≡ true →
    now ≡ chosen (take k ms) (take k xs) → next ≡ now ++ get_or xs k x ∷ [] → next ≡ chosen (take (k + 1) ms) (take (k + 1) xs)
chosen_kept ms xs k x now next l m mark before is =
    is ∙ ap (λ (zs : List _). zs ++ get_or xs k x ∷ []) before
    ∙ sym (chosen_more ms xs k x l m ∙ ap (λ (b : Bool). chosen (take k ms) (take k xs) ++ cond b (get_or xs k x ∷ []) []) mark)

pub chosen_left : {X : Type 0} (ms : List Bool) (xs : List X) (k : ℕ) (x : X) (now : List X) → k < length ms → k < length xs → get_or ms k false ≡ false →
    now ≡ chosen (take k ms) (take k xs) → now ≡ chosen (take (k + 1) ms) (take (k + 1) xs)
chosen_left ms xs k x now l m mark before =
    before
    ∙ sym (chosen_more ms xs k x l m ∙ ap (λ (b : Bool). chosen (take k ms) (take k xs) ++ cond b (get_or xs k x ∷ []) []) mark ∙ append-nil (chosen (take k ms) (take k xs)))
