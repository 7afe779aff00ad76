-- Where a list is cut at the first element that fails a test, it is cut in one way
use Rattle.std.proofs.Common.{one-add, ◌≡◌, ℕ, ◌^◌, ◌<◌, ◌≤◌, Bool, true, false, Option, Some, None, List, [], ◌∷◌, ◌++◌, length, take, drop, refl, ap, sym, ◌∙◌, subst, arith, inl, inr}
use Rattle.std.specs.Prelude.{not, nat_eq, nat_lt, position}
use Rattle.std.specs.List.{list_all, starts_with, position_or_len}
use Rattle.std.specs.Fmt.{decimal}
use Rattle.std.specs.Str.{all_ascii_digits}
use Rattle.std.specs.Char.{is_ascii_digit}
use Rattle.std.proofs.lemmas.Bool.Decides.{nat_tests}
use Rattle.std.proofs.lemmas.Bool.{and_parts, and_from, cases_Bool}
use Rattle.ag_texts.specs.Numbers.{number_in, is_number}
use Rattle.ag_texts.proofs.Numbers.{number_read_back, number_text_from_test, number_in_other}

-- a list that is empty or begins with an element that fails
abbrev pub Stops : (ℕ → Bool) → List ℕ → Type 0
Stops p [] = Unit {0}
Stops p (x ∷ xs) = p x ≡ false

pub record AreSame (xs ys A B : List ℕ) : Type 0 where
  pub fronts : xs ≡ ys
  pub rests : A ≡ B

pub split_once : (p : ℕ → Bool) (xs ys A B : List ℕ) → list_all p xs ≡ true → list_all p ys ≡ true → Stops p A → Stops p B → xs ++ A ≡ ys ++ B → AreSame xs ys A B
split_once p [] [] A B hx hy sa sb e = record { fronts = refl; rests = e }
split_once p [] (y ∷ ys) [] B hx hy sa sb e = cc
split_once p [] (y ∷ ys) (a ∷ A) B hx hy sa sb e =
    let h : a ≡ y = cc in
    let u : p y ≡ true = (and_parts (p y) (list_all p ys) hy).0 in
    let v : p y ≡ false = subst (λ (z : ℕ). p z ≡ false) h sa in
    absurd (let w : true ≡ false = sym u ∙ v in cc w)
split_once p (x ∷ xs) [] A [] hx hy sa sb e = cc
split_once p (x ∷ xs) [] A (b ∷ B) hx hy sa sb e =
    let h : b ≡ x = cc in
    let u : p x ≡ true = (and_parts (p x) (list_all p xs) hx).0 in
    let v : p x ≡ false = subst (λ (z : ℕ). p z ≡ false) h sb in
    absurd (let w : true ≡ false = sym u ∙ v in cc w)
split_once p (x ∷ xs) (y ∷ ys) A B hx hy sa sb e =
    let h : x ≡ y = cc in
    let t : xs ++ A ≡ ys ++ B = cc in
    let r : AreSame xs ys A B = split_once p xs ys A B (and_parts (p x) (list_all p xs) hx).1 (and_parts (p y) (list_all p ys) hy).1 sa sb t in
    record { fronts = ap (λ (z : ℕ). z ∷ xs) h ∙ ap (λ (zs : List ℕ). y ∷ zs) r.fronts; rests = r.rests }

-- the same front leaves the same rest
pub same_rest : (xs A B : List ℕ) → xs ++ A ≡ xs ++ B → A ≡ B
same_rest [] A B e = e
same_rest (x ∷ xs) A B e = same_rest xs A B (let t : xs ++ A ≡ xs ++ B = cc in t)

-- ---- numbers
decimal_digits : (v : ℕ) → v < 10 ^ 19 → all_ascii_digits (decimal v) ≡ true
decimal_digits v small = elim (cases_Bool (is_number (decimal v))) [
  | inl t ↦ (number_text_from_test (decimal v) t).digits
  | inr f ↦ let none : number_in (decimal v) ≡ None = number_in_other (decimal v) f in let some : number_in (decimal v) ≡ Some v = number_read_back v small in absurd (let w : ◌≡◌ {A = Option ℕ} None (Some v) = sym none ∙ some in cc w)
]

digit_is_no : (c x : ℕ) → is_ascii_digit x ≡ true → c < 48 → not (nat_eq x c) ≡ true
digit_is_no c x d l = grind (arith, nat_tests)

digits_are_no : (c : ℕ) (xs : List ℕ) → c < 48 → all_ascii_digits xs ≡ true → list_all (λ x. not (nat_eq x c)) xs ≡ true
digits_are_no c [] l h = refl
digits_are_no c (x ∷ xs) l h = let parts = and_parts (is_ascii_digit x) (all_ascii_digits xs) h in and_from _ _ (digit_is_no c x parts.0 l) (digits_are_no c xs l parts.1)

-- neither a space nor a line feed stands in a number
pub number_without : (c v : ℕ) → c < 48 → v < 10 ^ 19 → list_all (λ x. not (nat_eq x c)) (decimal v) ≡ true
number_without c v l small = digits_are_no c (decimal v) l (decimal_digits v small)

pub numbers_same : (v w : ℕ) → v < 10 ^ 19 → w < 10 ^ 19 → decimal v ≡ decimal w → v ≡ w
numbers_same v w lv lw e =
    let a : number_in (decimal v) ≡ Some v = number_read_back v lv in
    let b : number_in (decimal w) ≡ Some w = number_read_back w lw in
    let c : number_in (decimal v) ≡ number_in (decimal w) = ap number_in e in
    let d : Some v ≡ Some w = sym a ∙ c ∙ b in
    cc

-- ---- words
pub starts_yes : (xs word : List ℕ) → starts_with nat_eq xs word ≡ true → (length word ≤ length xs) × (xs ≡ word ++ drop (length word) xs)
starts_yes xs [] h = (omega arith, refl)
starts_yes [] (w ∷ word) h = absurd (let f : false ≡ true = h in cc f)
starts_yes (x ∷ xs) (w ∷ word) h =
    let parts = and_parts (nat_eq w x) (starts_with nat_eq xs word) h in
    let e : w ≡ x = grind (arith, nat_tests, parts.0) in
    let r = starts_yes xs word parts.1 in
    (omega (arith, r.0), ap (λ (z : ℕ). z ∷ xs) (sym e) ∙ ap (λ (zs : List ℕ). w ∷ zs) r.1)

pub starts_itself : (word rest : List ℕ) → starts_with nat_eq (word ++ rest) word ≡ true
starts_itself [] rest = refl
starts_itself (w ∷ word) rest = and_from _ _ (grind (arith, nat_tests)) (starts_itself word rest)

-- ---- the first element that passes
pub pol_some : (p : ℕ → Bool) (xs : List ℕ) (i : ℕ) → position p xs ≡ Some i → position_or_len p xs ≡ i
pol_some p xs i e = elim (cases_Bool (nat_lt (position_or_len p xs) (length xs))) [
  | inl t ↦ let u : position p xs ≡ Some (position_or_len p xs) = rw t refl in let w : Some (position_or_len p xs) ≡ Some i = sym u ∙ e in cc
  | inr f ↦ let u : position p xs ≡ None = rw f refl in absurd (let w : ◌≡◌ {A = Option ℕ} None (Some i) = sym u ∙ e in cc w)
]

pub pol_none : (p : ℕ → Bool) (xs : List ℕ) → position p xs ≡ None → length xs ≤ position_or_len p xs
pol_none p xs e = elim (cases_Bool (nat_lt (position_or_len p xs) (length xs))) [
  | inl t ↦ let u : position p xs ≡ Some (position_or_len p xs) = rw t refl in absurd (let w : ◌≡◌ {A = Option ℕ} None (Some (position_or_len p xs)) = sym e ∙ u in cc w)
  | inr f ↦ grind (arith, nat_tests, f)
]

pub pol-le : (p : ℕ → Bool) (xs : List ℕ) → position_or_len p xs ≤ length xs
pol-le p [] = omega arith
pol-le p (x ∷ xs) = elim (cases_Bool (not (p x))) [
  | inl t ↦ rw t (omega (arith, pol-le p xs))
  | inr f ↦ rw f (omega arith)
]

pub before_passes : (p : ℕ → Bool) (xs : List ℕ) → list_all (λ x. not (p x)) (take (position_or_len p xs) xs) ≡ true
before_passes p [] = refl
before_passes p (x ∷ xs) = elim (cases_Bool (not (p x))) [
  | inl t ↦ rw t (rw one-add (rw t (before_passes p xs)))
  | inr f ↦ rw f refl
]

pub rest_stops : (p : ℕ → Bool) (xs : List ℕ) → Stops (λ x. not (p x)) (drop (position_or_len p xs) xs)
rest_stops p [] = tt
rest_stops p (x ∷ xs) = elim (cases_Bool (not (p x))) [
  | inl t ↦ rw t (rw one-add (rest_stops p xs))
  | inr f ↦ rw f f
]
