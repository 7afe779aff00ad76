-- The words of the small code, one by one.
use Rattle.std.proofs.Common.{ℕ, zero, suc, ◌+◌, ◌*◌, ◌%◌, ◌<◌, ◌≤◌, ◌≡◌, ◌≢◌, Bool, true, false, cond, nat_eq, nat_le, List, [], ◌∷◌, length, get_or, map, take, drop, Option, Some, None, unwrap_or, slice_index, refl, sym, ap, ap₂, ◌∙◌, arith, add-one, drop-cons}
use Rattle.std.specs.List.{find}
use Rattle.std.proofs.lemmas.List.{drop_all, get_or-map, length-map, same_lists, get_or_default}
use Rattle.std.proofs.lemmas.Bool.{eq-eqb, ne_eqb, le-leb, lt-leb}
use Rattle.stored_form.specs.Form.{distance}
use Rattle.stored_form.specs.Search.{first_within}
use Rattle.stored_form.specs.SmallCode.{small_added, small_multiple, small_words, small_form}
use Rattle.stored_form.proofs.SmallCodeLemmas.{small_form_is_sound}
use Rattle.coded_block.specs.Codes.{IsCode, verdict_by}
use Rattle.coded_block.specs.declared.Verdict.TheVariants.{Near, Beyond}
use Rattle.small_block.specs.declared.TheConstants.{WORDS}

pub small_is_code : IsCode (small_form 1)
small_is_code = record {
  sound = small_form_is_sound;
  bits_least = omega arith;
  n_most = omega arith;
}

pub words_are : WORDS ≡ small_words
words_are = refl

-- ---- the word of three symbols
abbrev pub word_of_three : ℕ → ℕ → ℕ → List ℕ
word_of_three a b c = small_added (small_multiple a (1 ∷ 0 ∷ 0 ∷ 1 ∷ 2 ∷ 3 ∷ 1 ∷ 0 ∷ []))
    (small_added (small_multiple b (0 ∷ 1 ∷ 0 ∷ 1 ∷ 1 ∷ 0 ∷ 3 ∷ 2 ∷ []))
    (small_multiple c (0 ∷ 0 ∷ 1 ∷ 1 ∷ 2 ∷ 2 ∷ 3 ∷ 3 ∷ [])))

below_four : (P : ℕ → Type 0) → P 0 → P 1 → P 2 → P 3 → (n : ℕ) → n < 4 → P n
below_four P p0 p1 p2 p3 zero h = p0
below_four P p0 p1 p2 p3 (suc zero) h = p1
below_four P p0 p1 p2 p3 (suc (suc zero)) h = p2
below_four P p0 p1 p2 p3 (suc (suc (suc zero))) h = p3
below_four P p0 p1 p2 p3 (suc (suc (suc (suc n)))) h = absurd (omega arith)

abbrev IsWord : ℕ → ℕ → ℕ → Type 0
IsWord a b c = get_or WORDS (a * 16 + b * 4 + c) [] ≡ word_of_three a b c

pub word_at : (a b c : ℕ) → a < 4 → b < 4 → c < 4 → get_or WORDS (a * 16 + b * 4 + c) [] ≡ word_of_three a b c
word_at a b c small_a small_b small_c =
    below_four (λ x. (y : ℕ) → y < 4 → (z : ℕ) → z < 4 → IsWord x y z)
    (below_four (λ y. (z : ℕ) → z < 4 → IsWord 0 y z) (below_four (IsWord 0 0) refl refl refl refl) (below_four (IsWord 0 1) refl refl refl refl) (below_four (IsWord 0 2) refl refl refl refl) (below_four (IsWord 0 3) refl refl refl refl))
    (below_four (λ y. (z : ℕ) → z < 4 → IsWord 1 y z) (below_four (IsWord 1 0) refl refl refl refl) (below_four (IsWord 1 1) refl refl refl refl) (below_four (IsWord 1 2) refl refl refl refl) (below_four (IsWord 1 3) refl refl refl refl))
    (below_four (λ y. (z : ℕ) → z < 4 → IsWord 2 y z) (below_four (IsWord 2 0) refl refl refl refl) (below_four (IsWord 2 1) refl refl refl refl) (below_four (IsWord 2 2) refl refl refl refl) (below_four (IsWord 2 3) refl refl refl refl))
    (below_four (λ y. (z : ℕ) → z < 4 → IsWord 3 y z) (below_four (IsWord 3 0) refl refl refl refl) (below_four (IsWord 3 1) refl refl refl refl) (below_four (IsWord 3 2) refl refl refl refl) (below_four (IsWord 3 3) refl refl refl refl))
    a
    small_a
    b
    small_b
    c
    small_c

-- ---- a search, word by word
pub find_skip : (p : List ℕ → Bool) (xs : List (List ℕ)) (i : ℕ) (d : List ℕ) → i < length xs → p (get_or xs i d) ≡ false → find p (drop i xs) ≡ find p (drop (i + 1) xs)
find_skip p xs i d below far =
    ap (find p) (drop-cons xs i d below)
    ∙ ap (λ b. cond b (Some (get_or xs i d)) (find p (drop (suc i) xs))) far
    ∙ ap (λ n. find p (drop n xs)) (sym (add-one i))

pub find_here : (p : List ℕ → Bool) (xs : List (List ℕ)) (i : ℕ) (d : List ℕ) → i < length xs → p (get_or xs i d) ≡ true → find p (drop i xs) ≡ Some (get_or xs i d)
find_here p xs i d below near =
    ap (find p) (drop-cons xs i d below) ∙ ap (λ b. cond b (Some (get_or xs i d)) (find p (drop (suc i) xs))) near

pub skip_word : (words : List (List ℕ)) (got candidate : List ℕ) (i changes : ℕ) → i < length words → get_or words i [] ≡ candidate → changes ≡ distance got candidate → 2 < changes → first_within 2 words got ≡ first_within 2 (drop i words) got → first_within 2 words got ≡ first_within 2 (drop (i + 1) words) got
skip_word words got candidate i changes below is count far so_far =
    let d : distance got (get_or words i []) ≡ changes = ap (distance got) is ∙ sym count in
    so_far ∙ find_skip (λ c. nat_le (distance got c) 2) words i [] below (lt-leb (distance got (get_or words i [])) 2 (omega arith))

pub found_word : (words : List (List ℕ)) (got candidate : List ℕ) (i changes : ℕ) → i < length words → get_or words i [] ≡ candidate → changes ≡ distance got candidate → changes ≤ 2 → first_within 2 words got ≡ first_within 2 (drop i words) got → first_within 2 words got ≡ Some candidate
found_word words got candidate i changes below is count near so_far =
    let d : distance got (get_or words i []) ≡ changes = ap (distance got) is ∙ sym count in
    so_far ∙ find_here (λ c. nat_le (distance got c) 2) words i [] below (le-leb (distance got (get_or words i [])) 2 (omega arith)) ∙ ap Some is

pub no_word : (words : List (List ℕ)) (got : List ℕ) (i : ℕ) → length words ≤ i → first_within 2 words got ≡ first_within 2 (drop i words) got → first_within 2 words got ≡ None
no_word words got i past so_far = so_far ∙ ap (λ l. first_within 2 l got) (drop_all i words past)

-- ---- counted places
pub distance_step : (xs ys : List ℕ) (p : ℕ) → p < length xs → p < length ys → distance (drop p xs) (drop p ys) ≡ cond (nat_eq (get_or xs p 0) (get_or ys p 0)) 0 1 + distance (drop (p + 1) xs) (drop (p + 1) ys)
distance_step xs ys p below_x below_y =
    ap₂ distance (drop-cons xs p 0 below_x) (drop-cons ys p 0 below_y)
    ∙ ap (λ n. cond (nat_eq (get_or xs p 0) (get_or ys p 0)) 0 1 + distance (drop n xs) (drop n ys)) (sym (add-one p))

pub same_place : (xs ys : List ℕ) (p : ℕ) → p < length xs → p < length ys → get_or xs p 0 ≡ get_or ys p 0 → distance (drop p xs) (drop p ys) ≡ distance (drop (p + 1) xs) (drop (p + 1) ys)
same_place xs ys p below_x below_y same =
    distance_step xs ys p below_x below_y ∙ ap (λ b. cond b 0 1 + distance (drop (p + 1) xs) (drop (p + 1) ys)) (eq-eqb (get_or xs p 0) (get_or ys p 0) same) ∙ omega arith

pub other_place : (xs ys : List ℕ) (p : ℕ) → p < length xs → p < length ys → get_or xs p 0 ≢ get_or ys p 0 → distance (drop p xs) (drop p ys) ≡ 1 + distance (drop (p + 1) xs) (drop (p + 1) ys)
other_place xs ys p below_x below_y other =
    distance_step xs ys p below_x below_y ∙ ap (λ b. cond b 0 1 + distance (drop (p + 1) xs) (drop (p + 1) ys)) (ne_eqb (get_or xs p 0) (get_or ys p 0) other)

pub no_places : (xs ys : List ℕ) (p : ℕ) → length xs ≤ p → distance (drop p xs) (drop p ys) ≡ 0
no_places xs ys p past = ap (λ l. distance l (drop p ys)) (drop_all p xs past)

-- ---- symbols
pub low_all : (got word : List ℕ) (p : ℕ) → length word ≡ length got → length got ≤ p → ((k : ℕ) → k < p → get_or word k 0 ≡ get_or got k 0 % 4) → word ≡ map (λ b. b % 4) got
low_all got word p long past each =
    same_lists word (map (λ b. b % 4) got) (long ∙ sym (length-map got (λ b. b % 4)))
    (λ k d below. let inside : k < length got = omega arith in get_or_default word k d 0 below ∙ each k (omega arith) ∙ sym (get_or-map (λ b. b % 4) got k 0 d inside))

-- ---- messages
pub first_three : (word : List ℕ) → length word ≡ 8 → take 3 word ≡ slice_index word 0 ∷ slice_index word 1 ∷ slice_index word 2 ∷ []
first_three [] long = absurd (omega arith)
first_three (a ∷ []) long = absurd (omega arith)
first_three (a ∷ b ∷ []) long = absurd (omega arith)
first_three (a ∷ b ∷ c ∷ rest) long = refl
