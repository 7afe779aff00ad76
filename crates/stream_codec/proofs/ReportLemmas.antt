-- The changes of a block place by place.
use Rattle.std.proofs.Common.{ℕ, zero, suc, ◌+◌, ◌-◌, ◌≤◌, ◌≡◌, ◌≢◌, Bool, true, false, cond, not, nat_eq, List, [], ◌∷◌, ◌++◌, length, map, filter, slice_index, refl, ap, ap₂, sym, ◌∙◌, arith, suc-add}
use Rattle.std.specs.List.{range_with_len}
use Rattle.std.proofs.lemmas.List.{append-nil, map-append, length-map}
use Rattle.std.proofs.lemmas.List.Elements.{filter-append}
use Rattle.std.proofs.lemmas.List.Concat.{flat_map-append}
use Rattle.std.proofs.lemmas.List.FromFn.{length-range_with_len}
use Rattle.std.proofs.lemmas.Bool.{eq-eqb, ne_eqb}
use Rattle.stored_form.specs.Reading.{Change}
use Rattle.stream_codec.specs.Report.{change_line, lines_of}
use Rattle.stream_codec.specs.GroupLines.{place_changes}

abbrev pub change_at : ℕ → ℕ → List ℕ → List ℕ → ℕ → Change
change_at group word y c p = record { group = group; word = word; place = p; old = slice_index y p; new = slice_index c p }

abbrev pub differs : List ℕ → List ℕ → ℕ → Bool
differs y c p = not (nat_eq (slice_index y p) (slice_index c p))

range_split : (a n k : ℕ) → range_with_len a (n + k) ≡ range_with_len a n ++ range_with_len (a + n) k
range_split a zero k = ap₂ range_with_len (let e : a ≡ a + 0 = omega arith in e) (let e : 0 + k ≡ k = omega arith in e)
range_split a (suc n) k =
    ap (range_with_len a) (suc-add n k) ∙ ap (λ l. a ∷ l) (range_split (a + 1) n k ∙ ap (λ b. range_with_len (a + 1) n ++ range_with_len b k) (let e : a + 1 + n ≡ a + suc n = omega arith in e))

-- the changes at k places from place n on
abbrev pub later_changes : ℕ → ℕ → ℕ → ℕ → List ℕ → List ℕ → List Change
later_changes n k group word y c = map (change_at group word y c) (filter (differs y c) (range_with_len n k))

pub place_changes_split : (n k group word : ℕ) (y c : List ℕ) → place_changes (n + k) group word y c ≡ place_changes n group word y c ++ later_changes n k group word y c
place_changes_split n k group word y c =
    ap (λ l. map (change_at group word y c) (filter (differs y c) l)) (range_split 0 n k ∙ ap (λ b. range_with_len 0 n ++ range_with_len b k) (let e : 0 + n ≡ n = omega arith in e))
    ∙ ap (map (change_at group word y c)) (filter-append (differs y c) (range_with_len 0 n) (range_with_len n k))
    ∙ map-append (change_at group word y c) (filter (differs y c) (range_with_len 0 n)) (filter (differs y c) (range_with_len n k))

-- one place
one_change : (b : Bool) (group word : ℕ) (y c : List ℕ) (n : ℕ) → differs y c n ≡ b → later_changes n 1 group word y c ≡ cond b (change_at group word y c n ∷ []) []
one_change b group word y c n e = ap (λ (t : Bool). map (change_at group word y c) (cond t (n ∷ []) [])) e ∙ go b
  where
    go : (t : Bool) → map (change_at group word y c) (cond t (n ∷ []) []) ≡ cond t (change_at group word y c n ∷ []) []
    go true = refl
    go false = refl

pub place_changes_same : (n group word : ℕ) (y c : List ℕ) → slice_index y n ≡ slice_index c n → place_changes (n + 1) group word y c ≡ place_changes n group word y c
place_changes_same n group word y c same =
    place_changes_split n 1 group word y c
    ∙ ap (λ l. place_changes n group word y c ++ l) (one_change false group word y c n (ap not (eq-eqb _ _ same)))
    ∙ append-nil (place_changes n group word y c)

pub place_changes_new : (n group word : ℕ) (y c : List ℕ) → slice_index y n ≢ slice_index c n → place_changes (n + 1) group word y c ≡ place_changes n group word y c ++ change_at group word y c n ∷ []
place_changes_new n group word y c other =
    place_changes_split n 1 group word y c
    ∙ ap (λ l. place_changes n group word y c ++ l) (one_change true group word y c n (ap not (ne_eqb _ _ other)))

filter_few : (p : ℕ → Bool) (xs : List ℕ) → length (filter p xs) ≤ length xs
filter_few p [] = omega arith
filter_few p (x ∷ xs) = go (p x) (filter_few p xs)
  where
    go : (b : Bool) → length (filter p xs) ≤ length xs → length (cond b (x ∷ filter p xs) (filter p xs)) ≤ suc (length xs)
    go true h = omega arith
    go false h = omega arith

pub few_place_changes : (n group word : ℕ) (y c : List ℕ) → length (place_changes n group word y c) ≤ n
few_place_changes n group word y c = omega (arith, length-map (filter (differs y c) (range_with_len 0 n)) (change_at group word y c), filter_few (differs y c) (range_with_len 0 n), length-range_with_len 0 n)

-- ---- lines
pub lines_of-append : (xs ys : List Change) → lines_of (xs ++ ys) ≡ lines_of xs ++ lines_of ys
lines_of-append xs ys = flat_map-append change_line xs ys

pub lines_of_one : (x : Change) → lines_of (x ∷ []) ≡ change_line x
lines_of_one x = append-nil (change_line x)

pub lines_of_new : (n group word : ℕ) (y c : List ℕ) → slice_index y n ≢ slice_index c n → lines_of (place_changes (n + 1) group word y c) ≡ lines_of (place_changes n group word y c) ++ change_line (change_at group word y c n)
lines_of_new n group word y c other =
    ap lines_of (place_changes_new n group word y c other)
    ∙ lines_of-append (place_changes n group word y c) (change_at group word y c n ∷ [])
    ∙ ap (λ l. lines_of (place_changes n group word y c) ++ l) (lines_of_one (change_at group word y c n))

-- the lines at more places
pub lines_of_places : (n m group word : ℕ) (y c : List ℕ) → n ≤ m → (more : List ℕ) × (lines_of (place_changes m group word y c) ≡ lines_of (place_changes n group word y c) ++ more)
lines_of_places n m group word y c below =
    let split : n + (m - n) ≡ m = omega arith in (
      lines_of (later_changes n (m - n) group word y c),
      ap (λ k. lines_of (place_changes k group word y c)) (sym split) ∙ ap lines_of (place_changes_split n (m - n) group word y c) ∙ lines_of-append (place_changes n group word y c) (later_changes n (m - n) group word y c),
    )
