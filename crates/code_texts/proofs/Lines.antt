-- Lines that are made of pieces
use Rattle.std.proofs.Common.{◌≡◌, ℕ, ◌+◌, ◌<◌, List, [], ◌∷◌, ◌++◌, length, take, get_or, map, Bool, true, false, cond, sym, ap, ◌∙◌, refl, append-nil, append_assoc, arith}
use Rattle.std.specs.Prelude.{filter}
use Rattle.std.specs.List.{flat_map, range_with_len, join_with_byte}
use Rattle.std.proofs.lemmas.Grind.{flat_map-append}
use Rattle.std.proofs.lemmas.List.{take_more, map-append, map-id}
use Rattle.std.proofs.lemmas.List.Elements.{filter-append}
use Rattle.std.proofs.lemmas.List.FromFn.{map-range_with_len_more}
use Rattle.ag_texts.specs.Lines.{line_of}

-- fields, each with a space before it
abbrev pub spaced : List (List ℕ) → List ℕ
spaced fields = flat_map (λ f. 32 ∷ f) fields

joined-spaced : (word : List ℕ) (fields : List (List ℕ)) → join_with_byte 32 (word ∷ fields) ≡ word ++ spaced fields
joined-spaced word [] = sym (append-nil word)
joined-spaced word (f ∷ fs) = ap (λ (t : List ℕ). word ++ (32 ∷ t)) (joined-spaced f fs)

pub line-spaced : (start word : List ℕ) (fields : List (List ℕ)) (text : List ℕ) → text ≡ (start ++ word) ++ spaced fields → text ++ 10 ∷ [] ≡ start ++ line_of (word ∷ fields)
line-spaced start word fields text h =
    ap (λ (t : List ℕ). t ++ 10 ∷ []) h
    ∙ ap (λ (t : List ℕ). t ++ 10 ∷ []) (append_assoc start word (spaced fields))
    ∙ append_assoc start (word ++ spaced fields) (10 ∷ [])
    ∙ ap (λ (t : List ℕ). start ++ (t ++ 10 ∷ [])) (sym (joined-spaced word fields))

spaced-append : (start text field : List ℕ) (fields : List (List ℕ)) → text ≡ start ++ spaced fields → text ++ 32 ∷ field ≡ start ++ spaced (fields ++ field ∷ [])
spaced-append start text field fields h =
    ap (λ (t : List ℕ). t ++ 32 ∷ field) h
    ∙ append_assoc start (spaced fields) (32 ∷ field)
    ∙ ap (λ (t : List ℕ). start ++ (spaced fields ++ t)) (sym (append-nil (32 ∷ field)))
    ∙ ap (λ (t : List ℕ). start ++ t) (sym (flat_map-append (λ f. 32 ∷ f) fields (field ∷ [])))

pub range-more : (k : ℕ) → range_with_len 0 (k + 1) ≡ range_with_len 0 k ++ k ∷ []
range-more k = sym (map-id (range_with_len 0 (k + 1))) ∙ map-range_with_len_more (λ (x : ℕ). x) 0 k k (let e : 0 + k ≡ k = omega arith in e) ∙ ap (λ (t : List ℕ). t ++ k ∷ []) (map-id (range_with_len 0 k))

-- one more number
pub numbers-more : (f : ℕ → List ℕ) (k : ℕ) (start text : List ℕ) → text ≡ start ++ spaced (map f (range_with_len 0 k)) → text ++ 32 ∷ f k ≡ start ++ spaced (map f (range_with_len 0 (k + 1)))
numbers-more f k start text h =
    spaced-append start text (f k) (map f (range_with_len 0 k)) h
    ∙ ap (λ (t : List (List ℕ)). start ++ spaced t) (sym (ap (λ (t : List ℕ). map f t) (range-more k) ∙ map-append f (range_with_len 0 k) (k ∷ [])))

filter-single : (p : ℕ → Bool) (k : ℕ) (b : Bool) → p k ≡ b → filter p (k ∷ []) ≡ cond b (k ∷ []) []
filter-single p k b e = rw e refl

filter-more : (p : ℕ → Bool) (k : ℕ) (b : Bool) → p k ≡ b → filter p (range_with_len 0 (k + 1)) ≡ filter p (range_with_len 0 k) ++ cond b (k ∷ []) []
filter-more p k b e =
    ap (λ (t : List ℕ). filter p t) (range-more k) ∙ filter-append p (range_with_len 0 k) (k ∷ [])
    ∙ ap (λ (t : List ℕ). filter p (range_with_len 0 k) ++ t) (filter-single p k b e)

pub chosen-more : (f : ℕ → List ℕ) (p : ℕ → Bool) (k : ℕ) (start text : List ℕ) → p k ≡ true → text ≡ start ++ spaced (map f (filter p (range_with_len 0 k))) →
    text ++ 32 ∷ f k ≡ start ++ spaced (map f (filter p (range_with_len 0 (k + 1))))
chosen-more f p k start text e h =
    spaced-append start text (f k) (map f (filter p (range_with_len 0 k))) h
    ∙ ap (λ (t : List (List ℕ)). start ++ spaced t) (sym (ap (λ (t : List ℕ). map f t) (filter-more p k true e) ∙ map-append f (filter p (range_with_len 0 k)) (k ∷ [])))

pub chosen-same : (f : ℕ → List ℕ) (p : ℕ → Bool) (k : ℕ) (start text : List ℕ) → p k ≡ false → text ≡ start ++ spaced (map f (filter p (range_with_len 0 k))) →
    text ≡ start ++ spaced (map f (filter p (range_with_len 0 (k + 1))))
chosen-same f p k start text e h =
    h ∙ ap (λ (t : List ℕ). start ++ spaced (map f t)) (sym (filter-more p k false e ∙ append-nil (filter p (range_with_len 0 k))))

-- one more item
pub items-more : {X : Type 0} (f : X → List ℕ) (xs : List X) (i : ℕ) (d : X) (start text : List ℕ) → i < length xs → text ≡ start ++ spaced (map f (take i xs)) →
    text ++ 32 ∷ f (get_or xs i d) ≡ start ++ spaced (map f (take (i + 1) xs))
items-more f xs i d start text l h =
    spaced-append start text (f (get_or xs i d)) (map f (take i xs)) h
    ∙ ap (λ (t : List (List ℕ)). start ++ spaced t) (sym (ap (λ (t : List _). map f t) (take_more xs i d l) ∙ map-append f (take i xs) (get_or xs i d ∷ [])))

-- one more piece of a text
pub pieces-more : {X : Type 0} (f : X → List ℕ) (xs : List X) (i : ℕ) (d : X) (text : List ℕ) → i < length xs → text ≡ flat_map f (take i xs) → text ++ f (get_or xs i d) ≡ flat_map f (take (i + 1) xs)
pieces-more f xs i d text l h =
    ap (λ (t : List ℕ). t ++ f (get_or xs i d)) h
    ∙ sym (ap (λ (ys : List _). flat_map f ys) (take_more xs i d l)
    ∙ flat_map-append f (take i xs) (get_or xs i d ∷ [])
    ∙ ap (λ (t : List ℕ). flat_map f (take i xs) ++ t) (append-nil (f (get_or xs i d))))

pub ruleset steps = (line-spaced, numbers-more, chosen-more, chosen-same, items-more, pieces-more)
