-- Marks, position by position
use Rattle.std.proofs.Common.{◌≡◌, ℕ, ◌+◌, ◌<◌, ◌≤◌, Bool, true, false, cond, List, [], ◌∷◌, ◌++◌, length, map, take, get_or, filter, sym, ap, ◌∙◌, refl, inl, inr, arith, append-nil, length-append, nat_eq}
use Rattle.std.specs.List.{range_with_len}
use Rattle.std.proofs.lemmas.Bool.{cases_lt}
use Rattle.std.proofs.lemmas.List.{take_more, map-append, map-id, get_or_append_left, get_or_push}
use Rattle.std.proofs.lemmas.List.Elements.{filter-append}
use Rattle.std.proofs.lemmas.List.FromFn.{map-range_with_len_more}
use Rattle.erase_code.specs.Filling.{is_lost}

range-more : (k : ℕ) → range_with_len 0 (k + 1) ≡ range_with_len 0 k ++ k ∷ []
range-more k =
    sym (map-id (range_with_len 0 (k + 1)))
    ∙ map-range_with_len_more (λ (x : ℕ). x) 0 k k (let e : 0 + k ≡ k = omega arith in e)
    ∙ ap (λ (t : List ℕ). t ++ k ∷ []) (map-id (range_with_len 0 k))

filter-single : (p : ℕ → Bool) (k : ℕ) (b : Bool) → p k ≡ b → filter p (k ∷ []) ≡ cond b (k ∷ []) []
filter-single p k b e = rw e refl

filter-more : (p : ℕ → Bool) (k : ℕ) (b : Bool) → p k ≡ b → filter p (range_with_len 0 (k + 1)) ≡ filter p (range_with_len 0 k) ++ cond b (k ∷ []) []
filter-more p k b e =
    ap (λ (t : List ℕ). filter p t) (range-more k)
    ∙ filter-append p (range_with_len 0 k) (k ∷ [])
    ∙ ap (λ (t : List ℕ). filter p (range_with_len 0 k) ++ t) (filter-single p k b e)

pub positions-more : (lost : List Bool) (k : ℕ) (xs : List ℕ) → is_lost lost k ≡ true → xs ≡ filter (is_lost lost) (range_with_len 0 k) → xs ++ k ∷ [] ≡ filter (is_lost lost) (range_with_len 0 (k + 1))
positions-more lost k xs e h = ap (λ (t : List ℕ). t ++ k ∷ []) h ∙ sym (filter-more (is_lost lost) k true e)

pub positions-same : (lost : List Bool) (k : ℕ) (xs : List ℕ) → is_lost lost k ≡ false → xs ≡ filter (is_lost lost) (range_with_len 0 k) → xs ≡ filter (is_lost lost) (range_with_len 0 (k + 1))
positions-same lost k xs e h = h ∙ sym (filter-more (is_lost lost) k false e ∙ append-nil (filter (is_lost lost) (range_with_len 0 k)))

-- one more mark
pub lost-more : (marks : List ℕ) (i : ℕ) (lost : List Bool) → i < length marks → lost ≡ map (λ m. nat_eq m 1) (take i marks) → lost ++ nat_eq (get_or marks i 0) 1 ∷ [] ≡ map (λ m. nat_eq m 1) (take (i + 1) marks)
lost-more marks i lost l h =
    ap (λ (t : List Bool). t ++ nat_eq (get_or marks i 0) 1 ∷ []) h
    ∙ sym (ap (λ (t : List ℕ). map (λ m. nat_eq m 1) t) (take_more marks i 0 l) ∙ map-append (λ m. nat_eq m 1) (take i marks) (get_or marks i 0 ∷ []))

-- the next position is above those before it
pub pushed-below : (xs ys : List ℕ) (k : ℕ) → ys ≡ xs ++ k ∷ [] → ((i : ℕ) → i < length xs → get_or xs i 0 < k) → (i : ℕ) → i < length ys → get_or ys i 0 < k + 1
pushed-below xs ys k e h i l =
    let long : length ys ≡ length xs + 1 = ap length e ∙ length-append xs (k ∷ []) in
    elim (cases_lt i (length xs)) [
      | inl a ↦
          let same : get_or ys i 0 ≡ get_or xs i 0 = ap (λ (v : List ℕ). get_or v i 0) e ∙ get_or_append_left xs (k ∷ []) 0 i a in
          let below : get_or xs i 0 < k = h i a in
          omega arith
      | inr a ↦
          let last : get_or ys i 0 ≡ k = ap (λ (v : List ℕ). get_or v i 0) e ∙ get_or_push xs k 0 i (let w : length xs ≡ i = omega arith in w) in
          omega arith
    ]

pub pushed-few : (xs ys : List ℕ) (k : ℕ) → ys ≡ xs ++ k ∷ [] → length xs ≤ k → length ys ≤ k + 1
pushed-few xs ys k e l = let long : length ys ≡ length xs + 1 = ap length e ∙ length-append xs (k ∷ []) in omega arith

pub ruleset marking = (positions-more, positions-same, lost-more)
