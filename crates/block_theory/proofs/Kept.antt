-- The numbers below n that pass a test, rising.
use Rattle.std.proofs.Common.{◌≡◌, ℕ, zero, suc, ◌+◌, ◌<◌, Bool, true, false, cond, List, [], ◌∷◌, ◌++◌, length, get_or, refl, sym, ◌∙◌, ap, subst, inl, inr, arith}
use Rattle.std.specs.Prelude.{filter}
use Rattle.std.specs.List.{range_with_len}
use Rattle.std.proofs.lemmas.Bool.{cases_Bool}
use Rattle.std.proofs.lemmas.List.{length-append, append-nil, get_or_append_left, get_or_push}
use Rattle.std.proofs.lemmas.List.Elements.{filter-append}
use Rattle.field_theory.specs.Sums.{count_below}
use Rattle.field_theory.proofs.Sums.{eq_or_below}
use Rattle.field_theory.proofs.Counts.{count_below-yes, count_below-no}

-- the numbers below n that pass
abbrev pub kept : (ℕ → Bool) → ℕ → List ℕ
kept test n = filter test (range_with_len 0 n)

range_from : (a n : ℕ) → range_with_len a (suc n) ≡ range_with_len a n ++ (a + n) ∷ []
range_from a zero = ap (λ (k : ℕ). k ∷ []) (let e : a ≡ a + 0 = omega arith in e)
range_from a (suc n) = ap (λ (r : List ℕ). a ∷ r) (range_from (a + 1) n ∙ ap (λ (k : ℕ). range_with_len (a + 1) n ++ k ∷ []) (let e : a + 1 + n ≡ a + suc n = omega arith in e))

pub kept_more : (test : ℕ → Bool) (n : ℕ) → kept test (suc n) ≡ kept test n ++ filter test (n ∷ [])
kept_more test n =
    ap (filter test) (range_from 0 n ∙ ap (λ (k : ℕ). range_with_len 0 n ++ k ∷ []) (let e : 0 + n ≡ n = omega arith in e))
    ∙ filter-append test (range_with_len 0 n) (n ∷ [])

one_kept : (test : ℕ → Bool) (n : ℕ) → test n ≡ true → filter test (n ∷ []) ≡ n ∷ []
one_kept test n e = ap (λ (b : Bool). cond b (n ∷ []) []) e

none_kept : (test : ℕ → Bool) (n : ℕ) → test n ≡ false → filter test (n ∷ []) ≡ []
none_kept test n e = ap (λ (b : Bool). cond b (n ∷ []) []) e

pub kept_more-yes : (test : ℕ → Bool) (n : ℕ) → test n ≡ true → kept test (suc n) ≡ kept test n ++ n ∷ []
kept_more-yes test n e = kept_more test n ∙ ap (λ (r : List ℕ). kept test n ++ r) (one_kept test n e)

pub kept_more-no : (test : ℕ → Bool) (n : ℕ) → test n ≡ false → kept test (suc n) ≡ kept test n
kept_more-no test n e = kept_more test n ∙ ap (λ (r : List ℕ). kept test n ++ r) (none_kept test n e) ∙ append-nil (kept test n)

-- tests that agree below n keep the same
pub kept-same : (f g : ℕ → Bool) (n : ℕ) → ((q : ℕ) → q < n → f q ≡ g q) → kept f n ≡ kept g n
kept-same f g zero h = refl
kept-same f g (suc n) h =
    kept_more f n
    ∙ ap (λ (r : List ℕ). r ++ filter f (n ∷ [])) (kept-same f g n (λ q l. h q (omega arith)))
    ∙ ap (λ (b : Bool). kept g n ++ cond b (n ∷ []) []) (h n (omega arith))
    ∙ sym (kept_more g n)

-- what is known of each that is kept, and that each that passes is
pub record AreKept (test : ℕ → Bool) (n : ℕ) (xs : List ℕ) : Type 0 where
  pub below : (i : ℕ) → i < length xs → get_or xs i 0 < n
  pub pass : (i : ℕ) → i < length xs → test (get_or xs i 0) ≡ true
  pub rise : (i j : ℕ) → i < j → j < length xs → get_or xs i 0 < get_or xs j 0
  pub found : (q : ℕ) → q < n → test q ≡ true → (i : ℕ) × (i < length xs) × (get_or xs i 0 ≡ q)

kept_next-no : (test : ℕ → Bool) (n : ℕ) (xs : List ℕ) → test n ≡ false → AreKept test n xs → AreKept test (suc n) xs
kept_next-no test n xs e h = record {
  below = λ i l. (let b : get_or xs i 0 < n = h.below i l in omega arith);
  pass = h.pass;
  rise = h.rise;
  found = λ q l p. elim (eq_or_below q n l) [
    | inl d ↦ (let f : test n ≡ true = ap test (sym d) ∙ p in absurd (cc))
    | inr b ↦ h.found q b p
  ];
}

kept_next-yes : (test : ℕ → Bool) (n : ℕ) (xs : List ℕ) → test n ≡ true → AreKept test n xs → AreKept test (suc n) (xs ++ n ∷ [])
kept_next-yes test n xs e h = record {
  below = λ i l. elim (eq_or_below i (length xs) (in_range i l)) [
    | inl d ↦ subst (λ (v : ℕ). v < suc n) (sym (at_last i d)) (omega arith)
    | inr b ↦ (let c : get_or xs i 0 < n = h.below i b in subst (λ (v : ℕ). v < suc n) (sym (at_front i b)) (omega arith))
  ];
  pass = λ i l. elim (eq_or_below i (length xs) (in_range i l)) [
    | inl d ↦ ap test (at_last i d) ∙ e
    | inr b ↦ ap test (at_front i b) ∙ h.pass i b
  ];
  rise = λ i j a l. elim (eq_or_below j (length xs) (in_range j l)) [
    | inl d ↦
        let b : i < length xs = omega arith in
        let c : get_or xs i 0 < n = h.below i b in
        subst (λ (v : ℕ). v < get_or (xs ++ n ∷ []) j 0) (sym (at_front i b)) (subst (λ (v : ℕ). get_or xs i 0 < v) (sym (at_last j d)) c)
    | inr b ↦
        let c : i < length xs = omega arith in
        subst (λ (v : ℕ). v < get_or (xs ++ n ∷ []) j 0) (sym (at_front i c)) (subst (λ (v : ℕ). get_or xs i 0 < v) (sym (at_front j b)) (h.rise i j a b))
  ];
  found = λ q l p. elim (eq_or_below q n l) [
    | inl d ↦ (length xs, let w : length (xs ++ n ∷ []) ≡ length xs + 1 = length-append xs (n ∷ []) in omega arith, at_last (length xs) refl ∙ sym d)
    | inr b ↦
        let (i, li, f) = h.found q b p in
        (i, let w : length (xs ++ n ∷ []) ≡ length xs + 1 = length-append xs (n ∷ []) in omega arith, at_front i li ∙ f)
  ];
}
  where
    in_range : (i : ℕ) → i < length (xs ++ n ∷ []) → i < suc (length xs)
    in_range i l = let w : length (xs ++ n ∷ []) ≡ length xs + 1 = length-append xs (n ∷ []) in omega arith

    at_last : (i : ℕ) → i ≡ length xs → get_or (xs ++ n ∷ []) i 0 ≡ n
    at_last i d = get_or_push xs n 0 i (sym d)

    at_front : (i : ℕ) → i < length xs → get_or (xs ++ n ∷ []) i 0 ≡ get_or xs i 0
    at_front i l = get_or_append_left xs (n ∷ []) 0 i l

pub are_kept : (test : ℕ → Bool) (n : ℕ) → AreKept test n (kept test n)
are_kept test zero = record {
  below = λ i l. absurd (omega arith);
  pass = λ i l. absurd (omega arith);
  rise = λ i j a l. absurd (omega arith);
  found = λ q l p. absurd (omega arith);
}
are_kept test (suc n) = elim (cases_Bool (test n)) [
  | inl e ↦ subst (AreKept test (suc n)) (sym (kept_more-yes test n e)) (kept_next-yes test n (kept test n) e (are_kept test n))
  | inr e ↦ subst (AreKept test (suc n)) (sym (kept_more-no test n e)) (kept_next-no test n (kept test n) e (are_kept test n))
]

-- as many are kept as pass
pub length-kept : (test : ℕ → Bool) (n : ℕ) → length (kept test n) ≡ count_below n test
length-kept test zero = refl
length-kept test (suc n) = elim (cases_Bool (test n)) [
  | inl e ↦ ap length (kept_more-yes test n e) ∙ length-append (kept test n) (n ∷ []) ∙ ap (λ (k : ℕ). k + 1) (length-kept test n) ∙ sym (count_below-yes n test e)
  | inr e ↦ ap length (kept_more-no test n e) ∙ length-kept test n ∙ sym (count_below-no n test e)
]
