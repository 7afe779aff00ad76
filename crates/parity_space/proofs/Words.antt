-- The word that a `Parity` makes of a message is a codeword with the message at its places.
use Rattle.std.proofs.Common.{◌≡◌, ℕ, ◌+◌, ◌-◌, ◌<◌, ◌≤◌, ◌^◌, List, ◌++◌, length, take, get_or, slice_index, All, refl, sym, ◌∙◌, ap, subst, inl, inr, arith}
use Rattle.std.specs.Prelude.{nat_lt}
use Rattle.std.proofs.lemmas.Bool.{cases_lt, cond-true, cond-false, lt-ltb, le-ltb}
use Rattle.std.proofs.lemmas.List.{length-append, length-take-le, get_or_append_left, get_or-append_right, get_or-take}
use Rattle.std.proofs.lemmas.List.Elements.{All-get_or, All-append, All-take}
use Rattle.field_theory.specs.Field.{IsField}
use Rattle.field_theory.specs.Sums.{xor_sum, unit}
use Rattle.field_theory.proofs.Sums.{sum-same, sum-zero, mul-zero, mul_one}
use Rattle.linear_theory.specs.Linear.{dot, combine}
use Rattle.linear_theory.proofs.Duals.{sum_unit, dot_combine}
use Rattle.gf_theory.proofs.Fields.{field_of_bits}
use Rattle.gf_linear.specs.Matrix.{entry}
use Rattle.block_theory.specs.Checks.{times_of, check_at, message_places, IsWordOf}
use Rattle.parity_space.specs.Prepared.{checks_in, unit_at, IsPrepared}
use Rattle.parity_space.specs.declared.Parity.TheInside.{Inside}
use Rattle.block_theory.proofs.Completing.{places_kept}

-- ---- the word that is made

module _ (s : Inside) (h : IsPrepared s) (msg : List ℕ) (long : length msg ≡ length (message_places (checks_in s))) (symbols : All (λ a. a < 2 ^ s.bits) msg) where
  -- its symbols, as a combination of the words of the single places
  abbrev made : ℕ → ℕ
  made = combine (times_of (checks_in s)) (length s.places.items) (slice_index msg) (unit_at s)

  count : length msg ≡ length s.places.items
  count = long ∙ sym (ap length h.places)

  msg_below : (i : ℕ) → i < length s.places.items → slice_index msg i < 2 ^ s.bits
  msg_below i l = let e : length msg ≡ length s.places.items = count in All-get_or (λ a. a < 2 ^ s.bits) msg i 0 (omega arith) symbols

  -- each codeword that is made of unit words
  made_orthogonal : (q : ℕ) → q < length s.vectors.rows → dot (times_of (checks_in s)) s.n made (check_at (checks_in s) q) ≡ 0
  made_orthogonal q l =
      let mul : ℕ → ℕ → ℕ = times_of (checks_in s) in
      let field : IsField (2 ^ s.bits) mul = field_of_bits s.bits s.modulus h.checks.modulus in
      dot_combine (2 ^ s.bits) mul field s.n (unit_at s) (length s.places.items) (slice_index msg) made (check_at (checks_in s) q) (λ p lp. refl)
      ∙ sum-zero (length s.places.items) (λ i. mul (slice_index msg i) (dot mul s.n (unit_at s i) (check_at (checks_in s) q)))
      (λ i li. ap (mul (slice_index msg i)) (h.orthogonal i q li l) ∙ mul-zero (2 ^ s.bits) mul field (slice_index msg i))

  -- the sum of the message symbols, each times a unit, at place j
  unit_sum : (f : ℕ → ℕ) (j : ℕ) → j < length s.places.items → ((i : ℕ) → i < length s.places.items → f i ≡ unit i j) → xor_sum (length s.places.items) (λ i. times_of (checks_in s) (slice_index msg i) (f i)) ≡ slice_index msg j
  unit_sum f j l e =
      let mul : ℕ → ℕ → ℕ = times_of (checks_in s) in
      let field : IsField (2 ^ s.bits) mul = field_of_bits s.bits s.modulus h.checks.modulus in
      sum-same (length s.places.items) (λ i. mul (slice_index msg i) (f i)) (λ i. mul (slice_index msg i) (unit i j)) (λ i li. ap (mul (slice_index msg i)) (e i li))
      ∙ sum_unit (2 ^ s.bits) mul field (length s.places.items) (slice_index msg) j l
      ∙ mul_one (2 ^ s.bits) mul field (slice_index msg j) (msg_below j l)

  module _ (front tail : List ℕ) (front_is : front ≡ take s.first msg) (tail_long : s.first + length tail ≡ s.n)
      (tail_is : (q : ℕ) → q < length tail → slice_index tail q ≡ combine (times_of (checks_in s)) (length s.places.items) (slice_index msg) (entry s.tails) q) where
    front_long : length front ≡ s.first
    front_long = let few : s.first ≤ length s.places.items = h.first_few in let e : length msg ≡ length s.places.items = count in
        ap length front_is ∙ length-take-le s.first msg (omega arith)

    word_long : length (front ++ tail) ≡ s.n
    word_long = let e : length front ≡ s.first = front_long in length-append front tail ∙ omega arith

    word_is_made : (p : ℕ) → p < s.n → slice_index (front ++ tail) p ≡ made p
    word_is_made p l = elim (cases_lt p s.first) [
      | inl a ↦
          let e : length front ≡ s.first = front_long in
          let few : s.first ≤ length s.places.items = h.first_few in
          get_or_append_left front tail 0 p (omega arith)
          ∙ ap (λ (r : List ℕ). get_or r p 0) front_is
          ∙ get_or-take s.first msg p 0 a
          ∙ sym (unit_sum (λ i. unit_at s i p) p (omega arith) (λ i li. cond-true (nat_lt p s.first) (unit i p) (entry s.tails i (p - s.first)) (lt-ltb p s.first a)))
      | inr a ↦
          let mul : ℕ → ℕ → ℕ = times_of (checks_in s) in
          get_or-append_right front tail s.first p 0 front_long a
          ∙ tail_is (p - s.first) (omega arith)
          ∙ sum-same (length s.places.items) (λ i. mul (slice_index msg i) (entry s.tails i (p - s.first))) (λ i. mul (slice_index msg i) (unit_at s i p))
          (λ i li. ap (mul (slice_index msg i)) (sym (cond-false (nat_lt p s.first) (unit i p) (entry s.tails i (p - s.first)) (le-ltb p s.first a))))
    ]

    pub word_made : All (λ a. a < 2 ^ s.bits) tail → IsWordOf (checks_in s) msg (front ++ tail)
    word_made tail_symbols = record {
      in_code = record {
        is_word = record { n_long = word_long; symbols = All-append (λ a. a < 2 ^ s.bits) front tail (subst (All (λ a. a < 2 ^ s.bits)) (sym front_is) (All-take (λ a. a < 2 ^ s.bits) s.first msg symbols)) tail_symbols };
        orthogonal = λ q l.
            sum-same s.n (λ p. times_of (checks_in s) (slice_index (front ++ tail) p) (check_at (checks_in s) q p)) (λ p. times_of (checks_in s) (made p) (check_at (checks_in s) q p))
            (λ p lp. ap (λ (a : ℕ). times_of (checks_in s) a (check_at (checks_in s) q p)) (word_is_made p lp))
            ∙ made_orthogonal q l;
      };
      carries = λ j lj. (let place : ℕ = slice_index (message_places (checks_in s)) j in
          let within : place < s.n = (places_kept (checks_in s) h.checks).below j lj in
          let lj' : j < length s.places.items = subst (λ (r : List ℕ). j < length r) (sym h.places) lj in
          word_is_made place within
          ∙ unit_sum (λ i. unit_at s i place) j lj' (λ i li. ap (λ (r : List ℕ). unit_at s i (slice_index r j)) (sym h.places) ∙ h.units i j li lj'));
    }
