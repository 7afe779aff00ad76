-- The form of a code of checks is sound, and what is near a list of bytes in the code of a basis.
use Rattle.std.proofs.Common.{◌≡◌, ◌↔◌, ℕ, ◌+◌, ◌*◌, ◌<◌, ◌≤◌, ◌^◌, Bool, List, [], length, map, Some, None, slice_index, refl, sym, ◌∙◌, ap, subst, inl, inr, arith}
use Rattle.std.proofs.lemmas.Bool.{cases_lt}
use Rattle.std.proofs.lemmas.List.{get_or-map, length-map}
use Rattle.std.proofs.lemmas.List.Elements.{All-from_get_or}
use Rattle.std.proofs.lemmas.Grind.{same_number_lists}
use Rattle.linear_theory.specs.Linear.{rank}
use Rattle.linear_theory.proofs.Exchange.{independent_iff_rank}
use Rattle.order_theory.specs.Basis.{Basis, IsWord, IsSoundBasis, times}
use Rattle.order_theory.specs.Codes.{AreAllMarked, IsBound, IsNear}
use Rattle.order_theory.proofs.Theorems.{near_law as one_is_near}
use Rattle.order_theory.proofs.Shape.{word_below}
use Rattle.stored_form.specs.Form.{at_layout, IsMessage, IsCodeword, IsSound, distance}
use Rattle.block_theory.specs.Checks.{ParityChecks, check_at, message_places, IsInCode, IsWordOf}
use Rattle.block_theory.specs.Marked.{chosen, checks_of}
use Rattle.block_theory.specs.Blocks.{word_of, near_of, form_of}
use Rattle.block_theory.specs.Laws.{AreChecks, MembersLaw, CodeLaw, BasisNearLaw, FormLaw}
use Rattle.block_theory.proofs.Lists.{distance_same}
use Rattle.block_theory.proofs.Choosing.{set_marks, set_marks-count_by, all_set}
use Rattle.block_theory.proofs.FromBasis.{chosen_count, chosen_word, code_is, chosen_independent}
use Rattle.block_theory.proofs.Completing.{places_kept, places_count, check_below}
use Rattle.block_theory.proofs.Codewords.{one_codeword, word_of-same, near_of-iff, near_of-none}

-- ---- the form of any checks with a message place and at most one codeword near

module _ (c : ParityChecks) (checks : AreChecks c) (t : ℕ) where
  fits_message : (depth : ℕ) (packed : Bool) (msg : List ℕ) → IsMessage (at_layout depth packed (form_of c t)) msg → IsWord c.bits (length (message_places c)) msg
  fits_message depth packed msg (long, fit) = record { n_long = long; symbols = fit }

  word_is : (depth : ℕ) (packed : Bool) (msg : List ℕ) → IsMessage (at_layout depth packed (form_of c t)) msg → IsWordOf c msg (word_of c msg)
  word_is depth packed msg is = (one_codeword c checks msg (fits_message depth packed msg is)).is_word

  -- the symbols at the message places
  pub message_in : List ℕ → List ℕ
  message_in x = map (slice_index x) (message_places c)

  pub message_in-at : (x : List ℕ) (i : ℕ) → i < length (message_places c) → slice_index (message_in x) i ≡ slice_index x (slice_index (message_places c) i)
  unfolding message_in
  message_in-at x i l = get_or-map (slice_index x) (message_places c) i 0 0 l

  -- they are a message, and a codeword is the word of its message
  pub message_in-fits : (depth : ℕ) (packed : Bool) (x : List ℕ) → IsInCode c x → IsMessage (at_layout depth packed (form_of c t)) (message_in x)
  unfolding message_in
  message_in-fits depth packed x h = (
    length-map (message_places c) (slice_index x),
    All-from_get_or (λ s. s < 2 ^ c.bits) (message_in x) 0
        (λ i l. let long : length (message_in x) ≡ length (message_places c) = length-map (message_places c) (slice_index x) in
        subst (λ (s : ℕ). s < 2 ^ c.bits) (sym (message_in-at x i (omega arith))) (word_below h.is_word (slice_index (message_places c) i))),
  )

  pub message_in-word : (x : List ℕ) → IsInCode c x → x ≡ word_of c (message_in x)
  message_in-word x h = word_of-same c checks (message_in x) x (record { in_code = h; carries = λ i l. sym (message_in-at x i l) })

  message_back : (depth : ℕ) (packed : Bool) (msg : List ℕ) → IsMessage (at_layout depth packed (form_of c t)) msg → message_in (word_of c msg) ≡ msg
  unfolding message_in
  message_back depth packed msg is =
      let long : length (message_in (word_of c msg)) ≡ length (message_places c) = length-map (message_places c) (slice_index (word_of c msg)) in
      same_number_lists (message_in (word_of c msg)) msg (long ∙ sym is.0)
      (λ i l. message_in-at (word_of c msg) i (omega arith) ∙ (word_is depth packed msg is).carries i (omega arith))

  -- the codewords of the form are those of the checks
  pub codeword_iff : (depth : ℕ) (packed : Bool) (x : List ℕ) → IsCodeword (at_layout depth packed (form_of c t)) x ↔ IsInCode c x
  codeword_iff depth packed x = (
    λ (msg, is, e). subst (IsInCode c) (sym e) (word_is depth packed msg is).in_code,
    λ h. (message_in x, message_in-fits depth packed x h, message_in-word x h),
  )

  module _ (some : 0 < length (message_places c)) (bits_few : c.bits ≤ 8) (bits_least : 2 ≤ c.bits)
      (one : (y v w : List ℕ) → length y ≡ c.n → IsInCode c v → IsInCode c w → distance y v ≤ t → distance y w ≤ t → v ≡ w) where
    near_exact : (depth : ℕ) (packed : Bool) (y x : List ℕ) → length y ≡ c.n → (near_of c t y ≡ Some x) ↔ (IsCodeword (at_layout depth packed (form_of c t)) x × (distance y x ≤ t))
    near_exact depth packed y x long =
        let near = near_of-iff c t y x (λ v w hv hw. one y v w long hv hw) in
        let code = codeword_iff depth packed x in (
          λ found. let (h, within) = near.0 found in (code.1 h, within),
          λ (h, within). near.1 (code.0 h, within),
        )

    pub form_sound : (depth : ℕ) (packed : Bool) → 0 < depth → IsSound (at_layout depth packed (form_of c t))
    unfolding message_in
    form_sound depth packed deep = record {
      k_above_0 = some;
      k_within_n = omega (arith, places_count c checks);
      bits_above_0 = omega arith;
      bits_within_byte = bits_few;
      depth_above_0 = deep;
      k_places = refl;
      places_below_n = All-from_get_or (λ p. p < c.n) (message_places c) 0 (places_kept c checks).below;
      places_rise = (places_kept c checks).rise;
      n_symbols = λ msg is. (word_is depth packed msg is).in_code.is_word.n_long;
      symbols_fit = λ msg is. (word_is depth packed msg is).in_code.is_word.symbols;
      message_at_places = message_back depth packed;
      near_is = near_exact depth packed;
    }

-- ---- the checks of a basis

module _ (b : Basis) (marks : List Bool) (sound : IsSoundBasis b) (same : length marks ≡ b.n) where
  pub checks_fit : AreChecks (checks_of b marks)
  checks_fit = record { modulus = sound.modulus; words = All-from_get_or (IsWord b.bits b.n) (chosen marks b.vectors) [] (chosen_word b marks sound same) }

  pub members_count : length (message_places (checks_of b marks)) + set_marks marks ≡ b.n
  members_count =
      let full : rank (2 ^ b.bits) (times b) b.n (check_at (checks_of b marks)) (set_marks marks) ≡ set_marks marks =
      (independent_iff_rank (2 ^ b.bits) (times b) sound.sound.field b.n (check_at (checks_of b marks)) (set_marks marks) (check_below (checks_of b marks) checks_fit)).0 (chosen_independent b marks sound same) in
      let count : length (chosen marks b.vectors) ≡ set_marks marks = chosen_count b marks sound same in
      ap (λ (r : ℕ). length (message_places (checks_of b marks)) + r) (sym full ∙ ap (λ (r : ℕ). rank (2 ^ b.bits) (times b) b.n (check_at (checks_of b marks)) r) (sym count)) ∙ places_count (checks_of b marks) checks_fit

  pub some_place : (AreAllMarked b marks → ⊥) → 0 < length (message_places (checks_of b marks))
  some_place some = elim (cases_lt 0 (length (message_places (checks_of b marks)))) [
    | inl l ↦ l
    | inr none ↦ absurd (some (record { each = λ k l. all_set marks (omega (arith, members_count)) k (omega arith) }))
  ]

  near_from : (t : ℕ) (y x : List ℕ) → IsInCode (checks_of b marks) x → distance y x ≤ t → IsNear (times b) b marks t y x
  near_from t y x h close = record { is_codeword = (code_is b marks sound same x).0 h; close = omega (arith, distance_same y x) }

  module _ (t : ℕ) (bound : IsBound b marks (2 * t + 1)) where
    pub at_most_one : (y v w : List ℕ) → length y ≡ b.n → IsInCode (checks_of b marks) v → IsInCode (checks_of b marks) w → distance y v ≤ t → distance y w ≤ t → v ≡ w
    at_most_one y v w long hv hw close_v close_w = one_is_near (times b) b marks t (2 * t + 1) y v w sound.sound bound (omega arith) long (near_from t y v hv close_v) (near_from t y w hw close_w)

    pub near_iff : (y x : List ℕ) → length y ≡ b.n → (near_of (checks_of b marks) t y ≡ Some x) ↔ IsNear (times b) b marks t y x
    near_iff y x long =
        let near = near_of-iff (checks_of b marks) t y x (λ v w hv hw. at_most_one y v w long hv hw) in (
          λ found. let (h, close) = near.0 found in near_from t y x h close,
          λ h. near.1 ((code_is b marks sound same x).1 h.is_codeword, let close : distance y x ≤ t = omega (arith, distance_same y x, h.close) in close),
        )

    pub none_iff : (y : List ℕ) → length y ≡ b.n → (near_of (checks_of b marks) t y ≡ None) ↔ ((x : List ℕ) → IsNear (times b) b marks t y x → ⊥)
    none_iff y long = (
      λ none x h. let found : near_of (checks_of b marks) t y ≡ Some x = (near_iff y x long).1 h in absurd (cc),
      λ none. near_of-none (checks_of b marks) t y (λ x found. none x ((near_iff y x long).0 found)),
    )

pub members_law : MembersLaw
members_law b marks sound same = ap (λ (k : ℕ). length (message_places (checks_of b marks)) + k) (sym (set_marks-count_by marks)) ∙ members_count b marks sound same

pub code_law : CodeLaw
code_law b marks x sound same = code_is b marks sound same x

pub basis_near_law : BasisNearLaw
basis_near_law b marks t y sound same bound long = record { some = λ x. near_iff b marks sound same t bound y x long; none = none_iff b marks sound same t bound y long }

pub form_law : FormLaw
form_law b marks t sound same some bound = record {
  sound = form_sound (checks_of b marks) (checks_fit b marks sound same) t (some_place b marks sound same some) sound.modulus.at_most_eight sound.modulus.at_least_two (at_most_one b marks sound same t bound);
  bits_least = sound.modulus.at_least_two;
  n_most = sound.sound.shape.few_members;
}
