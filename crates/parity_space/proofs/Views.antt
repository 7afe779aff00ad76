-- What a `Parity` shows of the parts that it stores.
use Rattle.std.proofs.Common.{◌≡◌, ◌↔◌, ℕ, ◌+◌, ◌<◌, ◌^◌, List, ◌++◌, length, take, slice_index, All, Contains, get_or, ◌∙◌, sym, ap, subst, arith}
use Rattle.std.specs.List.Sorted.{IsStrictlyIncreasing}
use Rattle.std.proofs.lemmas.List.{get_or_default}
use Rattle.linear_theory.specs.Linear.{dot, combine}
use Rattle.gf_theory.specs.Field.{gf_mul}
use Rattle.gf_linear.specs.Matrix.{entry}
use Rattle.block_theory.specs.Checks.{ParityChecks, IsInCode, IsWordOf, IsMessagePlace, is_message_place, message_places, check_at, times_of}
use Rattle.parity_space.specs.Prepared.{checks_in, IsPrepared}
use Rattle.parity_space.specs.declared.Parity.TheInside.{Inside}
use Rattle.block_theory.specs.Laws.{AreChecks}
use Rattle.block_theory.proofs.Kept.{AreKept}
use Rattle.block_theory.proofs.Completing.{message_place-from, message_place-yes, places_kept, word_only}
use Rattle.parity_space.proofs.Words.{word_made}

module _ (s : Inside) (v : ParityChecks) (view : checks_in s ≡ v) (b m : ℕ) (same_bits : b ≡ v.bits) (same_modulus : m ≡ v.modulus) (word : List ℕ) (long : length word ≡ v.n) where
  product_same : (i : ℕ) → dot (gf_mul b m) (length word) (slice_index word) (entry s.vectors i) ≡ dot (times_of v) v.n (slice_index word) (check_at v i)
  product_same i =
      ap (λ (k : ℕ). dot (gf_mul k m) (length word) (slice_index word) (entry s.vectors i)) same_bits
      ∙ ap (λ (k : ℕ). dot (gf_mul v.bits k) (length word) (slice_index word) (entry s.vectors i)) same_modulus
      ∙ ap (λ (k : ℕ). dot (times_of v) k (slice_index word) (entry s.vectors i)) long
      ∙ ap (λ (w : ParityChecks). dot (times_of v) v.n (slice_index word) (check_at w i)) view

  pub orthogonal_is_member :
      All (λ a. a < 2 ^ v.bits) word
      → ((i : ℕ) → i < length s.vectors.rows → dot (gf_mul b m) (length word) (slice_index word) (entry s.vectors i) ≡ 0) ↔ IsInCode v word
  orthogonal_is_member symbols = (
    λ h. record {
      is_word = record { n_long = long; symbols = symbols };
      orthogonal = λ i l. sym (product_same i) ∙ h i (subst (λ (w : ParityChecks). i < length w.vectors) (sym view) l);
    },
    λ h i l. product_same i ∙ h.orthogonal i (subst (λ (w : ParityChecks). i < length w.vectors) view l),
  )

-- the word that is made of the parts that are stored, in the terms of what is shown
module _ (s : Inside) (h : IsPrepared s) (v : ParityChecks) (view : checks_in s ≡ v) (b m : ℕ) (same_bits : b ≡ v.bits) (same_modulus : m ≡ v.modulus)
    (msg : List ℕ) (long : length msg ≡ length (message_places v)) (symbols : All (λ a. a < 2 ^ v.bits) msg) where
  stored_bits : b ≡ s.bits
  stored_bits = same_bits ∙ ap (λ w. w.bits) (sym view)

  stored_modulus : m ≡ s.modulus
  stored_modulus = same_modulus ∙ ap (λ w. w.modulus) (sym view)

  pub shown_word :
      (front tail : List ℕ) → front ≡ take s.first msg → s.first + length tail ≡ s.n
      → ((q : ℕ) → q < length tail → slice_index tail q ≡ combine (gf_mul b m) (length s.tails.rows) (slice_index msg) (entry s.tails) q)
      → All (λ a. a < 2 ^ b) tail → IsWordOf v msg (front ++ tail)
  shown_word front tail front_is tail_long tail_is tail_symbols =
      subst (λ (w : ParityChecks). IsWordOf w msg (front ++ tail)) view
      (word_made s h msg (subst (λ (w : ParityChecks). length msg ≡ length (message_places w)) (sym view) long)
      (subst (λ (w : ParityChecks). All (λ a. a < 2 ^ w.bits) msg) (sym view) symbols) front tail front_is tail_long
      (λ q l. tail_is q l
      ∙ ap (λ (k : ℕ). combine (gf_mul k m) (length s.tails.rows) (slice_index msg) (entry s.tails) q) stored_bits
      ∙ ap (λ (k : ℕ). combine (gf_mul s.bits k) (length s.tails.rows) (slice_index msg) (entry s.tails) q) stored_modulus
      ∙ ap (λ (k : ℕ). combine (gf_mul s.bits s.modulus) k (slice_index msg) (entry s.tails) q) h.tail_rows)
      (subst (λ (k : ℕ). All (λ a. a < 2 ^ k) tail) stored_bits tail_symbols))

  pub shown_word_only : (x y : List ℕ) → IsWordOf v msg x → IsWordOf v msg y → x ≡ y
  shown_word_only x y hx hy =
      word_only (checks_in s) h.checks msg x y
      (subst (λ (w : ParityChecks). IsWordOf w msg x) (sym view) hx) (subst (λ (w : ParityChecks). IsWordOf w msg y) (sym view) hy)

-- the message places, as they are shown
module _ (s : Inside) (h : IsPrepared s) (v : ParityChecks) (view : checks_in s ≡ v) where
  shown_checks : AreChecks v
  shown_checks = subst AreChecks view h.checks

  pub shown_places : s.places.items ≡ message_places v
  shown_places = h.places ∙ ap message_places view

  pub places_are_exact : (p : ℕ) → Contains (message_places v) p ↔ IsMessagePlace v p
  places_are_exact p =
      let kept : AreKept (is_message_place v) v.n (message_places v) = places_kept v shown_checks in (
        λ w. (let (k, l, e) = w in
            let at : get_or (message_places v) k 0 ≡ p = get_or_default (message_places v) k 0 p l ∙ e in
            message_place-yes v shown_checks p (subst (λ (q : ℕ). q < v.n) at (kept.below k l)) (ap (is_message_place v) (sym at) ∙ kept.pass k l)),
        λ place. (let (k, l, e) = kept.found p place.position (message_place-from v shown_checks p place) in
            (k, l, get_or_default (message_places v) k p 0 l ∙ e)),
      )

  pub places_rise : IsStrictlyIncreasing (message_places v)
  places_rise k l = (places_kept v shown_checks).rise k (k + 1) (omega arith) l
