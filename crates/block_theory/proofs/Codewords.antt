-- What the lists of codewords, the codeword of a message and the codeword near a list are.
use Rattle.std.proofs.Common.{◌≡◌, ◌↔◌, ℕ, ◌≤◌, ◌^◌, true, nat_eq, List, length, replicate, Contains, Option, Some, None, slice_index, refl, sym, ap, subst}
use Rattle.std.specs.Option.{unwrap_or}
use Rattle.std.proofs.lemmas.Bool.{eqb-true, eq-eqb}
use Rattle.linear_theory.specs.Linear.{dot}
use Rattle.linear_theory.proofs.Spans.{all_below-yes, all_below-from}
use Rattle.order_theory.specs.Basis.{IsWord}
use Rattle.stored_form.specs.Form.{distance}
use Rattle.stored_form.specs.Search.{all_lists}
use Rattle.stored_form.proofs.SearchLemmas.{all_lists-has, first_within_iff}
use Rattle.block_theory.specs.Checks.{ParityChecks, times_of, check_at, message_places, IsInCode, IsWordOf}
use Rattle.block_theory.specs.Blocks.{is_in_code, codewords, has_message, word_of, near_of}
use Rattle.block_theory.specs.Laws.{AreChecks, OneCodeword, MessageLaw, PlacesLaw, NearLaw}
use Rattle.block_theory.proofs.Lists.{filter-has, filter-from, found_passes, finds, all_lists-from}
use Rattle.block_theory.proofs.Completing.{word_only, word_exists, places_count}

module _ (c : ParityChecks) where
  -- ---- the codewords

  pub codewords-has : (x : List ℕ) → IsInCode c x → Contains (codewords c) x
  unfolding codewords is_in_code
  codewords-has x h = filter-has (is_in_code c) (all_lists (2 ^ c.bits) c.n) x (all_lists-has (2 ^ c.bits) c.n x h.is_word.n_long h.is_word.symbols)
      (all_below-from (length c.vectors) (λ i. nat_eq (dot (times_of c) c.n (slice_index x) (check_at c i)) 0) (λ i l. eq-eqb (dot (times_of c) c.n (slice_index x) (check_at c i)) 0 (h.orthogonal i l)))

  pub codewords-from : (x : List ℕ) → Contains (codewords c) x → IsInCode c x
  unfolding codewords is_in_code
  codewords-from x has =
      let (listed, pass) = filter-from (is_in_code c) (all_lists (2 ^ c.bits) c.n) x has in
      let (long, fit) = all_lists-from (2 ^ c.bits) c.n x listed in
      record {
        is_word = record { n_long = long; symbols = fit };
        orthogonal = λ i l. eqb-true (dot (times_of c) c.n (slice_index x) (check_at c i)) 0 (all_below-yes (length c.vectors) (λ i. nat_eq (dot (times_of c) c.n (slice_index x) (check_at c i)) 0) pass i l);
      }

  -- ---- the codeword of a message

  has_message-from : (msg x : List ℕ) → IsWordOf c msg x → has_message c msg x ≡ true
  unfolding has_message
  has_message-from msg x h = all_below-from (length (message_places c)) (λ i. nat_eq (slice_index x (slice_index (message_places c) i)) (slice_index msg i)) (λ i l. eq-eqb (slice_index x (slice_index (message_places c) i)) (slice_index msg i) (h.carries i l))

  has_message-yes : (msg x : List ℕ) → IsInCode c x → has_message c msg x ≡ true → IsWordOf c msg x
  unfolding has_message
  has_message-yes msg x h pass = record {
    in_code = h;
    carries = λ i l. eqb-true (slice_index x (slice_index (message_places c) i)) (slice_index msg i) (all_below-yes (length (message_places c)) (λ i. nat_eq (slice_index x (slice_index (message_places c) i)) (slice_index msg i)) pass i l);
  }

  -- where some codeword has the message, `word_of` is one that has
  pub word_of-is : (msg x : List ℕ) → IsWordOf c msg x → IsWordOf c msg (word_of c msg)
  unfolding word_of
  word_of-is msg x h =
      let (y, found) = finds (has_message c msg) (codewords c) x (codewords-has x h.in_code) (has_message-from msg x h) in
      let (has, pass) = found_passes (has_message c msg) (codewords c) y found in
      subst (IsWordOf c msg) (ap (λ (o : Option (List ℕ)). unwrap_or o (replicate c.n 0)) (sym found)) (has_message-yes msg y (codewords-from y has) pass)

  -- ---- the codeword near a list

  pub near_of-iff : (t : ℕ) (y x : List ℕ) → ((v w : List ℕ) → IsInCode c v → IsInCode c w → distance y v ≤ t → distance y w ≤ t → v ≡ w) → (near_of c t y ≡ Some x) ↔ (IsInCode c x × (distance y x ≤ t))
  unfolding near_of
  near_of-iff t y x one =
      let search = first_within_iff t (codewords c) y x (λ v w has_v has_w. one v w (codewords-from v has_v) (codewords-from w has_w)) in (
        λ found. let (has, within) = search.0 found in (codewords-from x has, within),
        λ (h, within). search.1 (codewords-has x h, within),
      )

  none_more : (t : ℕ) (y : List ℕ) → ((x : List ℕ) → near_of c t y ≡ Some x → ⊥) → (o : Option (List ℕ)) → near_of c t y ≡ o → near_of c t y ≡ None
  none_more t y h None e = e
  none_more t y h (Some x) e = absurd (h x e)

  pub near_of-none : (t : ℕ) (y : List ℕ) → ((x : List ℕ) → near_of c t y ≡ Some x → ⊥) → near_of c t y ≡ None
  near_of-none t y h = none_more t y h (near_of c t y) refl

  module _ (checks : AreChecks c) where
    -- a codeword that has the message is `word_of`
    pub word_of-same : (msg x : List ℕ) → IsWordOf c msg x → x ≡ word_of c msg
    word_of-same msg x h = word_only c checks msg x (word_of c msg) h (word_of-is msg x h)

    pub one_codeword : (msg : List ℕ) → IsWord c.bits (length (message_places c)) msg → OneCodeword c msg
    one_codeword msg fits = let (x, h) = word_exists c checks msg fits in record { is_word = word_of-is msg x h; no_other = word_of-same msg }

pub message_law : MessageLaw
message_law c msg checks fits = one_codeword c checks msg fits

pub places_law : PlacesLaw
places_law c checks = places_count c checks

pub near_law : NearLaw
near_law c t y x one = near_of-iff c t y x one
