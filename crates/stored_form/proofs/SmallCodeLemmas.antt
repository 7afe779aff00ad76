-- The definitions at the small code, and that it is sound.
use Rattle.std.proofs.Common.{◌⊎◌, ◌↔◌, ◌&&◌, nat_lt, get_or, Some, inl, inr, sym, ◌∙◌, subst, arith, ℕ, zero, suc, ◌*◌, ◌≡◌, ◌<◌, ◌≤◌, List, [], ◌∷◌, map, refl, nat_le, nat_eq, slice_index, Bool, true, ◌||◌, length, Contains, All}
use Rattle.std.specs.List.{list_all}
use Rattle.std.proofs.lemmas.List.{get_or-map, length-map, get_or_default}
use Rattle.std.proofs.lemmas.List.Sums.{AllPass-from_list_all}
use Rattle.std.proofs.lemmas.List.Elements.{All-contains, All-map}
use Rattle.std.proofs.lemmas.Bool.{or_cases, and_parts, eqb-true, leb-true, ltb-true}
use Rattle.stored_form.specs.Form.{at_layout, IsSound, IsMessage, IsCodeword, distance}
use Rattle.stored_form.specs.SmallCode.{small_word, small_messages, small_words, small_form, SmallImages, SmallReadings, SmallOutputs, SmallChanges, SmallSalvage, SmallPacked}
use Rattle.stored_form.proofs.SearchLemmas.{all_lists-has, Contains-map, same_from_distance, first_within_iff, one_within}
use Rattle.stored_form.specs.Frame.{group_blocks, framed, unframed, image}
use Rattle.stored_form.specs.Reading.{blocks, ending, reading, out, changes}
use Rattle.stored_form.specs.Salvage.{lines_of_blocks, salvage_out}

pub small_images : SmallImages
unfolding image framed
small_images = record { of_empty_file = refl; of_one_byte = refl; of_empty_file_in_pairs = refl; of_exact_fit = refl }

pub small_readings : SmallReadings
unfolding reading ending blocks group_blocks unframed
small_readings = record { of_empty_file = refl; of_one_byte = refl; of_three_wrong_bytes = refl; of_one_byte_more = refl; of_no_marker = refl; of_marker_in_earlier_group = refl; of_one_bit_before_marker = refl; of_lost_last_group = refl; of_no_bytes = refl; of_damaged_pair = refl }

pub small_outputs : SmallOutputs
unfolding out reading ending blocks group_blocks unframed
small_outputs = record { of_one_byte_more = refl; of_lost_last_group = refl; of_marker_in_earlier_group = refl }

pub small_changes : SmallChanges
unfolding changes reading ending blocks group_blocks unframed
small_changes = record { of_two_symbols = refl; of_a_byte_with_high_bits = refl; of_high_bits_alone = refl; of_damaged_pair = refl }

pub small_salvage : SmallSalvage
unfolding ending blocks group_blocks unframed salvage_out lines_of_blocks
small_salvage = record { ending_of_lost_first_group = refl; out_of_lost_first_group = refl; lines_of_lost_first_group = refl; count_of_lost_first_group = refl; ending_of_lost_last_group = refl; out_of_lost_last_group = refl; lines_of_lost_last_group = refl; lines_of_pair = refl }

pub small_packed_texts : SmallPacked
unfolding changes reading ending blocks group_blocks unframed image framed
small_packed_texts = record { image_of_empty_file = refl; reading_of_image = refl; reading_of_two_symbols = refl; changes_of_two_symbols = refl; reading_of_one_byte = refl; image_with_fill_bits = refl; reading_of_fill_bits = refl; changes_of_fill_bits = refl; reading_of_changed_symbol = refl }

-- ---- the laws can be met: this code meets them
apart_a : List ℕ → List ℕ → Bool
apart_a a b = nat_eq (distance a b) 0 || nat_le 5 (distance a b)

all_apart : list_all (λ a. list_all (apart_a a) small_words) small_words ≡ true
unfolding apart_a
all_apart = refl

apart : (a b : List ℕ) → Contains small_words a → Contains small_words b → (distance a b ≡ 0) ⊎ (2 * 2 < distance a b)
unfolding apart_a
apart a b has_a has_b =
    let row = All-contains (λ c. list_all (apart_a c) small_words ≡ true) small_words a (AllPass-from_list_all (λ c. list_all (apart_a c) small_words) small_words all_apart) has_a in
    let pass = All-contains (λ c. apart_a a c ≡ true) small_words b (AllPass-from_list_all (apart_a a) small_words row) has_b in
    elim (or_cases (nat_eq (distance a b) 0) (nat_le 5 (distance a b)) pass) [
      | inl same ↦ inl (eqb-true (distance a b) 0 same)
      | inr far ↦ inr (let h : 5 ≤ distance a b = leb-true 5 (distance a b) far in omega arith)
    ]

-- what is checked of each message: its length, its symbols, the symbols of its word, and its place in that word
message_test : List ℕ → Bool
message_test msg = (nat_eq (length msg) 3 && list_all (λ s. nat_lt s 4) msg) && (list_all (λ s. nat_lt s 4) (small_word msg) && nat_eq (distance (map (slice_index (small_word msg)) (0 ∷ 1 ∷ 2 ∷ [])) msg) 0)

all_messages_pass : list_all message_test small_messages ≡ true
unfolding message_test
all_messages_pass = refl

record IsGood (msg : List ℕ) : Type 0 where
  long : length msg ≡ 3
  fit : All (λ s. s < 4) msg
  word_fit : All (λ s. s < 4) (small_word msg)
  stands : map (slice_index (small_word msg)) (0 ∷ 1 ∷ 2 ∷ []) ≡ msg

small : (xs : List ℕ) → list_all (λ s. nat_lt s 4) xs ≡ true → All (λ s. s < 4) xs
small xs pass = λ k d h. ltb-true (get_or xs k d) 4 (AllPass-from_list_all (λ s. nat_lt s 4) xs pass k d h)

good : (msg : List ℕ) → message_test msg ≡ true → IsGood msg
unfolding message_test
good msg pass =
    let both = and_parts (nat_eq (length msg) 3 && list_all (λ s. nat_lt s 4) msg) (list_all (λ s. nat_lt s 4) (small_word msg) && nat_eq (distance (map (slice_index (small_word msg)) (0 ∷ 1 ∷ 2 ∷ [])) msg) 0) pass in
    let first = and_parts (nat_eq (length msg) 3) (list_all (λ s. nat_lt s 4) msg) both.0 in
    let second = and_parts (list_all (λ s. nat_lt s 4) (small_word msg)) (nat_eq (distance (map (slice_index (small_word msg)) (0 ∷ 1 ∷ 2 ∷ [])) msg) 0) both.1 in
    let long : length msg ≡ 3 = eqb-true (length msg) 3 first.0 in
    record {
      long = long;
      fit = small msg first.1;
      word_fit = small (small_word msg) second.0;
      stands = same_from_distance (map (slice_index (small_word msg)) (0 ∷ 1 ∷ 2 ∷ [])) msg (sym long) (eqb-true (distance (map (slice_index (small_word msg)) (0 ∷ 1 ∷ 2 ∷ [])) msg) 0 second.1);
    }

each_good : All IsGood small_messages
each_good = λ k d h. good (get_or small_messages k d) (AllPass-from_list_all message_test small_messages all_messages_pass k d h)

good_message : (depth : ℕ) (packed : Bool) (msg : List ℕ) → IsMessage (at_layout depth packed (small_form 1)) msg → IsGood msg
good_message depth packed msg (long, fit) = All-contains IsGood small_messages msg each_good (all_lists-has 4 3 msg long fit)

place_at : (i : ℕ) → i < 3 → slice_index (0 ∷ 1 ∷ 2 ∷ []) i ≡ i
place_at zero h = refl
place_at (suc zero) h = refl
place_at (suc (suc zero)) h = refl
place_at (suc (suc (suc i))) h = absurd (omega arith)

near_a : (depth : ℕ) (packed : Bool) (y c : List ℕ) → length y ≡ 8 → ((at_layout depth packed (small_form 1)).near y ≡ Some c) ↔ (IsCodeword (at_layout depth packed (small_form 1)) c × (distance y c ≤ 2))
near_a depth packed y c long =
    let long_words : All (λ w. length w ≡ 8) small_words = All-map (λ w. length w ≡ 8) small_word small_messages (λ k d h. refl) in
    let search = first_within_iff 2 small_words y c (one_within 2 8 small_words y long_words apart long) in (
      λ found. let (has, within) = search.0 found in let (k, below, e) = has in
          let inside : k < length small_messages = omega (arith, length-map small_messages small_word) in
          let g = each_good k [] inside in
          ((get_or small_messages k [], (g.long, g.fit), sym e ∙ get_or-map small_word small_messages k [] c inside), within),
      λ (codeword, within). let (msg, (msg_long, fit), e) = codeword in search.1 (subst (Contains small_words) (sym e) (Contains-map small_word small_messages msg (all_lists-has 4 3 msg msg_long fit)), within),
    )

pub small_form_is_sound : (depth : ℕ) (packed : Bool) → 0 < depth → IsSound (at_layout depth packed (small_form 1))
small_form_is_sound depth packed some = record {
  k_above_0 = omega arith;
  k_within_n = omega arith;
  bits_above_0 = omega arith;
  bits_within_byte = omega arith;
  depth_above_0 = some;
  k_places = refl;
  places_below_n = λ i d h. omega (arith, get_or_default (0 ∷ 1 ∷ 2 ∷ []) i d 0 h, place_at i h);
  places_rise = λ i j h l. omega (arith, place_at i (omega arith), place_at j l);
  n_symbols = λ msg is. refl;
  symbols_fit = λ msg is. (good_message depth packed msg is).word_fit;
  message_at_places = λ msg is. (good_message depth packed msg is).stands;
  near_is = near_a depth packed;
}
