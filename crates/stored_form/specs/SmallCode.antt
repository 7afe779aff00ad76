-- A code of eight symbols over GF(4), as an example: its words are the multiples of three, and near searches them all.
-- small_sum, small_product        the field of four elements
-- small_multiple, small_added     a multiple of a list, and a sum of two
-- small_word, small_messages, small_words   the word of a message, all messages, and all words
-- small_form d                    this code, in groups of d codewords, in layout bytes
-- small_packed                    this code, packed, in groups of one codeword
-- sum_word                        the word of a message of the code of three symbols
-- sum_form                        three symbols whose sum is 0, packed: six bits, so that a group has two fill bits
-- damaged_pair                    the image of the empty file in groups of two, with two bytes changed in each codeword
-- lost_first                      the image of one byte, with its first group lost
-- lost_last                       four groups of zeros, and a fifth that is lost
-- SmallImages, SmallReadings, SmallOutputs, SmallChanges, SmallSalvage, SmallPacked   texts worked by hand
use Rattle.std.specs.Prelude.{true, false, ℕ, ◌+◌, ◌*◌, ◌≡◌, List, [], ◌∷◌, ◌++◌, map, replicate, slice_index}
use Rattle.stored_form.specs.Form.{Form, at_layout}
use Rattle.stored_form.specs.Search.{all_lists, first_within}
use Rattle.stored_form.specs.Frame.{image}
use Rattle.stored_form.specs.Reading.{Beyond, Ragged, Framing, File, ending, reading, out, changes}
use Rattle.stored_form.specs.Salvage.{Changed, Lost, salvage_lines, lost_count, salvage_out}

abbrev pub small_sum : ℕ → ℕ → ℕ
small_sum a b = slice_index (0 ∷ 1 ∷ 2 ∷ 3 ∷ 1 ∷ 0 ∷ 3 ∷ 2 ∷ 2 ∷ 3 ∷ 0 ∷ 1 ∷ 3 ∷ 2 ∷ 1 ∷ 0 ∷ []) (a * 4 + b)

abbrev pub small_product : ℕ → ℕ → ℕ
small_product a b = slice_index (0 ∷ 0 ∷ 0 ∷ 0 ∷ 0 ∷ 1 ∷ 2 ∷ 3 ∷ 0 ∷ 2 ∷ 3 ∷ 1 ∷ 0 ∷ 3 ∷ 1 ∷ 2 ∷ []) (a * 4 + b)

abbrev pub small_multiple : ℕ → List ℕ → List ℕ
small_multiple a xs = map (small_product a) xs

abbrev pub small_added : List ℕ → List ℕ → List ℕ
small_added (x ∷ xs) (y ∷ ys) = small_sum x y ∷ small_added xs ys
small_added _ _ = []

abbrev pub small_word : List ℕ → List ℕ
small_word msg = small_added (small_multiple (slice_index msg 0) (1 ∷ 0 ∷ 0 ∷ 1 ∷ 2 ∷ 3 ∷ 1 ∷ 0 ∷ []))
    (small_added (small_multiple (slice_index msg 1) (0 ∷ 1 ∷ 0 ∷ 1 ∷ 1 ∷ 0 ∷ 3 ∷ 2 ∷ []))
    (small_multiple (slice_index msg 2) (0 ∷ 0 ∷ 1 ∷ 1 ∷ 2 ∷ 2 ∷ 3 ∷ 3 ∷ [])))

abbrev pub small_messages : List (List ℕ)
small_messages = all_lists 4 3

abbrev pub small_words : List (List ℕ)
small_words = map small_word small_messages

abbrev pub small_form : ℕ → Form
small_form depth = record {
  n = 8;
  k = 3;
  bits = 2;
  depth = depth;
  packed = false;
  radius = 2;
  places = 0 ∷ 1 ∷ 2 ∷ [];
  word = small_word;
  near = first_within 2 small_words;
}

abbrev pub small_packed : Form
small_packed = at_layout 1 true (small_form 1)

abbrev pub sum_word : List ℕ → List ℕ
sum_word msg = slice_index msg 0 ∷ slice_index msg 1 ∷ small_sum (slice_index msg 0) (slice_index msg 1) ∷ []

abbrev pub sum_form : Form
sum_form = record {
  n = 3;
  k = 2;
  bits = 2;
  depth = 1;
  packed = true;
  radius = 0;
  places = 0 ∷ 1 ∷ [];
  word = sum_word;
  near = first_within 0 (map sum_word (all_lists 4 2));
}

abbrev pub damaged_pair : List ℕ
damaged_pair = 1 ∷ 1 ∷ 0 ∷ 0 ∷ 0 ∷ 0 ∷ 0 ∷ 0 ∷ 3 ∷ 0 ∷ 1 ∷ 0 ∷ 2 ∷ 0 ∷ 0 ∷ 3 ∷ []

abbrev pub lost_first : List ℕ
lost_first = 1 ∷ 1 ∷ 1 ∷ 0 ∷ 0 ∷ 0 ∷ 0 ∷ 0 ∷ 1 ∷ 2 ∷ 0 ∷ 3 ∷ 0 ∷ 3 ∷ 0 ∷ 3 ∷ []

abbrev pub lost_last : List ℕ
lost_last = replicate 32 0 ++ (1 ∷ 1 ∷ 1 ∷ 0 ∷ 0 ∷ 0 ∷ 0 ∷ 0 ∷ [])

pub record SmallImages : Type 0 where
  pub of_empty_file : image (small_form 1) [] ≡ 2 ∷ 0 ∷ 0 ∷ 2 ∷ 3 ∷ 1 ∷ 2 ∷ 0 ∷ []
  pub of_one_byte : image (small_form 1) (0x41 ∷ []) ≡ 1 ∷ 0 ∷ 0 ∷ 1 ∷ 2 ∷ 3 ∷ 1 ∷ 0 ∷ 1 ∷ 2 ∷ 0 ∷ 3 ∷ 0 ∷ 3 ∷ 0 ∷ 3 ∷ []
  pub of_empty_file_in_pairs : image (small_form 2) [] ≡ 2 ∷ 0 ∷ 0 ∷ 0 ∷ 0 ∷ 0 ∷ 2 ∷ 0 ∷ 3 ∷ 0 ∷ 1 ∷ 0 ∷ 2 ∷ 0 ∷ 0 ∷ 0 ∷ []
  pub of_exact_fit : image (small_form 1) (0 ∷ 0 ∷ 0 ∷ []) ≡ replicate 32 0 ++ (2 ∷ 0 ∷ 0 ∷ 2 ∷ 3 ∷ 1 ∷ 2 ∷ 0 ∷ [])

pub record SmallReadings : Type 0 where
  pub of_empty_file : reading (small_form 1) (2 ∷ 0 ∷ 0 ∷ 2 ∷ 3 ∷ 1 ∷ 2 ∷ 0 ∷ []) ≡ File []
  pub of_one_byte : reading (small_form 1) (1 ∷ 0 ∷ 0 ∷ 1 ∷ 2 ∷ 3 ∷ 1 ∷ 0 ∷ 1 ∷ 2 ∷ 0 ∷ 3 ∷ 0 ∷ 3 ∷ 0 ∷ 3 ∷ []) ≡ File (0x41 ∷ [])
  pub of_three_wrong_bytes : reading (small_form 1) (6 ∷ 0 ∷ 0 ∷ 0 ∷ 3 ∷ 1 ∷ 0xff ∷ 0 ∷ []) ≡ Beyond 0 0
  pub of_one_byte_more : reading (small_form 1) (1 ∷ 0 ∷ 0 ∷ 1 ∷ 2 ∷ 3 ∷ 1 ∷ 0 ∷ 1 ∷ 2 ∷ 0 ∷ 3 ∷ 0 ∷ 3 ∷ 0 ∷ 3 ∷ 7 ∷ []) ≡ Ragged 1
  pub of_no_marker : reading (small_form 1) (0 ∷ 0 ∷ 0 ∷ 0 ∷ 0 ∷ 0 ∷ 0 ∷ 0 ∷ []) ≡ Framing
  pub of_marker_in_earlier_group : reading (small_form 1) (2 ∷ 0 ∷ 0 ∷ 2 ∷ 3 ∷ 1 ∷ 2 ∷ 0 ∷ 0 ∷ 0 ∷ 0 ∷ 0 ∷ 0 ∷ 0 ∷ 0 ∷ 0 ∷ []) ≡ Framing
  pub of_one_bit_before_marker : reading (small_form 1) (1 ∷ 0 ∷ 0 ∷ 1 ∷ 2 ∷ 3 ∷ 1 ∷ 0 ∷ []) ≡ Framing
  pub of_lost_last_group : reading (small_form 1) (replicate 32 0 ++ (1 ∷ 1 ∷ 1 ∷ 0 ∷ 0 ∷ 0 ∷ 0 ∷ 0 ∷ [])) ≡ Beyond 4 0
  pub of_no_bytes : reading (small_form 1) [] ≡ Ragged 0
  pub of_damaged_pair : reading (small_form 2) damaged_pair ≡ File []

pub record SmallOutputs : Type 0 where
  pub of_one_byte_more : out (small_form 1) (1 ∷ 0 ∷ 0 ∷ 1 ∷ 2 ∷ 3 ∷ 1 ∷ 0 ∷ 1 ∷ 2 ∷ 0 ∷ 3 ∷ 0 ∷ 3 ∷ 0 ∷ 3 ∷ 7 ∷ []) ≡ 0x41 ∷ []
  pub of_lost_last_group : out (small_form 1) (replicate 32 0 ++ (1 ∷ 1 ∷ 1 ∷ 0 ∷ 0 ∷ 0 ∷ 0 ∷ 0 ∷ [])) ≡ 0 ∷ 0 ∷ 0 ∷ []
  pub of_marker_in_earlier_group : out (small_form 1) (2 ∷ 0 ∷ 0 ∷ 2 ∷ 3 ∷ 1 ∷ 2 ∷ 0 ∷ 0 ∷ 0 ∷ 0 ∷ 0 ∷ 0 ∷ 0 ∷ 0 ∷ 0 ∷ []) ≡ []

pub record SmallChanges : Type 0 where
  pub of_two_symbols : changes (small_form 1) (2 ∷ 0 ∷ 1 ∷ 0 ∷ 3 ∷ 1 ∷ 2 ∷ 0 ∷ []) ≡ record { group = 0; word = 0; place = 2; old = 1; new = 0 } ∷ record { group = 0; word = 0; place = 3; old = 0; new = 2 } ∷ []
  pub of_a_byte_with_high_bits : changes (small_form 1) (2 ∷ 0 ∷ 0 ∷ 0 ∷ 3 ∷ 1 ∷ 0xff ∷ 0 ∷ []) ≡ record { group = 0; word = 0; place = 3; old = 0; new = 2 } ∷ record { group = 0; word = 0; place = 6; old = 0xff; new = 2 } ∷ []
  pub of_high_bits_alone : changes (small_form 1) (6 ∷ 0 ∷ 0 ∷ 2 ∷ 3 ∷ 1 ∷ 2 ∷ 0 ∷ []) ≡ record { group = 0; word = 0; place = 0; old = 6; new = 2 } ∷ []
  pub of_damaged_pair : changes (small_form 2) damaged_pair ≡ record { group = 0; word = 0; place = 0; old = 1; new = 2 } ∷ record { group = 0; word = 0; place = 3; old = 0; new = 2 }
      ∷ record { group = 0; word = 1; place = 0; old = 1; new = 0 } ∷ record { group = 0; word = 1; place = 7; old = 3; new = 0 } ∷ []

pub record SmallSalvage : Type 0 where
  pub ending_of_lost_first_group : ending (small_form 1) lost_first ≡ File (0x55 ∷ [])
  pub out_of_lost_first_group : salvage_out (small_form 1) lost_first ≡ 0x55 ∷ []
  pub lines_of_lost_first_group : salvage_lines (small_form 1) lost_first ≡ Lost 0 0 ∷ []
  pub count_of_lost_first_group : lost_count (small_form 1) lost_first ≡ 1
  pub ending_of_lost_last_group : ending (small_form 1) lost_last ≡ Framing
  pub out_of_lost_last_group : salvage_out (small_form 1) lost_last ≡ 0 ∷ 0 ∷ 0 ∷ []
  pub lines_of_lost_last_group : salvage_lines (small_form 1) lost_last ≡ Lost 4 0 ∷ []
  -- the first codeword of a pair is lost, and the second has one change
  pub lines_of_pair : salvage_lines (small_form 2) (1 ∷ 1 ∷ 1 ∷ 0 ∷ 1 ∷ 0 ∷ 0 ∷ 0 ∷ 0 ∷ 0 ∷ 0 ∷ 0 ∷ 0 ∷ 0 ∷ 0 ∷ 0 ∷ [])
      ≡ Lost 0 0 ∷ Changed (record { group = 0; word = 1; place = 0; old = 1; new = 0 }) ∷ []

pub record SmallPacked : Type 0 where
  pub image_of_empty_file : image small_packed [] ≡ 0x82 ∷ 0xd8 ∷ []
  pub reading_of_image : reading small_packed (0x82 ∷ 0xd8 ∷ []) ≡ File []
  pub reading_of_two_symbols : reading small_packed (0x84 ∷ 0xd8 ∷ []) ≡ File []
  pub changes_of_two_symbols : changes small_packed (0x84 ∷ 0xd8 ∷ [])
      ≡ record { group = 0; word = 0; place = 2; old = 1; new = 0 } ∷ record { group = 0; word = 0; place = 3; old = 0; new = 2 } ∷ []
  pub reading_of_one_byte : reading small_packed (0x82 ∷ []) ≡ Ragged 1
  pub image_with_fill_bits : image sum_form [] ≡ 0x88 ∷ []
  pub reading_of_fill_bits : reading sum_form (0x8b ∷ []) ≡ File []
  pub changes_of_fill_bits : changes sum_form (0x8b ∷ []) ≡ []
  pub reading_of_changed_symbol : reading sum_form (0x8c ∷ []) ≡ Beyond 0 0
