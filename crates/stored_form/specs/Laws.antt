-- FrameLaw       bits of whole groups frame a file exactly where fewer 0s than a group has follow their last 1, and whole
--                bytes stand before it; no file frames as another's bits
-- FillLaw        no fewer 0s make whole groups
-- FillBitsLaw    no fewer fill bits make whole bytes, packed symbols have them after their bits, and their value does
--                not count
-- ValuesLaw      a stored symbol has no other value than the layout says
-- GroupLaw       a stored group gives its codewords back, in either layout, and so does a text of such groups; in
--                layout bytes any group is the codewords gathered from it
-- ImageLaw       the image of a file is read as that file, with no changes
-- FileLaw        a text is read as a file exactly where it is within the radius of that file's image in each block
-- ChangeLaw      .. and its changes then are those from its blocks to the blocks of the image
-- ListLaw        the changes from blocks to codewords are exactly the positions at which they differ, in order, each once
-- BeyondLaw      when a text is read as Beyond
-- RaggedLaw      when a text is read as Ragged
-- FramingLaw     when a text is read as Framing
-- OutLaw         how many bytes the corrected bits of h groups make, and that those of fewer groups stand at the front
-- SalvageLaw     where every codeword has a near, going on past codewords without near reads, writes and tells the same
-- LostLaw        as many lines of salvage tell of lost codewords as there are
-- SmallCodeLaw   the small code of specs/SmallCode is sound in groups of every depth and in either layout, so the laws
--                are met by some code
-- FramesFile, HasFillBits, KeepsGroups, ChangesListed, OutPart, SalvageSame   what these laws give
use Rattle.std.specs.Prelude.{ℕ, ◌+◌, ◌*◌, ◌/◌, ◌%◌, ◌^◌, ◌<◌, ◌≤◌, ◌≡◌, ◌↔◌, ◌⊎◌, Bool, true, false, List, [], ◌∷◌, ◌++◌, length, map, flat_map, All, Contains, Some, replicate}
use Rattle.std.specs.List.Sorted.{IsStrictlyIncreasing}
use Rattle.stored_form.specs.Bits.{whole_pieces, bits_of_symbols, symbols_of}
use Rattle.stored_form.specs.Form.{Form, at_layout, IsSound}
use Rattle.stored_form.specs.Group.{stored_group, stored_blocks}
use Rattle.stored_form.specs.Symbols.{symbol_values, stored_size, byte_fill, fill_bits, packed_bytes, packed_symbols, stored_symbols, AreStorable}
use Rattle.stored_form.specs.Frame.{IsFile, group_bits, group_bytes, fill, framed, unframed, image}
use Rattle.stored_form.specs.Reading.{Beyond, Ragged, Framing, File, group_count, blocks, AllNear, corrected, reading, ending, out, IsNearImage, IsFirstLost, Change, differences, IsDifference, change_number, changes}
use Rattle.stored_form.specs.SmallCode.{small_form}
use Rattle.stored_form.specs.Salvage.{Changed, salvage_lines, lost_in, lost_count, salvage_out}

pub record FramesFile (F : Form) (bits : List Bool) : Type 0 where
  pub unframes : (x : List ℕ) → (unframed F bits ≡ Some x) ↔ (IsFile x × (bits ≡ framed F x))
  pub last_one : ((x : List ℕ) × IsFile x × (bits ≡ framed F x)) ↔ ((front : List Bool) × (zeros : ℕ) × (bits ≡ front ++ true ∷ replicate zeros false) × (zeros < group_bits F) × (length front % 8 ≡ 0))

abbrev pub FrameLaw : Type 0
FrameLaw = (F : Form) (bits : List Bool) → IsSound F → length bits % group_bits F ≡ 0 → FramesFile F bits

abbrev pub FillLaw : Type 0
FillLaw = (F : Form) (count : ℕ) → IsSound F → ((count + 1 + fill F count) % group_bits F ≡ 0) × ((zeros : ℕ) → (count + 1 + zeros) % group_bits F ≡ 0 → fill F count ≤ zeros)

pub record HasFillBits (width : ℕ) (symbols : List ℕ) : Type 0 where
  pub whole : (length symbols * width + byte_fill (length symbols * width)) % 8 ≡ 0
  pub fewest : (more : ℕ) → (length symbols * width + more) % 8 ≡ 0 → byte_fill (length symbols * width) ≤ more
  pub after : bits_of_symbols 8 (packed_bytes width symbols) ≡ bits_of_symbols width symbols ++ fill_bits width symbols
  pub any : (bytes : List ℕ) (rest : List Bool) → All (λ s. s < 2 ^ width) symbols →
      bits_of_symbols 8 bytes ≡ bits_of_symbols width symbols ++ rest →
      packed_symbols width (length symbols) bytes ≡ symbols

abbrev pub FillBitsLaw : Type 0
FillBitsLaw = (width : ℕ) (symbols : List ℕ) → HasFillBits width symbols

abbrev pub ValuesLaw : Type 0
ValuesLaw = (packed : Bool) (width count : ℕ) (bytes : List ℕ) → All (λ b. b < 256) bytes →
    All (λ s. s < symbol_values packed width) (stored_symbols packed width count bytes)

pub record KeepsGroups (packed : Bool) (width n depth : ℕ) : Type 0 where
  pub back : (words : List (List ℕ)) → length words ≡ depth → All (λ word. length word ≡ n) words →
      All (AreStorable packed width) words →
      stored_blocks packed width n depth (stored_group packed width n words) ≡ words
  pub texts : (groups : List (List (List ℕ))) → 0 < width → 0 < n → 0 < depth →
      All (λ words. length words ≡ depth) groups → All (All (λ word. length word ≡ n)) groups →
      All (All (AreStorable packed width)) groups →
      flat_map (stored_blocks packed width n depth)
      (whole_pieces (stored_size packed width (n * depth)) (flat_map (stored_group packed width n) groups))
      ≡ flat_map (λ words. words) groups
  pub bytes : (group : List ℕ) → packed ≡ false → 0 < depth → length group ≡ n * depth →
      stored_group packed width n (stored_blocks packed width n depth group) ≡ group

abbrev pub GroupLaw : Type 0
GroupLaw = (packed : Bool) (width n depth : ℕ) → KeepsGroups packed width n depth

abbrev pub ImageLaw : Type 0
ImageLaw = (F : Form) (x : List ℕ) → IsSound F → IsFile x → (reading F (image F x) ≡ File x) × (changes F (image F x) ≡ [])

abbrev pub FileLaw : Type 0
FileLaw = (F : Form) (x z : List ℕ) → IsSound F → (reading F z ≡ File x) ↔ (IsFile x × IsNearImage F x z)

abbrev pub ChangeLaw : Type 0
ChangeLaw = (F : Form) (x z : List ℕ) → IsSound F → IsFile x → IsNearImage F x z → changes F z ≡ differences F (blocks F z) (blocks F (image F x))

pub record ChangesListed (F : Form) (ys cs : List (List ℕ)) : Type 0 where
  pub just : (change : Change) → Contains (differences F ys cs) change ↔ IsDifference F ys cs change
  pub rise : IsStrictlyIncreasing (map (change_number F) (differences F ys cs))

abbrev pub ListLaw : Type 0
ListLaw = (F : Form) (ys cs : List (List ℕ)) → 0 < F.depth → ChangesListed F ys cs

abbrev pub BeyondLaw : Type 0
BeyondLaw = (F : Form) (z : List ℕ) (g c : ℕ) → IsSound F → (reading F z ≡ Beyond g c) ↔ IsFirstLost F z g c

abbrev pub RaggedLaw : Type 0
RaggedLaw = (F : Form) (z : List ℕ) (extra : ℕ) → (reading F z ≡ Ragged extra) ↔ (AllNear F z × (extra ≡ length z % group_bytes F) × ((length z ≡ 0) ⊎ (0 < extra)))

abbrev pub FramingLaw : Type 0
FramingLaw = (F : Form) (z : List ℕ) → IsSound F →
    (reading F z ≡ Framing) ↔ (AllNear F z × (0 < length z) × (length z % group_bytes F ≡ 0) × ((x : List ℕ) → IsFile x → corrected F z (group_count F z) ≡ framed F x → ⊥))

pub record OutPart (F : Form) (z : List ℕ) (h : ℕ) : Type 0 where
  pub long : length (symbols_of 8 (corrected F z h)) ≡ h * group_bits F / 8
  pub front : (g : ℕ) → g ≤ h → (rest : List ℕ) × (symbols_of 8 (corrected F z h) ≡ symbols_of 8 (corrected F z g) ++ rest)

abbrev pub OutLaw : Type 0
OutLaw = (F : Form) (z : List ℕ) (h : ℕ) → IsSound F → h ≤ group_count F z → OutPart F z h

pub record SalvageSame (F : Form) (z : List ℕ) : Type 0 where
  pub reads : reading F z ≡ ending F z
  pub writes : out F z ≡ salvage_out F z
  pub tells : salvage_lines F z ≡ map Changed (changes F z)

abbrev pub SalvageLaw : Type 0
SalvageLaw = (F : Form) (z : List ℕ) → lost_count F z ≡ 0 → SalvageSame F z

abbrev pub LostLaw : Type 0
LostLaw = (F : Form) (z : List ℕ) → lost_in (salvage_lines F z) ≡ lost_count F z

abbrev pub SmallCodeLaw : Type 0
SmallCodeLaw = (depth : ℕ) (packed : Bool) → 0 < depth → IsSound (at_layout depth packed (small_form 1))
