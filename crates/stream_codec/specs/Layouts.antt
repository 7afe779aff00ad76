-- Fits        a layout of groups of a code
-- in_groups   a code in the groups of a layout
-- blocks_at   the blocks of the whole groups of a text, by the numbers of the layout
use Rattle.std.specs.Prelude.{ℕ, ◌≡◌, List, flat_map}
use Rattle.stored_form.specs.Bits.{whole_pieces}
use Rattle.stored_form.specs.Form.{Form, at_layout}
use Rattle.ag_frame.specs.declared.frame.Layout.{Layout}
use Rattle.ag_frame.specs.Layouts.{IsLayout, bytes_in_group, words_of_group}
use Rattle.coded_block.specs.Codes.{IsCode}

pub record Fits (l : Layout) (F : Form) : Type 0 where
  pub layout : IsLayout l
  pub n : l.n ≡ F.n
  pub k : l.k ≡ F.k
  pub bits : l.bits ≡ F.bits
  pub code : IsCode F

abbrev pub in_groups : Layout → Form → Form
in_groups l F = at_layout l.depth l.packed F

abbrev pub blocks_at : Layout → List ℕ → List (List ℕ)
blocks_at l z = flat_map (words_of_group l) (whole_pieces (bytes_in_group l) z)
