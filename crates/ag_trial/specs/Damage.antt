-- damaged_from     the last stored symbols of a codeword where some of them are still to be changed: for each in turn a
--                  word is drawn modulo the number of symbols left, and where it is below the number of changes left,
--                  the symbol is changed by another word; with the generator after them
-- damaged          a codeword: first the number of changes is drawn, from 0 to t
-- damaged_words    codewords, one after the other
-- changes_in       the sum of the numbers of changes drawn for them
-- total_distance   at how many positions two lists of codewords differ, in all
-- in_pieces        what stands in the whole pieces of a text, in order
-- text_words       the blocks of the whole groups of a text, in order
-- IsDamage         in a codeword as many stored symbols are changed as were drawn, at most t
-- DamageLaw        the theorem: damage is so
-- IsTrialRead      a text is read as a file, with as many changes as were drawn
-- TrialLaw         the theorem: the image of a file, damaged within the radius, is so
use Rattle.std.specs.Prelude.{Bool, ◌≡◌, ℕ, suc, ◌+◌, ◌-◌, ◌*◌, ◌^◌, ◌≤◌, nat_lt, bit_xor, List, [], ◌∷◌, length, flat_map, if◌then◌else◌}
use Rattle.rand_pcg.specs.Lcg.{Lcg}
use Rattle.stored_form.specs.Bits.{whole_pieces}
use Rattle.stored_form.specs.Form.{Form, IsSound, distance}
use Rattle.stored_form.specs.Symbols.{stored_size}
use Rattle.stored_form.specs.Group.{stored_blocks}
use Rattle.stored_form.specs.Frame.{IsFile, image}
use Rattle.stored_form.specs.Reading.{File, blocks, reading, changes}
use Rattle.ag_trial.specs.Words.{drawn, after_draw}

-- a symbol is below `size`, and what is drawn to change one is from 1 to size - 1
abbrev pub damaged_from : (size left : ℕ) → List ℕ → Lcg → List ℕ × Lcg
damaged_from size left [] g = ([], g)
damaged_from size left (x ∷ xs) g =
    let here = after_draw g in
    let changed = damaged_from size (left - 1) xs (after_draw here) in
    let same = damaged_from size left xs here in
    if nat_lt (drawn (suc (length xs)) g) left
    then (bit_xor x (1 + drawn (size - 1) here) ∷ changed.0, changed.1)
    else (x ∷ same.0, same.1)

abbrev pub damaged : (size t : ℕ) → List ℕ → Lcg → List ℕ × Lcg
damaged size t word g = damaged_from size (drawn (t + 1) g) word (after_draw g)

abbrev pub damaged_words : (size t : ℕ) → List (List ℕ) → Lcg → List (List ℕ) × Lcg
damaged_words size t [] g = ([], g)
damaged_words size t (word ∷ words) g =
    let here = damaged size t word g in
    let rest = damaged_words size t words here.1 in
    (here.0 ∷ rest.0, rest.1)

abbrev pub changes_in : (size t : ℕ) → List (List ℕ) → Lcg → ℕ
changes_in size t [] g = 0
changes_in size t (word ∷ words) g =
    drawn (t + 1) g + changes_in size t words (damaged size t word g).1

abbrev pub total_distance : List (List ℕ) → List (List ℕ) → ℕ
total_distance (y ∷ ys) (x ∷ xs) = distance y x + total_distance ys xs
total_distance [] xs = 0
total_distance ys [] = 0

pub record IsDamage (size t : ℕ) (word : List ℕ) (g : Lcg) : Type 0 where
  pub as_drawn : distance (damaged size t word g).0 word ≡ drawn (t + 1) g
  pub at_most : drawn (t + 1) g ≤ t

abbrev pub DamageLaw : Type 0
DamageLaw = (size t : ℕ) (word : List ℕ) (g : Lcg) →
    2 ≤ size → t ≤ length word → IsDamage size t word g

abbrev pub in_pieces : {X : Type 0} → (List ℕ → List X) → (size : ℕ) → List ℕ → List X
in_pieces f size text = flat_map f (whole_pieces size text)

abbrev pub text_words : (packed : Bool) (width n depth : ℕ) → List ℕ → List (List ℕ)
text_words packed width n depth text =
    in_pieces (stored_blocks packed width n depth) (stored_size packed width (n * depth)) text

pub record IsTrialRead (F : Form) (t : ℕ) (x z : List ℕ) (g : Lcg) : Type 0 where
  pub read_as : reading F z ≡ File x
  pub counted : length (changes F z) ≡ changes_in (2 ^ F.bits) t (blocks F (image F x)) g

-- z is the image of x, damaged
abbrev pub TrialLaw : Type 0
TrialLaw = (F : Form) (t : ℕ) (x z : List ℕ) (g : Lcg) → IsSound F → IsFile x → t ≤ F.radius → t ≤ F.n →
    length z ≡ length (image F x) →
    blocks F z ≡ (damaged_words (2 ^ F.bits) t (blocks F (image F x)) g).0 →
    IsTrialRead F t x z g
