-- Damage of a group and of a text, by their layout.
-- word_of_group      codeword c of a group
-- words_of_text      the blocks of the groups of a text
-- fill_of_text       the bits of its groups that belong to no stored symbol
-- group_damage, group_changes    what the damage of a group draws: its codewords with the generator after them, and how
--                    many stored symbols change
-- text_damage, text_changes      the same for a text of whole groups
use Rattle.std.specs.Prelude.{ℕ, ◌^◌, Bool, List}
use Rattle.rand_pcg.specs.Lcg.{Lcg}
use Rattle.stored_form.specs.Group.{block_at}
use Rattle.ag_frame.specs.declared.frame.Layout.{Layout}
use Rattle.ag_frame.specs.Layouts.{bytes_in_group, symbols_of_group, words_of_group, fill_of_group}
use Rattle.ag_trial.specs.Damage.{damaged_words, changes_in, in_pieces, text_words}

abbrev pub word_of_group : Layout → List ℕ → (c : ℕ) → List ℕ
word_of_group l group c = block_at l.n l.depth (symbols_of_group l group) c

abbrev pub words_of_text : Layout → List ℕ → List (List ℕ)
words_of_text l text = text_words l.packed l.bits l.n l.depth text

abbrev pub fill_of_text : Layout → List ℕ → List Bool
fill_of_text l text = in_pieces (fill_of_group l) (bytes_in_group l) text

abbrev pub group_damage : Layout → (t : ℕ) → List ℕ → Lcg → List (List ℕ) × Lcg
group_damage l t group g = damaged_words (2 ^ l.bits) t (words_of_group l group) g

abbrev pub group_changes : Layout → (t : ℕ) → List ℕ → Lcg → ℕ
group_changes l t group g = changes_in (2 ^ l.bits) t (words_of_group l group) g

abbrev pub text_damage : Layout → (t : ℕ) → List ℕ → Lcg → List (List ℕ) × Lcg
text_damage l t text g = damaged_words (2 ^ l.bits) t (words_of_text l text) g

abbrev pub text_changes : Layout → (t : ℕ) → List ℕ → Lcg → ℕ
text_changes l t text g = changes_in (2 ^ l.bits) t (words_of_text l text) g
