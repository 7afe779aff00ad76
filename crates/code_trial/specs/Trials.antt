-- codewords_of F x        the codewords in which a file is stored: the groups of its image, times the depth
-- changes_drawn F t x g   how many changes a generator draws for the codewords of the image of a file, at most t for each
-- read_back F z x         what decoding a text tells: the changes that it reports, and whether the file x came back; a text that
--                         is no file tells neither
-- outcome_for F t x g     what a trial finds: as many changes corrected as were drawn, and the file again
-- outcome_lines n o       the five lines of an outcome with a file of n bytes
-- trial_text_of           the text of a trial: the file is the first bytes of the generator of a seed, the changes come after
use Rattle.std.specs.Prelude.{ℕ, ◌*◌, ◌^◌, Bool, true, false, List, ◌++◌, length, codes, if◌then◌else◌}
use Rattle.std.specs.Str.{bytes_eq}
use Rattle.rand_pcg.specs.Lcg.{Lcg}
use Rattle.stored_form.specs.Form.{Form}
use Rattle.stored_form.specs.Frame.{image}
use Rattle.stored_form.specs.Reading.{Reading, Beyond, Ragged, Framing, File, group_count, blocks, reading, changes}
use Rattle.ag_texts.specs.Lines.{number_line_of, plain_line_of}
use Rattle.ag_trial.specs.Words.{trial_of, file_bytes, after_bytes}
use Rattle.ag_trial.specs.Damage.{changes_in}
use Rattle.code_trial.specs.declared.back.ReadBack.{ReadBack}
use Rattle.code_trial.specs.declared.outcome.Outcome.{Outcome}

abbrev pub codewords_of : Form → List ℕ → ℕ
codewords_of F x = group_count F (image F x) * F.depth

abbrev pub changes_drawn : Form → ℕ → List ℕ → Lcg → ℕ
changes_drawn F t x g = changes_in (2 ^ F.bits) t (blocks F (image F x)) g

abbrev pub read_back_by : Form → (z x : List ℕ) → Reading → ReadBack
read_back_by F z x (File y) = record { corrected = length (changes F z); equal = bytes_eq y x }
read_back_by F z x (Beyond group word) = record { corrected = 0; equal = false }
read_back_by F z x (Ragged extra) = record { corrected = 0; equal = false }
read_back_by F z x Framing = record { corrected = 0; equal = false }

abbrev pub read_back : Form → (z x : List ℕ) → ReadBack
read_back F z x = read_back_by F z x (reading F z)

abbrev pub outcome_for : Form → ℕ → List ℕ → Lcg → Outcome
outcome_for F t x g = record { codewords = codewords_of F x; changed = changes_drawn F t x g; corrected = changes_drawn F t x g; equal = true }

abbrev pub equal_line : Bool → List ℕ
equal_line equal = plain_line_of (if equal then codes "equal yes" else codes "equal no")

abbrev pub outcome_lines : ℕ → Outcome → List ℕ
outcome_lines bytes o =
    number_line_of (codes "bytes") bytes
    ++ number_line_of (codes "codewords") o.codewords
    ++ number_line_of (codes "changed") o.changed
    ++ number_line_of (codes "corrected") o.corrected
    ++ equal_line o.equal

abbrev pub trial_text_of : Form → (t seed bytes : ℕ) → List ℕ
trial_text_of F t seed bytes = outcome_lines bytes (outcome_for F t (file_bytes bytes (trial_of seed)) (after_bytes bytes (trial_of seed)))
