-- changes_to F z h  the changes of the first h groups of a text
-- change_line    the line of a change
-- lines_of       the lines of changes, in order
-- line_text      the line of a change, or of a lost codeword
-- text_of        the text of lines, in order
-- lines F z      the change lines that are told of a text
-- done_at        the done line of a reading: the bytes of the file, the groups and the changes; nothing where it is
--                no file
-- done F z       the done line of a text
-- report_of      the change lines of a text, and its done line after them
-- counts_of      what decoding counts of a text that is read as this file
-- sure_bytes     the whole bytes of the corrected bits of the groups whose changes are told
use Rattle.std.specs.Prelude.{ℕ, ◌*◌, List, [], ◌++◌, length, map, take, flat_map}
use Rattle.ag_texts.specs.Lines.{changed_line_of, lost_line_of, done_line_of}
use Rattle.stored_form.specs.Bits.{symbols_of}
use Rattle.stream_codec.specs.declared.decode.DecodeCounts.{DecodeCounts}
use Rattle.stored_form.specs.Form.{Form}
use Rattle.stored_form.specs.Reading.{Reading, File, Change, group_count, blocks, kept, corrected, differences, reading, told_groups, changes}
use Rattle.stored_form.specs.Salvage.{Line, Changed, Lost}

abbrev pub changes_to : Form → List ℕ → ℕ → List Change
changes_to F z h = let ys = take (h * F.depth) (blocks F z) in differences F ys (map (kept F) ys)

unfoldable pub change_line : Change → List ℕ
change_line c = changed_line_of c.group c.word c.place c.old c.new

abbrev pub lines_of : List Change → List ℕ
lines_of cs = flat_map change_line cs

abbrev pub line_text : Line → List ℕ
line_text (Changed c) = change_line c
line_text (Lost group word) = lost_line_of group word

abbrev pub text_of : List Line → List ℕ
text_of ls = flat_map line_text ls

abbrev pub lines : Form → List ℕ → List ℕ
lines F z = lines_of (changes F z)

abbrev pub done_at : Form → List ℕ → Reading → List ℕ
done_at F z (File x) = done_line_of (length x) (group_count F z) (length (changes F z))
done_at F z _ = []

abbrev pub done : Form → List ℕ → List ℕ
done F z = done_at F z (reading F z)

abbrev pub report_of : Form → List ℕ → List ℕ
report_of F z = lines F z ++ done F z

abbrev pub counts_of : Form → List ℕ → List ℕ → DecodeCounts
counts_of F z x = record { groups = group_count F z; bytes = length x; changes = length (changes F z) }

abbrev pub sure_bytes : Form → List ℕ → List ℕ
sure_bytes F z = symbols_of 8 (corrected F z (told_groups F z (reading F z)))
