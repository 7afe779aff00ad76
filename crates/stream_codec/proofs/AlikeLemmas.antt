-- Where no codeword is lost, what salvage writes and tells is what decoding does.
use Rattle.std.proofs.Common.{ℕ, ◌*◌, ◌%◌, ◌≡◌, Bool, true, false, cond, nat_eq, nat_lt, ◌||◌, List, ◌++◌, length, map, Option, Some, None, Ok, refl, sym, ap, ap₂, ◌∙◌, arith, append_assoc}
use Rattle.stored_form.specs.Bits.{symbols_of}
use Rattle.stored_form.specs.Form.{Form, IsSound}
use Rattle.stored_form.specs.Frame.{group_bytes, unframed}
use Rattle.stored_form.specs.Reading.{Reading, group_count, blocks, kept, corrected, file_or_framing, ending, reading, out_at, told_groups, differences, changes, AllNear}
use Rattle.stored_form.specs.Reading.{Beyond as ReadBeyond, Ragged as ReadRagged, Framing as ReadFraming, File as ReadFile}
use Rattle.stored_form.specs.Salvage.{salvage_lines, changes_in, lost_count, salvage_out}
use Rattle.stored_form.proofs.ReadingLemmas.{take_whole_groups}
use Rattle.stored_form.proofs.DecoderLemmas.{corrected-append, whole_bytes_front}
use Rattle.stored_form.proofs.SalvageLemmas.{all_near_from_count, reading_none_lost, ending_told, lines_all_near, lines_none_lost, lost_count-append, changes_in-changed}
use Rattle.ag_texts.specs.Lines.{done_line_of, salvaged_line_of}
use Rattle.stream_codec.specs.Report.{changes_to, lines_of, text_of, lines, done, done_at, report_of, sure_bytes}
use Rattle.stream_codec.specs.Salvaging.{end_of, answer_at, done_by, end_line, last_lines, salvage_counts, salvage_answer, told_lines, salvage_report, whole_bytes}
use Rattle.stream_codec.proofs.ReportLemmas.{lines_of-append}
use Rattle.stream_codec.proofs.LineLemmas.{text_of-changed}
use Rattle.stream_codec.proofs.DealtLemmas.{count_is, even_is, told_front}
use Rattle.stream_codec.proofs.ToldLemmas.{changes_to_front, changes_to-append, told_at_least}

-- no ending is Beyond
pub ending_is : (G : Form) (z : List ℕ) (b : Bool) (extra : ℕ) (o : Option (List ℕ)) (g c : ℕ) → cond b (ReadRagged extra) (file_or_framing o) ≡ ReadBeyond g c → ⊥
ending_is G z true extra o g c e = cc
ending_is G z false extra None g c e = cc
ending_is G z false extra (Some x) g c e = cc

pub no_beyond : (G : Form) (z : List ℕ) (g c : ℕ) → ending G z ≡ ReadBeyond g c → ⊥
unfolding ending
no_beyond G z g c e = ending_is G z (nat_eq (length z) 0 || nat_lt 0 (length z % group_bytes G)) (length z % group_bytes G) (unframed G (corrected G z (group_count G z))) g c e

-- ---- one text
pub told_alike : (G : Form) (z : List ℕ) → lost_count G z ≡ 0 → told_lines G z ≡ lines G z
told_alike G z none = ap text_of (lines_none_lost G z none) ∙ text_of-changed (changes G z)

pub changes_alike : (G : Form) (z : List ℕ) → lost_count G z ≡ 0 → changes_in (salvage_lines G z) ≡ length (changes G z)
changes_alike G z none = ap changes_in (lines_none_lost G z none) ∙ changes_in-changed (changes G z)

pub out_is_at : (G : Form) (z : List ℕ) (r : Reading) → ending G z ≡ r → salvage_out G z ≡ out_at G z r
unfolding salvage_out
out_is_at G z r e = ap (out_at G z) e

pub sure_alike : (G : Form) (z : List ℕ) → lost_count G z ≡ 0 → sure_bytes G z ≡ whole_bytes G z
sure_alike G z none = ap (λ m. symbols_of 8 (corrected G z m)) (ap (told_groups G z) (reading_none_lost G z none) ∙ ending_told G z)

-- the test of the lost codewords, where there are none
none_chosen : {X : Type 0} (n : ℕ) (a b : X) → n ≡ 0 → cond (nat_eq n 0) a b ≡ a
none_chosen {X} n a b none = ap (λ m. cond (nat_eq m 0) a b) none

pub answer_alike : (G : Form) (z : List ℕ) (r : Reading) → lost_count G z ≡ 0 → ending G z ≡ r → salvage_answer G z ≡ answer_at (salvage_counts G z) (end_of r)
answer_alike G z r none e = none_chosen (lost_count G z) (answer_at (salvage_counts G z) (end_of (ending G z))) (Ok (salvage_counts G z)) none ∙ ap (λ v. answer_at (salvage_counts G z) (end_of v)) e

last_at : (G : Form) (z : List ℕ) (r : Reading) → lost_count G z ≡ 0 → ending G z ≡ r → done_by (salvage_counts G z) (end_of r) ≡ done_at G z r
last_at G z (ReadFile x) none e =
    ap₂ (λ b c. done_line_of b (group_count G z) c) (ap length (out_is_at G z (ReadFile x) e)) (changes_alike G z none)
last_at G z (ReadRagged extra) none e = refl
last_at G z ReadFraming none e = refl
last_at G z (ReadBeyond g c) none e = absurd (no_beyond G z g c e)

pub report_alike : (G : Form) (z : List ℕ) → lost_count G z ≡ 0 → salvage_report G z ≡ report_of G z
report_alike G z none =
    let counts = salvage_counts G z in
    ap₂ (λ a b. a ++ b) (told_alike G z none)
    (none_chosen (lost_count G z) (done_by counts (end_of (ending G z))) (end_line (end_of (ending G z)) ++ salvaged_line_of counts.bytes counts.groups counts.changes counts.lost) none
    ∙ last_at G z (ending G z) none refl
    ∙ ap (done_at G z) (sym (reading_none_lost G z none)))

-- ---- the first groups of a text that goes on
pub none_at_front : (G : Form) (z more : List ℕ) (n : ℕ) → IsSound G → length z ≡ n * group_bytes G → lost_count G (z ++ more) ≡ 0 → lost_count G z ≡ 0
none_at_front G z more n sound whole none = omega (arith, lost_count-append G z more sound (even_is G z n sound whole), none)

-- the lines of whole groups, none of which is lost
pub told_changes : (G : Form) (z : List ℕ) (n : ℕ) → IsSound G → length z ≡ n * group_bytes G → lost_count G z ≡ 0 → told_lines G z ≡ lines_of (changes_to G z n)
unfolding AllNear
told_changes G z n sound whole none =
    let words = λ (us : List (List ℕ)). differences G us (map (kept G) us) in
    ap text_of (lines_all_near G (blocks G z) (all_near_from_count G z none))
    ∙ text_of-changed (words (blocks G z))
    ∙ ap (λ us. lines_of (words us)) (sym (take_whole_groups G z))
    ∙ ap (λ m. lines_of (changes_to G z m)) (count_is G z n sound whole)

pub sure_front : (G : Form) (z more : List ℕ) (n : ℕ) → IsSound G → length z ≡ n * group_bytes G → lost_count G z ≡ 0 → (rest : List ℕ) × (sure_bytes G (z ++ more) ≡ whole_bytes G z ++ rest)
unfolding AllNear
sure_front G z more n sound whole none =
    let text = z ++ more in
    let count = count_is G z n sound whole in
    let (rest, e) = whole_bytes_front G text n (told_groups G text (reading G text)) (told_at_least G z more n sound whole (all_near_from_count G z none)) in
    let same : corrected G text n ≡ corrected G z n = corrected-append G z more n sound (even_is G z n sound whole) (omega arith) in
    (rest, e ∙ ap (λ b. symbols_of 8 b ++ rest) (same ∙ ap (corrected G z) (sym count)))

pub lines_front : (G : Form) (z more : List ℕ) (n : ℕ) → IsSound G → length z ≡ n * group_bytes G → lost_count G z ≡ 0 → (rest : List ℕ) × (lines G (z ++ more) ≡ told_lines G z ++ rest)
unfolding changes AllNear
lines_front G z more n sound whole none =
    let text = z ++ more in
    let (rest, e) = changes_to_front G text n (told_groups G text (reading G text)) (told_at_least G z more n sound whole (all_near_from_count G z none)) in
    let same : changes_to G text n ≡ changes_to G z n = changes_to-append G z more n sound (even_is G z n sound whole) (omega (arith, count_is G z n sound whole)) in (
      lines_of rest,
      ap (λ cs. lines_of cs) (e ∙ ap (λ cs. cs ++ rest) same)
          ∙ lines_of-append (changes_to G z n) rest
          ∙ ap (λ l. l ++ lines_of rest) (sym (told_changes G z n sound whole none)),
    )

pub report_front : (G : Form) (z more : List ℕ) (n : ℕ) → IsSound G → length z ≡ n * group_bytes G → lost_count G z ≡ 0 → (rest : List ℕ) × (report_of G (z ++ more) ≡ told_lines G z ++ rest)
report_front G z more n sound whole none =
    let (rest, e) = lines_front G z more n sound whole none in
    let last = done G (z ++ more) in
    (rest ++ last, ap (λ l. l ++ last) e ∙ append_assoc (told_lines G z) rest last)

-- .. of a salvage
pub salvage_front : (G : Form) (z more : List ℕ) (n : ℕ) → IsSound G → length z ≡ n * group_bytes G → (rest : List ℕ) × (salvage_report G (z ++ more) ≡ told_lines G z ++ rest)
salvage_front G z more n sound whole =
    let (rest, e) = told_front G z more n sound whole in
    let last = last_lines (salvage_counts G (z ++ more)) in
    (rest ++ last, ap (λ l. l ++ last) e ∙ append_assoc (told_lines G z) rest last)
