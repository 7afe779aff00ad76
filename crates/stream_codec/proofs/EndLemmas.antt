-- How a text ends.
use Rattle.std.proofs.Common.{ℕ, ◌+◌, ◌*◌, ◌-◌, ◌/◌, ◌%◌, ◌<◌, ◌≤◌, ◌≡◌, ◌⊎◌, Bool, true, false, List, [], ◌∷◌, ◌++◌, length, replicate, Option, Some, None, Result, Err, refl, sym, ap, ap₂, ◌∙◌, subst, arith, inl, inr, append_assoc, length-append, length-drop, div-add-mod'}
use Rattle.std.proofs.lemmas.List.{append-nil}
use Rattle.std.proofs.lemmas.Nat.{div-mul-add, mod-mul-add}
use Rattle.ag_frame.specs.Queues.{OutState, bits_held}
use Rattle.stored_form.specs.Bits.{symbols_of}
use Rattle.stored_form.specs.Form.{Form, IsSound}
use Rattle.stored_form.specs.Frame.{group_bytes, group_bits, before_last_one}
use Rattle.stored_form.specs.Reading.{group_count, blocks, corrected, ending, out_at}
use Rattle.stored_form.specs.Reading.{Ragged as ReadRagged, Framing as ReadFraming, File as ReadFile}
use Rattle.stored_form.specs.Salvage.{lines_of_blocks, salvage_lines, changes_in, lost_in, lost_count, salvage_out}
use Rattle.stored_form.proofs.FrameLemmas.{group_bytes_above_0, split_at_last_one}
use Rattle.stored_form.proofs.CoderLemmas.{symbols_of-append_rest}
use Rattle.stored_form.proofs.ConverseLemmas.{ending_ragged_from}
use Rattle.stored_form.proofs.DecoderLemmas.{IsHolding, ending_held_file, ending_held_no_one, ending_held_no_bytes, corrected-append, length-corrected_at}
use Rattle.stored_form.proofs.StreamLemmas.{blocks-append, blocks_of_rest}
use Rattle.stream_codec.specs.Sinks.{sinks_of}
use Rattle.stream_codec.specs.Dealing.{Dealt, TextClosed, TextEnded, answered, out_stopped, report_stopped}
use Rattle.stream_codec.specs.Running.{EndTold, EndWritten}
use Rattle.stream_codec.specs.Salvaging.{end_of, answer_of, last_lines, salvage_counts, told_lines, salvage_report, whole_bytes}
use Rattle.ag_io.specs.Views.{SinkView}
use Rattle.ag_io.specs.Puts.{Wrote, WroteSome}
use Rattle.stream_codec.specs.Report.{text_of}
use Rattle.stream_codec.specs.Writing.{bytes_left, bytes_in, EndsFile, EndsNoFile}
use Rattle.stream_codec.specs.declared.deal.Tally.{Tally}
use Rattle.stream_codec.specs.declared.text.Last.{Last}
use Rattle.stream_codec.specs.declared.decode.DecodeFault.{DecodeFault}
use Rattle.stream_codec.specs.declared.decode.DecodeFault.TheVariants.{OutFault}
use Rattle.stream_codec.specs.declared.salvage.SalvageCounts.{SalvageCounts}
use Rattle.stream_codec.specs.declared.salvage.SalvageEnd.{SalvageEnd}
use Rattle.stream_codec.specs.declared.salvage.SalvageEnd.TheVariants.{File, Ragged, Framing}
use Rattle.stream_codec.proofs.DealtLemmas.{count_is, even_is, all_bytes, lost_is}
use Rattle.ag_io.proofs.Writes.{wrote_more, wrote_some}

-- ---- bytes after the whole groups
pub rest_count : (G : Form) (z p : List ℕ) (n : ℕ) → length z ≡ n * group_bytes G → length p < group_bytes G → group_count G (z ++ p) ≡ n
rest_count G z p n whole short = ap (λ l. l / group_bytes G) (length-append z p ∙ ap (λ l. l + length p) whole) ∙ div-mul-add n (group_bytes G) (length p) short

rest_extra : (G : Form) (z p : List ℕ) (n : ℕ) → length z ≡ n * group_bytes G → length p < group_bytes G → length (z ++ p) % group_bytes G ≡ length p
rest_extra G z p n whole short = ap (λ l. l % group_bytes G) (length-append z p ∙ ap (λ l. l + length p) whole) ∙ mod-mul-add n (group_bytes G) (length p) short

pub rest_blocks : (G : Form) (z p : List ℕ) (n : ℕ) → IsSound G → length z ≡ n * group_bytes G → length p < group_bytes G → blocks G (z ++ p) ≡ blocks G z
rest_blocks G z p n sound whole short = blocks-append G z p sound (even_is G z n sound whole) ∙ ap (λ l. blocks G z ++ l) (blocks_of_rest G p short) ∙ append-nil (blocks G z)

pub rest_corrected : (G : Form) (z p : List ℕ) (n h : ℕ) → IsSound G → length z ≡ n * group_bytes G → h ≤ n → corrected G (z ++ p) h ≡ corrected G z h
rest_corrected G z p n h sound whole below = corrected-append G z p h sound (even_is G z n sound whole) (omega (arith, count_is G z n sound whole))

pub rest_whole : (G : Form) (z p : List ℕ) (n : ℕ) → IsSound G → length z ≡ n * group_bytes G → length p < group_bytes G → whole_bytes G (z ++ p) ≡ whole_bytes G z
rest_whole G z p n sound whole short =
    let count = count_is G z n sound whole in
    ap (λ m. symbols_of 8 (corrected G (z ++ p) m)) (rest_count G z p n whole short)
    ∙ ap (symbols_of 8) (rest_corrected G z p n n sound whole (omega arith) ∙ ap (corrected G z) (sym count))

-- ---- Ragged
pub ragged_closed : (G : Form) (ot rt : Bool) (out out1 out2 report report1 : SinkView) (s : OutState) (tally : Tally) (z p : List ℕ) (extra bytes : ℕ) → IsSound G → Dealt G (sinks_of ot out out1 rt report report1) s tally z → length p ≡ extra → extra < group_bytes G → ((0 < extra) ⊎ (tally.groups ≡ 0)) →
    Wrote ot out1 out2 (symbols_of 8 (s.released ++ bits_held s.held)) → bytes ≡ length (symbols_of 8 (s.released ++ bits_held s.held)) → TextClosed G (sinks_of ot out out2 rt report report1) tally (z ++ p) (record { end = Ragged extra; bytes = bytes })
unfolding salvage_out
ragged_closed G ot rt out out1 out2 report report1 s tally z p extra bytes sound d long short cause wrote bytes_are =
    let n = tally.groups in
    let text = z ++ p in
    let below : length p < group_bytes G = omega arith in
    let count = rest_count G z p n d.whole below in
    let at_end = rest_extra G z p n d.whole below in
    let rest : (length text ≡ 0) ⊎ (0 < length text % group_bytes G) = elim cause [
      | inl some ↦ inr (omega arith)
      | inr none ↦ elim (z_or_more (length p)) [ inl nothing ↦ inl (length-append z p ∙ ap₂ (λ a b. a + b) (d.whole ∙ ap (λ m. m * group_bytes G) none) nothing ∙ (let e : 0 * group_bytes G + 0 ≡ 0 = omega arith in e)) | inr some ↦ inr (omega arith) ]
    ] in
    let ends : ending G text ≡ ReadRagged extra = ending_ragged_from G text rest ∙ ap ReadRagged (at_end ∙ long) in
    let first = symbols_of 8 (corrected G z (n - 1)) in
    let more = symbols_of 8 (s.released ++ bits_held s.held) in
    let all : whole_bytes G text ≡ first ++ more = rest_whole G z p n sound d.whole below ∙ all_bytes G ot rt out out1 report report1 s tally z sound d in
    let out_is : out_at G text (ending G text) ≡ whole_bytes G text = ap (out_at G text) ends in
    let same : salvage_lines G text ≡ salvage_lines G z = ap (lines_of_blocks G) (rest_blocks G z p n sound d.whole below) in
    record {
      ends = ap end_of ends;
      wrote = wrote_more (out_at G text (ending G text)) d.wrote wrote (out_is ∙ all);
      told = subst (λ ls. Wrote rt report report1 (text_of ls)) (sym same) d.told;
      bytes = ap₂ (λ a b. a + b) d.bytes bytes_are ∙ sym (ap length (out_is ∙ all) ∙ length-append first more);
      groups = sym count;
      changes = d.changes ∙ ap changes_in (sym same);
      lost = d.lost ∙ ap lost_in (sym same) ∙ sym (lost_is G text);
      rest = [];
      front = sym out_is ∙ sym (append-nil (out_at G text (ending G text)));
    }
  where
    z_or_more : (m : ℕ) → (m ≡ 0) ⊎ (0 < m)
    z_or_more m = grind arith

-- ---- the held group
holding : (G : Form) (ot rt : Bool) (out out1 report report1 : SinkView) (s : OutState) (tally : Tally) (z : List ℕ) → IsSound G → Dealt G (sinks_of ot out out1 rt report report1) s tally z → 0 < tally.groups → IsHolding G z (corrected G z (tally.groups - 1)) (bits_held s.held)
holding G ot rt out out1 report report1 s tally z sound d some =
    let n = tally.groups in
    let count = count_is G z n sound d.whole in
    let before = corrected G z (n - 1) in
    let held = bits_held s.held in
    let all_long : length (corrected G z n) ≡ n * group_bits G = length-corrected_at G z n sound (omega arith) in
    let before_long : length before ≡ (n - 1) * group_bits G = length-corrected_at G z (n - 1) sound (omega arith) in
    let back : n ≡ (n - 1) + 1 = omega arith in
    let sum : n * group_bits G ≡ (n - 1) * group_bits G + group_bits G = ap (λ m. m * group_bits G) back ∙ (let e : ((n - 1) + 1) * group_bits G ≡ (n - 1) * group_bits G + group_bits G = omega arith in e) in
    let more : n * group_bytes G ≡ (n - 1) * group_bytes G + group_bytes G = ap (λ m. m * group_bytes G) back ∙ (let e : ((n - 1) + 1) * group_bytes G ≡ (n - 1) * group_bytes G + group_bytes G = omega arith in e) in
    record {
      some = omega (arith, d.whole, group_bytes_above_0 G sound);
      whole = even_is G z n sound d.whole;
      corrected_is = ap (corrected G z) count ∙ d.all;
      held_long = omega (arith, ap length d.all, length-append before held);
    }

-- the bits of the file, from those that were released
record Last_bits (b front : List Bool) : Type 0 where
  whole : length (b ++ front) % 8 ≡ length (bytes_left b ++ front) % 8
  bytes : symbols_of 8 (b ++ front) ≡ symbols_of 8 b ++ symbols_of 8 (bytes_left b ++ front)

last_bits : (b front : List Bool) → Last_bits b front
last_bits b front = record {
  whole = omega (arith, length-append b front, length-append (bytes_left b) front, length-drop (length b / 8 * 8) b, div-add-mod' (length b) 8);
  bytes = symbols_of-append_rest 8 b front (omega arith);
}

-- the whole bytes before the last 1 stand at the front
front_bytes : (b held front : List Bool) → before_last_one held ≡ Some front → (rest : List ℕ) × (symbols_of 8 (b ++ held) ≡ symbols_of 8 (b ++ front) ++ rest)
front_bytes b held front found =
    let (zeros, e) = split_at_last_one held front found in
    let tail = true ∷ replicate zeros false in (
      symbols_of 8 (bytes_left (b ++ front) ++ tail),
      ap (λ l. symbols_of 8 (b ++ l)) e ∙ ap (symbols_of 8) (sym (append_assoc b front tail)) ∙ symbols_of-append_rest 8 (b ++ front) tail (omega arith),
    )

-- the last bytes of a file are a front of those of the held group
pub last_front : (s : OutState) (front : List Bool) → EndsFile s front → (rest : List ℕ) × (bytes_in s ≡ symbols_of 8 (s.released ++ front) ++ rest)
last_front s front ends = front_bytes s.released (bits_held s.held) front ends.last_one

-- ---- Framing
pub framing_closed : (G : Form) (ot rt : Bool) (out out1 out2 report report1 : SinkView) (s : OutState) (tally : Tally) (z : List ℕ) (bytes : ℕ) → IsSound G → Dealt G (sinks_of ot out out1 rt report report1) s tally z → 0 < tally.groups → EndsNoFile s →
    Wrote ot out1 out2 [] → bytes ≡ 0 → TextClosed G (sinks_of ot out out2 rt report report1) tally z (record { end = Framing; bytes = bytes })
unfolding salvage_out
framing_closed G ot rt out out1 out2 report report1 s tally z bytes sound d some none wrote nothing =
    let n = tally.groups in
    let count = count_is G z n sound d.whole in
    let b = corrected G z (n - 1) in
    let ends : ending G z ≡ ReadFraming = by_last (before_last_one (bits_held s.held)) refl in
    let out_is : out_at G z (ending G z) ≡ symbols_of 8 b = ap (out_at G z) ends ∙ ap (λ m. symbols_of 8 (corrected G z (m - 1))) count in
    record {
      ends = ap end_of ends;
      wrote = wrote_more (out_at G z (ending G z)) d.wrote wrote (out_is ∙ sym (append-nil (symbols_of 8 b)));
      told = d.told;
      bytes = ap₂ (λ a c. a + c) d.bytes nothing ∙ (let e : length (symbols_of 8 b) + 0 ≡ length (symbols_of 8 b) = omega arith in e) ∙ sym (ap length out_is);
      groups = sym count;
      changes = d.changes;
      lost = d.lost ∙ sym (lost_is G z);
      rest = symbols_of 8 (s.released ++ bits_held s.held);
      front = all_bytes G ot rt out out1 report report1 s tally z sound d ∙ ap (λ l. l ++ symbols_of 8 (s.released ++ bits_held s.held)) (sym out_is);
    }
  where
    by_last : (o : Option (List Bool)) → before_last_one (bits_held s.held) ≡ o → ending G z ≡ ReadFraming
    by_last None e = ending_held_no_one G z (corrected G z (tally.groups - 1)) (bits_held s.held) (holding G ot rt out out1 report report1 s tally z sound d some) e
    by_last (Some front) e = ending_held_no_bytes G z (corrected G z (tally.groups - 1)) (bits_held s.held) front (holding G ot rt out out1 report report1 s tally z sound d some) e
        (λ whole. none front e (ap (λ l. length (l ++ front) % 8) d.released ∙ sym (last_bits (corrected G z (tally.groups - 1)) front).whole ∙ whole))

-- ---- a file
pub file_closed : (G : Form) (ot rt : Bool) (out out1 out2 report report1 : SinkView) (s : OutState) (tally : Tally) (z : List ℕ) (front : List Bool) (bytes : ℕ) → IsSound G → Dealt G (sinks_of ot out out1 rt report report1) s tally z → 0 < tally.groups → EndsFile s front →
    Wrote ot out1 out2 (symbols_of 8 (s.released ++ front)) → bytes ≡ length (symbols_of 8 (s.released ++ front)) → TextClosed G (sinks_of ot out out2 rt report report1) tally z (record { end = File; bytes = bytes })
unfolding salvage_out
file_closed G ot rt out out1 out2 report report1 s tally z front bytes sound d some ends wrote bytes_are =
    let n = tally.groups in
    let count = count_is G z n sound d.whole in
    let b = corrected G z (n - 1) in
    let held = bits_held s.held in
    let last = last_bits b front in
    let x = symbols_of 8 (b ++ front) in
    let more = symbols_of 8 (s.released ++ front) in
    let whole : length (b ++ front) % 8 ≡ 0 = last.whole ∙ sym (ap (λ l. length (l ++ front) % 8) d.released) ∙ ends.whole in
    let is_file : ending G z ≡ ReadFile x = ending_held_file G z b held front (holding G ot rt out out1 report report1 s tally z sound d some) ends.last_one whole in
    let split : x ≡ symbols_of 8 b ++ more = last.bytes ∙ ap (λ l. symbols_of 8 b ++ symbols_of 8 (l ++ front)) (sym d.released) in
    let out_is : out_at G z (ending G z) ≡ x = ap (out_at G z) is_file in
    let (rest, e) = front_bytes b held front ends.last_one in
    record {
      ends = ap end_of is_file;
      wrote = wrote_more (out_at G z (ending G z)) d.wrote wrote (out_is ∙ split);
      told = d.told;
      bytes = ap₂ (λ a c. a + c) d.bytes bytes_are ∙ sym (ap length (out_is ∙ split) ∙ length-append (symbols_of 8 b) more);
      groups = sym count;
      changes = d.changes;
      lost = d.lost ∙ sym (lost_is G z);
      rest = rest;
      front = ap (λ m. symbols_of 8 (corrected G z m)) count ∙ ap (symbols_of 8) d.all ∙ e ∙ ap (λ l. l ++ rest) (sym out_is);
    }

-- ---- by what was written last
no_rest : (z p : List ℕ) → length p ≡ 0 → z ++ p ≡ z
no_rest z [] none = append-nil z
no_rest z (b ∷ p) none = absurd (omega arith)

pub closed_by : (G : Form) (ot rt : Bool) (out out1 out2 report report1 : SinkView) (s : OutState) (tally : Tally) (z p : List ℕ) (extra bytes : ℕ) (end : SalvageEnd) → IsSound G → Dealt G (sinks_of ot out out1 rt report report1) s tally z → length p ≡ extra → extra < group_bytes G →
    EndWritten extra tally.groups s ot out1 out2 bytes end → TextClosed G (sinks_of ot out out2 rt report report1) tally (z ++ p) (record { end = end; bytes = bytes })
closed_by G ot rt out out1 out2 report report1 s tally z p extra bytes (Ragged more) sound d long short (same, cause, wrote, bytes_are) =
    subst (λ m. TextClosed G (sinks_of ot out out2 rt report report1) tally (z ++ p) (record { end = Ragged m; bytes = bytes })) (sym same) (ragged_closed G ot rt out out1 out2 report report1 s tally z p extra bytes sound d long short cause wrote bytes_are)
closed_by G ot rt out out1 out2 report report1 s tally z p extra bytes File sound d long short (none, some, (front, ends, wrote, bytes_are)) =
    subst (λ l. TextClosed G (sinks_of ot out out2 rt report report1) tally l (record { end = File; bytes = bytes })) (sym (no_rest z p (long ∙ none))) (file_closed G ot rt out out1 out2 report report1 s tally z front bytes sound d some ends wrote bytes_are)
closed_by G ot rt out out1 out2 report report1 s tally z p extra bytes Framing sound d long short (none, some, no_file, wrote, bytes_are) =
    subst (λ l. TextClosed G (sinks_of ot out out2 rt report report1) tally l (record { end = Framing; bytes = bytes })) (sym (no_rest z p (long ∙ none))) (framing_closed G ot rt out out1 out2 report report1 s tally z bytes sound d some no_file wrote bytes_are)

-- a write of the last bytes failed
pub last_failed : (G : Form) (ot rt : Bool) (out out1 out2 report report1 : SinkView) (s : OutState) (tally : Tally) (z p : List ℕ) → IsSound G → Dealt G (sinks_of ot out out1 rt report report1) s tally z → length p < group_bytes G →
    WroteSome ot out1 out2 (bytes_in s) → TextEnded G (sinks_of ot out out2 rt report report1) (z ++ p) (Err OutFault)
last_failed G ot rt out out1 out2 report report1 s tally z p sound d short part =
    let n = tally.groups in
    let all : whole_bytes G (z ++ p) ≡ symbols_of 8 (corrected G z (n - 1)) ++ bytes_in s = rest_whole G z p n sound d.whole short ∙ all_bytes G ot rt out out1 report report1 s tally z sound d in
    let same : salvage_lines G (z ++ p) ≡ salvage_lines G z = ap (lines_of_blocks G) (rest_blocks G z p n sound d.whole short) in
    out_stopped refl
    (wrote_some [] (whole_bytes G (z ++ p)) d.wrote part (all ∙ sym (append-nil (symbols_of 8 (corrected G z (n - 1)) ++ bytes_in s))))
    (subst (λ ls. Wrote rt report report1 (text_of ls)) (sym same) d.told)

-- ---- the last lines
abbrev counts_of_parts : ℕ → ℕ → ℕ → ℕ → SalvageEnd → SalvageCounts
counts_of_parts groups bytes changes lost end = record { groups = groups; bytes = bytes; changes = changes; lost = lost; end = end }

pub closed_counts : (G : Form) (ot rt : Bool) (out out1 report report1 : SinkView) (tally : Tally) (text : List ℕ) (last : Last) → TextClosed G (sinks_of ot out out1 rt report report1) tally text last →
    record { groups = tally.groups; bytes = tally.bytes + last.bytes; changes = tally.changes; lost = tally.lost; end = last.end } ≡ salvage_counts G text
closed_counts G ot rt out out1 report report1 tally text last k =
    ap₂ (λ g b. counts_of_parts g b tally.changes tally.lost last.end) k.groups k.bytes
    ∙ ap₂ (λ c l. counts_of_parts (group_count G text) (length (salvage_out G text)) c l last.end) k.changes k.lost
    ∙ ap (counts_of_parts (group_count G text) (length (salvage_out G text)) (changes_in (salvage_lines G text)) (lost_count G text)) (sym k.ends)

pub text_ended : (G : Form) (ot rt : Bool) (out out1 report report1 report2 : SinkView) (tally : Tally) (text : List ℕ) (last : Last) (counts : SalvageCounts) (answer : Result SalvageCounts DecodeFault) → TextClosed G (sinks_of ot out out1 rt report report1) tally text last →
    counts ≡ record { groups = tally.groups; bytes = tally.bytes + last.bytes; changes = tally.changes; lost = tally.lost; end = last.end } → EndTold rt report1 report2 counts answer → TextEnded G (sinks_of ot out out1 rt report report2) text answer
text_ended G ot rt out out1 report report1 report2 tally text last counts answer k are (inl h) =
    let same = are ∙ closed_counts G ot rt out out1 report report1 tally text last k in
    answered (record {
      answers = ap answer_of (sym same) ∙ h.answers;
      wrote = k.wrote;
      told = wrote_more (salvage_report G text) k.told h.told (ap (λ (c : SalvageCounts). told_lines G text ++ last_lines c) (sym same));
    })
text_ended G ot rt out out1 report report1 report2 tally text last counts answer k are (inr h) =
    let same = are ∙ closed_counts G ot rt out out1 report report1 tally text last k in
    report_stopped h.fault
    (record { front = salvage_out G text; rest = k.rest; bytes_are = k.front; wrote = k.wrote })
    (wrote_some [] (salvage_report G text) k.told h.some (ap (λ (c : SalvageCounts). told_lines G text ++ last_lines c) (sym same) ∙ sym (append-nil (told_lines G text ++ last_lines counts))))
