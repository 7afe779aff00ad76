-- One more group that was dealt with, and what faults say of a text.
use Rattle.std.proofs.Common.{ℕ, ◌+◌, ◌*◌, ◌-◌, ◌/◌, ◌%◌, ◌<◌, ◌≤◌, ◌≡◌, Bool, List, [], ◌∷◌, ◌++◌, length, map, drop, Option, Some, None, refl, sym, ap, ap₂, ◌∙◌, subst, arith, append_assoc, length-append, length-drop, drop-drop, div-add-mod', mul-div_cancel}
use Rattle.std.proofs.Math.Nat.{mul-add-div_right}
use Rattle.std.proofs.lemmas.Nat.{div-mul-add, mod-mul-add, le-div}
use Rattle.std.proofs.lemmas.List.{append-nil, drop-append-le, nil_from_length, length_push}
use Rattle.ag_frame.specs.Queues.{OutState, bits_held}
use Rattle.stored_form.specs.Bits.{symbols_of}
use Rattle.stored_form.specs.Form.{Form, IsSound}
use Rattle.stored_form.specs.Frame.{group_bytes, group_blocks}
use Rattle.stored_form.specs.Reading.{group_count, blocks, kept, message_bits, corrected}
use Rattle.stored_form.specs.Salvage.{Changed, Lost, near_lines, block_lines, lines_of_blocks, salvage_lines, lost_in, changes_in, lost_count}
use Rattle.stored_form.proofs.Lists.{times_mod}
use Rattle.stored_form.proofs.FrameLemmas.{group_bytes_above_0}
use Rattle.stored_form.proofs.ImageLemmas.{length-blocks, length-group_blocks}
use Rattle.stored_form.proofs.CoderLemmas.{symbols_of-append_rest}
use Rattle.stored_form.proofs.StreamLemmas.{blocks_of_rest, blocks_more}
use Rattle.stored_form.proofs.DecoderLemmas.{corrected-append, corrected_more, length-corrected_at, whole_bytes_front}
use Rattle.stored_form.proofs.SalvageLemmas.{lines_push, salvage_lines_front, lost_in-append, changes_in-append, lost_in-blocks}
use Rattle.ag_frame.specs.declared.frame.Layout.{Layout}
use Rattle.stream_codec.specs.Layouts.{in_groups}
use Rattle.stream_codec.specs.Sinks.{sinks_of}
use Rattle.stream_codec.specs.Dealing.{FirstLost, NoneLost, group_lines, counted, GroupDealt, GroupFault, Dealt, TextStopped}
use Rattle.stream_codec.specs.GroupLines.{place_changes, lines_at, lines_from}
use Rattle.stream_codec.specs.Salvaging.{told_lines, whole_bytes}
use Rattle.ag_io.specs.Views.{SinkView}
use Rattle.ag_io.specs.Puts.{Wrote, WroteSome}
use Rattle.stream_codec.specs.Report.{text_of}
use Rattle.stream_codec.specs.Writing.{bytes_left}
use Rattle.stream_codec.proofs.WritingLemmas.{out_with}
use Rattle.stream_codec.specs.declared.deal.Tally.{Tally}
use Rattle.stream_codec.specs.declared.deal.WhenLost.{WhenLost}
use Rattle.stream_codec.specs.declared.decode.DecodeFault.{DecodeFault}
use Rattle.stream_codec.specs.declared.decode.DecodeFault.TheVariants.{InputFault, OutFault, ReportFault, TooLong, Beyond, Ragged, Framing}
use Rattle.stream_codec.proofs.LineLemmas.{text_of-append}
use Rattle.stream_codec.proofs.DealLemmas.{none_more}
use Rattle.ag_io.proofs.Writes.{wrote_nothing, wrote_more, wrote_some}

-- ---- lines of one more group
-- the lines of a block by its group and its place there are those by its number
lines_by_number : (F : Form) (group word : ℕ) (y : List ℕ) → word < F.depth → block_lines F (group * F.depth + word) y ≡ lines_at F.n group word y (F.near y)
lines_by_number F group word y below = go (F.near y)
  where
    go : (o : Option (List ℕ)) → near_lines F (group * F.depth + word) y o ≡ lines_at F.n group word y o
    go None = ap₂ (λ g w. Lost g w ∷ []) (div-mul-add group F.depth word below) (mod-mul-add group F.depth word below)
    go (Some c) = ap₂ (λ g w. map Changed (place_changes F.n g w y c)) (div-mul-add group F.depth word below) (mod-mul-add group F.depth word below)

lines_more_from : (F : Form) (group word : ℕ) (earlier ys : List (List ℕ)) → length earlier ≡ group * F.depth + word → word + length ys ≤ F.depth → lines_of_blocks F (earlier ++ ys) ≡ lines_of_blocks F earlier ++ lines_from F.n F.near group word ys
lines_more_from F group word earlier [] at inside = ap (lines_of_blocks F) (append-nil earlier) ∙ sym (append-nil (lines_of_blocks F earlier))
lines_more_from F group word earlier (y ∷ ys) at inside =
    let later = lines_from F.n F.near group (word + 1) ys in
    ap (lines_of_blocks F) (sym (append_assoc earlier (y ∷ []) ys))
    ∙ lines_more_from F group (word + 1) (earlier ++ y ∷ []) ys (omega (arith, length_push earlier y)) (omega arith)
    ∙ ap (λ l. l ++ later) (lines_push F earlier y ∙ ap (λ l. lines_of_blocks F earlier ++ l) (ap (λ i. block_lines F i y) at ∙ lines_by_number F group word y (omega arith)))
    ∙ append_assoc (lines_of_blocks F earlier) (lines_at F.n group word y (F.near y)) later

pub count_is : (G : Form) (z : List ℕ) (n : ℕ) → IsSound G → length z ≡ n * group_bytes G → group_count G z ≡ n
count_is G z n sound whole = ap (λ l. l / group_bytes G) whole ∙ mul-div_cancel n (group_bytes_above_0 G sound)

pub even_is : (G : Form) (z : List ℕ) (n : ℕ) → IsSound G → length z ≡ n * group_bytes G → length z % group_bytes G ≡ 0
even_is G z n sound whole = ap (λ l. l % group_bytes G) whole ∙ times_mod n (group_bytes G) (group_bytes_above_0 G sound)

pub lines_more : (G : Form) (z group : List ℕ) (n : ℕ) → IsSound G → length z ≡ n * group_bytes G → length group ≡ group_bytes G → salvage_lines G (z ++ group) ≡ salvage_lines G z ++ lines_from G.n G.near n 0 (group_blocks G group)
lines_more G z group n sound whole long =
    let even = even_is G z n sound whole in
    let us = group_blocks G group in
    let count : length (blocks G z) ≡ n * G.depth = length-blocks G z ∙ ap (λ m. m * G.depth) (count_is G z n sound whole) in
    ap (lines_of_blocks G) (blocks_more G z group sound even long)
    ∙ lines_more_from G n 0 (blocks G z) us (omega arith) (omega (arith, length-group_blocks G group))

no_lines : (G : Form) → IsSound G → salvage_lines G [] ≡ []
unfolding lines_of_blocks
no_lines G sound = ap (lines_of_blocks G) (blocks_of_rest G [] (group_bytes_above_0 G sound))

-- as many codewords are lost as lines tell
pub lost_is : (G : Form) (z : List ℕ) → lost_count G z ≡ lost_in (salvage_lines G z)
lost_is G z = sym (lost_in-blocks G (blocks G z))

-- ---- bits
pub bytes_left-append : (b h : List Bool) → bytes_left (bytes_left b ++ h) ≡ bytes_left (b ++ h)
bytes_left-append b h =
    let q = length b / 8 in
    let p = length (bytes_left b ++ h) / 8 in
    let fits : q * 8 ≤ length b = omega (arith, div-add-mod' (length b) 8) in
    let long : length (b ++ h) ≡ q * 8 + length (bytes_left b ++ h) = omega (arith, length-append b h, length-append (bytes_left b) h, length-drop (q * 8) b, div-add-mod' (length b) 8) in
    let count : length (b ++ h) / 8 ≡ q + p = ap (λ n. n / 8) long ∙ mul-add-div_right (let e : 0 < 8 = omega arith in e) q (length (bytes_left b ++ h)) in
    sym (ap (λ n. drop (n * 8) (b ++ h)) count
    ∙ ap (λ n. drop n (b ++ h)) (let e : (q + p) * 8 ≡ q * 8 + p * 8 = omega arith in e)
    ∙ sym (drop-drop (p * 8) (q * 8) (b ++ h))
    ∙ ap (drop (p * 8)) (drop-append-le (q * 8) b h fits))

nothing_corrected : (G : Form) (z : List ℕ) → IsSound G → corrected G z 0 ≡ []
nothing_corrected G z sound = nil_from_length (corrected G z 0) (length-corrected_at G z 0 sound (omega arith) ∙ omega arith)

-- ---- no group, and one more
pub dealt_none : (G : Form) (ot rt : Bool) (out report : SinkView) (s : OutState) (tally : Tally) → IsSound G → s.released ≡ [] → s.held ≡ None → tally ≡ record { groups = 0; bytes = 0; changes = 0; lost = 0 } → Dealt G (sinks_of ot out out rt report report) s tally []
dealt_none G ot rt out report s tally sound released held zero =
    let nothing = nothing_corrected G [] sound in
    let none : bits_held s.held ≡ [] = ap bits_held held in
    let n : tally.groups ≡ 0 = ap (λ (v : Tally). v.groups) zero in
    let back : tally.groups - 1 ≡ 0 = omega arith in
    let bits : corrected G [] (tally.groups - 1) ≡ [] = ap (corrected G []) back ∙ nothing in
    let bytes : symbols_of 8 (corrected G [] (tally.groups - 1)) ≡ [] = ap (symbols_of 8) bits in
    let told = no_lines G sound in
    record {
      whole = sym (ap (λ m. m * group_bytes G) n ∙ (let e : 0 * group_bytes G ≡ 0 = omega arith in e));
      all = ap (corrected G []) n ∙ nothing ∙ sym (ap₂ (λ a b. a ++ b) bits none);
      released = released ∙ sym (ap bytes_left bits);
      none = λ e. held;
      some = λ lt. absurd (omega arith);
      wrote = subst (Wrote ot out out) (sym bytes) (wrote_nothing ot out);
      told = subst (λ ls. Wrote rt report report (text_of ls)) (sym told) (wrote_nothing rt report);
      bytes = ap (λ (v : Tally). v.bytes) zero ∙ sym (ap length bytes);
      changes = ap (λ (v : Tally). v.changes) zero ∙ sym (ap changes_in told);
      lost = ap (λ (v : Tally). v.lost) zero ∙ sym (ap lost_in told);
    }

-- the bytes that the held group completes
pub next_bytes : (G : Form) (ot rt : Bool) (out out1 report report1 : SinkView) (s : OutState) (tally : Tally) (z : List ℕ) → IsSound G → Dealt G (sinks_of ot out out1 rt report report1) s tally z →
    symbols_of 8 (corrected G z tally.groups) ≡ symbols_of 8 (corrected G z (tally.groups - 1)) ++ symbols_of 8 (s.released ++ bits_held s.held)
next_bytes G ot rt out out1 report report1 s tally z sound d =
    let b = corrected G z (tally.groups - 1) in
    ap (symbols_of 8) d.all
    ∙ symbols_of-append_rest 8 b (bits_held s.held) (omega arith)
    ∙ ap (λ r. symbols_of 8 b ++ symbols_of 8 (r ++ bits_held s.held)) (sym d.released)

pub all_bytes : (G : Form) (ot rt : Bool) (out out1 report report1 : SinkView) (s : OutState) (tally : Tally) (z : List ℕ) → IsSound G → Dealt G (sinks_of ot out out1 rt report report1) s tally z →
    whole_bytes G z ≡ symbols_of 8 (corrected G z (tally.groups - 1)) ++ symbols_of 8 (s.released ++ bits_held s.held)
all_bytes G ot rt out out1 report report1 s tally z sound d =
    ap (λ m. symbols_of 8 (corrected G z m)) (count_is G z tally.groups sound d.whole) ∙ next_bytes G ot rt out out1 report report1 s tally z sound d

-- the held group, and the bits after the whole bytes, where one more group was dealt with
abbrev held_next : Form → OutState → List (List ℕ) → OutState
held_next G s ys = out_with s (bytes_left (s.released ++ bits_held s.held)) (Some (message_bits G (map (kept G) ys)))

dealt_next : (G : Form) (ot rt : Bool) (out out1 out2 report report1 report2 : SinkView) (s : OutState) (tally : Tally) (z group : List ℕ) →
    IsSound G → Dealt G (sinks_of ot out out1 rt report report1) s tally z → length group ≡ group_bytes G →
    Wrote ot out1 out2 (symbols_of 8 (s.released ++ bits_held s.held)) →
    Wrote rt report1 report2 (text_of (group_lines G tally.groups (group_blocks G group))) →
    Dealt G (sinks_of ot out out2 rt report report2) (held_next G s (group_blocks G group)) (counted tally (length (symbols_of 8 (s.released ++ bits_held s.held))) (group_lines G tally.groups (group_blocks G group))) (z ++ group)
dealt_next G ot rt out out1 out2 report report1 report2 s tally z group sound d long wrote told =
    let n = tally.groups in
    let us = group_blocks G group in
    let here = group_lines G n us in
    let even = even_is G z n sound d.whole in
    let count = count_is G z n sound d.whole in
    let back : n + 1 - 1 ≡ n = omega arith in
    let more = symbols_of 8 (s.released ++ bits_held s.held) in
    let earlier : corrected G (z ++ group) (n + 1 - 1) ≡ corrected G z n =
    ap (corrected G (z ++ group)) back ∙ corrected-append G z group n sound even (omega arith) in
    let bytes : symbols_of 8 (corrected G (z ++ group) (n + 1 - 1)) ≡ symbols_of 8 (corrected G z (n - 1)) ++ more =
    ap (symbols_of 8) earlier ∙ next_bytes G ot rt out out1 report report1 s tally z sound d in
    let lines = lines_more G z group n sound d.whole long in
    record {
      whole = length-append z group ∙ ap₂ (λ a b. a + b) d.whole long ∙ (let e : n * group_bytes G + group_bytes G ≡ (n + 1) * group_bytes G = omega arith in e);
      all = ap (λ m. corrected G (z ++ group) (m + 1)) (sym count) ∙ corrected_more G z group sound even long ∙ ap (λ l. l ++ message_bits G (map (kept G) us)) (ap (corrected G z) count ∙ sym earlier);
      released = ap (λ l. bytes_left (l ++ bits_held s.held)) d.released ∙ bytes_left-append (corrected G z (n - 1)) (bits_held s.held) ∙ ap bytes_left (sym d.all ∙ sym earlier);
      none = λ e. absurd (omega arith);
      some = λ lt. refl;
      wrote = wrote_more (symbols_of 8 (corrected G (z ++ group) (n + 1 - 1))) d.wrote wrote bytes;
      told = wrote_more (told_lines G (z ++ group)) d.told told (ap text_of lines ∙ text_of-append (salvage_lines G z) here);
      bytes = ap (λ b. b + length more) d.bytes ∙ sym (ap length bytes ∙ length-append (symbols_of 8 (corrected G z (n - 1))) more);
      changes = ap (λ b. b + changes_in here) d.changes ∙ sym (ap changes_in lines ∙ changes_in-append (salvage_lines G z) here);
      lost = ap (λ b. b + lost_in here) d.lost ∙ sym (ap lost_in lines ∙ lost_in-append (salvage_lines G z) here);
    }

pub dealt_more : (F : Form) (layout : Layout) (ot rt : Bool) (out out1 out2 report report1 report2 : SinkView) (s s2 : OutState) (tally tally2 : Tally) (z group text : List ℕ) (ys : List (List ℕ)) →
    IsSound (in_groups layout F) → Dealt (in_groups layout F) (sinks_of ot out out1 rt report report1) s tally z → length group ≡ group_bytes (in_groups layout F) → ys ≡ group_blocks (in_groups layout F) group → GroupDealt F (sinks_of ot out1 out2 rt report1 report2) s s2 tally tally2 ys → text ≡ z ++ group →
    Dealt (in_groups layout F) (sinks_of ot out out2 rt report report2) s2 tally2 text
dealt_more F layout ot rt out out1 out2 report report1 report2 s s2 tally tally2 z group text ys sound d long is g text_is =
    let G = in_groups layout F in
    let more = symbols_of 8 (s.released ++ bits_held s.held) in
    let told = subst (λ us. Wrote rt report1 report2 (text_of (group_lines G tally.groups us))) is g.told in
    let next = dealt_next G ot rt out out1 out2 report report1 report2 s tally z group sound d long g.wrote told in
    let holds : s2 ≡ held_next G s (group_blocks G group) = g.holds ∙ ap (held_next G s) is in
    let counts_are : tally2 ≡ counted tally (length more) (group_lines G tally.groups (group_blocks G group)) =
    g.counts_are ∙ ap (λ us. counted tally (length more) (group_lines G tally.groups us)) is in
    subst (Dealt G (sinks_of ot out out2 rt report report2) s2 tally2) (sym text_is)
    (subst (λ (v : OutState). Dealt G (sinks_of ot out out2 rt report report2) v tally2 (z ++ group)) (sym holds)
    (subst (λ (v : Tally). Dealt G (sinks_of ot out out2 rt report report2) (held_next G s (group_blocks G group)) v (z ++ group)) (sym counts_are) next))

pub dealt_as : {G : Form} {ot rt : Bool} {out out1 report report1 : SinkView} {s : OutState} {tally : Tally} {z : List ℕ} (text : List ℕ) → Dealt G (sinks_of ot out out1 rt report report1) s tally z → text ≡ z → Dealt G (sinks_of ot out out1 rt report report1) s tally text
dealt_as {G} {ot} {rt} {out} {out1} {report} {report1} {s} {tally} {z} text d e = subst (Dealt G (sinks_of ot out out1 rt report report1) s tally) (sym e) d

-- ---- the first groups of a text that goes on
pub whole_front : (G : Form) (z more : List ℕ) (n : ℕ) → IsSound G → length z ≡ n * group_bytes G → (rest : List ℕ) × (whole_bytes G (z ++ more) ≡ whole_bytes G z ++ rest)
whole_front G z more n sound whole =
    let text = z ++ more in
    let count = count_is G z n sound whole in
    let below : n ≤ group_count G text = le-div n (length text) (group_bytes G) (group_bytes_above_0 G sound) (omega (arith, length-append z more)) in
    let (rest, e) = whole_bytes_front G text n (group_count G text) below in
    let same : corrected G text n ≡ corrected G z n = corrected-append G z more n sound (even_is G z n sound whole) (omega arith) in
    (rest, e ∙ ap (λ b. symbols_of 8 b ++ rest) (same ∙ ap (corrected G z) (sym count)))

pub told_front : (G : Form) (z more : List ℕ) (n : ℕ) → IsSound G → length z ≡ n * group_bytes G → (rest : List ℕ) × (told_lines G (z ++ more) ≡ told_lines G z ++ rest)
told_front G z more n sound whole =
    let (rest, e) = salvage_lines_front G z more sound (even_is G z n sound whole) in
    (text_of rest, ap text_of e ∙ text_of-append (salvage_lines G z) rest)

-- ---- a fault at a group
none_of_text : (G : Form) (when : WhenLost) (z : List ℕ) (lost : ℕ) → NoneLost when lost → lost ≡ lost_in (salvage_lines G z) → NoneLost when (lost_count G z)
none_of_text G when z lost none e = subst (NoneLost when) (e ∙ sym (lost_is G z)) none

group_fault_at : (F : Form) (layout : Layout) (ot rt : Bool) (out out1 out2 report report1 report2 : SinkView) (when : WhenLost) (s : OutState) (tally : Tally) (z group more : List ℕ) (ys : List (List ℕ)) (fault : DecodeFault) →
    IsSound (in_groups layout F) → Dealt (in_groups layout F) (sinks_of ot out out1 rt report report1) s tally z → NoneLost when tally.lost → length group ≡ group_bytes (in_groups layout F) → ys ≡ group_blocks (in_groups layout F) group → GroupFault F (sinks_of ot out1 out2 rt report1 report2) when s tally ys fault →
    TextStopped (in_groups layout F) (sinks_of ot out out2 rt report report2) when (z ++ (group ++ more)) fault
group_fault_at F layout ot rt out out1 out2 report report1 report2 when s tally z group more ys OutFault sound d none long is (part, told) =
    let G = in_groups layout F in
    let all = all_bytes G ot rt out out1 report report1 s tally z sound d in (
      z,
      record { groups = tally.groups; rest = group ++ more; text_is = refl; whole = d.whole; none = none_of_text G when z tally.lost none d.lost },
      wrote_some [] (whole_bytes G z) d.wrote part (all ∙ sym (append-nil (symbols_of 8 (corrected G z (tally.groups - 1)) ++ symbols_of 8 (s.released ++ bits_held s.held)))),
      wrote_more (told_lines G z) d.told told (sym (append-nil (told_lines G z))),
    )
group_fault_at F layout ot rt out out1 out2 report report1 report2 when s tally z group more ys ReportFault sound d none long is (few, wrote, part) =
    let G = in_groups layout F in
    let n = tally.groups in
    let us = group_blocks G group in
    let here = group_lines G n us in
    let few_here = subst (λ l. NoneLost when (lost_in (group_lines G n l))) is few in
    let lines = lines_more G z group n sound d.whole long in
    let count : lost_in (salvage_lines G (z ++ group)) ≡ tally.lost + lost_in here = ap lost_in lines ∙ lost_in-append (salvage_lines G z) here ∙ ap (λ m. m + lost_in here) (sym d.lost) in
    let whole : length (z ++ group) ≡ (n + 1) * group_bytes G = length-append z group ∙ ap₂ (λ a b. a + b) d.whole long ∙ (let e : n * group_bytes G + group_bytes G ≡ (n + 1) * group_bytes G = omega arith in e) in
    let (rest, e) = whole_front G z group n sound d.whole in
    let all = all_bytes G ot rt out out1 report report1 s tally z sound d in
    let told = subst (λ l. WroteSome rt report1 report2 (text_of (group_lines G n l))) is part in (
      z ++ group,
      record { groups = n + 1; rest = more; text_is = sym (append_assoc z group more); whole = whole; none = none_of_text G when (z ++ group) _ (none_more when tally.lost (lost_in here) _ none few_here count) refl },
      record { front = whole_bytes G z; rest = rest; bytes_are = e; wrote = wrote_more (whole_bytes G z) d.wrote wrote all },
      wrote_some [] (told_lines G (z ++ group)) d.told told (ap text_of lines ∙ text_of-append (salvage_lines G z) here ∙ sym (append-nil (told_lines G z ++ text_of here))),
    )
group_fault_at F layout ot rt out out1 out2 report report1 report2 when s tally z group more ys (Beyond g word) sound d none long is (stop, at, lost, wrote, told) =
    let G = in_groups layout F in
    let moved = subst (λ l. FirstLost F l word) is lost in
    let here : FirstLost G (group_blocks G group) word = record { below = moved.below; lost = moved.lost; before = moved.before } in
    let zero : lost_count G z ≡ 0 = subst (λ w. NoneLost w (lost_count G z)) stop (none_of_text G when z tally.lost none d.lost) in (
      z,
      stop,
      record { at = group; rest = more; text_is = refl; number = d.whole ∙ ap (λ m. m * group_bytes G) (sym at); long = long; none = zero; lost = here },
      wrote_more (whole_bytes G z) d.wrote wrote (all_bytes G ot rt out out1 report report1 s tally z sound d),
      wrote_more (told_lines G z) d.told told (sym (append-nil (told_lines G z))),
    )
group_fault_at F layout ot rt out out1 out2 report report1 report2 when s tally z group more ys InputFault sound d none long is h = absurd h
group_fault_at F layout ot rt out out1 out2 report report1 report2 when s tally z group more ys (TooLong taken) sound d none long is h = absurd h
group_fault_at F layout ot rt out out1 out2 report report1 report2 when s tally z group more ys (Ragged extra) sound d none long is h = absurd h
group_fault_at F layout ot rt out out1 out2 report report1 report2 when s tally z group more ys Framing sound d none long is h = absurd h

pub group_fault : (F : Form) (layout : Layout) (ot rt : Bool) (out out1 out2 report report1 report2 : SinkView) (when : WhenLost) (s : OutState) (tally : Tally) (z group more text : List ℕ) (ys : List (List ℕ)) (fault : DecodeFault) →
    IsSound (in_groups layout F) → Dealt (in_groups layout F) (sinks_of ot out out1 rt report report1) s tally z → NoneLost when tally.lost → length group ≡ group_bytes (in_groups layout F) → ys ≡ group_blocks (in_groups layout F) group → GroupFault F (sinks_of ot out1 out2 rt report1 report2) when s tally ys fault → text ≡ z ++ (group ++ more) →
    TextStopped (in_groups layout F) (sinks_of ot out out2 rt report report2) when text fault
group_fault F layout ot rt out out1 out2 report report1 report2 when s tally z group more text ys fault sound d none long is h text_is =
    subst (λ l. TextStopped (in_groups layout F) (sinks_of ot out out2 rt report report2) when l fault) (sym text_is) (group_fault_at F layout ot rt out out1 out2 report report1 report2 when s tally z group more ys fault sound d none long is h)

-- the text, cut at the group
pub cut_text : (z w a b c : List ℕ) → w ≡ a ++ (b ++ c) → z ++ w ≡ (z ++ a) ++ (b ++ c)
cut_text z w a b c e = ap (λ l. z ++ l) e ∙ sym (append_assoc z a (b ++ c))
