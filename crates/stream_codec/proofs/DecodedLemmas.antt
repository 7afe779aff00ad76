-- What a call that decodes says at each of its ends.
use Rattle.std.proofs.Common.{ℕ, ◌+◌, ◌*◌, ◌-◌, ◌/◌, ◌<◌, ◌≤◌, ◌≡◌, IsTrue, cond, nat_le, List, [], ◌++◌, length, take, drop, get_or, count_by, is_none, Some, None, Result, Ok, Err, refl, sym, ap, ap₂, ◌∙◌, subst, arith, inl, inr, append_assoc, length-append, length-take-le, take-append-drop, mul-le-mul_right, div-add-mod'}
use Rattle.std.proofs.lemmas.List.{append-nil, take_at, get_or_append_left}
use Rattle.std.proofs.lemmas.Nat.{div-mul-add, le-div}
use Rattle.std.proofs.lemmas.Bool.{cond-true, cond-false, le-leb, lt-leb, cases_lt}
use Rattle.ag_io.specs.Counts.{Rose}
use Rattle.ag_io.specs.Views.{GivesFront, GivesLess}
use Rattle.ag_io.specs.Puts.{Wrote, WroteSome}
use Rattle.ag_io.proofs.Writes.{gave_front, some_of_longer}
use Rattle.stored_form.specs.Bits.{symbols_of}
use Rattle.stored_form.specs.Form.{Form, IsSound}
use Rattle.stored_form.specs.Frame.{group_bytes, group_blocks}
use Rattle.stored_form.specs.Reading.{Reading, group_count, blocks, kept, corrected, reading, ending, out as output, out_at, told_groups, changes, AllNear}
use Rattle.stored_form.specs.Reading.{Beyond as ReadBeyond, Ragged as ReadRagged, Framing as ReadFraming, File as ReadFile}
use Rattle.stored_form.specs.Salvage.{lost_count}
use Rattle.stored_form.proofs.FrameLemmas.{group_bytes_above_0}
use Rattle.stored_form.proofs.ImageLemmas.{length-blocks, length-group_blocks}
use Rattle.stored_form.proofs.ReadingLemmas.{changes_near}
use Rattle.stored_form.proofs.ConverseLemmas.{near_from_reading, first_lost_from_reading}
use Rattle.stored_form.proofs.DecoderLemmas.{corrected-append}
use Rattle.stored_form.proofs.StreamLemmas.{blocks-append, reading_beyond_at}
use Rattle.stored_form.proofs.SalvageLemmas.{all_near_from_count, reading_none_lost, out_none_lost}
use Rattle.stream_codec.specs.Dealing.{LostAt, TextAnswered}
use Rattle.stream_codec.specs.Decoding.{Decode, sinks_in, taken, groups_within, read_bytes, answer_by, answer_to, PassesLimit, Refuses, ReadsFile, ToldAs, FaultAs, SinksSteady, TakesMost, DecodedAs, IsComplete}
use Rattle.stream_codec.specs.Report.{changes_to, lines_of, lines, done_at, report_of, sure_bytes, counts_of}
use Rattle.stream_codec.specs.Salvaging.{told_lines, whole_bytes, plain}
use Rattle.stream_codec.specs.Taking.{IsSteady, taken_past}
use Rattle.stream_codec.specs.declared.decode.DecodeCounts.{DecodeCounts}
use Rattle.stream_codec.specs.declared.decode.DecodeFault.{DecodeFault}
use Rattle.stream_codec.specs.declared.decode.DecodeFault.TheVariants.{InputFault, OutFault, ReportFault, TooLong, Beyond, Ragged, Framing}
use Rattle.stream_codec.specs.declared.salvage.SalvageCounts.{SalvageCounts}
use Rattle.stream_codec.proofs.DealtLemmas.{count_is, even_is}
use Rattle.stream_codec.proofs.EndLemmas.{rest_count, rest_blocks, rest_corrected}
use Rattle.stream_codec.proofs.ToldLemmas.{changes_to-append}
use Rattle.stream_codec.proofs.TakenLemmas.{Taken, left_is, taken_is, were_taken, takes_most}
use Rattle.stream_codec.proofs.AlikeLemmas.{changes_alike, out_is_at, answer_alike, report_alike, no_beyond, told_changes}

-- what holds of a call at each end
pub record Bounds (d : Decode) : Type 0 where
  pub most : TakesMost d
  pub source_counted : d.source.faults ≤ d.source_after.faults
  pub out_counted : d.out.faults ≤ d.out_after.faults
  pub report_counted : d.report.faults ≤ d.report_after.faults
  pub out_sure : d.out_after.sure ≡ d.out.sure
  pub report_sure : d.report_after.sure ≡ d.report.sure

pub bounds : (d : Decode) (z p bytes told : List ℕ) → IsSound d.form → Taken d z p → Wrote d.out_tells d.out d.out_after bytes → Wrote d.report_tells d.report d.report_after told → Bounds d
bounds d z p bytes told sound k w r = record {
  most = takes_most d z p sound k;
  source_counted = k.source_counted;
  out_counted = omega (arith, w.faults);
  report_counted = omega (arith, r.faults);
  out_sure = w.sure;
  report_sure = r.sure;
}

pub out_bounds : (d : Decode) (z p bytes told : List ℕ) → IsSound d.form → Taken d z p → WroteSome d.out_tells d.out d.out_after bytes → Wrote d.report_tells d.report d.report_after told → Bounds d
out_bounds d z p bytes told sound k w r = record {
  most = takes_most d z p sound k;
  source_counted = k.source_counted;
  out_counted = w.counted;
  report_counted = omega (arith, r.faults);
  out_sure = w.sure;
  report_sure = r.sure;
}

pub report_bounds : (d : Decode) (z p bytes told : List ℕ) → IsSound d.form → Taken d z p → Wrote d.out_tells d.out d.out_after bytes → WroteSome d.report_tells d.report d.report_after told → Bounds d
report_bounds d z p bytes told sound k w r = record {
  most = takes_most d z p sound k;
  source_counted = k.source_counted;
  out_counted = omega (arith, w.faults);
  report_counted = r.counted;
  out_sure = w.sure;
  report_sure = r.sure;
}

decoded_as : (d : Decode) (answer : Result DecodeCounts DecodeFault) → Bounds d → (IsTrue d.source_tells → ToldAs d answer) → FaultAs d answer → DecodedAs d answer
decoded_as d answer b told fault = record {
  told = told;
  fault = fault;
  most = b.most;
  source_counted = b.source_counted;
  out_counted = b.out_counted;
  report_counted = b.report_counted;
  out_sure = b.out_sure;
  report_sure = b.report_sure;
}

-- ---- the end of the source
abbrev decode_counts : ℕ → ℕ → ℕ → DecodeCounts
decode_counts groups bytes changes = record { groups = groups; bytes = bytes; changes = changes }

reads_file : (d : Decode) (z p x : List ℕ) → IsSound d.form → Taken d z p → lost_count d.form (z ++ p) ≡ 0 → ending d.form (z ++ p) ≡ ReadFile x → length (z ++ p) ≤ d.limit → d.source.left ≡ z ++ p → d.source_after.left ≡ [] →
    Wrote d.out_tells d.out d.out_after (out_at d.form (z ++ p) (ReadFile x)) → Wrote d.report_tells d.report d.report_after (report_of d.form (z ++ p)) →
    ReadsFile d x (counts_of d.form (z ++ p) x)
reads_file d z p x sound k none is within e spent w r =
    let G = d.form in
    let reads : reading G d.source.left ≡ ReadFile x = ap (reading G) e ∙ reading_none_lost G (z ++ p) none ∙ is in
    let near = near_from_reading G x d.source.left sound reads in
    record {
      reads = reads;
      within = omega (arith, ap length e);
      ended = spent;
      near = near.1;
      differ = changes_near G x d.source.left sound near.0 near.1;
      counts_are = ap (λ l. counts_of G l x) (sym e);
      out = w.gives;
      report = λ o. r.gives o ∙ ap (λ l. d.report.given ++ report_of G l) (sym e);
    }

refuses : (d : Decode) (z p : List ℕ) (r : Reading) → lost_count d.form (z ++ p) ≡ 0 → ending d.form (z ++ p) ≡ r → read_bytes d.form (z ++ p) r ≡ length (z ++ p) → done_at d.form (z ++ p) r ≡ [] → length (z ++ p) ≤ d.limit → d.source.left ≡ z ++ p →
    Wrote d.out_tells d.out d.out_after (output d.form (z ++ p)) → Wrote d.report_tells d.report d.report_after (report_of d.form (z ++ p)) → Refuses d r
refuses d z p r none is size no_done within e w told =
    let G = d.form in
    let reads : reading G (z ++ p) ≡ r = reading_none_lost G (z ++ p) none ∙ is in
    record {
      reads = ap (reading G) e ∙ reads;
      within = subst (λ l. read_bytes G l r ≤ d.limit) (sym e) (omega (arith, size));
      out = λ o. w.gives o ∙ ap (λ l. d.out.given ++ output G l) (sym e);
      report = λ o. told.gives o ∙ ap (λ l. d.report.given ++ l) (ap (λ l. lines G (z ++ p) ++ l) (ap (done_at G (z ++ p)) reads ∙ no_done) ∙ append-nil (lines G (z ++ p)) ∙ ap (lines G) (sym e));
    }

pub decoded_answered : (d : Decode) (z p : List ℕ) (answer : Result SalvageCounts DecodeFault) → IsSound d.form → Taken d z p → lost_count d.form (z ++ p) ≡ 0 → length (z ++ p) ≤ d.limit → (IsTrue d.source_tells → d.source_after.left ≡ []) → IsSteady d.source.faults d.source_after.faults →
    TextAnswered d.form (sinks_in d) (z ++ p) answer → DecodedAs d (plain answer)
decoded_answered d z p answer sound k none within spent steady h = go (ending d.form (z ++ p)) refl
  where
    text_left : IsTrue d.source_tells → d.source.left ≡ z ++ p
    text_left t = left_is d z p k t ∙ ap (λ l. (z ++ p) ++ l) (spent t) ∙ append-nil (z ++ p)

    told : Wrote d.report_tells d.report d.report_after (report_of d.form (z ++ p))
    told = subst (λ l. Wrote d.report_tells d.report d.report_after l) (report_alike d.form (z ++ p) none) h.told

    wrote : (r : Reading) → ending d.form (z ++ p) ≡ r → Wrote d.out_tells d.out d.out_after (out_at d.form (z ++ p) r)
    wrote r e = subst (λ l. Wrote d.out_tells d.out d.out_after l) (out_is_at d.form (z ++ p) r e) h.wrote

    wrote_out : Wrote d.out_tells d.out d.out_after (output d.form (z ++ p))
    wrote_out = subst (λ l. Wrote d.out_tells d.out d.out_after l) (sym (out_none_lost d.form (z ++ p) none)) h.wrote

    ends : Bounds d
    ends = bounds d z p _ _ sound k h.wrote h.told

    sinks : SinksSteady d
    sinks = (h.wrote.faults, h.told.faults)

    go : (r : Reading) → ending d.form (z ++ p) ≡ r → DecodedAs d (plain answer)
    go (ReadFile x) e =
        let same : plain answer ≡ Ok (counts_of d.form (z ++ p) x) =
        ap plain (sym h.answers ∙ answer_alike d.form (z ++ p) (ReadFile x) none e)
        ∙ ap Ok (ap₂ (decode_counts (group_count d.form (z ++ p))) (ap length (out_is_at d.form (z ++ p) (ReadFile x) e)) (changes_alike d.form (z ++ p) none)) in
        subst (DecodedAs d) (sym same) (decoded_as d (Ok (counts_of d.form (z ++ p) x)) ends (λ t. (x, reads_file d z p x sound k none e within (text_left t) (spent t) (wrote (ReadFile x) e) told)) (sinks, steady))
    go (ReadRagged extra) e =
        let same : plain answer ≡ Err (Ragged extra) = ap plain (sym h.answers ∙ answer_alike d.form (z ++ p) (ReadRagged extra) none e) in
        subst (DecodedAs d) (sym same) (decoded_as d (Err (Ragged extra)) ends (λ t. refuses d z p (ReadRagged extra) none e refl refl within (text_left t) wrote_out told) (sinks, steady))
    go ReadFraming e =
        let same : plain answer ≡ Err Framing = ap plain (sym h.answers ∙ answer_alike d.form (z ++ p) ReadFraming none e) in
        subst (DecodedAs d) (sym same) (decoded_as d (Err Framing) ends (λ t. refuses d z p ReadFraming none e refl refl within (text_left t) wrote_out told) (sinks, steady))
    go (ReadBeyond g c) e = absurd (no_beyond d.form (z ++ p) g c e)

-- ---- a write that failed: fronts of what is sure of the bytes taken, and of their lines or their report
pub decoded_out : (d : Decode) (z p bytes told rest more : List ℕ) → IsSound d.form → Taken d z p → sure_bytes d.form (z ++ p) ≡ bytes ++ rest → lines d.form (z ++ p) ≡ told ++ more → WroteSome d.out_tells d.out d.out_after bytes → Wrote d.report_tells d.report d.report_after told → DecodedAs d (Err OutFault)
decoded_out d z p bytes told rest more sound k e f w r =
    let part = some_of_longer rest (sure_bytes d.form (z ++ p)) w e in
    decoded_as d (Err OutFault) (out_bounds d z p bytes told sound k w r)
    (λ t. let same = taken_is d z p k t in record {
      left = were_taken d z p k t;
      out = subst (λ l. GivesFront d.out_tells d.out d.out_after (sure_bytes d.form l)) (sym same) part.gives;
      fewer = subst (λ l. GivesLess d.out_tells d.out d.out_after (sure_bytes d.form l)) (sym same) part.fewer;
      report = subst (λ l. GivesFront d.report_tells d.report d.report_after (lines d.form l)) (sym same) (gave_front more (lines d.form (z ++ p)) r f);
    })
    (r.faults, w.rose, w.enough)

pub decoded_report : (d : Decode) (z p bytes told rest more : List ℕ) → IsSound d.form → Taken d z p → sure_bytes d.form (z ++ p) ≡ bytes ++ rest → report_of d.form (z ++ p) ≡ told ++ more → Wrote d.out_tells d.out d.out_after bytes → WroteSome d.report_tells d.report d.report_after told → DecodedAs d (Err ReportFault)
decoded_report d z p bytes told rest more sound k e f w r =
    let part = some_of_longer more (report_of d.form (z ++ p)) r f in
    decoded_as d (Err ReportFault) (report_bounds d z p bytes told sound k w r)
    (λ t. let same = taken_is d z p k t in record {
      left = were_taken d z p k t;
      out = subst (λ l. GivesFront d.out_tells d.out d.out_after (sure_bytes d.form l)) (sym same) (gave_front rest (sure_bytes d.form (z ++ p)) w e);
      report = subst (λ l. GivesFront d.report_tells d.report d.report_after (report_of d.form l)) (sym same) part.gives;
      fewer = subst (λ l. GivesLess d.report_tells d.report d.report_after (report_of d.form l)) (sym same) part.fewer;
    })
    (w.faults, r.rose, r.enough)

-- ---- a lost codeword
lost_reads : (G : Form) (u at rest : List ℕ) (g c : ℕ) → IsSound G → length u ≡ g * group_bytes G → length at ≡ group_bytes G → c < G.depth → lost_count G u ≡ 0 → G.near (get_or (group_blocks G at) c []) ≡ None →
    ((j : ℕ) → j < c → G.near (get_or (group_blocks G at) j []) ≡ Some (kept G (get_or (group_blocks G at) j []))) → reading G (u ++ (at ++ rest)) ≡ ReadBeyond g c
lost_reads G u at rest g c sound number long below none lost before =
    reading_beyond_at G u at rest c sound (even_is G u g sound number) (all_near_from_count G u none) long below lost before
    ∙ ap (λ n. ReadBeyond n c) (count_is G u g sound number)

pub decoded_beyond : (d : Decode) (z p u : List ℕ) (g c : ℕ) → IsSound d.form → Taken d z p → LostAt d.form z u g c → Wrote d.out_tells d.out d.out_after (whole_bytes d.form u) → Wrote d.report_tells d.report d.report_after (told_lines d.form u) → DecodedAs d (Err (Beyond g c))
unfolding output changes
decoded_beyond d z p u g c sound k l w r =
    let G = d.form in
    let tail = l.rest ++ (p ++ d.source_after.left) in
    let text = u ++ (l.at ++ tail) in
    let reads : reading G text ≡ ReadBeyond g c = lost_reads G u l.at tail g c sound l.number l.long (omega (arith, l.lost.below, length-group_blocks G l.at)) l.none l.lost.lost l.lost.before in
    let even = even_is G u g sound l.number in
    let count = count_is G u g sound l.number in
    let all_long : length z ≡ length u + (group_bytes G + length l.rest) = ap length l.text_is ∙ length-append u (l.at ++ l.rest) ∙ ap (λ m. length u + m) (length-append l.at l.rest ∙ ap (λ m. m + length l.rest) l.long) in
    let bytes : whole_bytes G u ≡ out_at G text (ReadBeyond g c) = ap (λ m. symbols_of 8 (corrected G u m)) count ∙ ap (symbols_of 8) (sym (corrected-append G u (l.at ++ tail) g sound even (omega arith))) in
    let told : told_lines G u ≡ lines_of (changes_to G text g) = told_changes G u g sound l.number l.none ∙ ap lines_of (sym (changes_to-append G u (l.at ++ tail) g sound even (omega arith))) in
    decoded_as d (Err (Beyond g c)) (bounds d z p _ _ sound k w r)
    (λ t.
    let e : d.source.left ≡ text = k.left t ∙ ap (λ v. v ++ (p ++ d.source_after.left)) l.text_is ∙ append_assoc u (l.at ++ l.rest) (p ++ d.source_after.left) ∙ ap (λ v. u ++ v) (append_assoc l.at l.rest (p ++ d.source_after.left)) in
    record {
      reads = ap (reading G) e ∙ reads;
      within = omega (arith, all_long, l.number, k.within);
      out = λ o. w.gives o ∙ ap (λ v. d.out.given ++ v) (bytes ∙ ap (out_at G text) (sym reads) ∙ ap (output G) (sym e));
      report = λ o. r.gives o ∙ ap (λ v. d.report.given ++ v) (told ∙ ap (λ v. lines_of (changes_to G text (told_groups G text v))) (sym reads) ∙ ap (lines G) (sym e));
    })
    (w.faults, r.faults)

-- ---- a read that failed
pub decoded_input : (d : Decode) (z p bytes : List ℕ) (n : ℕ) → IsSound d.form → Taken d z p → length z ≡ n * group_bytes d.form → length p < group_bytes d.form → length (z ++ p) ≤ d.limit → lost_count d.form z ≡ 0 → Rose d.source.faults d.source_after.faults →
    bytes ≡ symbols_of 8 (corrected d.form z (n - 1)) → Wrote d.out_tells d.out d.out_after bytes → Wrote d.report_tells d.report d.report_after (told_lines d.form z) → DecodedAs d (Err InputFault)
decoded_input d z p bytes n sound k whole short within none rose bytes_are w r =
    let G = d.form in
    let text = z ++ p in
    let count = rest_count G z p n whole short in
    let same_blocks = rest_blocks G z p n sound whole short in
    let none_here : lost_count G text ≡ 0 = ap (count_by (λ y. is_none (G.near y))) same_blocks ∙ none in
    let sure : bytes ≡ symbols_of 8 (corrected G text (group_count G text - 1)) =
    bytes_are ∙ ap (symbols_of 8) (sym (rest_corrected G z p n (n - 1) sound whole (omega arith))) ∙ ap (λ m. symbols_of 8 (corrected G text (m - 1))) (sym count) in
    let told : told_lines G z ≡ lines_of (changes_to G text (group_count G text)) =
    told_changes G z n sound whole none ∙ ap lines_of (sym (changes_to-append G z p n sound (even_is G z n sound whole) (omega (arith, count_is G z n sound whole)))) ∙ ap (λ m. lines_of (changes_to G text m)) (sym count) in
    decoded_as d (Err InputFault) (bounds d z p _ _ sound k w r)
    (λ t. let same = taken_is d z p k t in record {
      left = were_taken d z p k t;
      within = omega (arith, ap length same);
      near = subst (AllNear G) (sym same) (all_near_from_count G text none_here);
      out = λ o. w.gives o ∙ ap (λ l. d.out.given ++ l) (sure ∙ ap (λ l. symbols_of 8 (corrected G l (group_count G l - 1))) (sym same));
      report = λ o. r.gives o ∙ ap (λ l. d.report.given ++ l) (told ∙ ap (λ l. lines_of (changes_to G l (group_count G l))) (sym same));
    })
    ((w.faults, r.faults), rose)

-- ---- more than the limit
pub within_is : (d : Decode) (z p : List ℕ) (n : ℕ) → length z ≡ n * group_bytes d.form → length z ≤ d.limit → length p ≤ group_bytes d.form → d.limit < length z + length p → groups_within d ≡ n
within_is d z p n whole within short over =
    let over_by = d.limit - length z in
    let limit_is : d.limit ≡ n * group_bytes d.form + over_by = omega arith in
    ap (λ l. l / group_bytes d.form) limit_is ∙ div-mul-add n (group_bytes d.form) over_by (omega arith)

pub decoded_too_long : (d : Decode) (z p bytes : List ℕ) (n count : ℕ) → IsSound d.form → Taken d z p → length z ≡ n * group_bytes d.form → d.limit < count → count ≡ length z + length p → lost_count d.form z ≡ 0 →
    (IsTrue d.source_tells → (Rose d.source.faults d.source_after.faults → ⊥) → count ≡ taken_past (group_bytes d.form) d.limit (length d.source.left)) →
    bytes ≡ symbols_of 8 (corrected d.form z (n - 1)) → Wrote d.out_tells d.out d.out_after bytes → Wrote d.report_tells d.report d.report_after (told_lines d.form z) → DecodedAs d (Err (TooLong count))
decoded_too_long d z p bytes n count sound k whole over sum none exact bytes_are w r =
    let G = d.form in
    let text = z ++ p in
    let within = within_is d z p n whole k.within k.short (omega arith) in
    let front : take (groups_within d * group_bytes G) text ≡ z = take_at z p (groups_within d * group_bytes G) (whole ∙ ap (λ m. m * group_bytes G) (sym within)) in
    let sure : bytes ≡ symbols_of 8 (corrected G text (groups_within d - 1)) =
    bytes_are ∙ ap (symbols_of 8) (sym (rest_corrected G z p n (n - 1) sound whole (omega arith))) ∙ ap (λ m. symbols_of 8 (corrected G text (m - 1))) (sym within) in
    let told : told_lines G z ≡ lines_of (changes_to G text (groups_within d)) =
    told_changes G z n sound whole none ∙ ap lines_of (sym (changes_to-append G z p n sound (even_is G z n sound whole) (omega (arith, count_is G z n sound whole)))) ∙ ap (λ m. lines_of (changes_to G text m)) (sym within) in
    decoded_as d (Err (TooLong count)) (bounds d z p _ _ sound k w r)
    (λ t. let same = taken_is d z p k t in record {
      left = were_taken d z p k t;
      count_is = sum ∙ sym (length-append z p) ∙ ap length (sym same);
      passes = over;
      exact = exact t;
      near = subst (λ l. AllNear G (take (groups_within d * group_bytes G) l)) (sym same) (subst (AllNear G) (sym front) (all_near_from_count G z none));
      out = λ o. w.gives o ∙ ap (λ l. d.out.given ++ l) (sure ∙ ap (λ l. symbols_of 8 (corrected G l (groups_within d - 1))) (sym same));
      report = λ o. r.gives o ∙ ap (λ l. d.report.given ++ l) (told ∙ ap (λ l. lines_of (changes_to G l (groups_within d))) (sym same));
    })
    ((w.faults, r.faults), over)

-- ---- where no count rises
-- an answer by bytes within the limit
answer_within : (F : Form) (limit : ℕ) (z : List ℕ) (r : Reading) → reading F z ≡ r → read_bytes F z r ≤ limit → answer_to F limit z ≡ answer_by F z r
answer_within F limit z r e within =
    let past = TooLong (taken_past (group_bytes F) limit (length z)) in
    ap (λ v. cond (nat_le (read_bytes F z v) limit) (answer_by F z v) (Err past)) e
    ∙ cond-true (nat_le (read_bytes F z r) limit) (answer_by F z r) (Err past) (le-leb (read_bytes F z r) limit within)

answer_past : (F : Form) (limit : ℕ) (z : List ℕ) → limit < read_bytes F z (reading F z) → answer_to F limit z ≡ Err (TooLong (taken_past (group_bytes F) limit (length z)))
answer_past F limit z over = cond-false (nat_le (read_bytes F z (reading F z)) limit) (answer_by F z (reading F z)) (Err (TooLong (taken_past (group_bytes F) limit (length z)))) (lt-leb (read_bytes F z (reading F z)) limit over)

-- a codeword that is lost in a group within the limit would have been met
lost_outside : (G : Form) (x rest : List ℕ) (limit g c : ℕ) → IsSound G → limit < length x → AllNear G (take (limit / group_bytes G * group_bytes G) x) → reading G (x ++ rest) ≡ ReadBeyond g c → (g + 1) * group_bytes G ≤ limit → ⊥
unfolding AllNear
lost_outside G x rest limit g c sound over near e within =
    let size = group_bytes G in
    let m = limit / size in
    let some = group_bytes_above_0 G sound in
    let u = take (m * size) x in
    let more = drop (m * size) x ++ rest in
    let h : (g + 1) ≤ m = le-div (g + 1) limit size some within in
    let fits : m * size ≤ limit = omega (arith, div-add-mod' limit size) in
    let long : length u ≡ m * size = length-take-le (m * size) x (omega arith) in
    let split : x ++ rest ≡ u ++ more = ap (λ l. l ++ rest) (sym (take-append-drop (m * size) x)) ∙ append_assoc u (drop (m * size) x) rest in
    let lost = first_lost_from_reading G (x ++ rest) g c sound e in
    let i = g * G.depth + c in
    let room : (g + 1) * G.depth ≤ m * G.depth = mul-le-mul_right G.depth h in
    let count : length (blocks G u) ≡ m * G.depth = length-blocks G u ∙ ap (λ n. n * G.depth) (count_is G u m sound long) in
    let inside : i < length (blocks G u) = omega (arith, lost.in_group) in
    let same : get_or (blocks G (x ++ rest)) i [] ≡ get_or (blocks G u) i [] = ap (λ l. get_or l i []) (ap (blocks G) split ∙ blocks-append G u more sound (even_is G u m sound long)) ∙ get_or_append_left (blocks G u) (blocks G more) [] i inside in
    let found = near i [] inside in
    let lost_there = ap G.near (sym same) ∙ lost.lost in
    absurd (cc)

past_reading : (d : Decode) (count : ℕ) → IsSound d.form → PassesLimit d count → (r : Reading) → reading d.form d.source.left ≡ r → d.limit < read_bytes d.form d.source.left r
past_reading d count sound p (ReadBeyond g c) e = elim (cases_lt d.limit ((g + 1) * group_bytes d.form)) [
  | inl over ↦ over
  | inr within ↦ absurd (lost_outside d.form (taken d) d.source_after.left d.limit g c sound (omega (arith, p.count_is, p.passes)) p.near (ap (reading d.form) (sym p.left) ∙ e) within)
]
past_reading d count sound p (ReadRagged extra) e = omega (arith, ap length p.left, length-append (taken d) d.source_after.left, p.count_is, p.passes)
past_reading d count sound p ReadFraming e = omega (arith, ap length p.left, length-append (taken d) d.source_after.left, p.count_is, p.passes)
past_reading d count sound p (ReadFile x) e = omega (arith, ap length p.left, length-append (taken d) d.source_after.left, p.count_is, p.passes)

pub complete_from : (d : Decode) (answer : Result DecodeCounts DecodeFault) → IsSound d.form → DecodedAs d answer → IsComplete d answer
complete_from d (Ok counts) sound h t none =
    let (x, read) = h.told t in
    ap Ok read.counts_are ∙ sym (answer_within d.form d.limit d.source.left (ReadFile x) read.reads read.within)
complete_from d (Err (Beyond group word)) sound h t none = sym (answer_within d.form d.limit d.source.left (ReadBeyond group word) (h.told t).reads (h.told t).within)
complete_from d (Err (Ragged extra)) sound h t none = sym (answer_within d.form d.limit d.source.left (ReadRagged extra) (h.told t).reads (h.told t).within)
complete_from d (Err Framing) sound h t none = sym (answer_within d.form d.limit d.source.left ReadFraming (h.told t).reads (h.told t).within)
complete_from d (Err (TooLong count)) sound h t none =
    let p = h.told t in
    ap (λ n. Err (TooLong n)) (p.exact none.source) ∙ sym (answer_past d.form d.limit d.source.left (past_reading d count sound p (reading d.form d.source.left) refl))
complete_from d (Err InputFault) sound h t none = absurd (none.source h.fault.1)
complete_from d (Err OutFault) sound h t none = absurd (none.out h.fault.1)
complete_from d (Err ReportFault) sound h t none = absurd (none.report h.fault.1)
