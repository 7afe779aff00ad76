-- What a salvage says at each of its ends.
use Rattle.std.proofs.Common.{ℕ, ◌+◌, ◌*◌, ◌-◌, ◌<◌, ◌≤◌, ◌≡◌, Bool, true, false, IsTrue, cond, nat_eq, nat_le, List, [], ◌++◌, length, Result, Ok, Err, sym, ap, ◌∙◌, subst, arith, length-append}
use Rattle.std.proofs.lemmas.List.{append-nil}
use Rattle.std.proofs.lemmas.Bool.{cond-true, cond-false, le-leb, lt-leb}
use Rattle.ag_io.specs.Counts.{Rose}
use Rattle.ag_io.specs.Views.{GivesFront, GivesLess}
use Rattle.ag_io.specs.Puts.{Wrote, WroteSome}
use Rattle.ag_io.proofs.Writes.{gave_front, some_of_longer}
use Rattle.stored_form.specs.Bits.{symbols_of}
use Rattle.stored_form.specs.Form.{IsSound}
use Rattle.stored_form.specs.Frame.{group_bytes}
use Rattle.stored_form.specs.Reading.{group_count, corrected}
use Rattle.stored_form.specs.Salvage.{lines_of_blocks, lines_to, salvage_out}
use Rattle.stored_form.proofs.SalvageLemmas.{lines_to-append, lines_to-all}
use Rattle.stream_codec.specs.Dealing.{TextAnswered}
use Rattle.stream_codec.specs.Decoding.{Decode, sinks_in, taken, groups_within, FaultAs, SinksSteady}
use Rattle.stream_codec.specs.Report.{text_of}
use Rattle.stream_codec.specs.Salvaging.{answer_at, salvage_counts, salvage_answer, salvage_answer_to, told_lines, salvage_report, whole_bytes, SalvagesText, SalvagedToldAs, SalvagedAs, IsSalvaged}
use Rattle.stream_codec.specs.Taking.{IsSteady, taken_past}
use Rattle.stream_codec.specs.declared.decode.DecodeFault.{DecodeFault}
use Rattle.stream_codec.specs.declared.decode.DecodeFault.TheVariants.{InputFault, OutFault, ReportFault, TooLong, Beyond, Ragged, Framing}
use Rattle.stream_codec.specs.declared.salvage.SalvageCounts.{SalvageCounts}
use Rattle.stream_codec.specs.declared.salvage.SalvageEnd.{SalvageEnd}
use Rattle.stream_codec.specs.declared.salvage.SalvageEnd.TheVariants as end
use Rattle.stream_codec.proofs.DealtLemmas.{count_is, even_is}
use Rattle.stream_codec.proofs.EndLemmas.{rest_count, rest_blocks, rest_corrected}
use Rattle.stream_codec.proofs.TakenLemmas.{Taken, left_is, taken_is, were_taken}
use Rattle.stream_codec.proofs.DecodedLemmas.{Bounds, bounds, out_bounds, report_bounds, within_is}

salvaged_as : (d : Decode) (answer : Result SalvageCounts DecodeFault) → Bounds d → (IsTrue d.source_tells → SalvagedToldAs d answer) → ((group word : ℕ) → answer ≡ Err (Beyond group word) → ⊥) → FaultAs d answer → SalvagedAs d answer
salvaged_as d answer b told goes_on fault = record {
  told = told;
  goes_on = goes_on;
  fault = fault;
  most = b.most;
  source_counted = b.source_counted;
  out_counted = b.out_counted;
  report_counted = b.report_counted;
  out_sure = b.out_sure;
  report_sure = b.report_sure;
}

-- ---- the end of the source
-- an answer by counts is Ok, Ragged or Framing
abbrev IsEnd : Result SalvageCounts DecodeFault → Type 0
IsEnd (Ok counts) = Unit {0}
IsEnd (Err (Ragged extra)) = Unit {0}
IsEnd (Err Framing) = Unit {0}
IsEnd (Err (Beyond group word)) = ⊥
IsEnd (Err (TooLong count)) = ⊥
IsEnd (Err InputFault) = ⊥
IsEnd (Err OutFault) = ⊥
IsEnd (Err ReportFault) = ⊥

is_end : (counts : SalvageCounts) (b : Bool) (e : SalvageEnd) → IsEnd (cond b (answer_at counts e) (Ok counts))
is_end counts true end.File = tt
is_end counts true (end.Ragged extra) = tt
is_end counts true end.Framing = tt
is_end counts false e = tt

told_end : (d : Decode) (answer : Result SalvageCounts DecodeFault) → IsEnd answer → SalvagesText d answer → SalvagedToldAs d answer
told_end d (Ok counts) is h = h
told_end d (Err (Ragged extra)) is h = h
told_end d (Err Framing) is h = h
told_end d (Err (Beyond group word)) is h = absurd is
told_end d (Err (TooLong count)) is h = absurd is
told_end d (Err InputFault) is h = absurd is
told_end d (Err OutFault) is h = absurd is
told_end d (Err ReportFault) is h = absurd is

steady_end : (d : Decode) (answer : Result SalvageCounts DecodeFault) → IsEnd answer → SinksSteady d → IsSteady d.source.faults d.source_after.faults → FaultAs d answer
steady_end d (Ok counts) is sinks source = (sinks, source)
steady_end d (Err (Ragged extra)) is sinks source = (sinks, source)
steady_end d (Err Framing) is sinks source = (sinks, source)
steady_end d (Err (Beyond group word)) is sinks source = absurd is
steady_end d (Err (TooLong count)) is sinks source = absurd is
steady_end d (Err InputFault) is sinks source = absurd is
steady_end d (Err OutFault) is sinks source = absurd is
steady_end d (Err ReportFault) is sinks source = absurd is

no_beyond_end : (answer : Result SalvageCounts DecodeFault) → IsEnd answer → (group word : ℕ) → answer ≡ Err (Beyond group word) → ⊥
no_beyond_end answer is group word e = subst IsEnd e is

pub salvaged_answered : (d : Decode) (z p : List ℕ) (answer : Result SalvageCounts DecodeFault) → IsSound d.form → Taken d z p → length (z ++ p) ≤ d.limit → (IsTrue d.source_tells → d.source_after.left ≡ []) → IsSteady d.source.faults d.source_after.faults →
    TextAnswered d.form (sinks_in d) (z ++ p) answer → SalvagedAs d answer
salvaged_answered d z p answer sound k within spent steady h =
    let G = d.form in
    let counts = salvage_counts G (z ++ p) in
    let is = subst IsEnd h.answers (is_end counts (nat_eq counts.lost 0) counts.end) in
    salvaged_as d answer (bounds d z p _ _ sound k h.wrote h.told)
    (λ t.
    let e : d.source.left ≡ z ++ p = left_is d z p k t ∙ ap (λ l. (z ++ p) ++ l) (spent t) ∙ append-nil (z ++ p) in
    told_end d answer is (record {
      within = omega (arith, ap length e);
      ended = spent t;
      answers = sym h.answers ∙ ap (salvage_answer G) (sym e);
      out = λ o. h.wrote.gives o ∙ ap (λ l. d.out.given ++ salvage_out G l) (sym e);
      report = λ o. h.told.gives o ∙ ap (λ l. d.report.given ++ salvage_report G l) (sym e);
    }))
    (no_beyond_end answer is)
    (steady_end d answer is (h.wrote.faults, h.told.faults) steady)

-- ---- a write that failed: fronts of the bytes and the lines of the whole groups taken
pub salvaged_out : (d : Decode) (z p bytes told rest more : List ℕ) → IsSound d.form → Taken d z p → whole_bytes d.form (z ++ p) ≡ bytes ++ rest → told_lines d.form (z ++ p) ≡ told ++ more → WroteSome d.out_tells d.out d.out_after bytes → Wrote d.report_tells d.report d.report_after told → SalvagedAs d (Err OutFault)
salvaged_out d z p bytes told rest more sound k e f w r =
    let part = some_of_longer rest (whole_bytes d.form (z ++ p)) w e in
    salvaged_as d (Err OutFault) (out_bounds d z p bytes told sound k w r)
    (λ t. let same = taken_is d z p k t in record {
      left = were_taken d z p k t;
      out = subst (λ l. GivesFront d.out_tells d.out d.out_after (whole_bytes d.form l)) (sym same) part.gives;
      fewer = subst (λ l. GivesLess d.out_tells d.out d.out_after (whole_bytes d.form l)) (sym same) part.fewer;
      report = subst (λ l. GivesFront d.report_tells d.report d.report_after (told_lines d.form l)) (sym same) (gave_front more (told_lines d.form (z ++ p)) r f);
    })
    (λ group word is. absurd (cc))
    (r.faults, w.rose, w.enough)

pub salvaged_report : (d : Decode) (z p bytes told rest more : List ℕ) → IsSound d.form → Taken d z p → whole_bytes d.form (z ++ p) ≡ bytes ++ rest → salvage_report d.form (z ++ p) ≡ told ++ more → Wrote d.out_tells d.out d.out_after bytes → WroteSome d.report_tells d.report d.report_after told → SalvagedAs d (Err ReportFault)
salvaged_report d z p bytes told rest more sound k e f w r =
    let part = some_of_longer more (salvage_report d.form (z ++ p)) r f in
    salvaged_as d (Err ReportFault) (report_bounds d z p bytes told sound k w r)
    (λ t. let same = taken_is d z p k t in record {
      left = were_taken d z p k t;
      out = subst (λ l. GivesFront d.out_tells d.out d.out_after (whole_bytes d.form l)) (sym same) (gave_front rest (whole_bytes d.form (z ++ p)) w e);
      report = subst (λ l. GivesFront d.report_tells d.report d.report_after (salvage_report d.form l)) (sym same) part.gives;
      fewer = subst (λ l. GivesLess d.report_tells d.report d.report_after (salvage_report d.form l)) (sym same) part.fewer;
    })
    (λ group word is. absurd (cc))
    (w.faults, r.rose, r.enough)

-- ---- a read that failed
pub salvaged_input : (d : Decode) (z p bytes : List ℕ) (n : ℕ) → IsSound d.form → Taken d z p → length z ≡ n * group_bytes d.form → length p < group_bytes d.form → length (z ++ p) ≤ d.limit → Rose d.source.faults d.source_after.faults →
    bytes ≡ symbols_of 8 (corrected d.form z (n - 1)) → Wrote d.out_tells d.out d.out_after bytes → Wrote d.report_tells d.report d.report_after (told_lines d.form z) → SalvagedAs d (Err InputFault)
salvaged_input d z p bytes n sound k whole short within rose bytes_are w r =
    let G = d.form in
    let text = z ++ p in
    let sure : bytes ≡ symbols_of 8 (corrected G text (group_count G text - 1)) =
    bytes_are ∙ ap (symbols_of 8) (sym (rest_corrected G z p n (n - 1) sound whole (omega arith))) ∙ ap (λ m. symbols_of 8 (corrected G text (m - 1))) (sym (rest_count G z p n whole short)) in
    let told : told_lines G z ≡ told_lines G text = ap (λ ys. text_of (lines_of_blocks G ys)) (sym (rest_blocks G z p n sound whole short)) in
    salvaged_as d (Err InputFault) (bounds d z p _ _ sound k w r)
    (λ t. let same = taken_is d z p k t in record {
      left = were_taken d z p k t;
      within = omega (arith, ap length same);
      out = λ o. w.gives o ∙ ap (λ l. d.out.given ++ l) (sure ∙ ap (λ l. symbols_of 8 (corrected G l (group_count G l - 1))) (sym same));
      report = λ o. r.gives o ∙ ap (λ l. d.report.given ++ l) (told ∙ ap (told_lines G) (sym same));
    })
    (λ group word is. absurd (cc))
    ((w.faults, r.faults), rose)

-- ---- more than the limit
pub salvaged_too_long : (d : Decode) (z p bytes : List ℕ) (n count : ℕ) → IsSound d.form → Taken d z p → length z ≡ n * group_bytes d.form → d.limit < count → count ≡ length z + length p →
    (IsTrue d.source_tells → (Rose d.source.faults d.source_after.faults → ⊥) → count ≡ taken_past (group_bytes d.form) d.limit (length d.source.left)) →
    bytes ≡ symbols_of 8 (corrected d.form z (n - 1)) → Wrote d.out_tells d.out d.out_after bytes → Wrote d.report_tells d.report d.report_after (told_lines d.form z) → SalvagedAs d (Err (TooLong count))
salvaged_too_long d z p bytes n count sound k whole over sum exact bytes_are w r =
    let G = d.form in
    let text = z ++ p in
    let within = within_is d z p n whole k.within k.short (omega arith) in
    let counted = count_is G z n sound whole in
    let sure : bytes ≡ symbols_of 8 (corrected G text (groups_within d - 1)) =
    bytes_are ∙ ap (symbols_of 8) (sym (rest_corrected G z p n (n - 1) sound whole (omega arith))) ∙ ap (λ m. symbols_of 8 (corrected G text (m - 1))) (sym within) in
    let told : told_lines G z ≡ text_of (lines_to G text (groups_within d)) =
    ap text_of (sym (lines_to-all G z) ∙ ap (lines_to G z) counted ∙ sym (lines_to-append G z p n sound (even_is G z n sound whole) (omega arith)) ∙ ap (lines_to G text) (sym within)) in
    salvaged_as d (Err (TooLong count)) (bounds d z p _ _ sound k w r)
    (λ t. let same = taken_is d z p k t in record {
      left = were_taken d z p k t;
      count_is = sum ∙ sym (length-append z p) ∙ ap length (sym same);
      passes = over;
      exact = exact t;
      out = λ o. w.gives o ∙ ap (λ l. d.out.given ++ l) (sure ∙ ap (λ l. symbols_of 8 (corrected G l (groups_within d - 1))) (sym same));
      report = λ o. r.gives o ∙ ap (λ l. d.report.given ++ l) (told ∙ ap (λ l. text_of (lines_to G l (groups_within d))) (sym same));
    })
    (λ group word is. absurd (cc))
    ((w.faults, r.faults), over)

-- ---- where no count rises
answers_within : (d : Decode) (answer : Result SalvageCounts DecodeFault) → SalvagesText d answer → answer ≡ salvage_answer_to d.form d.limit d.source.left
answers_within d answer h =
    let z = d.source.left in
    h.answers ∙ sym (cond-true (nat_le (length z) d.limit) (salvage_answer d.form z) (Err (TooLong (taken_past (group_bytes d.form) d.limit (length z)))) (le-leb (length z) d.limit h.within))

pub salvaged_from : (d : Decode) (answer : Result SalvageCounts DecodeFault) → SalvagedAs d answer → IsSalvaged d answer
salvaged_from d (Ok counts) h t none = answers_within d (Ok counts) (h.told t)
salvaged_from d (Err (Ragged extra)) h t none = answers_within d (Err (Ragged extra)) (h.told t)
salvaged_from d (Err Framing) h t none = answers_within d (Err Framing) (h.told t)
salvaged_from d (Err (Beyond group word)) h t none = absurd (h.told t)
salvaged_from d (Err (TooLong count)) h t none =
    let p = h.told t in
    let z = d.source.left in
    let over : d.limit < length z = omega (arith, ap length p.left, length-append (taken d) d.source_after.left, p.count_is, p.passes) in
    ap (λ n. Err (TooLong n)) (p.exact none.source)
    ∙ sym (cond-false (nat_le (length z) d.limit) (salvage_answer d.form z) (Err (TooLong (taken_past (group_bytes d.form) d.limit (length z)))) (lt-leb (length z) d.limit over))
salvaged_from d (Err InputFault) h t none = absurd (none.source h.fault.1)
salvaged_from d (Err OutFault) h t none = absurd (none.out h.fault.1)
salvaged_from d (Err ReportFault) h t none = absurd (none.report h.fault.1)
