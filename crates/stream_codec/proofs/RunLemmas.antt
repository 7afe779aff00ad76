-- The ends of the run: a salvage where it goes on, and a decoding where it may be one.
use Rattle.std.proofs.Common.{ℕ, ◌+◌, ◌*◌, ◌<◌, ◌≤◌, ◌≡◌, ◌⊎◌, Bool, IsTrue, List, [], ◌++◌, length, count_by, is_none, Result, Err, refl, sym, ap, ◌∙◌, subst, arith, inl, inr, append_assoc, length-append}
use Rattle.std.proofs.lemmas.List.{append-nil}
use Rattle.ag_io.specs.Counts.{Rose}
use Rattle.ag_io.specs.Views.{SourceView, IsSpent}
use Rattle.ag_frame.specs.declared.frame.Layout.{Layout}
use Rattle.ag_frame.specs.Layouts.{bytes_in_group}
use Rattle.ag_frame.specs.Queues.{OutState}
use Rattle.stored_form.specs.Form.{Form, IsSound}
use Rattle.stored_form.specs.Frame.{group_bytes}
use Rattle.stored_form.specs.Salvage.{lost_count}
use Rattle.stored_form.proofs.FrameLemmas.{group_bytes_above_0}
use Rattle.stream_codec.specs.Dealing.{NoneLost, Dealt, TextStopped, TextEnded, answered, out_stopped, report_stopped}
use Rattle.stream_codec.specs.Decoding.{Decode, sinks_in}
use Rattle.stream_codec.specs.Running.{MayDecode, RunAs}
use Rattle.stream_codec.specs.Salvaging.{whole_bytes, told_lines, salvage_report}
use Rattle.stream_codec.specs.Report.{sure_bytes, lines, report_of}
use Rattle.stream_codec.specs.Sinks.{Sinks}
use Rattle.stream_codec.specs.Windows.{CutShort}
use Rattle.stream_codec.proofs.EndLemmas.{rest_blocks}
use Rattle.stream_codec.specs.Taking.{IsSteady, taken_past}
use Rattle.stream_codec.specs.declared.deal.Tally.{Tally}
use Rattle.stream_codec.specs.declared.deal.WhenLost.{WhenLost}
use Rattle.stream_codec.specs.declared.deal.WhenLost.TheVariants.{Stop, Keep}
use Rattle.stream_codec.specs.declared.decode.DecodeFault.{DecodeFault}
use Rattle.stream_codec.specs.declared.decode.DecodeFault.TheVariants.{InputFault, OutFault, ReportFault, TooLong, Beyond, Ragged, Framing}
use Rattle.stream_codec.specs.declared.salvage.SalvageCounts.{SalvageCounts}
use Rattle.stream_codec.proofs.DealtLemmas.{lost_is, whole_front, told_front}
use Rattle.stream_codec.proofs.TakenLemmas.{Taken, left_is, exactly}
use Rattle.stream_codec.proofs.AlikeLemmas.{none_at_front, told_alike, sure_alike, report_alike, sure_front, lines_front, report_front, salvage_front}
use Rattle.stream_codec.proofs.DecodedLemmas.{decoded_answered, decoded_out, decoded_report, decoded_beyond, decoded_input, decoded_too_long}
use Rattle.stream_codec.proofs.SalvagedLemmas.{salvaged_answered, salvaged_out, salvaged_report, salvaged_input, salvaged_too_long}

-- where the run may decode, none of its groups is lost
may_none : (d : Decode) (when : WhenLost) (z more : List ℕ) (n : ℕ) → IsSound d.form → length z ≡ n * group_bytes d.form → MayDecode d when → NoneLost when (lost_count d.form z) → (IsTrue d.source_tells → d.source.left ≡ z ++ more) → lost_count d.form z ≡ 0
may_none d Stop z more n sound whole may none left = none
may_none d Keep z more n sound whole (t, all) none left = none_at_front d.form z more n sound whole (ap (lost_count d.form) (sym (left t)) ∙ all)

pub none_at_first : (when : WhenLost) → NoneLost when 0
none_at_first Stop = refl
none_at_first Keep = tt

pub none_text : (G : Form) (when : WhenLost) (sinks : Sinks) (s : OutState) (tally : Tally) (z p : List ℕ) → IsSound G → Dealt G sinks s tally z → length p < group_bytes G → NoneLost when tally.lost → NoneLost when (lost_count G (z ++ p))
none_text G when sinks s tally z p sound dealt short none =
    let same : lost_count G (z ++ p) ≡ lost_count G z = ap (count_by (λ y. is_none (G.near y))) (rest_blocks G z p tally.groups sound dealt.whole short) in
    subst (NoneLost when) (dealt.lost ∙ sym (lost_is G z) ∙ sym same) none

-- the same, by a count of the source that is as before
pub cut_at : (l : Layout) (tells : Bool) (middle after first : SourceView) (p : List ℕ) → middle.faults ≡ first.faults → CutShort l tells middle after p → CutShort l tells first after p
cut_at l tells middle after first p same (inl full) = inl full
cut_at l tells middle after first p same (inr (inl spent)) = inr (inl spent)
cut_at l tells middle after first p same (inr (inr rose)) = inr (inr (rw same at rose))

-- ---- the groups were not all dealt with
-- the groups u stand at the front of what was left
front_left : (d : Decode) (z p u rest : List ℕ) → Taken d z p → z ≡ u ++ rest → IsTrue d.source_tells → d.source.left ≡ u ++ (rest ++ (p ++ d.source_after.left))
front_left d z p u rest k e t = k.left t ∙ ap (λ l. l ++ (p ++ d.source_after.left)) e ∙ append_assoc u rest (p ++ d.source_after.left)

front_text : (z p u rest : List ℕ) → z ≡ u ++ rest → z ++ p ≡ u ++ (rest ++ p)
front_text z p u rest e = ap (λ l. l ++ p) e ∙ append_assoc u rest p

pub run_stopped : (d : Decode) (when : WhenLost) (z p : List ℕ) (fault : DecodeFault) → IsSound d.form → Taken d z p → TextStopped d.form (sinks_in d) when z fault → RunAs d when (Err fault)
run_stopped d when z p OutFault sound k (u, f, w, r) =
    let G = d.form in
    let text = front_text z p u f.rest f.text_is in
    record {
      salvaged = λ keep.
          let (rest, e) = whole_front G u (f.rest ++ p) f.groups sound f.whole in
          let (more, h) = told_front G u (f.rest ++ p) f.groups sound f.whole in
          salvaged_out d z p (whole_bytes G u) (told_lines G u) rest more sound k (ap (whole_bytes G) text ∙ e) (ap (told_lines G) text ∙ h) w r;
      decoded = λ may.
          let none = may_none d when u (f.rest ++ (p ++ d.source_after.left)) f.groups sound f.whole may f.none (front_left d z p u f.rest k f.text_is) in
          let (rest, e) = sure_front G u (f.rest ++ p) f.groups sound f.whole none in
          let (more, h) = lines_front G u (f.rest ++ p) f.groups sound f.whole none in
          decoded_out d z p (whole_bytes G u) (told_lines G u) rest more sound k (ap (sure_bytes G) text ∙ e) (ap (lines G) text ∙ h) w r;
    }
run_stopped d when z p ReportFault sound k (u, f, w, r) =
    let G = d.form in
    let text = front_text z p u f.rest f.text_is in
    record {
      salvaged = λ keep.
          let (rest, e) = whole_front G u (f.rest ++ p) f.groups sound f.whole in
          let (more, h) = salvage_front G u (f.rest ++ p) f.groups sound f.whole in
          salvaged_report d z p w.front (told_lines G u) (w.rest ++ rest) more sound k (ap (whole_bytes G) text ∙ e ∙ ap (λ l. l ++ rest) w.bytes_are ∙ append_assoc w.front w.rest rest) (ap (salvage_report G) text ∙ h) w.wrote r;
      decoded = λ may.
          let none = may_none d when u (f.rest ++ (p ++ d.source_after.left)) f.groups sound f.whole may f.none (front_left d z p u f.rest k f.text_is) in
          let (rest, e) = sure_front G u (f.rest ++ p) f.groups sound f.whole none in
          let (more, h) = report_front G u (f.rest ++ p) f.groups sound f.whole none in
          decoded_report d z p w.front (told_lines G u) (w.rest ++ rest) more sound k (ap (sure_bytes G) text ∙ e ∙ ap (λ l. l ++ rest) w.bytes_are ∙ append_assoc w.front w.rest rest) (ap (report_of G) text ∙ h) w.wrote r;
    }
run_stopped d when z p (Beyond group word) sound k (u, stop, l, w, r) = record {
  salvaged = λ keep. absurd (cc);
  decoded = λ may. decoded_beyond d z p u group word sound k l w r;
}
run_stopped d when z p InputFault sound k h = absurd h
run_stopped d when z p (TooLong count) sound k h = absurd h
run_stopped d when z p (Ragged extra) sound k h = absurd h
run_stopped d when z p Framing sound k h = absurd h

-- ---- the end of the source
ended_none : (d : Decode) (when : WhenLost) (z p : List ℕ) → MayDecode d when → NoneLost when (lost_count d.form (z ++ p)) → (IsTrue d.source_tells → d.source.left ≡ z ++ p) → lost_count d.form (z ++ p) ≡ 0
ended_none d Stop z p may none left = none
ended_none d Keep z p (t, all) none left = ap (lost_count d.form) (sym (left t)) ∙ all

pub run_ended : (d : Decode) (when : WhenLost) (z p : List ℕ) (answer : Result SalvageCounts DecodeFault) → IsSound d.form → Taken d z p → NoneLost when (lost_count d.form (z ++ p)) → length (z ++ p) ≤ d.limit → (IsTrue d.source_tells → d.source_after.left ≡ []) → IsSteady d.source.faults d.source_after.faults →
    TextEnded d.form (sinks_in d) (z ++ p) answer → RunAs d when answer
run_ended d when z p answer sound k none within spent steady (answered h) = record {
  salvaged = λ keep. salvaged_answered d z p answer sound k within spent steady h;
  decoded = λ may. decoded_answered d z p answer sound k (ended_none d when z p may none (λ t. left_is d z p k t ∙ ap (λ l. (z ++ p) ++ l) (spent t) ∙ append-nil (z ++ p))) within spent steady h;
}
run_ended d when z p answer sound k none within spent steady (out_stopped is w r) =
    let G = d.form in
    let text = z ++ p in
    subst (RunAs d when) (sym is) (record {
      salvaged = λ keep. salvaged_out d z p (whole_bytes G text) (told_lines G text) [] [] sound k (sym (append-nil (whole_bytes G text))) (sym (append-nil (told_lines G text))) w r;
      decoded = λ may.
          let zero = ended_none d when z p may none (λ t. left_is d z p k t ∙ ap (λ l. text ++ l) (spent t) ∙ append-nil text) in
          decoded_out d z p (whole_bytes G text) (told_lines G text) [] [] sound k (sure_alike G text zero ∙ sym (append-nil (whole_bytes G text))) (sym (told_alike G text zero) ∙ sym (append-nil (told_lines G text))) w r;
    })
run_ended d when z p answer sound k none within spent steady (report_stopped is w r) =
    let G = d.form in
    let text = z ++ p in
    subst (RunAs d when) (sym is) (record {
      salvaged = λ keep. salvaged_report d z p w.front (salvage_report G text) w.rest [] sound k w.bytes_are (sym (append-nil (salvage_report G text))) w.wrote r;
      decoded = λ may.
          let zero = ended_none d when z p may none (λ t. left_is d z p k t ∙ ap (λ l. text ++ l) (spent t) ∙ append-nil text) in
          decoded_report d z p w.front (salvage_report G text) w.rest [] sound k (sure_alike G text zero ∙ w.bytes_are) (sym (report_alike G text zero) ∙ sym (append-nil (salvage_report G text))) w.wrote r;
    })

-- ---- a read that failed
pub run_input : (d : Decode) (when : WhenLost) (s : OutState) (tally : Tally) (z p : List ℕ) → IsSound d.form → Taken d z p → length p < group_bytes d.form → length (z ++ p) ≤ d.limit → NoneLost when tally.lost → Rose d.source.faults d.source_after.faults → Dealt d.form (sinks_in d) s tally z → RunAs d when (Err InputFault)
run_input d when s tally z p sound k short within none rose dealt = record {
  salvaged = λ keep. salvaged_input d z p _ tally.groups sound k dealt.whole short within rose refl dealt.wrote dealt.told;
  decoded = λ may.
      let zero = may_none d when z (p ++ d.source_after.left) tally.groups sound dealt.whole may (subst (NoneLost when) (dealt.lost ∙ sym (lost_is d.form z)) none) k.left in
      decoded_input d z p _ tally.groups sound k dealt.whole short within zero rose refl dealt.wrote dealt.told;
}

-- ---- more than the limit
exact_count : (d : Decode) (l : Layout) (z p : List ℕ) (n count : ℕ) → IsSound d.form → Taken d z p → length z ≡ n * group_bytes d.form → d.limit < count → count ≡ length z + length p → bytes_in_group l ≡ group_bytes d.form → (d.source.faults ≤ d.source_after.faults) →
    ((length p ≡ bytes_in_group l) ⊎ (IsSpent d.source_tells d.source_after ⊎ Rose d.source.faults d.source_after.faults)) →
    IsTrue d.source_tells → (Rose d.source.faults d.source_after.faults → ⊥) → count ≡ taken_past (group_bytes d.form) d.limit (length d.source.left)
exact_count d l z p n count sound k whole over sum size counted (inl full) t steady =
    let inside : length z + length p ≤ length d.source.left = omega (arith, ap length (left_is d z p k t), length-append (z ++ p) d.source_after.left, length-append z p) in
    sum ∙ exactly n d.limit (group_bytes d.form) (length z) (length p) (length d.source.left) (group_bytes_above_0 d.form sound) whole k.within (omega arith) k.short inside (inl (full ∙ size))
exact_count d l z p n count sound k whole over sum size counted (inr (inl spent)) t steady =
    let all : length z + length p ≡ length d.source.left = omega (arith, ap length (left_is d z p k t), length-append (z ++ p) d.source_after.left, length-append z p, ap length (spent t)) in
    sum ∙ exactly n d.limit (group_bytes d.form) (length z) (length p) (length d.source.left) (group_bytes_above_0 d.form sound) whole k.within (omega arith) k.short (omega arith) (inr all)
exact_count d l z p n count sound k whole over sum size counted (inr (inr rose)) t steady = absurd (steady rose)

pub run_too_long : (d : Decode) (l : Layout) (when : WhenLost) (s : OutState) (tally : Tally) (z p : List ℕ) (count : ℕ) → IsSound d.form → Taken d z p → d.limit < count → count ≡ length z + length p → bytes_in_group l ≡ group_bytes d.form → NoneLost when tally.lost →
    ((length p ≡ bytes_in_group l) ⊎ (IsSpent d.source_tells d.source_after ⊎ Rose d.source.faults d.source_after.faults)) → Dealt d.form (sinks_in d) s tally z → RunAs d when (Err (TooLong count))
run_too_long d l when s tally z p count sound k over sum size none cut dealt =
    let exact = exact_count d l z p tally.groups count sound k dealt.whole over sum size k.source_counted cut in
    record {
      salvaged = λ keep. salvaged_too_long d z p _ tally.groups count sound k dealt.whole over sum exact refl dealt.wrote dealt.told;
      decoded = λ may.
          let zero = may_none d when z (p ++ d.source_after.left) tally.groups sound dealt.whole may (subst (NoneLost when) (dealt.lost ∙ sym (lost_is d.form z)) none) k.left in
          decoded_too_long d z p _ tally.groups count sound k dealt.whole over sum zero exact refl dealt.wrote dealt.told;
    }
