-- A text decoded in memory
use Rattle.std.proofs.Common.{ℕ, ◌+◌, ◌*◌, ◌/◌, ◌<◌, ◌≤◌, ◌≡◌, IsTrue, false, List, [], ◌++◌, length, sym, ap, ◌∙◌, subst, arith, length-append, Ok, Err}
use Rattle.std.specs.Str.{bytes_eq}
use Rattle.stored_form.specs.Form.{IsSound}
use Rattle.stored_form.specs.Frame.{group_bits, group_bytes}
use Rattle.stored_form.specs.Reading.{changes}
use Rattle.ag_io.specs.Views.{GaveFront}
use Rattle.stream_codec.specs.Report.{sure_bytes}
use Rattle.stream_codec.specs.Decoding.{Decode, taken, DecodedAs}
use Rattle.stream_codec.specs.declared.decode.DecodeCounts.{DecodeCounts}
use Rattle.stream_codec.specs.declared.decode.DecodeFault.{DecodeFault}
use Rattle.stream_codec.specs.declared.decode.DecodeFault.TheVariants.{InputFault, OutFault, ReportFault, TooLong, Beyond, Ragged, Framing}
use Rattle.code_trial.specs.Trials.{read_back, read_back_by}
use Rattle.code_trial.proofs.Bounds.{sure_short}
use Rattle.code_trial.proofs.Encoded.{never_rose, part_short}

-- a call over memory: nothing was given before, source and report do not fail, and there is room for all that is sure
pub record IsInMemory (d : Decode) : Type 0 where
  pub source_tells : IsTrue d.source_tells
  pub out_tells : IsTrue d.out_tells
  pub sound : IsSound d.form
  pub given : d.out.given ≡ []
  pub source_before : d.source.faults ≡ 0
  pub source_after : d.source_after.faults ≡ 0
  pub report_before : d.report.faults ≡ 0
  pub report_after : d.report_after.faults ≡ 0
  pub short : length d.source.left ≤ d.limit
  pub room : length d.source.left / group_bytes d.form * group_bits d.form / 8 < d.out.sure

pub back_done : (d : Decode) (x : List ℕ) (counts : DecodeCounts) → DecodedAs d (Ok counts) → IsInMemory d →
    read_back d.form d.source.left x ≡ record { corrected = counts.changes; equal = bytes_eq d.out_after.given x }
back_done d x counts dec m =
    let (y, r) = dec.told m.source_tells in
    let given : d.out_after.given ≡ y = r.out m.out_tells ∙ ap (λ (b : List ℕ). b ++ y) m.given in
    let changes_are : length (changes d.form d.source.left) ≡ counts.changes = ap (λ (c : DecodeCounts). c.changes) (sym r.counts_are) in
    ap (read_back_by d.form d.source.left x) r.reads
    ∙ (λ i. record { corrected = changes_are i; equal = bytes_eq (sym given i) x })

back_beyond : (d : Decode) (x : List ℕ) (group word : ℕ) → IsInMemory d → DecodedAs d (Err (Beyond group word)) →
    read_back d.form d.source.left x ≡ record { corrected = 0; equal = false }
back_beyond d x group word m dec = ap (read_back_by d.form d.source.left x) (dec.told m.source_tells).reads

back_ragged : (d : Decode) (x : List ℕ) (extra : ℕ) → IsInMemory d → DecodedAs d (Err (Ragged extra)) →
    read_back d.form d.source.left x ≡ record { corrected = 0; equal = false }
back_ragged d x extra m dec = ap (read_back_by d.form d.source.left x) (dec.told m.source_tells).reads

back_framing : (d : Decode) (x : List ℕ) → IsInMemory d → DecodedAs d (Err Framing) →
    read_back d.form d.source.left x ≡ record { corrected = 0; equal = false }
back_framing d x m dec = ap (read_back_by d.form d.source.left x) (dec.told m.source_tells).reads

-- the other answers cannot come
no_long : (d : Decode) (count : ℕ) → IsInMemory d → DecodedAs d (Err (TooLong count)) → ⊥
no_long d count m dec =
    let p = dec.told m.source_tells in
    let e : length d.source.left ≡ length (taken d) + length d.source_after.left = ap length p.left ∙ length-append (taken d) d.source_after.left in
    omega (arith, p.count_is, p.passes, m.short)

no_input_fault : (d : Decode) → IsInMemory d → DecodedAs d (Err InputFault) → ⊥
no_input_fault d m dec = never_rose (rw (m.source_before, m.source_after) at dec.fault.1)

no_report_fault : (d : Decode) → IsInMemory d → DecodedAs d (Err ReportFault) → ⊥
no_report_fault d m dec = never_rose (rw (m.report_before, m.report_after) at dec.fault.1)

no_out_fault : (d : Decode) → IsInMemory d → DecodedAs d (Err OutFault) → ⊥
no_out_fault d m dec =
    let z = taken d in
    let w = dec.told m.source_tells in
    let e : length d.source.left ≡ length z + length d.source_after.left = ap length w.left ∙ length-append z d.source_after.left in
    let part : length d.out_after.given ≤ length (sure_bytes d.form z) =
    part_short d.out_after.given (sure_bytes d.form z) (subst (λ (b : List ℕ). GaveFront b d.out_after.given (sure_bytes d.form z)) m.given (w.out m.out_tells)) in
    let most = sure_short d.form z d.source.left m.sound (omega arith) in
    let enough : d.out.sure ≤ length d.out_after.given = dec.fault.2 m.out_tells in
    omega (arith, m.room)

-- no file came back
pub back_refused : (d : Decode) (x : List ℕ) (fault : DecodeFault) → DecodedAs d (Err fault) → IsInMemory d →
    read_back d.form d.source.left x ≡ record { corrected = 0; equal = false }
back_refused d x (Beyond group word) dec m = back_beyond d x group word m dec
back_refused d x (Ragged extra) dec m = back_ragged d x extra m dec
back_refused d x Framing dec m = back_framing d x m dec
back_refused d x (TooLong count) dec m = absurd (no_long d count m dec)
back_refused d x InputFault dec m = absurd (no_input_fault d m dec)
back_refused d x ReportFault dec m = absurd (no_report_fault d m dec)
back_refused d x OutFault dec m = absurd (no_out_fault d m dec)
