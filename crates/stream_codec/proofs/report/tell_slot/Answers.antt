use Rattle.std.proofs.Common.{◌++◌, ℕ, List, length, sym, ap, ◌∙◌, subst}
use Rattle.std.proofs.lemmas.Result.{err_from_is_err_and}
use Rattle.stored_form.specs.Salvage.{lost_in, changes_in}
use Rattle.stored_form.proofs.SalvageLemmas.{lost_in-changed, changes_in-changed}
use Rattle.ag_io.specs.Puts.{WroteSome, WroteAllBut}
use Rattle.stream_codec.specs.Report.{text_of}
use Rattle.stream_codec.specs.GroupLines.{place_changes}
use Rattle.stream_codec.proofs.LineLemmas.{told_near, text_of-changed}
use Rattle.stream_codec.proofs.report.tell_slot.Goals as goal

pub returns-in_err-changes-in-Near : goal.returns-in_err-changes-in-Near
returns-in_err-changes-in-Near g c =
    let failed = err_from_is_err_and c.from_residual.result c.from_residual.ensures.1 in
    let changes = place_changes (length c.got.result.now) c.args.group c.args.word c.got.result.now c.word.result.now in
    let told = told_near c.args.group c.args.word c.in-Near.changes c.args.slot.now c.got.result.now c.word.result.now c.got.ensures c.word.ensures (sym c.in-Near.ensures) in
    let same = ap (λ (l : List ℕ). c.args.pending.now ++ l) (sym (ap text_of told ∙ text_of-changed changes)) in
    rw failed.1 (subst (λ (b : List ℕ). WroteSome g.R.Sink.tells (g.R.Sink.view c.args.report.now) (g.R.Sink.view c.tell_block.new.report) b) same c.in_err-changes-in-Near.ensures)

pub returns-in_ok-changes-in-Near : goal.returns-in_ok-changes-in-Near
returns-in_ok-changes-in-Near g c =
    let changes = place_changes (length c.got.result.now) c.args.group c.args.word c.got.result.now c.word.result.now in
    let told = told_near c.args.group c.args.word c.in-Near.changes c.args.slot.now c.got.result.now c.word.result.now c.got.ensures c.word.ensures (sym c.in-Near.ensures) in
    let same = ap (λ (l : List ℕ). c.args.pending.now ++ l) (sym (ap text_of told ∙ text_of-changed changes)) in
    let h = c.in_ok-changes-in-Near.ensures in (
      subst (λ (b : List ℕ). WroteAllBut g.R.Sink.tells (g.R.Sink.view c.args.report.now) (g.R.Sink.view c.tell_block.new.report) b c.tell_block.new.pending) same h.0,
      h.1 ∙ sym (ap changes_in told ∙ changes_in-changed changes),
      sym (ap lost_in told ∙ lost_in-changed changes),
    )
