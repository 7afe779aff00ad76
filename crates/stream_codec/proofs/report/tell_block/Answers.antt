use Rattle.std.proofs.Common.{◌≡◌, ◌+◌, ◌++◌, List, [], ◌∷◌, ℕ, length, length-append, refl, sym, ap, ◌∙◌, arith}
use Rattle.std.proofs.lemmas.List.{append-nil}
use Rattle.std.proofs.lemmas.Result.{err_from_is_err_and}
use Rattle.stream_codec.specs.Report.{change_line, lines_of}
use Rattle.stream_codec.specs.GroupLines.{place_changes}
use Rattle.ag_io.proofs.Writes.{all_waits, all_but_more, all_but_some, behind}
use Rattle.stream_codec.proofs.ReportLemmas.{change_at, lines_of_new, lines_of_places, few_place_changes, place_changes_same, place_changes_new}
use Rattle.stream_codec.proofs.report.tell_block.Goals as goal
use Rattle.stream_codec.proofs.report.tell_block.Goals.{then-got-p+in_ok-add, else-got-p}

pub returns-in_err-add : goal.returns-in_err-add
unfolding change_line
returns-in_err-add g c =
    let failed = err_from_is_err_and c.from_residual.result c.from_residual.ensures.1 in
    let got = c.args.got.now in
    let word = c.args.codeword.now in
    let at = c.loop-p.p in
    let line : c.bytes.result.now ≡ change_line (change_at c.args.group c.args.word got word at) = c.bytes.ensures.written ∙ c.changed_line.ensures in
    let so_far = lines_of (place_changes at c.args.group c.args.word got word) in
    let waits = c.args.pending.now in
    let told = lines_of_new at c.args.group c.args.word got word c.if-got-p.true ∙ ap (λ (l : List ℕ). so_far ++ l) (sym line) in
    let (more, e) = lines_of_places (at + 1) (length got) c.args.group c.args.word got word (omega arith) in
    let longer = behind waits _ more _ e ∙ ap (λ (l : List ℕ). l ++ more) (behind waits so_far c.bytes.result.now _ told) in
    rw failed.1 (all_but_some _ more _ c.loop-p.invariant.wrote c.in_err-add.ensures longer)

pub loop-p-init : goal.loop-p-init
loop-p-init g c = record { wrote = all_waits _ _ _ _ (append-nil c.args.pending.now); count = refl }

pub overflow_add-count : goal.overflow_add-count
overflow_add-count g c =
    omega (arith, c.loop-p.invariant.count, few_place_changes c.loop-p.p c.args.group c.args.word c.args.got.now c.args.codeword.now)

pub loop-p-preserved : goal.loop-p-preserved
unfolding change_line
loop-p-preserved g c =
    let got = c.args.got.now in
    let word = c.args.codeword.now in
    let at = c.loop-p.p in
    let inv = c.loop-p.invariant in
    let so_far = lines_of (place_changes at c.args.group c.args.word got word) in
    elim c.if-got-p.branch [
      | then-got-p+in_ok-add w ↦ (
          let other = w.if-got-p.true in
          let line : w.bytes.result.now ≡ change_line (change_at c.args.group c.args.word got word at) = w.bytes.ensures.written ∙ w.changed_line.ensures in
          let told = lines_of_new at c.args.group c.args.word got word other ∙ ap (λ (l : List ℕ). so_far ++ l) (sym line) in
          let long = ap length (place_changes_new at c.args.group c.args.word got word other) in
          rw (w.report-is, w.pending-is, w.count-is) (record {
            wrote = all_but_more _ _ inv.wrote w.in_ok-add.ensures (behind c.args.pending.now so_far w.bytes.result.now _ told);
            count = omega (arith, inv.count, long, length-append (place_changes at c.args.group c.args.word got word) (change_at c.args.group c.args.word got word at ∷ []));
          })
          )
      | else-got-p w ↦ (
          let same = place_changes_same at c.args.group c.args.word got word w.if-got-p.false in
          rw (w.report-is, w.pending-is, w.count-is, same) (record { wrote = inv.wrote; count = inv.count })
          )
    ]
