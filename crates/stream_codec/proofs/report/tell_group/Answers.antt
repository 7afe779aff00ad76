use Rattle.std.proofs.Common.{◌≡◌, ◌≤◌, ◌*◌, ◌++◌, ℕ, List, length, take, refl, ap, sym, ◌∙◌, arith, mul-le-mul_right}
use Rattle.std.proofs.lemmas.List.{take_all}
use Rattle.std.proofs.lemmas.Result.{err_from_is_err_and}
use Rattle.stream_codec.specs.Slots.{SlotState}
use Rattle.stream_codec.specs.GroupLines.{told_by}
use Rattle.stream_codec.proofs.SlotLemmas.{at_slot}
use Rattle.ag_io.proofs.Writes.{all_waits, all_but_more, all_but_some, all_but_none, none_but_some}
use Rattle.stream_codec.proofs.LineLemmas.{line_step, few_told, few_lost}
use Rattle.stream_codec.proofs.report.tell_group.Goals as goal

-- the lines of one slot, as they were told
slot_lines_are : (n group i : ℕ) (s : SlotState) → length s.got ≡ n → told_by (length s.got) group i s.got s.word s.verdict ≡ told_by n group i s.got s.word s.verdict
slot_lines_are n group i s long = ap (λ (m : ℕ). told_by m group i s.got s.word s.verdict) long

pub loop-c-init : goal.loop-c-init
loop-c-init g c = record { wrote = all_waits _ _ _ _ (sym c.new-pending.ensures); changes = refl; lost = refl }

pub returns-in_err-write : goal.returns-in_err-write
returns-in_err-write g c =
    let failed = err_from_is_err_and c.from_residual-in_err-write.result c.from_residual-in_err-write.ensures.1 in
    let all : take c.loop-c.c c.args.slots.now ≡ c.args.slots.now = take_all _ _ (omega (arith, c.loop-c-test.false)) in
    rw failed.1 (none_but_some (rw all at c.loop-c.invariant.wrote) c.in_err-write.ensures.written)

pub returns : goal.returns
returns g c =
    let all : take c.loop-c.c c.args.slots.now ≡ c.args.slots.now = take_all _ _ (omega (arith, c.loop-c-test.false)) in
    (all_but_none (rw all at c.loop-c.invariant.wrote) c.in_ok-write.ensures.written, rw all at c.loop-c.invariant.changes, rw all at c.loop-c.invariant.lost)

pub tell_slot-requires-clause-few : goal.tell_slot-requires-clause-few
tell_slot-requires-clause-few g c =
    let slot = c.index-slots-c.result in
    let long = at_slot (λ (s : SlotState). length s.got ≡ c.args.n) c.args.slots.now c.loop-c.c slot c.requires.got_long c.loop-c-test.true c.index-slots-c.is in
    omega (arith, long)

pub tell_slot-requires-clause-same : goal.tell_slot-requires-clause-same
tell_slot-requires-clause-same g c =
    let slot = c.index-slots-c.result in
    let got_long = at_slot (λ (s : SlotState). length s.got ≡ c.args.n) c.args.slots.now c.loop-c.c slot c.requires.got_long c.loop-c-test.true c.index-slots-c.is in
    let word_long = at_slot (λ (s : SlotState). length s.word ≡ c.args.n) c.args.slots.now c.loop-c.c slot c.requires.word_long c.loop-c-test.true c.index-slots-c.is in
    omega (arith, got_long, word_long)

pub returns-in_err-told : goal.returns-in_err-told
returns-in_err-told g c =
    let failed = err_from_is_err_and c.from_residual.result c.from_residual.ensures.1 in
    let slot = c.index-slots-c.result in
    let long = at_slot (λ (s : SlotState). length s.got ≡ c.args.n) c.args.slots.now c.loop-c.c slot c.requires.got_long c.loop-c-test.true c.index-slots-c.is in
    let step = line_step c.args.n c.args.group c.loop-c.c c.args.slots.now slot c.loop-c-test.true (sym c.index-slots-c.is) in
    let same = slot_lines_are c.args.n c.args.group c.loop-c.c slot long in
    rw failed.1 (all_but_some _ step.rest _ c.loop-c.invariant.wrote (rw same at c.in_err-told.ensures) (step.all ∙ ap (λ (l : List ℕ). l ++ step.rest) step.lines))

pub overflow_add-changes : goal.overflow_add-changes
overflow_add-changes g c =
    let slot = c.index-slots-c.result in
    let long = at_slot (λ (s : SlotState). length s.got ≡ c.args.n) c.args.slots.now c.loop-c.c slot c.requires.got_long c.loop-c-test.true c.index-slots-c.is in
    let step = line_step c.args.n c.args.group c.loop-c.c c.args.slots.now slot c.loop-c-test.true (sym c.index-slots-c.is) in
    let most : c.loop-c.c * c.args.n ≤ 64 * c.args.n = mul-le-mul_right c.args.n (omega arith) in
    omega (arith, c.loop-c.invariant.changes, step.few, c.in_ok-told.ensures.1, long, few_told (length slot.got) c.args.group c.loop-c.c slot.got slot.word slot.verdict)

pub overflow_add-lost : goal.overflow_add-lost
overflow_add-lost g c =
    let slot = c.index-slots-c.result in
    let step = line_step c.args.n c.args.group c.loop-c.c c.args.slots.now slot c.loop-c-test.true (sym c.index-slots-c.is) in
    omega (arith, c.loop-c.invariant.lost, step.few_lost, c.in_ok-told.ensures.2, few_lost (length slot.got) c.args.group c.loop-c.c slot.got slot.word slot.verdict)

pub loop-c-preserved : goal.loop-c-preserved
loop-c-preserved g c =
    let slot = c.index-slots-c.result in
    let long = at_slot (λ (s : SlotState). length s.got ≡ c.args.n) c.args.slots.now c.loop-c.c slot c.requires.got_long c.loop-c-test.true c.index-slots-c.is in
    let step = line_step c.args.n c.args.group c.loop-c.c c.args.slots.now slot c.loop-c-test.true (sym c.index-slots-c.is) in
    let same = slot_lines_are c.args.n c.args.group c.loop-c.c slot long in
    let told = rw same at c.in_ok-told.ensures.0 in
    let changes = rw same at c.in_ok-told.ensures.1 in
    let lost = rw same at c.in_ok-told.ensures.2 in
    record {
      wrote = all_but_more _ _ c.loop-c.invariant.wrote told step.lines;
      changes = omega (arith, c.loop-c.invariant.changes, changes, step.changes);
      lost = omega (arith, c.loop-c.invariant.lost, lost, step.lost);
    }
