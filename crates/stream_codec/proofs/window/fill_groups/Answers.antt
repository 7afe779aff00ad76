use Rattle.std.proofs.Common.{[], mul-le-mul_right, length-drop, ◌+◌, ◌-◌, ◌*◌, ◌≡◌, ◌≤◌, ◌++◌, length, take, drop, refl, inl, inr, ◌∙◌, subst, arith, length-take-le}
use Rattle.stream_codec.specs.declared.window.Tail.TheVariants.{More, End, Fault}
use Rattle.stream_codec.proofs.FillLemmas.{IsFilling, group_some, filling_starts, filling_more, window_closed, All-put_mid}
use Rattle.ag_io.proofs.Writes.{rose_after}
use Rattle.stream_codec.specs.Slots.{SlotState, CanDecode}
use Rattle.std.proofs.lemmas.List.Elements.{All-take, All-drop}
use Rattle.stream_codec.proofs.window.fill_groups.Goals as goal

pub loop-g-init : goal.loop-g-init
loop-g-init g c = record {
  filling = ([], filling_starts c.args.layout.now g.I.Source.tells (g.I.Source.view c.args.src.now).left c.args.limit c.args.taken c.args.slots.now (group_some c.args.layout.now c.requires.layout) c.requires.within);
  kept = λ F numbers each. each;
  got_long = c.requires.got_long;
  steady = refl;
}

pub returns-in-End-clause-filled : goal.returns-in-End-clause-filled
returns-in-End-clause-filled g c =
    let (z, f) = c.loop-g.invariant.filling in
    let p = take c.in-End.got c.fill.new.buf in
    let (below, source, nothing) = c.in-End.ensures.filled in
    let long : length p ≡ c.in-End.got = length-take-le c.in-End.got c.fill.new.buf (omega arith) in
    (z, p, window_closed c.args.layout.now g.I.Source.tells _ _ (g.I.Source.view c.loop-g.src).left c.args.limit c.args.taken c.loop-g.slots c.loop-g.g c.loop-g.total c.in-End.got _ z p c.closed.result (End c.in-End.got) f source long (omega arith) refl c.closed.ensures.passed c.closed.ensures.within (λ over. inr (inl nothing)) (λ under. (long, omega arith, under, nothing, c.in-End.ensures.steady ∙ c.loop-g.invariant.steady)))

pub returns-in-Fault-clause-filled : goal.returns-in-Fault-clause-filled
returns-in-Fault-clause-filled g c =
    let (z, f) = c.loop-g.invariant.filling in
    let p = take c.in-Fault.got c.fill.new.buf in
    let (below, source, rose) = c.in-Fault.ensures.filled in
    let risen = rose_after _ _ _ (omega (arith, c.loop-g.invariant.steady)) rose in
    let long : length p ≡ c.in-Fault.got = length-take-le c.in-Fault.got c.fill.new.buf (omega arith) in
    (z, p, window_closed c.args.layout.now g.I.Source.tells _ _ (g.I.Source.view c.loop-g.src).left c.args.limit c.args.taken c.loop-g.slots c.loop-g.g c.loop-g.total c.in-Fault.got _ z p c.closed-in-Fault.result Fault f source long (omega arith) refl c.closed-in-Fault.ensures.passed c.closed-in-Fault.ensures.within (λ over. inr (inr risen)) (λ under. (omega arith, under, risen)))

pub loop-g-preserved : goal.loop-g-preserved
loop-g-preserved g c =
    let l = c.args.layout.now in
    let inv = c.loop-g.invariant in
    let (z, f) = inv.filling in
    let at = c.loop-g.g * l.depth in
    let span : at + l.depth - at ≡ l.depth = omega arith in
    let slots = c.loop-g.slots in
    let part = c.load_group.new.slots in
    let fits : (c.loop-g.g + 1) * l.depth ≤ c.args.count * l.depth = mul-le-mul_right l.depth (let h : c.loop-g.g + 1 ≤ c.args.count = omega arith in h) in
    let part_long : length part ≡ l.depth = c.load_group.auto.slots ∙ length-take-le (at + l.depth - at) (drop at slots) (omega (arith, length-drop at slots)) ∙ span in
    record {
      filling = (z ++ c.fill.new.buf, filling_more l g.I.Source.tells _ (g.I.Source.view c.loop-g.src).left _ c.args.limit c.args.taken slots part c.loop-g.g c.loop-g.total _ _ z c.fill.new.buf (group_some l c.requires.layout) f c.in-Whole.ensures.filled (omega arith) (omega arith) c.if-total-limit.false c.load_group.ensures.blocks part_long span (omega arith));
      kept = λ F numbers each. All-put_mid (CanDecode F numbers) at _ slots part (inv.kept F numbers each) (c.load_group.ensures.kept F numbers (All-take (CanDecode F numbers) (at + l.depth - at) (drop at slots) (All-drop (CanDecode F numbers) at slots (inv.kept F numbers each))));
      got_long = All-put_mid (λ (s : SlotState). length s.got ≡ l.n) at _ slots part inv.got_long c.load_group.ensures.got_long;
      steady = c.in-Whole.ensures.steady ∙ inv.steady;
    }

pub returns-clause-filled : goal.returns-clause-filled
returns-clause-filled g c =
    let (z, f) = c.loop-g.invariant.filling in
    let left = (g.I.Source.view c.loop-g.src).left in
    let end : c.loop-g.g ≡ c.args.count = omega arith in
    let all = subst (λ m. IsFilling c.args.layout.now g.I.Source.tells (g.I.Source.view c.args.src.now).left left c.args.limit c.args.taken c.loop-g.slots m c.loop-g.total z) end f in
    (z, [], window_closed c.args.layout.now g.I.Source.tells _ _ left c.args.limit c.args.taken c.loop-g.slots c.args.count c.loop-g.total 0 c.loop-g.total z [] c.closed-2.result More all (λ t. refl) refl (omega arith) (omega arith) c.closed-2.ensures.passed c.closed-2.ensures.within (λ over. absurd (omega (arith, all.within))) (λ under. (refl, c.requires.some, under, c.loop-g.invariant.steady)))
