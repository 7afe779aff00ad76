use Rattle.std.proofs.Common.{◌*◌, ◌<◌, ◌≤◌, subst, mul-le-mul_right, ◌≡◌, ◌++◌, [], length, refl, sym, ap, ◌∙◌, arith, append_assoc, length-append}
use Rattle.std.proofs.lemmas.Result.{err_from_is_err_and}
use Rattle.ag_frame.specs.Layouts.{IsLayout, bytes_in_group}
use Rattle.ag_frame.specs.declared.frame.Layout.{Layout}
use Rattle.stream_codec.specs.Layouts.{in_groups}
use Rattle.stream_codec.proofs.FitLemmas.{fits_sound, bytes_small}
use Rattle.stream_codec.proofs.FillLemmas.{group_some}
use Rattle.stored_form.specs.Frame.{group_bytes}
use Rattle.stored_form.proofs.FrameLemmas.{group_bytes_above_0}
use Rattle.ag_io.proofs.Writes.{rose_after}
use Rattle.stream_codec.proofs.DealtLemmas.{dealt_none}
use Rattle.stream_codec.proofs.WindowGroups.{group_size, window_holds, dealt_at, stopped_at}
use Rattle.stream_codec.proofs.TakenLemmas.{window_taken, groups_fit}
use Rattle.stream_codec.proofs.RunLemmas.{none_at_first, none_text, cut_at, run_stopped, run_ended, run_input, run_too_long}
use Rattle.stream_codec.proofs.text.decode_text.Goals as goal

pub windows-init : goal.windows-init
windows-init g c =
    let G = in_groups c.args.window.now.layout (g.C.BlockCode.form c.args.code.now) in
    let sound = fits_sound (g.C.BlockCode.form c.args.code.now) c.args.window.now.layout c.requires.fits in
    record {
      decoding = (
        [],
        record {
          dealt = dealt_none G _ _ _ _ _ _ sound c.requires.released c.requires.held refl;
          left = λ t. refl;
          taken_is = refl;
          within = omega arith;
          source_steady = refl;
          none = none_at_first c.args.when_lost;
          fit = record { bytes = omega arith; changes = omega arith; lost = omega arith };
        },
      );
      layout = refl;
      ready = c.requires.ready;
      size = refl;
      width = refl;
    }

pub decode-requires-clause-ready : goal.decode-requires-clause-ready
decode-requires-clause-ready g c κs within = c.fill-filling.ensures.kept (g.C.BlockCode.form c.args.code.now) (g.C.BlockCode.numbers c.args.code.now) c.windows.invariant.ready

pub deal_groups-requires-clause-holds : goal.deal_groups-requires-clause-holds
deal_groups-requires-clause-holds g c κs within =
    let (w, p, f) = c.fill-filling.ensures.filled in
    (w, window_holds (g.C.BlockCode.form c.args.code.now) (g.C.BlockCode.numbers c.args.code.now) c.windows.window.layout c.fill-filling.new.self c.decode.new.self c.fill-filling.result.groups w c.fill-filling.ensures.layout c.decode.ensures.layout f.whole f.slots_fit f.blocks_are c.decode.ensures.decoded c.decode.ensures.ready)

pub deal_groups-requires-clause-groups : goal.deal_groups-requires-clause-groups
deal_groups-requires-clause-groups g c κs within =
    let F = g.C.BlockCode.form c.args.code.now in
    let l = c.args.window.now.layout in
    let G = in_groups l F in
    let sound = fits_sound F l c.requires.fits in
    let size : bytes_in_group c.windows.window.layout ≡ group_bytes G = ap bytes_in_group c.windows.invariant.layout ∙ group_size c.args.window.now.layout F c.requires.fits in
    let (z, k) = c.windows.invariant.decoding in
    let (w, p, f) = c.fill-filling.ensures.filled in
    let most = groups_fit c.windows.tally.groups c.fill-filling.result.groups (group_bytes G) (length z) (length w) c.args.limit (group_bytes_above_0 G sound) k.dealt.whole (f.whole ∙ ap (λ m. c.fill-filling.result.groups * m) size) (omega (arith, k.taken_is, f.within)) in
    omega (arith, most, c.requires.limit)

pub deal_groups-requires-clause-none : goal.deal_groups-requires-clause-none
deal_groups-requires-clause-none g c κs within = let (z, k) = c.windows.invariant.decoding in k.none

pub returns-in_err-deal_groups-clause-run : goal.returns-in_err-deal_groups-clause-run
returns-in_err-deal_groups-clause-run g c =
    let e = err_from_is_err_and c.from_residual.result c.from_residual.ensures.1 in
    let F = g.C.BlockCode.form c.args.code.now in
    let l = c.windows.window.layout in
    let G = in_groups c.args.window.now.layout F in
    let sound = fits_sound F c.args.window.now.layout c.requires.fits in
    let size : bytes_in_group l ≡ group_bytes G = ap bytes_in_group c.windows.invariant.layout ∙ group_size c.args.window.now.layout F c.requires.fits in
    let (z, k) = c.windows.invariant.decoding in
    let (w, p, f) = c.fill-filling.ensures.filled in
    let holds = window_holds F (g.C.BlockCode.numbers c.args.code.now) l c.fill-filling.new.self c.decode.new.self c.fill-filling.result.groups w c.fill-filling.ensures.layout c.decode.ensures.layout f.whole f.slots_fit f.blocks_are c.decode.ensures.decoded c.decode.ensures.ready in
    let same : c.decode.new.self.layout ≡ c.args.window.now.layout = c.decode.ensures.layout ∙ c.fill-filling.ensures.layout ∙ c.windows.invariant.layout in
    let start = dealt_at F _ _ k.dealt (sym same) in
    let took = window_taken l _ _ _ _ _ _ z w p size k.left k.taken_is k.dealt.whole k.source_steady c.fill-filling.ensures.counted f in
    let stopped = c.in_err-deal_groups.ensures.dealt z w _ _ holds start in
    rw (e.1, e.2) (run_stopped _ c.args.when_lost (z ++ w) p c.in_err-deal_groups.field-0.0 sound took (stopped_at g.O.Sink.tells g.R.Sink.tells (g.O.Sink.view c.args.sink.now) (g.O.Sink.view c.deal_groups.new.sink) (g.R.Sink.view c.args.report.now) (g.R.Sink.view c.deal_groups.new.report) c.args.when_lost (z ++ w) c.in_err-deal_groups.field-0.0 F _ _ stopped same))

pub windows-preserved : goal.windows-preserved
windows-preserved g c =
    let F = g.C.BlockCode.form c.args.code.now in
    let l = c.windows.window.layout in
    let (z, k) = c.windows.invariant.decoding in
    let (w, p, f) = c.fill-filling.ensures.filled in
    let holds = window_holds F (g.C.BlockCode.numbers c.args.code.now) l c.fill-filling.new.self c.decode.new.self c.fill-filling.result.groups w c.fill-filling.ensures.layout c.decode.ensures.layout f.whole f.slots_fit f.blocks_are c.decode.ensures.decoded c.decode.ensures.ready in
    let same : c.decode.new.self.layout ≡ c.args.window.now.layout = c.decode.ensures.layout ∙ c.fill-filling.ensures.layout ∙ c.windows.invariant.layout in
    let start = dealt_at F _ _ k.dealt (sym same) in
    let dealt = dealt_at F _ _ (c.in_ok-deal_groups.ensures.dealt z w _ _ holds start) same in
    let tail = rw c.in-More.is at f.tail in
    record {
      decoding = (
        z ++ w,
        record {
          dealt = dealt;
          left = λ t. k.left t ∙ ap (λ r. z ++ r) (f.left t ∙ ap (λ r. w ++ (r ++ (g.I.Source.view c.fill-filling.new.src).left)) tail.0) ∙ sym (append_assoc z w (g.I.Source.view c.fill-filling.new.src).left);
          taken_is = omega (arith, f.total, ap length tail.0, k.taken_is, length-append z w);
          within = tail.2;
          source_steady = tail.3 ∙ k.source_steady;
          none = c.in_ok-deal_groups.ensures.none;
          fit = c.in_ok-deal_groups.ensures.counts;
        },
      );
      layout = c.decode.ensures.layout ∙ c.fill-filling.ensures.layout ∙ c.windows.invariant.layout;
      ready = c.decode.ensures.ready;
      size = c.in_ok-deal_groups.ensures.size ∙ c.windows.invariant.size;
      width = c.in_ok-deal_groups.ensures.width ∙ c.windows.invariant.width;
    }

pub end_text-requires-clause-groups : goal.end_text-requires-clause-groups
end_text-requires-clause-groups g c =
    let F = g.C.BlockCode.form c.args.code.now in
    let l = c.args.window.now.layout in
    let G = in_groups l F in
    let sound = fits_sound F l c.requires.fits in
    let size : bytes_in_group c.windows.window.layout ≡ group_bytes G = ap bytes_in_group c.windows.invariant.layout ∙ group_size c.args.window.now.layout F c.requires.fits in
    let (z, k) = c.windows.invariant.decoding in
    let (w, p, f) = c.fill-filling.ensures.filled in
    let most = groups_fit c.windows.tally.groups c.fill-filling.result.groups (group_bytes G) (length z) (length w) c.args.limit (group_bytes_above_0 G sound) k.dealt.whole (f.whole ∙ ap (λ m. c.fill-filling.result.groups * m) size) (omega (arith, k.taken_is, f.within)) in
    omega (arith, most, c.requires.limit, c.in_ok-deal_groups.ensures.groups)

pub end_text-requires-clause-held : goal.end_text-requires-clause-held
end_text-requires-clause-held g c =
    let F = g.C.BlockCode.form c.args.code.now in
    let (z, k) = c.windows.invariant.decoding in
    let (w, p, f) = c.fill-filling.ensures.filled in
    let holds = window_holds F (g.C.BlockCode.numbers c.args.code.now) c.windows.window.layout c.fill-filling.new.self c.decode.new.self c.fill-filling.result.groups w c.fill-filling.ensures.layout c.decode.ensures.layout f.whole f.slots_fit f.blocks_are c.decode.ensures.decoded c.decode.ensures.ready in
    let same : c.decode.new.self.layout ≡ c.args.window.now.layout = c.decode.ensures.layout ∙ c.fill-filling.ensures.layout ∙ c.windows.invariant.layout in
    (c.in_ok-deal_groups.ensures.dealt z w _ _ holds (dealt_at F _ _ k.dealt (sym same))).some

pub returns-in-End-clause-run : goal.returns-in-End-clause-run
returns-in-End-clause-run g c =
    let F = g.C.BlockCode.form c.args.code.now in
    let l = c.windows.window.layout in
    let G = in_groups c.args.window.now.layout F in
    let sound = fits_sound F c.args.window.now.layout c.requires.fits in
    let size : bytes_in_group l ≡ group_bytes G = ap bytes_in_group c.windows.invariant.layout ∙ group_size c.args.window.now.layout F c.requires.fits in
    let (z, k) = c.windows.invariant.decoding in
    let (w, p, f) = c.fill-filling.ensures.filled in
    let holds = window_holds F (g.C.BlockCode.numbers c.args.code.now) l c.fill-filling.new.self c.decode.new.self c.fill-filling.result.groups w c.fill-filling.ensures.layout c.decode.ensures.layout f.whole f.slots_fit f.blocks_are c.decode.ensures.decoded c.decode.ensures.ready in
    let same : c.decode.new.self.layout ≡ c.args.window.now.layout = c.decode.ensures.layout ∙ c.fill-filling.ensures.layout ∙ c.windows.invariant.layout in
    let start = dealt_at F _ _ k.dealt (sym same) in
    let took = window_taken l _ _ _ _ _ _ z w p size k.left k.taken_is k.dealt.whole k.source_steady c.fill-filling.ensures.counted f in
    let dealt = dealt_at F _ _ (c.in_ok-deal_groups.ensures.dealt z w _ _ holds start) same in
    let tail = rw c.in-End.is at f.tail in
    let short : length p < group_bytes G = omega (arith, tail.0, tail.1, size) in
    let none = none_text G c.args.when_lost _ _ _ (z ++ w) p sound dealt short c.in_ok-deal_groups.ensures.none in
    let within : length ((z ++ w) ++ p) ≤ c.args.limit = omega (arith, length-append (z ++ w) p, length-append z w, k.taken_is, f.total, tail.2) in
    run_ended _ c.args.when_lost (z ++ w) p c.end_text.result sound took none within tail.3 (tail.4 ∙ k.source_steady) (c.end_text.ensures.ended G (z ++ w) p _ _ sound dealt tail.0 (omega (arith, tail.1, size)))

pub returns-in-Fault-clause-run : goal.returns-in-Fault-clause-run
returns-in-Fault-clause-run g c =
    let F = g.C.BlockCode.form c.args.code.now in
    let l = c.windows.window.layout in
    let G = in_groups c.args.window.now.layout F in
    let sound = fits_sound F c.args.window.now.layout c.requires.fits in
    let size : bytes_in_group l ≡ group_bytes G = ap bytes_in_group c.windows.invariant.layout ∙ group_size c.args.window.now.layout F c.requires.fits in
    let (z, k) = c.windows.invariant.decoding in
    let (w, p, f) = c.fill-filling.ensures.filled in
    let holds = window_holds F (g.C.BlockCode.numbers c.args.code.now) l c.fill-filling.new.self c.decode.new.self c.fill-filling.result.groups w c.fill-filling.ensures.layout c.decode.ensures.layout f.whole f.slots_fit f.blocks_are c.decode.ensures.decoded c.decode.ensures.ready in
    let same : c.decode.new.self.layout ≡ c.args.window.now.layout = c.decode.ensures.layout ∙ c.fill-filling.ensures.layout ∙ c.windows.invariant.layout in
    let start = dealt_at F _ _ k.dealt (sym same) in
    let took = window_taken l _ _ _ _ _ _ z w p size k.left k.taken_is k.dealt.whole k.source_steady c.fill-filling.ensures.counted f in
    let dealt = dealt_at F _ _ (c.in_ok-deal_groups.ensures.dealt z w _ _ holds start) same in
    let tail = rw c.in-Fault.is at f.tail in
    let within : length ((z ++ w) ++ p) ≤ c.args.limit = omega (arith, length-append (z ++ w) p, length-append z w, k.taken_is, f.total, tail.1) in
    run_input _ c.args.when_lost c.deal_groups.new.writer c.deal_groups.new.tally (z ++ w) p sound took (omega (arith, tail.0, size)) within c.in_ok-deal_groups.ensures.none (rose_after _ _ _ (omega (arith, k.source_steady)) tail.2) dealt

pub returns-in-TooLong-clause-run : goal.returns-in-TooLong-clause-run
returns-in-TooLong-clause-run g c =
    let F = g.C.BlockCode.form c.args.code.now in
    let l = c.windows.window.layout in
    let G = in_groups c.args.window.now.layout F in
    let sound = fits_sound F c.args.window.now.layout c.requires.fits in
    let size : bytes_in_group l ≡ group_bytes G = ap bytes_in_group c.windows.invariant.layout ∙ group_size c.args.window.now.layout F c.requires.fits in
    let (z, k) = c.windows.invariant.decoding in
    let (w, p, f) = c.fill-filling.ensures.filled in
    let holds = window_holds F (g.C.BlockCode.numbers c.args.code.now) l c.fill-filling.new.self c.decode.new.self c.fill-filling.result.groups w c.fill-filling.ensures.layout c.decode.ensures.layout f.whole f.slots_fit f.blocks_are c.decode.ensures.decoded c.decode.ensures.ready in
    let same : c.decode.new.self.layout ≡ c.args.window.now.layout = c.decode.ensures.layout ∙ c.fill-filling.ensures.layout ∙ c.windows.invariant.layout in
    let start = dealt_at F _ _ k.dealt (sym same) in
    let took = window_taken l _ _ _ _ _ _ z w p size k.left k.taken_is k.dealt.whole k.source_steady c.fill-filling.ensures.counted f in
    let dealt = dealt_at F _ _ (c.in_ok-deal_groups.ensures.dealt z w _ _ holds start) same in
    let tail = rw c.in-TooLong.is at f.tail in
    run_too_long _ l c.args.when_lost c.deal_groups.new.writer c.deal_groups.new.tally (z ++ w) p c.fill-filling.result.taken sound took tail.1 (omega (arith, length-append z w, k.taken_is, f.total)) size c.in_ok-deal_groups.ensures.none (cut_at l g.I.Source.tells (g.I.Source.view c.windows.src) (g.I.Source.view c.fill-filling.new.src) (g.I.Source.view c.args.src.now) p k.source_steady tail.2) dealt

-- a window that is full has taken bytes
pub windows-smaller : goal.windows-smaller
windows-smaller g c =
    let l = c.windows.window.layout in
    let (z, k) = c.windows.invariant.decoding in
    let (w, p, f) = c.fill-filling.ensures.filled in
    let tail = rw c.in-More.is at f.tail in
    let some = group_some l (subst (λ (v : Layout). IsLayout v) (sym c.windows.invariant.layout) c.requires.fits.layout) in
    let more : 1 * bytes_in_group l ≤ c.fill-filling.result.groups * bytes_in_group l = mul-le-mul_right (bytes_in_group l) (omega (arith, tail.1)) in
    omega (arith, f.whole, f.total, ap length tail.0, tail.2, some, more)

pub end_text-requires-clause-few : goal.end_text-requires-clause-few
end_text-requires-clause-few g c =
    let l = c.windows.window.layout in
    let (w, p, f) = c.fill-filling.ensures.filled in
    let tail = rw c.in-End.is at f.tail in
    let few = bytes_small l (subst (λ (v : Layout). IsLayout v) (sym c.windows.invariant.layout) c.requires.fits.layout) in
    omega (arith, tail.1, few)
