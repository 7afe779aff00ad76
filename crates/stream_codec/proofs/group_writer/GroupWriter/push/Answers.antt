use Rattle.std.proofs.Common.{◌+◌, ◌++◌, Bool, List, take, drop, get_or, ap, refl, ◌∙◌, arith}
use Rattle.std.proofs.lemmas.List.{append-nil}
use Rattle.std.proofs.lemmas.Result.{err_from_is_err_and}
use Rattle.ag_frame.specs.Layouts.{bits_in_group}
use Rattle.stored_form.specs.Bits.{bits_of, bits_of_symbols}
use Rattle.stream_codec.specs.Layouts.{in_groups}
use Rattle.stream_codec.specs.Groups.{GroupState}
use Rattle.stream_codec.proofs.FitLemmas.{fits_some, fits_bits, bits_small}
use Rattle.stream_codec.proofs.Advance.{taken_more, taken_rest, length_taken}
use Rattle.stream_codec.proofs.PushLemmas.{pushing_starts, pushing_more, pushing_fails, pushed_short, pushed_few, pushed_at, some_at}
use Rattle.stream_codec.proofs.group_writer.GroupWriter.push.Goals as goal

pub loop-i-init : goal.loop-i-init
loop-i-init g c =
    let F = g.C.BlockCode.form c.args.code.now in
    let l = c.args.self.now.layout in
    let w = c.args.self.now.waiting in
    record {
      layout = refl;
      pushed = pushing_starts (in_groups l F) g.O.Sink.tells _ _ w (append-nil w) (omega (arith, c.requires.short, fits_bits F l c.requires.fits));
      short = c.requires.short;
    }

pub returns-in_err-groups-clause-pushed : goal.returns-in_err-groups-clause-pushed
returns-in_err-groups-clause-pushed g c =
    let error = err_from_is_err_and c.from_residual.result c.from_residual.ensures.1 in
    let F = g.C.BlockCode.form c.args.code.now in
    let l = c.args.self.now.layout in
    let inv = c.loop-i.invariant in
    let bytes = c.args.bytes.now in
    let i = c.loop-i.i in
    let w0 = c.args.self.now.waiting in
    let byte = bits_of 8 (get_or bytes i 0) in
    let rest = bits_of_symbols 8 (drop (i + 1) bytes) in
    let at = ap (λ (s : GroupState). s.layout) c.add.ensures ∙ inv.layout in
    let bits = ap (λ (s : GroupState). s.waiting) c.add.ensures in
    let part = some_at F c.add.new.self.layout l (c.loop-i.self.waiting ++ byte) c.in_err-groups.ensures.pushed at bits in
    rw error.1 (pushing_fails byte rest (w0 ++ bits_of_symbols 8 bytes) (fits_some F l c.requires.fits) inv.pushed part (taken_rest w0 bytes (i + 1) ∙ ap (λ (v : List Bool). v ++ rest) (taken_more w0 bytes i c.loop-i-test.true)))

pub overflow_add-groups : goal.overflow_add-groups
overflow_add-groups g c =
    let F = g.C.BlockCode.form c.args.code.now in
    let l = c.args.self.now.layout in
    let inv = c.loop-i.invariant in
    let bytes = c.args.bytes.now in
    let i = c.loop-i.i in
    let w0 = c.args.self.now.waiting in
    let byte = bits_of 8 (get_or bytes i 0) in
    let at = ap (λ (s : GroupState). s.layout) c.add.ensures ∙ inv.layout in
    let bits = ap (λ (s : GroupState). s.waiting) c.add.ensures in
    let some = fits_some F l c.requires.fits in
    let then = pushed_at F c.add.new.self.layout l (c.loop-i.self.waiting ++ byte) c.in_ok-groups.ensures.pushed at bits in
    let now = pushing_more byte (w0 ++ bits_of_symbols 8 (take (i + 1) bytes)) some inv.pushed then (taken_more w0 bytes i c.loop-i-test.true) in
    omega (arith, pushed_few some now, length_taken w0 bytes (i + 1) (omega arith), c.requires.short, bits_small l c.requires.fits.layout)

pub loop-i-preserved : goal.loop-i-preserved
loop-i-preserved g c =
    let F = g.C.BlockCode.form c.args.code.now in
    let l = c.args.self.now.layout in
    let inv = c.loop-i.invariant in
    let bytes = c.args.bytes.now in
    let i = c.loop-i.i in
    let w0 = c.args.self.now.waiting in
    let byte = bits_of 8 (get_or bytes i 0) in
    let at = ap (λ (s : GroupState). s.layout) c.add.ensures ∙ inv.layout in
    let bits = ap (λ (s : GroupState). s.waiting) c.add.ensures in
    let some = fits_some F l c.requires.fits in
    let then = pushed_at F c.add.new.self.layout l (c.loop-i.self.waiting ++ byte) c.in_ok-groups.ensures.pushed at bits in
    let layout = c.emit.ensures.layout ∙ at in
    let now = pushing_more byte (w0 ++ bits_of_symbols 8 (take (i + 1) bytes)) some inv.pushed then (taken_more w0 bytes i c.loop-i-test.true) in
    record {
      layout = layout;
      pushed = now;
      short = omega (arith, pushed_short some now, ap bits_in_group layout, fits_bits F l c.requires.fits);
    }
