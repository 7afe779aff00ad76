use Rattle.std.proofs.Common.{◌≤◌, length, drop, subst, ap, refl, ◌∙◌, arith}
use Rattle.std.proofs.lemmas.Result.{err_from_is_err_and}
use Rattle.ag_frame.specs.Layouts.{bits_in_group}
use Rattle.ag_io.specs.Puts.{Wrote, WroteSome}
use Rattle.stored_form.specs.Frame.{group_bits}
use Rattle.stream_codec.specs.Layouts.{in_groups}
use Rattle.stream_codec.specs.Groups.{GroupState}
use Rattle.stream_codec.proofs.FitLemmas.{fits_some, fits_bits}
use Rattle.stream_codec.proofs.Groups.{above_from_not}
use Rattle.stream_codec.proofs.PushLemmas.{emitting_more, emitting_fails, emitting_ends, next_at}
use Rattle.stream_codec.proofs.group_writer.GroupWriter.emit.Goals as goal

pub returns-in_err-write_next-clause-pushed : goal.returns-in_err-write_next-clause-pushed
returns-in_err-write_next-clause-pushed g c =
    let error = err_from_is_err_and c.from_residual.result c.from_residual.ensures.1 in
    let F = g.C.BlockCode.form c.args.code.now in
    let l = c.args.self.now.layout in
    let inv = c.loop-self.invariant in
    let ready : group_bits (in_groups l F) ≤ length c.loop-self.self.waiting = omega (arith, c.loop-self-test.ensures.0 refl, ap bits_in_group inv.layout, fits_bits F l c.requires.fits) in
    let next = next_at F c.loop-self.self.layout l c.loop-self.self.waiting c.requires.fits inv.layout in
    rw error.1 (emitting_fails (fits_some F l c.requires.fits) inv.emitting ready (subst (WroteSome g.O.Sink.tells _ _) next c.in_err-write_next.ensures.written))

pub loop-self-preserved : goal.loop-self-preserved
loop-self-preserved g c =
    let F = g.C.BlockCode.form c.args.code.now in
    let l = c.args.self.now.layout in
    let inv = c.loop-self.invariant in
    let bits = ap bits_in_group inv.layout ∙ fits_bits F l c.requires.fits in
    let ready : group_bits (in_groups l F) ≤ length c.loop-self.self.waiting = omega (arith, c.loop-self-test.ensures.0 refl, bits) in
    let next = next_at F c.loop-self.self.layout l c.loop-self.self.waiting c.requires.fits inv.layout in
    let rest = ap (λ (s : GroupState). s.waiting) c.write_next.ensures.rest in
    record {
      layout = ap (λ (s : GroupState). s.layout) c.write_next.ensures.rest ∙ inv.layout;
      emitting = emitting_more c.write_next.new.self.waiting (fits_some F l c.requires.fits) inv.emitting ready (subst (Wrote g.O.Sink.tells _ _) next c.in_ok-write_next.ensures.written) (rest ∙ ap (λ n. drop n c.loop-self.self.waiting) bits);
    }

pub returns-clause-pushed : goal.returns-clause-pushed
returns-clause-pushed g c =
    let F = g.C.BlockCode.form c.args.code.now in
    let l = c.args.self.now.layout in
    let inv = c.loop-self.invariant in
    emitting_ends inv.emitting (omega (arith, above_from_not _ _ c.loop-self-test.ensures.1, ap bits_in_group inv.layout, fits_bits F l c.requires.fits))
