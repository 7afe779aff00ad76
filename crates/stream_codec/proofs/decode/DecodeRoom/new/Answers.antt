use Rattle.std.proofs.Common.{◌*◌, sym, ap, subst, ◌∙◌}
use Rattle.ag_frame.specs.declared.frame.Layout.{Layout}
use Rattle.ag_frame.specs.Queues.{OutState}
use Rattle.stream_codec.specs.Layouts.{Fits}
use Rattle.stream_codec.proofs.RoomLemmas.{room_fits, parts_fit}
use Rattle.stream_codec.proofs.decode.DecodeRoom.new.Goals as goal

pub invariant_of-result : goal.invariant_of-result
invariant_of-result g c =
    let F = g.C.BlockCode.form c.args.code.now in
    let back = sym c.in_ok-window.ensures.layout in
    parts_fit F (g.C.BlockCode.numbers c.args.code.now) c.in_ok-window.window c.in_ok-writer.writer (subst (λ (l : Layout). Fits l F) back c.requires.fits) c.in_ok-window.ensures.slots
    (ap (λ (s : OutState). s.size) c.in_ok-writer.ensures ∙ ap (λ (l : Layout). l.depth * l.k) back)
    (ap (λ (s : OutState). s.width) c.in_ok-writer.ensures ∙ ap (λ (l : Layout). l.bits) back)

pub returns-clause-fits : goal.returns-clause-fits
returns-clause-fits g c =
    let F = g.C.BlockCode.form c.args.code.now in
    let back = sym c.in_ok-window.ensures.layout in
    room_fits F (g.C.BlockCode.numbers c.args.code.now) c.in_ok-window.window (subst (λ (l : Layout). Fits l F) back c.requires.fits) c.in_ok-window.ensures.slots
