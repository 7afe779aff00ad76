use Rattle.std.proofs.Common.{sym, subst}
use Rattle.ag_frame.specs.declared.frame.Layout.{Layout}
use Rattle.stream_codec.specs.Layouts.{Fits}
use Rattle.stream_codec.proofs.RoomLemmas.{room_ready, room_fits}
use Rattle.stream_codec.proofs.decode.decode_room.Goals as goal

pub decode_text-requires-clause-ready : goal.decode_text-requires-clause-ready
decode_text-requires-clause-ready g c κs within =
    let fits = rw (← c.room.view_is) at c.requires.fits in
    room_ready (g.C.BlockCode.form c.args.code.now) (g.C.BlockCode.numbers c.args.code.now) c.room.inside.window c.room.inside.writer c.room.invariant fits

pub returns-clause-fits : goal.returns-clause-fits
returns-clause-fits g c =
    let F = g.C.BlockCode.form c.args.code.now in
    let fits = rw (← c.room.view_is) at c.requires.fits in
    room_fits F (g.C.BlockCode.numbers c.args.code.now) c.decode_text.new.window (subst (λ (l : Layout). Fits l F) (sym c.decode_text.ensures.layout) fits.layout) c.decode_text.ensures.ready
