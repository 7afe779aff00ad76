use Rattle.stream_codec.proofs.FitLemmas.{fits_sound}
use Rattle.stream_codec.proofs.DecodedLemmas.{complete_from}
use Rattle.stream_codec.proofs.decode.decode_stream.Goals as goal

pub returns-in-Ok-clause-decoded : goal.returns-in-Ok-clause-decoded
returns-in-Ok-clause-decoded g c = (rw c.in-Ok.is at c.decode_room.ensures.run).decoded tt

pub returns-in-Ok-clause-complete : goal.returns-in-Ok-clause-complete
returns-in-Ok-clause-complete g c =
    complete_from _ _ (fits_sound (g.C.BlockCode.form c.args.code.now) c.args.room.now.layout c.requires.fits.layout) ((rw c.in-Ok.is at c.decode_room.ensures.run).decoded tt)

pub returns-in-Err-clause-decoded : goal.returns-in-Err-clause-decoded
returns-in-Err-clause-decoded g c = (rw c.in-Err.is at c.decode_room.ensures.run).decoded tt

pub returns-in-Err-clause-complete : goal.returns-in-Err-clause-complete
returns-in-Err-clause-complete g c =
    complete_from _ _ (fits_sound (g.C.BlockCode.form c.args.code.now) c.args.room.now.layout c.requires.fits.layout) ((rw c.in-Err.is at c.decode_room.ensures.run).decoded tt)
