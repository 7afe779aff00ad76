use Rattle.std.proofs.Common.{◌++◌, refl, arith}
use Rattle.stream_codec.proofs.EndLemmas.{closed_by, last_failed, text_ended}
use Rattle.stream_codec.proofs.text.end_text.Goals as goal

pub returns-in-Err-clause-ended : goal.returns-in-Err-clause-ended
returns-in-Err-clause-ended g c = λ G z p out_first report_first sound d long short. last_failed G _ _ _ _ _ _ _ _ _ z p sound d (omega (arith, long, short)) c.in-Err.ensures.closed

pub returns-clause-ended : goal.returns-clause-ended
returns-clause-ended g c =
    λ G z p out_first report_first sound d long short.
    text_ended G _ _ _ _ _ _ _ c.args.tally (z ++ p) c.in-Ok.last _ c.tell_last.result (closed_by G _ _ _ _ _ _ _ _ c.args.tally z p c.args.extra c.in-Ok.last.bytes c.in-Ok.last.end sound d long short c.in-Ok.ensures.closed) refl c.tell_last.ensures
