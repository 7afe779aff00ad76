use Rattle.std.proofs.lemmas.Result.{err_from_is_err_and}
use Rattle.stream_codec.proofs.LastLemmas.{some_last}
use Rattle.stream_codec.proofs.text.write_last.Goals as goal

pub returns-in_err-bytes-2-clause-closed : goal.returns-in_err-bytes-2-clause-closed
returns-in_err-bytes-2-clause-closed g c =
    let failed = err_from_is_err_and c.from_residual-in_err-bytes-2.result c.from_residual-in_err-bytes-2.ensures.1 in
    let (front, ends, part) = c.in_err-bytes-2.ensures.written in
    rw failed.1 (some_last _ _ _ _ front ends part)
