use Rattle.std.proofs.Common.{refl}
use Rattle.std.proofs.lemmas.Result.{err_from_is_err_and}
use Rattle.ag_io.proofs.Writes.{some_of_longer}
use Rattle.stream_codec.proofs.pending.Pending.add.Goals as goal

pub returns-in_err-write : goal.returns-in_err-write
returns-in_err-write g c =
    let failed = err_from_is_err_and c.from_residual.result c.from_residual.ensures.1 in
    rw failed.1 (some_of_longer c.args.line.now _ c.in_err-write.ensures.written refl)
