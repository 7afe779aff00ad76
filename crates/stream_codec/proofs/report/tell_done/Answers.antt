use Rattle.std.proofs.Common.{◌∙◌}
use Rattle.stream_codec.proofs.report.tell_done.Goals as goal

pub returns : goal.returns
returns g c =
    let line = c.bytes.ensures.written ∙ c.done_line.ensures in
    rw line at c.put.ensures.written
