use Rattle.std.proofs.Common.{◌∙◌}
use Rattle.stream_codec.proofs.LastLemmas.{told_after}
use Rattle.stream_codec.proofs.report.tell_salvaged.Goals as goal

pub returns : goal.returns
returns g c =
    let line = c.bytes.ensures.written ∙ c.salvaged_line.ensures in
    told_after _ _ c.put.result c.in_ok-tell_end_line.ensures (rw line at c.put.ensures.written)
