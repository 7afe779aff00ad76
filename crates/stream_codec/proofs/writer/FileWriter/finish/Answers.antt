use Rattle.std.proofs.Common.{refl, ap, arith}
use Rattle.ag_frame.specs.Queues.{OutState}
use Rattle.stream_codec.proofs.WritingLemmas.{last_bytes_fit, last_few}
use Rattle.stream_codec.proofs.writer.FileWriter.finish.Goals as goal

pub flush-requires : goal.flush-requires
flush-requires g c =
    let (front, found, whole, new) = c.if-not-strip.ensures.stripped refl in
    omega (arith, last_bytes_fit c.self.inside.bits c.strip.new.self _ front _ _ c.self.invariant found (ap (λ (s : OutState). s.released) new), c.deref_mut.ensures.len)

pub returns-clause-few : goal.returns-clause-few
returns-clause-few g c =
    let (front, found, whole, new) = c.if-not-strip.ensures.stripped refl in
    rw (← c.self.view_is) (last_few c.self.inside.bits c.strip.new.self _ front _ _ _ c.self.invariant found (ap (λ (s : OutState). s.released) new) c.in_ok-count.ensures.few)
