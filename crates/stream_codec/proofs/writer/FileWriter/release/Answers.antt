use Rattle.std.proofs.Common.{◌+◌, ◌*◌, ◌<◌, ◌≤◌, length, ap, arith}
use Rattle.std.proofs.lemmas.Result.{IfOk-weaker}
use Rattle.ag_frame.specs.Queues.{out_bits}
use Rattle.stream_codec.specs.declared.writer.FileWriter.TheInside.{Inside}
use Rattle.stream_codec.proofs.WritingLemmas.{released_few}
use Rattle.stream_codec.proofs.writer.FileWriter.release.Goals as goal
use Rattle.stream_codec.proofs.writer.FileWriter.release.Goals.{then-self, else-self}

pub returns-clause-few : goal.returns-clause-few
returns-clause-few g c =
    let s = c.self.inside.bits in
    let few : length c.if-self.self-inside.bits.released < out_bits s + 8 = elim c.if-self.branch [
      | then-self w ↦ (
          let e = ap (λ (v : Inside). v.bits) w.self-inside-is in
          let h = released_few s w.release.new.self _ _ _ c.self.invariant w.release.ensures in
          rw e h
          )
      | else-self w ↦ (
          let e = ap (λ (v : Inside). v.bits) w.self-inside-is in
          rw e (omega (arith, c.self.invariant.few))
          )
    ] in
    rw (← c.self.view_is) (IfOk-weaker c.flush.result (λ count. 8 * count ≤ length c.if-self.self-inside.bits.released) (λ count. 8 * count < out_bits s + 8) (λ count h. omega arith) c.flush.ensures.few)
