use Rattle.std.proofs.Common.{arith, ap, ◌∙◌, ◌*◌, length, length-drop}
use Rattle.ag_frame.specs.Queues.{OutState}
use Rattle.stream_codec.proofs.ByteLemmas.{bytes_step, out_step}
use Rattle.stream_codec.proofs.writer.take_bytes.Goals as goal

pub loop-byte-preserved : goal.loop-byte-preserved
loop-byte-preserved c =
    let inv = c.loop-byte.invariant in
    let left = ap (λ (s : OutState). s.released) inv.released in
    let long = ap length left ∙ length-drop (c.loop-byte.count * 8) c.args.bits.now.released in
    record {
      bytes = bytes_step c.loop-byte.out c.args.bits.now.released c.loop-byte.bits.released c.loop-byte.count c.in-Some.byte (omega (arith, c.in-Some.ensures.0, inv.fits)) left c.in-Some.ensures.1 inv.bytes;
      released = out_step c.args.bits.now c.loop-byte.bits c.next_byte.new.self c.loop-byte.count inv.released c.in-Some.ensures.2;
      fits = omega (arith, c.in-Some.ensures.0, inv.fits);
    }
