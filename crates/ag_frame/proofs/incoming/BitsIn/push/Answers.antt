use Rattle.std.proofs.Common.{◌+◌, ◌/◌, ◌<◌, arith}
use Rattle.std.proofs.lemmas.List.{length-set}
use Rattle.ag_frame.proofs.Views.{in_same}
use Rattle.ag_frame.proofs.PackedBits.{waiting_long, waiting_fits, pushed_fits, byte_pushed}
use Rattle.ag_frame.proofs.incoming.BitsIn.push.Goals as goal

pub invariant_of-self : goal.invariant_of-self
invariant_of-self c =
    let s = c.self.inside in
    let short = rw (← c.self.view_is) at c.requires in
    pushed_fits _ c.self.invariant (length-set s.bytes.items ((s.at + s.len) / 8) c.args.byte)
    (omega (arith, short, c.self.invariant.whole_is, waiting_long s.bytes.items s.at s.len (waiting_fits c.self.invariant)))

pub returns : goal.returns
returns c =
    let s = c.self.inside in
    let v = c.self.invariant in
    let short = rw (← c.self.view_is) at c.requires in
    let few : s.len < s.whole = omega (arith, short, v.whole_is, waiting_long s.bytes.items s.at s.len (waiting_fits v)) in
    rw (← c.self.view_is) (in_same s.size s.width _ _ (byte_pushed s.bytes.items ((s.at + s.len) / 8) s.at s.len c.args.byte (omega (arith, few, v.room_is, v.in_first)) (omega (arith, v.whole_bytes))))
