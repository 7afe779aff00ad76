use Rattle.std.proofs.Common.{ℕ, ◌≡◌, ◌+◌, ◌-◌, ◌*◌, ◌++◌, [], length, take, sym, ap, ◌∙◌, arith}
use Rattle.stored_form.specs.Bits.{bits_of, bits_of_symbols}
use Rattle.ag_frame.specs.Packing.{with_pending}
use Rattle.ag_frame.proofs.PendingBits.{length_pending, pending_end}
use Rattle.ag_frame.proofs.packing.write_symbols.Goals as goal

pub returns-clause-bits : goal.returns-clause-bits
returns-clause-bits c =
    let l = c.loop-i in
    let p = l.pending in
    let new = c.put-2.new in
    let n : ℕ = c.args.at + length c.args.symbols.now * c.args.width in
    let all : l.i ≡ length c.args.symbols.now = omega arith in
    let so_long : p.place * 8 + p.have ≡ n = l.invariant.place ∙ ap (λ i. c.args.at + i * c.args.width) all in
    let none : new.self.have ≡ 0 = omega (arith, c.put-2.ensures.place, c.put-2.ensures.few, l.invariant.few) in
    let is : take (new.self.place * 8) (bits_of_symbols 8 new.bytes) ++ [] ≡ with_pending l.bytes p.place p.have p.bits ++ bits_of (8 - p.have) 0 =
    ap (λ h. with_pending new.bytes new.self.place h new.self.bits) (sym none) ∙ c.put-2.ensures.bits in
    let long : length (with_pending l.bytes p.place p.have p.bits) ≡ p.place * 8 + p.have = length_pending l.bytes p.place p.have p.bits (omega (arith, so_long, c.requires.inside)) in
    pending_end (bits_of_symbols 8 new.bytes) (with_pending l.bytes p.place p.have p.bits) (take c.args.at (bits_of_symbols 8 c.args.bytes.now)) (bits_of (8 - p.have) 0)
    c.args.symbols.now c.args.width l.i n new.self.place all l.invariant.so_far is (omega (arith, so_long, long)) (omega (arith, so_long, none, c.put-2.ensures.place, l.invariant.few))
