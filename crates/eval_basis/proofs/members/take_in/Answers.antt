use Rattle.std.proofs.Common.{ℕ, List, get_or, subst, arith}
use Rattle.gf_theory.specs.Field.{IsModulus}
use Rattle.eval_basis.specs.Found.{AreSoFar, AreWaiting}
use Rattle.eval_basis.proofs.Waiting.{searched_pushed, searched_settled}
use Rattle.eval_basis.proofs.members.take_in.Goals as goal

pub returns-in_ok-settle : goal.returns-in_ok-settle
returns-in_ok-settle g c =
    let m = g.F.Field.modulus_of c.args.f.now in
    let d = g.D.OrderDomain.domain c.args.dom.now in
    let points = c.args.points.now in
    searched_settled d m points c.bits-2.ensures.lawful (subst (λ (x : ℕ). IsModulus x m) c.requires.bits c.bits.ensures.field) c.requires.points
    c.args.i c.args.ranks.now.items c.args.vectors.now.items c.args.symbols.now c.args.order.now c.args.used.now c.args.old.now c.args.band.now.items c.push.new.self.items c.clear.new.self.items
    c.settle.new.ranks.items c.settle.new.vectors.items c.settle.new.symbols c.settle.new.order c.settle.new.used c.settle.new.old c.in_ok-push.ensures.items c.clear.ensures.items
    (subst (λ (w : List ℕ). (stop : ℕ) → AreWaiting d m points stop w → AreSoFar d m points (get_or w 0 stop) c.args.ranks.now.items c.args.vectors.now.items c.args.symbols.now c.args.order.now c.args.used.now c.args.old.now
    → AreSoFar d m points stop c.settle.new.ranks.items c.settle.new.vectors.items c.settle.new.symbols c.settle.new.order c.settle.new.used c.settle.new.old)
    c.deref.ensures.value c.in_ok-settle.ensures.so_far)
    c.requires.so_far

pub returns-else-len-min : goal.returns-else-len-min
returns-else-len-min g c =
    let m = g.F.Field.modulus_of c.args.f.now in
    searched_pushed (g.D.OrderDomain.domain c.args.dom.now) m c.args.points.now c.bits-2.ensures.lawful (subst (λ (x : ℕ). IsModulus x m) c.requires.bits c.bits.ensures.field) c.requires.points
    c.args.i c.args.ranks.now.items c.args.vectors.now.items c.args.symbols.now c.args.order.now c.args.used.now c.args.old.now c.args.band.now.items c.push.new.self.items c.in_ok-push.ensures.items c.requires.room
    (λ e. omega arith) c.requires.so_far
