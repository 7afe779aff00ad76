use Rattle.std.proofs.Common.{◌+◌, ◌*◌, ◌≤◌, get_or}
use Rattle.std.proofs.lemmas.List.Elements.{All-get_or}
use Rattle.curve_theory.specs.declared.Term.{Term}
use Rattle.cab_curve.proofs.Calls.{field_of}
use Rattle.cab_curve.proofs.Sums.{nothing_added, term-room, term_added, y_added}
use Rattle.cab_curve.proofs.relation.Relation.add_y_times.Goals as goal

abbrev nothing : Term
nothing = record { i = 0; j = 0; c = 0 }

pub loop-term-init : goal.loop-term-init
loop-term-init g c = λ w. nothing_added _ _ (field_of _ _ (g.met.F.Field.is_modulus c.args.f.now)) c.args.self.now.semi.a c.args.self.now.semi.b (get_or c.args.sums.now w 0) c.args.c

pub loop-term-preserved : goal.loop-term-preserved
loop-term-preserved g c = λ w.
    rw c.deref-term-items.ensures.value
    (term_added _ _ (field_of _ _ (g.met.F.Field.is_modulus c.args.f.now)) _ _ c.args.i c.args.c c.loop-term.term-index c.mul.result w _ _ c.args.sums.now c.loop-term.sums
    (rw (← c.deref-term-items.ensures.value) c.loop-term-test.true)
    (rw c.loop-term.auto.sums (term-room _ _ c.args.i c.args.j _ (get_or c.args.self.now.terms.items c.loop-term.term-index nothing) c.requires.degree c.if-j-a.false c.requires.room
    (All-get_or (λ t. c.args.self.now.semi.a * t.i + c.args.self.now.semi.b * t.j ≤ c.args.self.now.semi.a * c.args.self.now.semi.b) c.args.self.now.terms.items c.loop-term.term-index nothing
    (rw (← c.deref-term-items.ensures.value) c.loop-term-test.true) c.args.self.now.weights)))
    (rw (← c.deref-term-items.ensures.value) c.mul.ensures.product) (c.loop-term.invariant w))

pub returns-then-j-a : goal.returns-then-j-a
returns-then-j-a g c = λ w. y_added _ _ (field_of _ _ (g.met.F.Field.is_modulus c.args.f.now)) _ _ c.args.i c.args.j c.args.c w _ c.args.sums.now c.requires.symbol c.if-j-a.true c.requires.room
