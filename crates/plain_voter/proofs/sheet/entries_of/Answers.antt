use Rattle.std.proofs.Common.{ℕ, ◌∙◌, List, length, ap}
use Rattle.std.specs.Prelude.{slice_index}
use Rattle.plain_voter.proofs.Grids.{entry_is, entries_more}
use Rattle.plain_voter.proofs.sheet.entries_of.Goals as goal

pub loop-j-preserved : goal.loop-j-preserved
loop-j-preserved g c =
    let b = c.args.basis.now in
    let w = c.args.work.now in
    entries_more b w c.args.i c.loop-j.j c.dot.result c.loop-j.row.items c.push.new.self.items c.in_ok-push.ensures.items
    (entry_is b w c.deref.result.now c.vector-in-loop-j.result.now c.vector.result.now (g.F.Field.bits_of c.field-f.result.now) (g.F.Field.modulus_of c.field-f.result.now) c.args.i c.loop-j.j c.dot.result
    c.vector.ensures.sound c.field-f.ensures.bits c.field-f.ensures.modulus c.requires.word.n_long (ap (λ (xs : List ℕ). length xs) c.deref.ensures.value ∙ c.in_ok-weighed.ensures.long) c.vector.ensures.value c.vector-in-loop-j.ensures.value
    (λ p l. ap (λ (xs : List ℕ). slice_index xs p) c.deref.ensures.value ∙ c.in_ok-weighed.ensures.value p l) c.dot.ensures.value)
    c.loop-j.invariant
