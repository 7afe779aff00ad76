use Rattle.std.proofs.Common.{◌∙◌, length}
use Rattle.product_classes.proofs.Sums.{entry_is}
use Rattle.product_classes.proofs.columns.entry_at.Goals as goal

pub returns-clause-value : goal.returns-clause-value
returns-clause-value g c =
    let F = g.F.Field in
    entry_is c.args.basis.now c.args.list.now c.multiply.new.products c.vector.result.now c.vector-2.result.now (F.bits_of c.field.result.now) (F.modulus_of c.field.result.now)
    (F.bits_of c.field-2.result.now) (F.modulus_of c.field-2.result.now) c.args.i c.args.j (length c.args.row.now) c.dot.result c.field.ensures.sound
    c.field.ensures.bits c.field.ensures.modulus c.field-2.ensures.bits c.field-2.ensures.modulus c.vector.ensures.value c.vector-2.ensures.value c.requires.room (c.multiply.ensures.long ∙ c.requires.room) c.multiply.ensures.value c.dot.ensures.value
