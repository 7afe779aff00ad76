use Rattle.std.proofs.Common.{◌∙◌, length}
use Rattle.order_bound.proofs.Looking.{products_are}
use Rattle.order_bound.proofs.members.products_with.Goals as goal

pub returns : goal.returns
returns g c =
    products_are (g.D.OrderDomain.domain c.args.dom.now) (g.F.Field.modulus_of c.args.f.now) c.args.points.now (g.F.Field.bits_of c.args.f.now) (length c.evaluate.new.values) (length c.args.products.now)
    c.args.lists.now c.evaluate.new.values c.multiply.new.products c.args.i c.requires.bits (c.evaluate.auto.values ∙ c.requires.values_room) c.requires.products_room c.evaluate.ensures.values c.multiply.ensures.products
