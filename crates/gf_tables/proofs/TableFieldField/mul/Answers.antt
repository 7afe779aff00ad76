use Rattle.gf_tables.proofs.Entries.{read_product-below}
use Rattle.gf_tables.proofs.TableFieldField.mul.Goals as goal

pub returns-clause-element : goal.returns-clause-element
returns-clause-element c =
    let table = c.args.self.now in
    read_product-below table.bits table.modulus c.args.x c.args.y c.from.result c.from-2.result table.products.items c.index.result.now
    table.has_products c.requires.left c.requires.right c.from.ensures c.from-2.ensures c.index.ensures
