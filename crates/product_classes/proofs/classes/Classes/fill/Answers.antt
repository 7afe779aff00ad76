use Rattle.std.proofs.Common.{refl}
use Rattle.std.specs.Prelude.{vec_capacity}
use Rattle.product_classes.specs.Kept.{listed}
use Rattle.product_classes.proofs.Moves.{classes_move}
use Rattle.product_classes.proofs.classes.Classes.fill.Goals as goal

pub returns-clause-classes : goal.returns-clause-classes
returns-clause-classes g c =
    let a = c.list_classes.new.listing in
    let s = c.self.inside in
    classes_move c.args.basis.now (listed a c.args.limit) s.size (vec_capacity a.lefts) c.n-self-inside.result s.size a.lefts.items a.rights.items c.clear.new.self.items
    (λ k l. refl) (λ k l. refl) c.list_classes.ensures.classes
