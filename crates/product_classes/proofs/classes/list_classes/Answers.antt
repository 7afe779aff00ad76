use Rattle.std.proofs.Common.{ℕ, ◌≡◌, ◌∙◌, ◌++◌, List, length, take, drop, sym, subst}
use Rattle.std.proofs.lemmas.List.{take_at}
use Rattle.product_classes.specs.Table.{AreReaches}
use Rattle.product_classes.specs.Listings.{seen}
use Rattle.product_classes.proofs.Moves.{listed_all}
use Rattle.product_classes.proofs.classes.list_classes.Goals as goal

pub returns-clause-classes : goal.returns-clause-classes
returns-clause-classes g c =
    let all = c.list_all.ensures.listed in
    let a = c.list_all.new.self in
    let now = c.write_reaches.new.reaches in
    let written : take a.reaches.len (now ++ drop (length now) a.reaches.items) ≡ now = take_at now (drop (length now) a.reaches.items) a.reaches.len (c.write_reaches.auto.reaches ∙ c.deref_mut.ensures.len) in
    listed_all c.args.basis.now (seen a) all.0 c.args.limit (take a.reaches.len (now ++ drop (length now) a.reaches.items)) all.2 all.1 c.requires.limit c.list_all.ensures.room.n_reaches
    (subst (λ (xs : List ℕ). AreReaches c.args.basis.now c.args.limit xs) (sym written) c.write_reaches.ensures.reaches)
