use Rattle.std.proofs.Common.{ℕ, ◌≡◌, ◌≤◌, ◌+◌, List, refl, sym, subst, ap, arith}
use Rattle.order_theory.specs.Basis.{rank_at}
use Rattle.product_classes.specs.Values.{AreValues}
use Rattle.vote_matrix.specs.Elimination.{rank_of}
use Rattle.vote_core.specs.Reading.{IsSettled, IsRead}
use Rattle.vote_core.specs.Progress.{poll_of}
use Rattle.vote_core.specs.declared.progress.Progress.{Progress}
use Rattle.vote_core.proofs.Pursuing.{refused, none_by_pivots, row_settled}
use Rattle.vote_core.proofs.steps.settle_next.Goals as goal

pub returns-then-pivots-progress-clause-comes : goal.returns-then-pivots-progress-clause-comes
returns-then-pivots-progress-clause-comes g c = λ v y u.
    let b = c.args.basis.now in
    let p = c.args.progress.now in
    let limit : c.rank_at-limit.result ≡ rank_at b p.member = c.rank_at-limit.ensures.value in
    let values : AreValues b c.args.classes.now p.list.items c.deref.result.now c.rank_at-limit.result =
    subst (λ (s : ℕ). AreValues b c.args.classes.now p.list.items c.deref.result.now s) (sym limit) (subst (λ (xs : List ℕ). AreValues b c.args.classes.now p.list.items xs (rank_at b p.member)) (sym c.deref.ensures.value) (c.requires.ready.values c.requires.member)) in
    let read : IsRead b p.list.items c.settle_row.new.matrix (rank_at b p.member) (p.row + 1) = record {
      settled = subst (λ (s : ℕ). IsSettled b c.settle_row.new.matrix s (p.row + 1)) limit c.settle_row.ensures.settled;
      matrix = c.settle_row.ensures.eliminated p.list.items values (c.requires.ready.read c.requires.member).matrix;
    } in
    refused b c.args.classes.now v y (poll_of p) c.rank_at-limit.ensures.sound u (poll_of c.refuse.new.progress) c.refuse.result c.refuse.ensures.far c.refuse.ensures.zeros (ap (λ (q : Progress). (poll_of q).voter) c.refuse.ensures.rest)
    (none_by_pivots b c.args.classes.now v y (poll_of p) c.rank_at-limit.ensures.sound u c.settle_row.new.matrix (p.row + 1) c.requires.member read
    (λ S e. let most : c.pivots.result ≤ rank_of c.settle_row.new.matrix S c.settle_row.new.matrix.n c.settle_row.new.matrix.n = c.pivots.ensures.rank S e in omega (arith, c.pivots.ensures.count))
    (omega (arith, c.pivots.ensures.count, c.if-pivots-progress.true)))

pub returns-clause-comes : goal.returns-clause-comes
returns-clause-comes g c = λ v y u.
    let b = c.args.basis.now in
    let p = c.args.progress.now in
    let limit : c.rank_at-limit.result ≡ rank_at b p.member = c.rank_at-limit.ensures.value in
    let values : AreValues b c.args.classes.now p.list.items c.deref.result.now c.rank_at-limit.result =
    subst (λ (s : ℕ). AreValues b c.args.classes.now p.list.items c.deref.result.now s) (sym limit) (subst (λ (xs : List ℕ). AreValues b c.args.classes.now p.list.items xs (rank_at b p.member)) (sym c.deref.ensures.value) (c.requires.ready.values c.requires.member)) in
    let read : IsRead b p.list.items c.settle_row.new.matrix (rank_at b p.member) c.next_row-progress.result = record {
      settled = subst (λ (s : ℕ). IsSettled b c.settle_row.new.matrix s c.next_row-progress.result) limit c.next_row-progress.ensures.settled;
      matrix = c.settle_row.ensures.eliminated p.list.items values (c.requires.ready.read c.requires.member).matrix;
    } in
    row_settled b c.args.classes.now v y (poll_of p) c.rank_at-limit.ensures.sound u c.settle_row.new.matrix p.row c.next_row-progress.result refl c.requires.member c.requires.row c.next_row-progress.ensures.later c.next_row-progress.ensures.within read
    (omega (arith, c.pivots.ensures.count, c.if-pivots-progress.false))
