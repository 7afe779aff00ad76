use Rattle.std.proofs.Common.{ℕ, ◌≡◌, true, false, List, length, sym, subst, ap, ◌∙◌, arith}
use Rattle.std.specs.Vec.{with_items}
use Rattle.std.proofs.lemmas.List.{with_items_is}
use Rattle.order_theory.specs.Basis.{rank_at}
use Rattle.order_theory.specs.Codes.{marked}
use Rattle.product_classes.specs.Values.{AreValues}
use Rattle.vote_core.specs.Polls.{without_ledger}
use Rattle.vote_core.specs.Progress.{poll_of}
use Rattle.vote_core.specs.Voters.{VoterState, Fits}
use Rattle.vote_core.specs.declared.progress.Progress.{Progress}
use Rattle.vote_core.proofs.Pursuing.{pursues_start, fits_anew}
use Rattle.vote_core.proofs.Settled.{read_none}
use Rattle.vote_core.proofs.progress.start.Goals as goal

pub returns-clause-pursues : goal.returns-clause-pursues
returns-clause-pursues g c =
    let b = c.args.basis.now in
    let table = c.args.classes.now in
    let old = c.args.progress.now in
    let new = c.begin.new.progress in
    let voter : (poll_of new).voter ≡ without_ledger (poll_of old).voter = ap (λ (q : Progress). (poll_of q).voter) c.begin.ensures.rest in
    let written : (with_items new.values c.write_values.new.values).items ≡ c.write_values.new.values = with_items_is new.values c.write_values.new.values (c.write_values.auto.values ∙ c.deref_mut-2.ensures.len) in
    let room : length c.write_values.new.values ≡ length old.values.items = c.write_values.auto.values ∙ ap length c.deref_mut-2.ensures.value ∙ ap (λ (q : Progress). length q.values.items) c.begin.ensures.rest in
    let rank : c.rank_at-limit.result ≡ rank_at b new.member = c.rank_at-limit.ensures.value in
    let values : AreValues b table c.args.list.now c.write_values.new.values (rank_at b new.member) = subst (λ (s : ℕ). AreValues b table c.args.list.now c.write_values.new.values s) rank c.write_values.ensures.values in
    pursues_start b table (poll_of old).voter c.args.list.now _ c.n.ensures.sound
    (record {
      fits = subst (λ (v : VoterState). Fits v b) (sym voter) (fits_anew (poll_of old).voter b c.requires.can.fits);
      classes = c.requires.can.classes;
      room = omega (arith, c.requires.can.room, ap length written, room);
    })
    voter c.begin.ensures.list c.requires.word
    (omega (arith, c.begin.ensures.within, c.requires.can.fits.n))
    (ap (λ (q : Progress). q.row) c.begin.ensures.rest)
    (λ l. subst (λ (v : VoterState). marked v.marks new.member ≡ false) (sym voter) (c.begin.ensures.free (omega (arith, c.requires.can.fits.n))))
    (λ q l. subst (λ (v : VoterState). marked v.marks q ≡ true) (sym voter) (c.begin.ensures.checked q l))
    (subst (λ (xs : List ℕ). AreValues b table c.args.list.now xs (rank_at b new.member)) (sym written) values)
    (read_none b c.args.list.now new.matrix (rank_at b new.member) old.bits old.modulus old.n old.matrix.most c.n.ensures.sound c.requires.can.fits.bits c.requires.can.fits.modulus c.requires.can.fits.n c.begin.ensures.empty)
    c.begin.ensures.empty.count
