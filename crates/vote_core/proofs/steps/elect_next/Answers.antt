use Rattle.std.proofs.Common.{ℕ, ◌≡◌, ◌<◌, ◌≤◌, ◌+◌, ◌^◌, true, false, List, All, length, take, set, sym, subst, ap, ◌∙◌, arith}
use Rattle.std.specs.Vec.{with_items}
use Rattle.std.proofs.lemmas.List.{with_items_is, take_more_set, length-take-le, length-set}
use Rattle.order_theory.specs.Basis.{IsWord, rank_at}
use Rattle.order_theory.specs.Codes.{marked}
use Rattle.product_classes.specs.Values.{AreValues}
use Rattle.vote_core.specs.Progress.{poll_of}
use Rattle.vote_core.specs.Reading.{IsRead}
use Rattle.vote_core.specs.Turns.{IsTurn}
use Rattle.vote_core.specs.declared.progress.Progress.{Progress}
use Rattle.vote_core.proofs.Pursuing.{refused, none_by_line, elected}
use Rattle.vote_core.proofs.steps.elect_next.Goals as goal

pub returns-then-excludes-clause-comes : goal.returns-then-excludes-clause-comes
returns-then-excludes-clause-comes g c = λ v y u.
    let b = c.args.basis.now in
    let p = c.args.progress.now in
    let turn : IsTurn b p.list.items p.member c.turn-line.new.list c.turn-line.result = subst (λ (w : List ℕ). IsTurn b w p.member c.turn-line.new.list c.turn-line.result) c.deref_mut.ensures.value c.turn-line.ensures.turn in
    refused b c.args.classes.now v y (poll_of p) c.turn-line.ensures.sound u (poll_of c.refuse.new.progress) c.refuse.result c.refuse.ensures.far c.refuse.ensures.zeros (ap (λ (q : Progress). (poll_of q).voter) c.refuse.ensures.rest)
    (none_by_line b c.args.classes.now v y (poll_of p) c.turn-line.ensures.sound u c.turn-line.new.list c.turn-line.result c.requires.member turn (c.excludes.ensures.0 c.if-excludes.true))

pub write_to_next-requires-clause-word : goal.write_to_next-requires-clause-word
write_to_next-requires-clause-word g c =
    let b = c.args.basis.now in
    let listed : (with_items c.args.progress.now.list c.turn-line.new.list).items ≡ c.turn-line.new.list = with_items_is c.args.progress.now.list c.turn-line.new.list (c.turn-line.auto.list ∙ c.deref_mut.ensures.len) in
    subst (λ (xs : List ℕ). IsWord b.bits b.n xs) (sym (c.deref-2.ensures.value ∙ listed)) c.turn-line.ensures.word

pub write_to_next-requires-clause-symbols : goal.write_to_next-requires-clause-symbols
write_to_next-requires-clause-symbols g c =
    let valued : (with_items c.args.progress.now.values c.turn-line.new.values).items ≡ c.turn-line.new.values = with_items_is c.args.progress.now.values c.turn-line.new.values (c.turn-line.auto.values ∙ c.deref_mut-2.ensures.len) in
    subst (λ (xs : List ℕ). All (λ x. x < 2 ^ c.args.basis.now.bits) xs) (sym (c.deref_mut-4.ensures.value ∙ valued)) c.turn-line.ensures.symbols

pub write_to_next-requires-clause-values : goal.write_to_next-requires-clause-values
write_to_next-requires-clause-values g c =
    let b = c.args.basis.now in
    let p = c.args.progress.now in
    let listed : (with_items p.list c.turn-line.new.list).items ≡ c.turn-line.new.list = with_items_is p.list c.turn-line.new.list (c.turn-line.auto.list ∙ c.deref_mut.ensures.len) in
    let valued : (with_items p.values c.turn-line.new.values).items ≡ c.turn-line.new.values = with_items_is p.values c.turn-line.new.values (c.turn-line.auto.values ∙ c.deref_mut-2.ensures.len) in
    subst (λ (xs : List ℕ). AreValues b c.args.classes.now xs c.deref_mut-4.result.now (rank_at b p.member)) (sym (c.deref-2.ensures.value ∙ listed))
    (subst (λ (xs : List ℕ). AreValues b c.args.classes.now c.turn-line.new.list xs (rank_at b p.member)) (sym (c.deref_mut-4.ensures.value ∙ valued)) c.turn-line.ensures.values)

pub returns-clause-kept : goal.returns-clause-kept
returns-clause-kept g c =
    let b = c.args.basis.now in
    let p = c.args.progress.now in
    let bits : p.bits ≡ b.bits = c.requires.ready.can.fits.bits in
    let n : p.n ≡ b.n = c.requires.ready.can.fits.n in
    let told_few : p.told ≤ p.member =
    let few : length (take p.told p.lines.items) ≤ p.member = c.requires.ready.few_lines in
    let long : length (take p.told p.lines.items) ≡ p.told = length-take-le p.told p.lines.items (omega (arith, c.requires.kept.few_lines, c.requires.kept.n_lines)) in
    omega arith in
    let listed : (with_items p.list c.turn-line.new.list).items ≡ c.turn-line.new.list = with_items_is p.list c.turn-line.new.list (c.turn-line.auto.list ∙ c.deref_mut.ensures.len) in
    let valued : (with_items (with_items p.values c.turn-line.new.values) c.write_to_next.new.values).items ≡ c.write_to_next.new.values =
    with_items_is (with_items p.values c.turn-line.new.values) c.write_to_next.new.values (c.write_to_next.auto.values ∙ c.deref_mut-4.ensures.len) in
    let rowed : (with_items c.turn-line.new.scratch.row c.write_to_next.new.row).items ≡ c.write_to_next.new.row =
    with_items_is c.turn-line.new.scratch.row c.write_to_next.new.row (c.write_to_next.auto.row ∙ c.deref_mut-3.ensures.len) in
    record {
      matrix_bits = c.turn-line.ensures.read.settled.bits ∙ sym bits;
      matrix_modulus = c.turn-line.ensures.read.settled.modulus ∙ sym c.requires.ready.can.fits.modulus;
      matrix_n = c.turn-line.ensures.read.settled.n ∙ sym n;
      most = c.turn-line.ensures.most ∙ c.requires.kept.most;
      n_marks = c.requires.kept.n_marks;
      n_list = ap length listed ∙ c.turn-line.auto.list ∙ ap length c.deref_mut.ensures.value ∙ c.requires.kept.n_list;
      symbols = subst (λ (xs : List ℕ). All (λ x. x < 2 ^ p.bits) xs) (sym valued) (subst (λ (m : ℕ). All (λ x. x < 2 ^ m) c.write_to_next.new.values) (sym bits) c.write_to_next.ensures.symbols);
      n_row = ap length rowed ∙ c.write_to_next.auto.row ∙ ap length c.deref_mut-3.ensures.value ∙ c.turn-line.ensures.scratch.row_long ∙ sym n;
      n_votes = c.turn-line.ensures.scratch.votes_long ∙ sym n;
      n_tally = c.turn-line.ensures.scratch.tally_long ∙ ap (λ (m : ℕ). 2 ^ m) (sym bits);
      n_lines = length-set p.lines.items p.told c.turn-line.result ∙ c.requires.kept.n_lines;
      few_lines = omega (arith, told_few, c.requires.member);
    }

pub returns-clause-comes : goal.returns-clause-comes
returns-clause-comes g c = λ v y u.
    let b = c.args.basis.now in
    let p = c.args.progress.now in
    let k : ℕ = p.member in
    let next : ℕ = c.first_free-next.result in
    let told_few : p.told ≤ p.member =
    let few : length (take p.told p.lines.items) ≤ p.member = c.requires.ready.few_lines in
    let long : length (take p.told p.lines.items) ≡ p.told = length-take-le p.told p.lines.items (omega (arith, c.requires.kept.few_lines, c.requires.kept.n_lines)) in
    omega arith in
    let listed : (with_items p.list c.turn-line.new.list).items ≡ c.turn-line.new.list = with_items_is p.list c.turn-line.new.list (c.turn-line.auto.list ∙ c.deref_mut.ensures.len) in
    let valued : (with_items (with_items p.values c.turn-line.new.values) c.write_to_next.new.values).items ≡ c.write_to_next.new.values =
    with_items_is (with_items p.values c.turn-line.new.values) c.write_to_next.new.values (c.write_to_next.auto.values ∙ c.deref_mut-4.ensures.len) in
    let turn : IsTurn b p.list.items p.member c.turn-line.new.list c.turn-line.result = subst (λ (w : List ℕ). IsTurn b w p.member c.turn-line.new.list c.turn-line.result) c.deref_mut.ensures.value c.turn-line.ensures.turn in
    elected b c.args.classes.now v y (poll_of p) c.turn-line.ensures.sound u (with_items p.list c.turn-line.new.list).items (with_items (with_items p.values c.turn-line.new.values) c.write_to_next.new.values).items
    c.turn-line.new.matrix c.turn-line.result c.first_free-next.result (take (p.told + 1) (set p.lines.items p.told c.turn-line.result)) c.requires.member
    (subst (λ (w : List ℕ). IsTurn b p.list.items p.member w c.turn-line.result) (sym listed) turn)
    (subst (λ (w : List ℕ). IsWord b.bits b.n w) (sym listed) c.turn-line.ensures.word)
    (omega (arith, c.first_free-next.ensures.within, ap length c.deref.ensures.value, c.requires.kept.n_marks, c.requires.ready.can.fits.n))
    c.first_free-next.ensures.later
    (λ l. subst (λ (ms : List _). marked ms next ≡ false) c.deref.ensures.value (c.first_free-next.ensures.free (omega (arith, ap length c.deref.ensures.value, c.requires.kept.n_marks, c.requires.ready.can.fits.n))))
    (λ q l z. subst (λ (ms : List _). marked ms q ≡ true) c.deref.ensures.value (c.first_free-next.ensures.between q l z))
    (λ l. subst (λ (xs : List ℕ). AreValues b c.args.classes.now (with_items p.list c.turn-line.new.list).items xs (rank_at b next)) (sym valued)
    (subst (λ (xs : List ℕ). AreValues b c.args.classes.now xs c.write_to_next.new.values (rank_at b next)) c.deref-2.ensures.value (c.write_to_next.ensures.values l)))
    (subst (λ (w : List ℕ). IsRead b w c.turn-line.new.matrix (rank_at b p.member + 1) 0) (sym listed) c.turn-line.ensures.read)
    c.turn-line.ensures.count
    (ap length valued ∙ c.write_to_next.auto.values ∙ c.deref_mut-4.ensures.len ∙ p.values.ok.0)
    (take_more_set p.lines.items p.told c.turn-line.result (omega (arith, c.requires.kept.n_lines, c.requires.ready.can.fits.n)))
