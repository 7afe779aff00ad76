use Rattle.std.proofs.Common.{ℕ, ◌≡◌, ◌<◌, ◌+◌, ◌∙◌, ◌^◌, refl, List, length, sym, subst, ap, get_or, arith, Vec, Global}
use Rattle.std.proofs.Math.Facts.{Fits-of_lt}
use Rattle.std.proofs.lemmas.List.{get_or_read_under, length-set}
use Rattle.std.specs.List.{IsFirstMaxByKey}
use Rattle.vote_core.specs.Votes.{HasVote, AreVotes, IsShown}
use Rattle.vote_core.specs.Rooms.{IsScratch}
use Rattle.vote_core.specs.declared.room.Scratch.{Scratch}
use Rattle.vote_core.proofs.Tallies.{Tallied, Counted, votes_none, count_none, votes_same, count_same, votes_more, count_more, tally_fits, elected, counted}
use Rattle.vote_core.proofs.ballot.elect.Goals as goal
use Rattle.vote_core.proofs.ballot.elect.Goals.{in-Some, in_default}

pub loop-i-init : goal.loop-i-init
loop-i-init g c = record {
  scratch = record {
    row_long = c.requires.scratch.row_long;
    votes_long = c.requires.scratch.votes_long;
    tally_long = sym c.fill.new.self.ok.0 ∙ c.fill.ensures.len ∙ c.args.scratch.now.tally.ok.0 ∙ c.requires.scratch.tally_long;
  };
  votes = votes_none c.args.basis.now c.args.list.now c.args.k c.n-i-end.ensures.sound c.requires.member c.fill.new.self.items c.args.scratch.now.tally.len (c.fill.ensures.items (λ y e. e));
  count = count_none c.args.basis.now c.args.list.now c.args.k c.n-i-end.ensures.sound c.requires.member;
  few = omega arith;
  all_votes = record { at = λ a l. absurd (omega arith) };
}

pub overflow_add-index_mut : goal.overflow_add-index_mut
overflow_add-index_mut g c =
    let b = c.args.basis.now in
    let shown : IsShown b c.args.classes.now c.args.list.now c.args.values.now c.args.matrix.now c.args.k c.syndrome-known.result =
    record { word = c.requires.word; known_is = c.syndrome-known.ensures.value; values_are = c.requires.values; matrix = c.requires.read.matrix } in
    let vote : HasVote b c.args.list.now c.args.k c.loop-i.i c.in-Some.v = c.in-Some.ensures.vote c.args.list.now shown in
    let low : c.loop-i.i < b.n = omega arith in
    let long : length c.cast_vote.new.scratch.tally.items ≡ 2 ^ b.bits = c.in-Some.ensures.scratch.tally_long in
    let symbol : c.in-Some.v < length c.cast_vote.new.scratch.tally.items = omega (arith, vote.symbol) in
    let so_far : Tallied b c.args.list.now c.args.k c.n-i-end.ensures.sound c.requires.member c.cast_vote.new.scratch.tally.items c.loop-i.i =
    subst (λ (t : List ℕ). Tallied b c.args.list.now c.args.k c.n-i-end.ensures.sound c.requires.member t c.loop-i.i) (sym (ap (λ (t : Vec ℕ Global). t.items) c.in-Some.ensures.tally)) c.loop-i.invariant.votes in
    let small : get_or c.cast_vote.new.scratch.tally.items c.in-Some.v 0 + 1 < 4294967296 = tally_fits b c.args.list.now c.args.k c.n-i-end.ensures.sound c.requires.member c.cast_vote.new.scratch.tally.items c.loop-i.i c.in-Some.v low symbol so_far in
    let here : c.index_mut.result.now ≡ get_or c.cast_vote.new.scratch.tally.items c.in-Some.v 0 =
    get_or_read_under c.cast_vote.new.scratch.tally.items c.in-Some.v (length c.cast_vote.new.scratch.tally.items) c.index_mut.result.now 0 c.index_mut.ensures.value symbol refl in
    let all : c.index_mut.result.now + 1 < 4294967296 = omega arith in
    Fits-of_lt all

pub loop-i-preserved : goal.loop-i-preserved
loop-i-preserved g c =
    let b = c.args.basis.now in
    let h = c.n-i-end.ensures.sound in
    let low : c.loop-i.i < b.n = omega arith in
    let shown : IsShown b c.args.classes.now c.args.list.now c.args.values.now c.args.matrix.now c.args.k c.syndrome-known.result =
    record { word = c.requires.word; known_is = c.syndrome-known.ensures.value; values_are = c.requires.values; matrix = c.requires.read.matrix } in
    elim c.match-cast_vote.branch [
      | in-Some w ↦
          let vote : HasVote b c.args.list.now c.args.k c.loop-i.i w.in-Some.v = w.in-Some.ensures.vote c.args.list.now shown in
          let long : length c.cast_vote.new.scratch.tally.items ≡ 2 ^ b.bits = w.in-Some.ensures.scratch.tally_long in
          let symbol : w.in-Some.v < length c.cast_vote.new.scratch.tally.items = omega (arith, vote.symbol) in
          let so_far : Tallied b c.args.list.now c.args.k h c.requires.member c.cast_vote.new.scratch.tally.items c.loop-i.i =
          subst (λ (t : List ℕ). Tallied b c.args.list.now c.args.k h c.requires.member t c.loop-i.i) (sym (ap (λ (t : Vec ℕ Global). t.items) w.in-Some.ensures.tally)) c.loop-i.invariant.votes in
          let here : w.index_mut.result.now + 1 ≡ get_or c.cast_vote.new.scratch.tally.items w.in-Some.v 0 + 1 =
          ap (λ (x : ℕ). x + 1) (get_or_read_under c.cast_vote.new.scratch.tally.items w.in-Some.v (length c.cast_vote.new.scratch.tally.items) w.index_mut.result.now 0 w.index_mut.ensures.value symbol refl) in
          record {
            scratch = subst (λ (s : Scratch). IsScratch b s) (sym w.scratch-is) (record {
              row_long = w.in-Some.ensures.scratch.row_long;
              votes_long = w.in-Some.ensures.scratch.votes_long;
              tally_long = length-set c.cast_vote.new.scratch.tally.items w.in-Some.v (w.index_mut.result.now + 1) ∙ long;
            });
            votes = subst (λ (s : Scratch). Tallied b c.args.list.now c.args.k h c.requires.member s.tally.items (c.loop-i.i + 1)) (sym w.scratch-is)
                (votes_more b c.args.list.now c.args.k h c.requires.member c.cast_vote.new.scratch.tally.items c.loop-i.i w.in-Some.v (w.index_mut.result.now + 1) low vote long here so_far);
            count = subst (λ (t : ℕ). Counted b c.args.list.now c.args.k h c.requires.member t (c.loop-i.i + 1)) (sym w.candidates-is) (count_more b c.args.list.now c.args.k h c.requires.member c.loop-i.candidates c.loop-i.i w.in-Some.v low vote c.loop-i.invariant.count);
            few = omega (arith, w.candidates-is, c.loop-i.invariant.few);
            all_votes = subst (λ (s : Scratch). AreVotes b c.args.list.now c.args.k s.votes.items (c.loop-i.i + 1)) (sym w.scratch-is) (w.in-Some.ensures.votes c.args.list.now shown c.loop-i.invariant.all_votes);
          }
      | in_default w ↦
          record {
            scratch = subst (λ (s : Scratch). IsScratch b s) (sym w.scratch-is) w.in_default.ensures.scratch;
            votes = subst (λ (s : Scratch). Tallied b c.args.list.now c.args.k h c.requires.member s.tally.items (c.loop-i.i + 1)) (sym w.scratch-is)
                (votes_same b c.args.list.now c.args.k h c.requires.member c.cast_vote.new.scratch.tally.items c.loop-i.i (w.in_default.ensures.vote c.args.list.now shown)
                (subst (λ (t : List ℕ). Tallied b c.args.list.now c.args.k h c.requires.member t c.loop-i.i) (sym (ap (λ (t : Vec ℕ Global). t.items) w.in_default.ensures.tally)) c.loop-i.invariant.votes));
            count = subst (λ (t : ℕ). Counted b c.args.list.now c.args.k h c.requires.member t (c.loop-i.i + 1)) (sym w.candidates-is) (count_same b c.args.list.now c.args.k h c.requires.member c.loop-i.candidates c.loop-i.i (w.in_default.ensures.vote c.args.list.now shown) c.loop-i.invariant.count);
            few = omega (arith, w.candidates-is, c.loop-i.invariant.few);
            all_votes = subst (λ (s : Scratch). AreVotes b c.args.list.now c.args.k s.votes.items (c.loop-i.i + 1)) (sym w.scratch-is) (w.in_default.ensures.votes c.args.list.now shown c.loop-i.invariant.all_votes);
          }
    ]

pub returns-clause-elected : goal.returns-clause-elected
returns-clause-elected g c =
    let first : IsFirstMaxByKey (λ x. x) c.loop-i.scratch.tally.items (length c.loop-i.scratch.tally.items) c.first_most-winner.result =
    subst (λ (t : List ℕ). IsFirstMaxByKey (λ x. x) t (length t) c.first_most-winner.result) c.deref.ensures.value c.first_most-winner.ensures in
    (elected c.args.basis.now c.args.list.now c.args.k c.n-i-end.ensures.sound c.requires.member c.loop-i.scratch.tally.items c.loop-i.i c.first_most-winner.result c.loop-i.invariant.scratch.tally_long (omega arith) c.loop-i.invariant.votes first).0

pub returns-clause-votes : goal.returns-clause-votes
returns-clause-votes g c =
    let first : IsFirstMaxByKey (λ x. x) c.loop-i.scratch.tally.items (length c.loop-i.scratch.tally.items) c.first_most-winner.result =
    subst (λ (t : List ℕ). IsFirstMaxByKey (λ x. x) t (length t) c.first_most-winner.result) c.deref.ensures.value c.first_most-winner.ensures in
    get_or_read_under c.loop-i.scratch.tally.items c.first_most-winner.result (length c.loop-i.scratch.tally.items) c.index.result.now 0 c.index.ensures first.0 refl
    ∙ (elected c.args.basis.now c.args.list.now c.args.k c.n-i-end.ensures.sound c.requires.member c.loop-i.scratch.tally.items c.loop-i.i c.first_most-winner.result c.loop-i.invariant.scratch.tally_long (omega arith) c.loop-i.invariant.votes first).1

pub returns-clause-candidates : goal.returns-clause-candidates
returns-clause-candidates g c = counted c.args.basis.now c.args.list.now c.args.k c.n-i-end.ensures.sound c.requires.member c.loop-i.candidates c.loop-i.i (omega arith) c.loop-i.invariant.count
