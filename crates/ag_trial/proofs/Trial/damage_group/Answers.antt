use Rattle.std.proofs.Common.{◌≡◌, ℕ, ◌<◌, ◌≤◌, ◌^◌, List, [], drop, length, get_or, sym, ◌∙◌, ap, subst, arith}
use Rattle.std.proofs.Math.ListN.{set}
use Rattle.std.proofs.Math.Nat.{pow-le-pow_right}
use Rattle.std.specs.List.{All}
use Rattle.rand_pcg.specs.Lcg.{Lcg}
use Rattle.stored_form.specs.Group.{gather}
use Rattle.ag_frame.specs.Layouts.{symbols_of_group, words_of_group}
use Rattle.stored_form.proofs.GroupLemmas.{length-gather, length-block_at}
use Rattle.ag_trial.specs.Damage.{damaged, damaged_words, changes_in, total_distance}
use Rattle.ag_trial.specs.Groups.{word_of_group}
use Rattle.ag_trial.proofs.Blocks.{word_at, gather-set}
use Rattle.ag_trial.proofs.Steps.{words-more, words-end, word-untouched, changes-more, changes-end}
use Rattle.ag_trial.proofs.Counts.{total_distance-damaged, each_near}
use Rattle.ag_trial.proofs.Trial.damage_group.Goals as goal

four : (bits : ℕ) → 2 ≤ bits → 2 ≤ 2 ^ bits
four bits low = let h : 2 ^ 2 ≤ 2 ^ bits = pow-le-pow_right (omega arith) low in omega arith

long_words : (n depth t : ℕ) (group : List ℕ) → t ≤ n → All (λ w. t ≤ length w) (gather n depth group)
long_words n depth t group h = λ k d l.
    let within : k < depth = omega (arith, length-gather n depth group) in
    subst (λ (w : List ℕ). t ≤ length w) (sym (word_at n depth group k d within)) (omega (arith, length-block_at n depth group k))

pub loop-c-preserved : goal.loop-c-preserved
loop-c-preserved c =
    let l = c.args.layout.now in
    let size : ℕ = 2 ^ l.bits in
    let t : ℕ = c.args.t in
    let at : ℕ = c.loop-c.c in
    let old : List (List ℕ) = words_of_group l c.args.group.now in
    let words : List (List ℕ) = words_of_group l c.loop-c.group in
    let F : List (List ℕ) × Lcg = damaged_words size t old c.args.self.now in
    let lo : at < length old = omega (arith, length-gather l.n l.depth (symbols_of_group l c.args.group.now)) in
    let lw : at < length words = omega (arith, length-gather l.n l.depth (symbols_of_group l c.loop-c.group)) in
    let same : word_of_group l c.loop-c.group at ≡ get_or old at [] =
    sym (word_at l.n l.depth (symbols_of_group l c.loop-c.group) at [] c.loop-c-test.true) ∙ word-untouched size t F old words at c.loop-c.self lo lw c.loop-c.invariant.words in
    let word : word_of_group l c.damage_word-changes.new.group at ≡ (damaged size t (get_or old at []) c.loop-c.self).0 =
    c.damage_word-changes.ensures.word ∙ ap (λ (xs : List ℕ). (damaged size t xs c.loop-c.self).0) same in
    let rest : c.damage_word-changes.new.self ≡ (damaged size t (get_or old at []) c.loop-c.self).1 =
    c.damage_word-changes.ensures.rest ∙ ap (λ (xs : List ℕ). (damaged size t xs c.loop-c.self).1) same in
    let group : words_of_group l c.damage_word-changes.new.group ≡ set words at (damaged size t (get_or old at []) c.loop-c.self).0 =
    gather-set l.n l.depth at (symbols_of_group l c.loop-c.group) (symbols_of_group l c.damage_word-changes.new.group) (damaged size t (get_or old at []) c.loop-c.self).0 c.loop-c-test.true word c.damage_word-changes.ensures.others in
    let more = changes-more size t old at c.loop-c.self lo in
    record {
      words = rw (group, rest) (words-more size t F old words at c.loop-c.self lo lw c.loop-c.invariant.words);
      counted = rw rest (let counted = c.loop-c.invariant.counted in let changes = c.damage_word-changes.ensures.changes in omega arith);
      fill = c.damage_word-changes.ensures.fill ∙ c.loop-c.invariant.fill;
      few = (let few = c.loop-c.invariant.few in let small = c.damage_word-changes.ensures.small in omega arith);
    }

pub returns-clause-words : goal.returns-clause-words
returns-clause-words c =
    let l = c.args.layout.now in
    let size : ℕ = 2 ^ l.bits in
    let old : List (List ℕ) = words_of_group l c.args.group.now in
    let words : List (List ℕ) = words_of_group l c.loop-c.group in
    (words-end size c.args.t (damaged_words size c.args.t old c.args.self.now) old words c.loop-c.c c.loop-c.self
    (omega (arith, length-gather l.n l.depth (symbols_of_group l c.args.group.now))) (omega (arith, length-gather l.n l.depth (symbols_of_group l c.loop-c.group))) c.loop-c.invariant.words).0

pub returns-clause-rest : goal.returns-clause-rest
returns-clause-rest c =
    let l = c.args.layout.now in
    let size : ℕ = 2 ^ l.bits in
    let old : List (List ℕ) = words_of_group l c.args.group.now in
    let words : List (List ℕ) = words_of_group l c.loop-c.group in
    (words-end size c.args.t (damaged_words size c.args.t old c.args.self.now) old words c.loop-c.c c.loop-c.self
    (omega (arith, length-gather l.n l.depth (symbols_of_group l c.args.group.now))) (omega (arith, length-gather l.n l.depth (symbols_of_group l c.loop-c.group))) c.loop-c.invariant.words).1

pub returns-clause-drawn : goal.returns-clause-drawn
returns-clause-drawn c =
    let l = c.args.layout.now in
    let size : ℕ = 2 ^ l.bits in
    let old : List (List ℕ) = words_of_group l c.args.group.now in
    let none : changes_in size c.args.t (drop c.loop-c.c old) c.loop-c.self ≡ 0 = changes-end size c.args.t old c.loop-c.c c.loop-c.self (omega (arith, length-gather l.n l.depth (symbols_of_group l c.args.group.now))) in
    let counted = c.loop-c.invariant.counted in
    omega arith

pub returns-clause-changes : goal.returns-clause-changes
returns-clause-changes c =
    let l = c.args.layout.now in
    let size : ℕ = 2 ^ l.bits in
    let old : List (List ℕ) = words_of_group l c.args.group.now in
    returns-clause-drawn c
    ∙ sym (total_distance-damaged size c.args.t old c.args.self.now (four l.bits c.requires.layout.bits_least) (long_words l.n l.depth c.args.t (symbols_of_group l c.args.group.now) c.requires.t))
    ∙ ap (λ (ws : List (List ℕ)). total_distance ws old) (sym (returns-clause-words c))

pub returns-clause-near : goal.returns-clause-near
returns-clause-near c = λ k lk.
    let l = c.args.layout.now in
    let size : ℕ = 2 ^ l.bits in
    let old : List (List ℕ) = words_of_group l c.args.group.now in
    let near = each_near size c.args.t old c.args.self.now (four l.bits c.requires.layout.bits_least) (long_words l.n l.depth c.args.t (symbols_of_group l c.args.group.now) c.requires.t) k (omega (arith, length-gather l.n l.depth (symbols_of_group l c.args.group.now))) in
    let new : get_or (damaged_words size c.args.t old c.args.self.now).0 k [] ≡ word_of_group l c.loop-c.group k =
    ap (λ (ws : List (List ℕ)). get_or ws k []) (sym (returns-clause-words c)) ∙ word_at l.n l.depth (symbols_of_group l c.loop-c.group) k [] lk in
    let before : get_or old k [] ≡ word_of_group l c.args.group.now k = word_at l.n l.depth (symbols_of_group l c.args.group.now) k [] lk in
    rw (new, before) at near
