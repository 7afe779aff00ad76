use Rattle.std.proofs.Common.{ℕ, List, ◌∙◌, subst, sym}
use Rattle.vote_core.specs.Found.{IsAnswer}
use Rattle.block_code.proofs.Pursuing.{can_pursue, differences_word, answer_is}
use Rattle.block_code.proofs.correction.pursue.Goals as goal

pub start-requires-clause-can : goal.start-requires-clause-can
start-requires-clause-can g c =
    can_pursue c.args.code.now c.n.ensures.made c.basis-basis.result.now c.basis-basis.ensures.value c.args.poll.now c.classes-classes.result.now c.requires.fits c.requires.values c.classes-classes.ensures.classes c.classes-classes.ensures.few

pub start-requires-clause-word : goal.start-requires-clause-word
start-requires-clause-word g c =
    differences_word c.args.code.now c.n.ensures.made c.basis-basis.result.now c.basis-basis.ensures.value c.args.got.now c.requires.received c.args.word.now c.requires.codeword c.bits.result c.write_differences.new.differences c.write_differences.ensures c.bits.ensures

pub narrow-requires-clause-row : goal.narrow-requires-clause-row
narrow-requires-clause-row g c = (c.in-Row.ensures.comes c.args.poll.now.voter c.write_differences.new.differences c.steps.invariant.pursues).inside

pub steps-smaller-in_default : goal.steps-smaller-in_default
steps-smaller-in_default g c = (c.in-Row.ensures.comes c.args.poll.now.voter c.write_differences.new.differences c.steps.invariant.pursues).goes_on.fewer

pub steps-preserved-in_default : goal.steps-preserved-in_default
steps-preserved-in_default g c =
    let inv = c.steps.invariant in record {
      pursues = (c.in-Row.ensures.comes c.args.poll.now.voter c.write_differences.new.differences inv.pursues).goes_on.pursues;
      rest = c.step.ensures.numbers ∙ inv.rest;
      values = c.step.ensures.room ∙ inv.values;
      guess = c.try_guess.ensures.guess ∙ c.narrow.ensures ∙ inv.guess;
      symbols = c.try_guess.ensures.symbols ∙ inv.symbols;
      positions = c.try_guess.ensures.positions ∙ inv.positions;
    }

pub steps-smaller-else-narrow : goal.steps-smaller-else-narrow
steps-smaller-else-narrow g c = (c.in-Row.ensures.comes c.args.poll.now.voter c.write_differences.new.differences c.steps.invariant.pursues).goes_on.fewer

pub steps-preserved-else-narrow : goal.steps-preserved-else-narrow
steps-preserved-else-narrow g c =
    let inv = c.steps.invariant in record {
      pursues = (c.in-Row.ensures.comes c.args.poll.now.voter c.write_differences.new.differences inv.pursues).goes_on.pursues;
      rest = c.step.ensures.numbers ∙ inv.rest;
      values = c.step.ensures.room ∙ inv.values;
      guess = c.narrow.ensures ∙ inv.guess;
      symbols = inv.symbols;
      positions = inv.positions;
    }

pub steps-smaller : goal.steps-smaller
steps-smaller g c = (c.in-Elected.ensures.comes c.args.poll.now.voter c.write_differences.new.differences c.steps.invariant.pursues).fewer

pub steps-preserved : goal.steps-preserved
steps-preserved g c =
    let inv = c.steps.invariant in record {
      pursues = (c.in-Elected.ensures.comes c.args.poll.now.voter c.write_differences.new.differences inv.pursues).pursues;
      rest = c.step.ensures.numbers ∙ inv.rest;
      values = c.step.ensures.room ∙ inv.values;
      guess = c.again.ensures ∙ inv.guess;
      symbols = inv.symbols;
      positions = inv.positions;
    }

pub conclude-requires-clause-answer : goal.conclude-requires-clause-answer
conclude-requires-clause-answer g c =
    let v = c.args.poll.now.voter in
    let list : List ℕ = c.write_differences.new.differences in
    answer_is c.args.code.now c.n.ensures.made c.basis-basis.result.now c.basis-basis.ensures.value c.args.got.now c.requires.received c.args.word.now c.requires.codeword c.bits.result list c.write_differences.ensures c.bits.ensures
    v c.requires.fits c.error.result.now c.in-Ended.found
    (subst (λ (e : List ℕ). IsAnswer c.basis-basis.result.now v.marks v.t list e c.in-Ended.found) (sym c.error.ensures.error)
    (c.in-Ended.ensures.comes v list c.steps.invariant.pursues).answer)
