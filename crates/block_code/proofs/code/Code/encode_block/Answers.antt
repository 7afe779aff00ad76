use Rattle.std.proofs.Common.{◌≡◌, List, ℕ, sym, ◌∙◌, ap, subst}
use Rattle.block_theory.specs.Checks.{ParityChecks, IsWordOf}
use Rattle.block_theory.specs.Blocks.{word_of}
use Rattle.block_code.specs.Compiled.{checks_in, IsMade}
use Rattle.block_code.proofs.Made.{word_is}
use Rattle.block_code.proofs.code.Code.encode_block.Goals as goal

pub returns-clause-value : goal.returns-clause-value
returns-clause-value g c =
    let code = c.args.self.now in
    let msg : List ℕ = c.args.msg.now in
    let made : IsMade code = subst IsMade c.self.view_is c.self.invariant.made in
    let same : c.self.inside.parity ≡ checks_in code = c.self.invariant.parity_is ∙ ap checks_in c.self.view_is in
    sym (c.complete.ensures.only (word_of (checks_in code) msg)
    (subst (λ (v : ParityChecks). IsWordOf v msg (word_of (checks_in code) msg)) (sym same) (word_is code made msg c.requires.message)))
