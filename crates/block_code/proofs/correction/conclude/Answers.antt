use Rattle.std.proofs.Common.{ℕ, List, ◌∙◌, ap, subst}
use Rattle.order_theory.specs.Codes.{low_bits}
use Rattle.vote_core.specs.Found.{IsOnlyError, IsFar, IsAnswer}
use Rattle.vote_core.specs.declared.voter.Found.{Found}
use Rattle.block_code.proofs.Verdicts.{far_word, error_verdict, error_ledger, settled_at}
use Rattle.block_code.proofs.correction.conclude.Goals as goal

pub returns-in-Error-clause-verdict : goal.returns-in-Error-clause-verdict
returns-in-Error-clause-verdict g c =
    let code = c.args.code.now in
    let got : List ℕ = c.args.got.now in
    let err : List ℕ = c.args.err.now in
    let only : IsOnlyError code.basis code.marks code.radius (low_bits code.basis.bits got) err =
    subst (λ (f : Found). IsAnswer code.basis code.marks code.radius (low_bits code.basis.bits got) err f) c.in-Error.is c.requires.answer in
    error_verdict code c.n.ensures.made got c.requires.received err only c.settle.new.word c.settle.result
    (settled_at got c.settle.new.word c.settle.result c.bits.ensures c.radius.ensures.value c.copy_from_slice.ensures.after c.settle.ensures)

pub returns-in-Error-clause-ledger : goal.returns-in-Error-clause-ledger
returns-in-Error-clause-ledger g c some =
    let code = c.args.code.now in
    let got : List ℕ = c.args.got.now in
    let err : List ℕ = c.args.err.now in
    let only : IsOnlyError code.basis code.marks code.radius (low_bits code.basis.bits got) err =
    subst (λ (f : Found). IsAnswer code.basis code.marks code.radius (low_bits code.basis.bits got) err f) c.in-Error.is c.requires.answer in
    error_ledger code c.n.ensures.made got c.requires.received err only c.settle.new.word c.settle.result
    (settled_at got c.settle.new.word c.settle.result c.bits.ensures c.radius.ensures.value c.copy_from_slice.ensures.after c.settle.ensures) some

pub returns-in-Far-clause-verdict : goal.returns-in-Far-clause-verdict
returns-in-Far-clause-verdict g c =
    let code = c.args.code.now in
    let got : List ℕ = c.args.got.now in
    let err : List ℕ = c.args.err.now in
    let far : IsFar code.basis code.marks code.radius (low_bits code.basis.bits got) err =
    subst (λ (f : Found). IsAnswer code.basis code.marks code.radius (low_bits code.basis.bits got) err f) c.in-Far.is c.requires.answer in
    far_word code c.n.ensures.made got c.requires.received err c.write_low_bits.new.word far
    (c.write_low_bits.ensures ∙ ap (λ (bits : ℕ). low_bits bits got) c.bits-in-Far.ensures)
