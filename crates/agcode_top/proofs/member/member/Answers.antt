use Rattle.std.proofs.Common.{sym, ◌∙◌}
use Rattle.agcode_top.proofs.WordLemmas.{member-fault, member-yes, member-no, in-code, not-true}
use Rattle.agcode_top.proofs.member.member.Goals as goal

pub returns-in-Err-clause-leaves : goal.returns-in-Err-clause-leaves
returns-in-Err-clause-leaves g c = λ w tells report. member-fault w _ _ _ _ tells _ report _ (c.n.ensures.value ∙ c.code-code.ensures.plain.n_is) c.in-Err.ensures.fault

pub returns-then-member-clause-leaves : goal.returns-then-member-clause-leaves
returns-then-member-clause-leaves g c = λ w tells report.
    member-yes w c.args.described.now _ _ tells report c.in-Ok.word.items _ c.in-Ok.ensures.word
    (c.in-Ok.ensures.long ∙ c.n.ensures.value ∙ c.code-code.ensures.plain.n_is) c.in-Ok.ensures.ended c.in-Ok.ensures.well
    (in-code _ _ _ _ (c.parity.ensures ∙ c.code-code.ensures.plain.checks_are) c.deref.ensures.value (c.member.ensures.0 c.if-member.true))
    c.answer.ensures.leaves

pub returns-clause-leaves : goal.returns-clause-leaves
returns-clause-leaves g c = λ w tells report.
    member-no w c.args.described.now _ _ tells report c.in-Ok.word.items _ c.in-Ok.ensures.word
    (c.in-Ok.ensures.long ∙ c.n.ensures.value ∙ c.code-code.ensures.plain.n_is) c.in-Ok.ensures.ended c.in-Ok.ensures.well
    (λ k. not-true _ c.if-member.false (c.member.ensures.1 (in-code _ _ _ _ (sym (c.parity.ensures ∙ c.code-code.ensures.plain.checks_are)) (sym c.deref.ensures.value) k)))
    c.answer-else-member.ensures.leaves
