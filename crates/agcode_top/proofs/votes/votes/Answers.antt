use Rattle.std.proofs.Common.{◌∙◌, ◌<◌, All, ap, sym, subst, List, ℕ}
use Rattle.vote_core.specs.declared.ledger.VoteLine.{VoteLine}
use Rattle.coded_block.specs.declared.Verdict.TheVariants.{Near}
use Rattle.block_code.specs.Decoding.{ledger_after}
use Rattle.agcode_top.proofs.WordLemmas.{votes-fault, wanting-word, votes-near, votes-far, near-plain, far-plain, ledger-plain}
use Rattle.agcode_top.proofs.votes.votes.Goals as goal

pub returns-in-Err-clause-leaves : goal.returns-in-Err-clause-leaves
returns-in-Err-clause-leaves g c = λ w tells report. votes-fault w _ _ _ _ tells _ report _ (c.n-n.ensures.value ∙ c.code-code.ensures.plain.n_is) c.in-Err.ensures.fault

pub returns-in-Beyond-clause-leaves : goal.returns-in-Beyond-clause-leaves
returns-in-Beyond-clause-leaves g c = λ w tells report.
    votes-far w c.args.described.now _ _ tells _ report c.in-Ok-read_word.got.items c.in-Ok-read_word.ensures.word
    (c.in-Ok-read_word.ensures.long ∙ c.n-n.ensures.value ∙ c.code-code.ensures.plain.n_is) c.in-Ok-read_word.ensures.ended c.in-Ok-read_word.ensures.well
    (far-plain _ _ _ c.decode_block.new.word c.code-code.ensures.plain c.n-n.ensures.made (rw (← c.deref.ensures.value) c.in-Beyond.ensures.verdict))

pub returns-in-Ok-votes_text-clause-leaves : goal.returns-in-Ok-votes_text-clause-leaves
returns-in-Ok-votes_text-clause-leaves g c = λ w tells report.
    votes-near w c.args.described.now _ _ tells report c.in-Ok-read_word.got.items _ c.in-Ok-read_word.ensures.word
    (c.in-Ok-read_word.ensures.long ∙ c.n-n.ensures.value ∙ c.code-code.ensures.plain.n_is) c.in-Ok-read_word.ensures.ended c.in-Ok-read_word.ensures.well
    c.decode_block.new.word c.deref-in-Ok-votes_text.result.now c.ledger.result.now
    (near-plain _ _ _ c.decode_block.new.word c.in-Near.changes c.code-code.ensures.plain c.n-n.ensures.made (rw (← c.deref.ensures.value) c.in-Near.ensures.verdict))
    (ledger-plain _ _ c.in-Ok-read_word.got.items c.decode_block.new.word c.in-Near.changes c.ledger.result.now c.code-code.ensures.plain
    (c.ledger.ensures ∙ ap (λ b. b.ledger) c.in-Near.ensures.bench
    ∙ ap (λ (y : List ℕ). ledger_after c.code-code.result.now y c.decode_block.new.word (Near c.in-Near.changes)) c.deref.ensures.value))
    (subst (λ (lines : List VoteLine). All (λ line. line.wrong < line.right) lines) (sym c.ledger.ensures) c.in-Near.ensures.majority)
    (c.deref-in-Ok-votes_text.ensures.value ∙ c.in-Ok-votes_text.ensures)
    c.answer.ensures.leaves

pub returns-clause-leaves : goal.returns-clause-leaves
returns-clause-leaves g c = λ w tells report.
    wanting-word w c.args.described.now _ _ tells _ report c.in-Ok-read_word.got.items c.in-Ok-read_word.ensures.word
    (c.in-Ok-read_word.ensures.long ∙ c.n-n.ensures.value ∙ c.code-code.ensures.plain.n_is) c.in-Ok-read_word.ensures.well
