use Rattle.std.proofs.Common.{◌∙◌, ap, ℕ, ◌*◌, List, subst}
use Rattle.agcode_top.specs.Calls.{sink_call}
use Rattle.agcode_top.specs.Filled.{FillLeaves}
use Rattle.agcode_top.proofs.EraseLemmas.{erase-fault, erase-read}
use Rattle.agcode_top.proofs.erase.erase.Goals as goal

pub returns-in-Err-clause-leaves : goal.returns-in-Err-clause-leaves
returns-in-Err-clause-leaves g c = λ w.
    erase-fault w c.args.described.now _ _ _ _ _ _ (ap (λ (k : ℕ). 2 * k) (c.n-n.ensures.value ∙ c.code.ensures.plain.n_is)) c.in-Err.status c.in-Err.ensures.fault

pub returns-in-Ok-clause-leaves : goal.returns-in-Ok-clause-leaves
returns-in-Ok-clause-leaves g c = λ w.
    let out = sink_call g.O.Sink c.args.out.now c.fill_marked.new.out in
    let report = sink_call g.R.Sink c.args.report.now c.fill_marked.new.report in
    erase-read w c.args.described.now _ out report c.in-Ok.got.items c.in-Ok.ensures.word
    (c.in-Ok.ensures.long ∙ ap (λ (k : ℕ). 2 * k) (c.n-n.ensures.value ∙ c.code.ensures.plain.n_is)) c.in-Ok.ensures.ended c.in-Ok.ensures.well
    c.fill_marked.result (subst (λ (got : List ℕ). FillLeaves c.args.described.now got out report c.fill_marked.result) c.deref.ensures.value c.fill_marked.ensures.leaves)
