use Rattle.std.proofs.Common.{refl, ap, Err, sym, ◌∙◌}
use Rattle.command_words.specs.declared.words.Command.TheVariants.{Points, Design}
use Rattle.agcode_top.specs.Calls.{Call, call}
use Rattle.agcode_top.specs.Leaves.{refused, made}
use Rattle.agcode_top.proofs.RunLemmas.{carry_out-at, carry_out-compiled, takes-all, read-describes, read-refused}
use Rattle.agcode_top.proofs.DesignLemmas.{needs-Space, needs-Basis}
use Rattle.agcode_top.proofs.carry_out.carry_out.Goals as goal

pub returns-in-Space-clause-leaves : goal.returns-in-Space-clause-leaves
returns-in-Space-clause-leaves g c =
    let run : Call = call g.D.Source c.args.desc.now c.read_text.new.desc g.I.Source c.args.input.now c.args.input.now
    g.O.Sink c.args.out.now c.points.new.out g.R.Sink c.args.report.now c.args.report.now in
    carry_out-at _ _ Points run _ (needs-Space _ (sym c.needs_of.ensures ∙ c.in-Space.is))
    (carry_out-compiled _ Points c.in-Ok-read.descriptor run _
    (λ told. read-describes _ _ _ c.in-Ok-read.descriptor c.deref.ensures.value (c.in-Ok.ensures.text told) c.in-Ok-read.ensures.accepted)
    c.in-Ok.ensures.well
    (made (takes-all Points c.in-Ok-read.descriptor refl) (c.points.ensures.leaves _ _ _ _ _)))

pub returns-in-Basis-clause-leaves : goal.returns-in-Basis-clause-leaves
returns-in-Basis-clause-leaves g c =
    let run : Call = call g.D.Source c.args.desc.now c.read_text.new.desc g.I.Source c.args.input.now c.args.input.now
    g.O.Sink c.args.out.now c.design.new.out g.R.Sink c.args.report.now c.args.report.now in
    carry_out-at _ _ Design run _ (needs-Basis _ (sym c.needs_of.ensures ∙ c.in-Basis.is))
    (carry_out-compiled _ Design c.in-Ok-read.descriptor run _
    (λ told. read-describes _ _ _ c.in-Ok-read.descriptor c.deref.ensures.value (c.in-Ok.ensures.text told) c.in-Ok-read.ensures.accepted)
    c.in-Ok.ensures.well (c.design.ensures.leaves _ _ _ _))

pub returns-in-Err-Refused-clause-leaves : goal.returns-in-Err-Refused-clause-leaves
returns-in-Err-Refused-clause-leaves g c =
    refused _ refl
    (λ told. rw c.in-Err-Refused.cause-is (read-refused _ _ _ _ c.in-Err-Refused.cause c.deref.ensures.value (c.in-Ok.ensures.text told)
    (c.in-Err-Refused.ensures.refused c.in-Err-Refused.cause (ap Err c.in-Err-Refused.field-0-is))))
    c.in-Ok.ensures.well (record { input_still = refl; out_still = refl; report_still = refl })

pub returns-clause-leaves : goal.returns-clause-leaves
returns-clause-leaves g c =
    let run : Call = call g.D.Source c.args.desc.now c.read_text.new.desc g.I.Source c.args.input.now c.compile_and_serve.new.input
    g.O.Sink c.args.out.now c.compile_and_serve.new.out g.R.Sink c.args.report.now c.compile_and_serve.new.report in
    carry_out-compiled _ _ c.in-Ok-read.descriptor run _
    (λ told. read-describes _ _ _ c.in-Ok-read.descriptor c.deref.ensures.value (c.in-Ok.ensures.text told) c.in-Ok-read.ensures.accepted)
    c.in-Ok.ensures.well c.compile_and_serve.ensures.leaves
