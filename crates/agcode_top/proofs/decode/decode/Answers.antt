use Rattle.std.proofs.Common.{◌∙◌, ap}
use Rattle.agcode_top.specs.Leaves.{decoded, salvaged}
use Rattle.agcode_top.proofs.StreamLemmas.{decode-did, salvage-did, same-form, sound-form}
use Rattle.agcode_top.proofs.decode.decode.Goals as goal

pub returns-then-asked-clause-leaves : goal.returns-then-asked-clause-leaves
returns-then-asked-clause-leaves g c = salvaged c.if-asked.true
    (salvage-did c.args.described.now _ _ _ _ c.salvage_stream-answer.result _
    (same-form c.args.described.now c.code-code.result.now c.layout_of-layout.result _ c.code-code.ensures.plain c.in-Ok.ensures.layout
    (c.layout_of-layout.ensures.depth ∙ c.depth.ensures.depth) (c.layout_of-layout.ensures.packed ∙ c.is_packed.ensures))
    (sound-form c.args.described.now c.code-code.result.now _ c.code-code.ensures.descriptor c.in-Ok.ensures.fits.layout
    (ap (λ l. l.depth) c.in-Ok.ensures.layout ∙ c.layout_of-layout.ensures.depth ∙ c.depth.ensures.depth))
    c.salvage_status_of.ensures c.salvage_stream-answer.ensures.salvaged c.salvage_stream-answer.ensures.alike c.salvage_stream-answer.ensures.complete)

pub returns-clause-leaves : goal.returns-clause-leaves
returns-clause-leaves g c = decoded c.if-asked.false
    (decode-did c.args.described.now _ _ _ _ c.decode_stream.result _
    (same-form c.args.described.now c.code-code.result.now c.layout_of-layout.result _ c.code-code.ensures.plain c.in-Ok.ensures.layout
    (c.layout_of-layout.ensures.depth ∙ c.depth.ensures.depth) (c.layout_of-layout.ensures.packed ∙ c.is_packed.ensures))
    (sound-form c.args.described.now c.code-code.result.now _ c.code-code.ensures.descriptor c.in-Ok.ensures.fits.layout
    (ap (λ l. l.depth) c.in-Ok.ensures.layout ∙ c.layout_of-layout.ensures.depth ∙ c.depth.ensures.depth))
    c.status_of.ensures c.decode_stream.ensures.decoded c.decode_stream.ensures.complete)
