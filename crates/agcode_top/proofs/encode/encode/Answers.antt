use Rattle.std.proofs.Common.{◌∙◌, refl}
use Rattle.agcode_top.specs.Leaves.{encoded}
use Rattle.agcode_top.proofs.StreamLemmas.{encode-did, same-form}
use Rattle.agcode_top.proofs.encode.encode.Goals as goal

pub returns-clause-leaves : goal.returns-clause-leaves
returns-clause-leaves g c = λ tells report. encoded
    (encode-did c.args.described.now _ _ _ c.encode_stream.result _
    (same-form c.args.described.now c.code-code.result.now c.layout_of-layout.result _ c.code-code.ensures.plain c.in-Ok.ensures.layout
    (c.layout_of-layout.ensures.depth ∙ c.depth.ensures.depth) (c.layout_of-layout.ensures.packed ∙ c.is_packed.ensures))
    c.status_of.ensures c.encode_stream.ensures.encoded c.encode_stream.ensures.complete) refl
