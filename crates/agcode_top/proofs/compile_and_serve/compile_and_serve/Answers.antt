use Rattle.std.proofs.Common.{refl, ap, Err}
use Rattle.code_descriptor.specs.declared.DescCause.TheVariants.{NoPoints, NothingFree}
use Rattle.agcode_top.specs.Leaves.{no_code, made}
use Rattle.agcode_top.proofs.RunLemmas.{takes-code, has_points-from, points-some, points-none, code-not-space, serve-same}
use Rattle.agcode_top.proofs.compile_and_serve.compile_and_serve.Goals as goal

pub returns-in-Ok-clause-leaves : goal.returns-in-Ok-clause-leaves
returns-in-Ok-clause-leaves g c =
    made
    (takes-code _ c.args.descriptor (has_points-from c.args.descriptor.points (points-some _ _ _ c.is_empty.ensures c.if-is_empty.false c.points.ensures.points)) c.in-Ok.ensures.some_free)
    (serve-same _ _ _ c.args.descriptor _ _ _ _ c.in-Ok.ensures.parts c.serve.ensures.leaves)

pub returns-then-is_empty-clause-leaves : goal.returns-then-is_empty-clause-leaves
returns-then-is_empty-clause-leaves g c =
    no_code NoPoints refl (code-not-space _ c.requires.code, points-none _ _ c.args.descriptor.points c.is_empty.ensures c.if-is_empty.true c.points.ensures.points)
    (record { input_still = refl; out_still = refl; report_still = refl })

pub returns-in-Err-NothingFree-clause-leaves : goal.returns-in-Err-NothingFree-clause-leaves
returns-in-Err-NothingFree-clause-leaves g c =
    no_code NothingFree refl (
      c.requires.code,
      has_points-from c.args.descriptor.points (points-some _ _ _ c.is_empty.ensures c.if-is_empty.false c.points.ensures.points),
      c.in-Err-NothingFree.ensures.nothing_free (ap Err c.in-Err-NothingFree.field-0-is),
    )
    (record { input_still = refl; out_still = refl; report_still = refl })
