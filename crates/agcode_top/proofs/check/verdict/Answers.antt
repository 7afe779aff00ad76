use Rattle.std.proofs.Common.{◌∙◌}
use Rattle.agcode_top.proofs.TableLemmas.{says-plain, points-on, same-bits, some-points}
use Rattle.agcode_top.proofs.check.verdict.Goals as goal

pub check_table-requires-clause-bits : goal.check_table-requires-clause-bits
check_table-requires-clause-bits c = same-bits c.args.described.now c.code-code.result.now _ _ c.code-code.ensures.descriptor c.code-code.ensures.plain c.domain.ensures.domain c.field.ensures.bits

pub check_table-requires-clause-some_points : goal.check_table-requires-clause-some_points
check_table-requires-clause-some_points c = some-points c.args.described.now c.code-code.result.now _ c.code-code.ensures.plain c.basis.ensures.made c.points.ensures.points

pub check_table-requires-clause-on : goal.check_table-requires-clause-on
check_table-requires-clause-on c = points-on c.args.described.now _ _ _ c.points.ensures.on c.domain.ensures.domain (c.field.ensures.modulus ∙ c.code-code.ensures.plain.modulus_is) c.points.ensures.points

pub returns : goal.returns
returns c = says-plain c.args.described.now c.code-code.result.now _ _ _ _ _ _ c.domain.ensures.domain (c.field.ensures.modulus ∙ c.code-code.ensures.plain.modulus_is) c.points.ensures.points c.rule.ensures
    c.code-code.ensures.plain c.code-code.ensures.code c.basis.ensures.made c.check_table.ensures.verdict c.check_table.ensures.table
