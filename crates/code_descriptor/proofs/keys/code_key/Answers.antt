use Rattle.std.proofs.Common.{◌≡◌, Some, refl}
use Rattle.std.specs.List.{find}
use Rattle.std.proofs.lemmas.Result.{err_from_is_err_and}
use Rattle.toml.specs.Data.{Members}
use Rattle.toml.specs.View.{table_view}
use Rattle.code_descriptor.specs.Tree.{is_bad, code_keys}
use Rattle.code_descriptor.proofs.KeyOrder.{rule_first}
use Rattle.code_descriptor.proofs.keys.code_key.Goals as goal

pub returns-in_err-rule : goal.returns-in_err-rule
returns-in_err-rule c =
    let t : Members = table_view c.args.table.now in
    let k = c.in_err-rule.field-0.0 in
    let bad : find (is_bad t) code_keys ≡ Some k = rule_first t c.in_ok-points.points.items k c.in_ok-points.ensures c.in_err-rule.ensures in
    let e = err_from_is_err_and c.from_residual-in_err-rule.result c.from_residual-in_err-rule.ensures.1 in
    rw (e.1, e.2, bad) refl
