use Rattle.std.proofs.Common.{Bor, is_some, sym, ap, ◌∙◌}
use Rattle.toml.proofs.Views.{table_get}
use Rattle.toml.specs.View.{view}
use Rattle.toml.specs.declared.value.Value.{Value}
use Rattle.code_descriptor.proofs.Rows.{is_some-map}
use Rattle.code_descriptor.proofs.tree.is_there.Goals as goal

pub returns : goal.returns
returns c =
    let found = table_get c.get.result c.args.key.now c.args.table.now.entries c.get.ensures.value in
    c.is_some.ensures ∙ sym (is_some-map (λ (x : Bor Value). view x.now) c.get.result) ∙ ap is_some found
