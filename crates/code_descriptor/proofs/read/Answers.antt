use Rattle.toml.specs.View.{table_view}
use Rattle.code_descriptor.specs.Meaning.{IsTable}
use Rattle.code_descriptor.proofs.Texts.{accepted, refused}
use Rattle.code_descriptor.proofs.read.Goals as goal

pub returns-in-Ok-clause-accepted : goal.returns-in-Ok-clause-accepted
returns-in-Ok-clause-accepted c =
    let is : IsTable c.args.text.now (table_view c.in-Ok.table) = record { small = c.if-text-gt-MOST_TEXT.false; utf8 = c.in-Ok.ensures.ok.0; document = c.in-Ok.ensures.ok.1 } in
    accepted c.args.text.now (table_view c.in-Ok.table) is c.read_table.result c.read_table.ensures

pub returns-in-Ok-clause-refused : goal.returns-in-Ok-clause-refused
returns-in-Ok-clause-refused c =
    let is : IsTable c.args.text.now (table_view c.in-Ok.table) = record { small = c.if-text-gt-MOST_TEXT.false; utf8 = c.in-Ok.ensures.ok.0; document = c.in-Ok.ensures.ok.1 } in
    refused c.args.text.now (table_view c.in-Ok.table) is c.read_table.result c.read_table.ensures
