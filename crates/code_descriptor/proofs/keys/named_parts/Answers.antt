use Rattle.std.proofs.Common.{rules}
use Rattle.std.proofs.lemmas.Result.{err_from_is_err_and}
use Rattle.toml.specs.Data.{Members}
use Rattle.toml.specs.View.{table_view}
use Rattle.code_descriptor.proofs.KeyOrder.{space_first, code_first, none_first}
use Rattle.code_descriptor.proofs.keys.named_parts.Goals as goal

pub returns-in_err-space : goal.returns-in_err-space
returns-in_err-space c =
    let t : Members = table_view c.args.table.now in
    let e = err_from_is_err_and c.from_residual-in_err-space.result c.from_residual-in_err-space.ensures.1 in
    rw (e.1, e.2)
    (space_first t c.in_ok-bits.bits c.in_ok-modulus.modulus c.in_ok-bits.ensures c.in_ok-modulus.ensures
    c.in_err-space.field-0.0 c.in_err-space.ensures)

pub returns-in_err-code : goal.returns-in_err-code
returns-in_err-code c =
    let t : Members = table_view c.args.table.now in
    let e = err_from_is_err_and c.from_residual-in_err-code.result c.from_residual-in_err-code.ensures.1 in
    rw (e.1, e.2)
    (code_first t c.in_ok-bits.bits c.in_ok-modulus.modulus c.in_ok-bits.ensures c.in_ok-modulus.ensures
    c.in_err-code.field-0.0 c.in_ok-space.ensures.0 c.in_err-code.ensures)

pub returns : goal.returns
returns c =
    let t : Members = table_view c.args.table.now in (
      none_first t c.in_ok-bits.bits c.in_ok-modulus.modulus c.in_ok-bits.ensures c.in_ok-modulus.ensures
          c.in_ok-space.ensures.0 c.in_ok-code.ensures.0,
      record {
        bits = search rules;
        modulus = search rules;
        space = c.in_ok-space.ensures.1;
        points = c.in_ok-code.ensures.1.points;
        rule = c.in_ok-code.ensures.1.rule;
        packed = c.in_ok-code.ensures.1.packed;
        depth = c.in_ok-code.ensures.1.depth;
      },
    )
