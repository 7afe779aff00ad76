use Rattle.std.proofs.Common.{◌^◌, ◌<◌, ◌∙◌, arith}
use Rattle.std.proofs.lemmas.Nat.{pow_below}
use Rattle.gf_theory.specs.Field.{IsModulus}
use Rattle.gf_linear.proofs.Joins.{beside_symbols, duals_none, duals_found, duals_symbols}
use Rattle.gf_linear.proofs.duals.find_duals.Goals as goal

pub reduce-requires-clause-symbols : goal.reduce-requires-clause-symbols
reduce-requires-clause-symbols g c =
    let f = c.args.f.now in
    let b = g.F.Field.bits_of f in
    let h : IsModulus b (g.F.Field.modulus_of f) = g.met.F.Field.is_modulus f in
    let one : 2 ^ 0 < 2 ^ b = pow_below 0 b (omega (arith, h.at_least_two)) in
    beside_symbols b c.args.n c.args.entries.now c.join_unit.new.joined one c.requires.symbols (c.join_unit.auto.joined ∙ c.requires.wide) c.join_unit.ensures

pub returns-then-reduce-n-clause-dependent : goal.returns-then-reduce-n-clause-dependent
returns-then-reduce-n-clause-dependent g c =
    let f = c.args.f.now in
    let b = g.F.Field.bits_of f in
    let md = g.F.Field.modulus_of f in
    let h : IsModulus b md = g.met.F.Field.is_modulus f in
    let one : 2 ^ 0 < 2 ^ b = pow_below 0 b (omega (arith, h.at_least_two)) in
    duals_none b md c.args.n c.reduce.result c.args.entries.now c.join_unit.new.joined c.reduce.new.m h c.requires.symbols
    (beside_symbols b c.args.n c.args.entries.now c.join_unit.new.joined one c.requires.symbols (c.join_unit.auto.joined ∙ c.requires.wide) c.join_unit.ensures)
    c.reduce.ensures.symbols c.join_unit.ensures c.reduce.ensures.reduced c.reduce.ensures.span c.if-reduce-n.true

pub returns-clause-dual : goal.returns-clause-dual
returns-clause-dual g c =
    let f = c.args.f.now in
    let b = g.F.Field.bits_of f in
    let md = g.F.Field.modulus_of f in
    let h : IsModulus b md = g.met.F.Field.is_modulus f in
    let one : 2 ^ 0 < 2 ^ b = pow_below 0 b (omega (arith, h.at_least_two)) in
    duals_found b md c.args.n c.reduce.result c.args.entries.now c.join_unit.new.joined c.reduce.new.m h c.requires.symbols
    (beside_symbols b c.args.n c.args.entries.now c.join_unit.new.joined one c.requires.symbols (c.join_unit.auto.joined ∙ c.requires.wide) c.join_unit.ensures)
    c.reduce.ensures.symbols c.join_unit.ensures c.reduce.ensures.reduced c.reduce.ensures.span c.read_columns.new.entries c.if-reduce-n.false c.read_columns.ensures

pub returns-clause-symbols : goal.returns-clause-symbols
returns-clause-symbols g c =
    let f = c.args.f.now in
    let b = g.F.Field.bits_of f in
    let md = g.F.Field.modulus_of f in
    let h : IsModulus b md = g.met.F.Field.is_modulus f in
    let one : 2 ^ 0 < 2 ^ b = pow_below 0 b (omega (arith, h.at_least_two)) in
    duals_symbols b md c.args.n c.reduce.result c.args.entries.now c.join_unit.new.joined c.reduce.new.m h c.requires.symbols
    (beside_symbols b c.args.n c.args.entries.now c.join_unit.new.joined one c.requires.symbols (c.join_unit.auto.joined ∙ c.requires.wide) c.join_unit.ensures)
    c.reduce.ensures.symbols c.join_unit.ensures c.reduce.ensures.reduced c.reduce.ensures.span c.read_columns.new.entries (c.read_columns.auto.entries ∙ c.requires.room) c.read_columns.ensures
