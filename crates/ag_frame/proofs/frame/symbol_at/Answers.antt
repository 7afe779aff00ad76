use Rattle.std.proofs.Common.{◌*◌, ◌<◌, ◌∙◌, subst, sym}
use Rattle.stored_form.specs.Bits.{bits_of_symbols}
use Rattle.stored_form.specs.Symbols.{symbol_values}
use Rattle.ag_frame.proofs.PackedSymbols.{stored_symbols-at, stored_symbol_below}
use Rattle.ag_frame.proofs.frame.symbol_at.Goals as goal

pub returns-then-layout-clause-value : goal.returns-then-layout-clause-value
returns-then-layout-clause-value c =
    let l = c.args.layout.now in
    c.packed_at.ensures ∙ stored_symbols-at l.packed l.bits (l.n * l.depth) c.args.place c.args.group.now c.if-layout.true c.requires.place

pub returns-then-layout-clause-fits : goal.returns-then-layout-clause-fits
returns-then-layout-clause-fits c =
    let l = c.args.layout.now in
    subst (λ v. v < symbol_values l.packed l.bits) (sym c.packed_at.ensures) (stored_symbol_below l.packed l.bits (c.args.place * l.bits) (bits_of_symbols 8 c.args.group.now) c.if-layout.true)
