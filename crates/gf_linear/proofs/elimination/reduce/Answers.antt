use Rattle.std.proofs.Common.{◌^◌}
use Rattle.gf_theory.specs.Field.{gf_mul}
use Rattle.gf_theory.proofs.Fields.{field_of_bits}
use Rattle.linear_theory.proofs.Steps.{span_self, span_trans}
use Rattle.gf_linear.specs.Cells.{cell}
use Rattle.gf_linear.proofs.Forms.{reduced_start, cells_below}
use Rattle.gf_linear.proofs.elimination.reduce.Goals as goal

pub loop-j-init : goal.loop-j-init
loop-j-init g c =
    let f = c.args.f.now in
    let b = g.F.Field.bits_of f in
    let m = g.F.Field.modulus_of f in
    record {
      symbols = c.requires.symbols;
      reduced = reduced_start c.args.rows c.args.cols c.args.m.now;
      span = span_self (2 ^ b) (gf_mul b m) (field_of_bits b m (g.met.F.Field.is_modulus f)) c.args.cols (cell c.args.m.now c.args.cols) c.args.rows (cells_below b c.args.m.now c.args.cols c.requires.symbols);
    }

pub loop-j-preserved : goal.loop-j-preserved
loop-j-preserved g c =
    let f = c.args.f.now in
    let b = g.F.Field.bits_of f in
    let m = g.F.Field.modulus_of f in
    record {
      symbols = c.reduce_column-k.ensures.symbols;
      reduced = c.reduce_column-k.ensures.reduced;
      span = span_trans (2 ^ b) (gf_mul b m) (field_of_bits b m (g.met.F.Field.is_modulus f)) c.loop-j.invariant.span c.reduce_column-k.ensures.span;
    }
