use Rattle.std.proofs.Common.{◌*◌, ◌+◌, ◌<◌, ◌^◌, length, slice_index, rules}
use Rattle.std.proofs.lemmas.List.Elements.{All-set}
use Rattle.gf_theory.specs.Field.{gf_mul}
use Rattle.product_classes.proofs.Sums.{class_more, others_more}
use Rattle.product_classes.proofs.columns.write_class.Goals as goal

pub loop-q-preserved : goal.loop-q-preserved
loop-q-preserved g c =
    let a = c.args in
    let w = c.args.width in
    let q = c.loop-q.q in
    let columns = c.loop-q.columns in
    let inside : q * w + a.class < length columns = search rules in
    record {
      symbols = All-set (λ x. x < 2 ^ g.F.Field.bits_of c.args.f.now) columns (q * w + a.class) c.mul.result c.mul.ensures.element c.loop-q.invariant.symbols;
      value = class_more w a.class q c.mul.result 0 (λ p. gf_mul (g.F.Field.bits_of c.args.f.now) (g.F.Field.modulus_of c.args.f.now) (slice_index a.left.now (a.first + p)) (slice_index a.right.now (a.first + p)))
          a.columns.now columns c.requires.class inside c.mul.ensures.product c.loop-q.invariant.value;
      others = others_more w a.class q c.mul.result a.columns.now columns c.requires.class c.loop-q.invariant.others;
    }
