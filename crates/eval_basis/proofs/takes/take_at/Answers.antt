use Rattle.std.proofs.Common.{◌<◌, ◌^◌, ℕ, subst, sym}
use Rattle.std.proofs.lemmas.List.{length-set}
use Rattle.gf_theory.specs.Field.{gf_mul}
use Rattle.eval_basis.proofs.Stepping.{field_of}
use Rattle.eval_basis.proofs.ListSteps.{taken_here}
use Rattle.eval_basis.proofs.takes.take_at.Goals as goal

pub returns-clause-value : goal.returns-clause-value
returns-clause-value g c j l =
    let b = g.F.Field.bits_of c.args.f.now in
    let m = g.F.Field.modulus_of c.args.f.now in
    taken_here (2 ^ b) (gf_mul b m) (field_of b m c.bits.ensures.field) c.args.factor c.args.q c.mul-multiple.result j c.args.row.now c.add_scaled.new.dst c.args.products.now
    c.requires.list c.mul-multiple.ensures.product c.mul-multiple.ensures.element c.requires.one
    (c.add_scaled.ensures.value j (subst (λ (s : ℕ). j < s) (sym (length-set c.args.row.now c.args.q 0)) l))
