use Rattle.std.proofs.Common.{◌≡◌, ℕ, ◌-◌, List, length, get_or, suc, sym, ◌∙◌, ap, arith}
use Rattle.field_theory.specs.Sums.{xor_sum}
use Rattle.gf_theory.specs.Field.{gf_mul}
use Rattle.curve_theory.specs.Normal.{weight_coefficient}
use Rattle.curve_theory.specs.Weights.{y_times_function}
use Rattle.cab_curve.proofs.Calls.{field_of}
use Rattle.cab_curve.proofs.Sums.{one_added, none_added}
use Rattle.cab_curve.proofs.relation.Relation.add_y_times_all.Goals.{in-Some, in_default}
use Rattle.cab_curve.proofs.relation.Relation.add_y_times_all.Goals as goal

pub loop-weight-preserved : goal.loop-weight-preserved
loop-weight-preserved g c = λ w. elim c.match-exps.branch [
  | in-Some b ↦
      one_added _ _ (field_of _ _ (g.met.F.Field.is_modulus c.args.f.now)) _ _ _ c.args.combination.now w c.loop-weight.weight _ _ _ _
      b.in-Some.ensures.exponents.0 b.in-Some.ensures.exponents.1 (c.loop-weight.invariant w) (ap (λ (s : List ℕ). get_or s w 0) b.sums-is ∙ b.add_y_times.ensures w)
  | in_default b ↦
      ap (λ (s : List ℕ). get_or s w 0) b.sums-is
      ∙ none_added _ _ (field_of _ _ (g.met.F.Field.is_modulus c.args.f.now)) _ _ _ c.args.combination.now w c.loop-weight.weight _
      (c.requires.members c.loop-weight.weight (sym b.in_default.ensures.member)) (c.loop-weight.invariant w)
]

pub returns : goal.returns
returns g c = λ w.
    let n : c.loop-weight.weight ≡ suc (length c.args.combination.now - 1) = omega arith in
    c.loop-weight.invariant w ∙ ap (λ (k : ℕ). xor_sum k (λ v. gf_mul (g.F.Field.bits_of c.args.f.now) (g.F.Field.modulus_of c.args.f.now) (get_or c.args.combination.now v 0)
    (weight_coefficient c.args.self.now.semi.a c.args.self.now.semi.b
    (y_times_function (gf_mul (g.F.Field.bits_of c.args.f.now) (g.F.Field.modulus_of c.args.f.now)) c.args.self.now.semi.a c.args.self.now.semi.b c.args.self.now.terms.items v) w))) n
