use Rattle.std.proofs.Common.{◌≤◌, eq-eqb, eqb-true, sym, ◌∙◌, subst}
use Rattle.std.proofs.lemmas.Nat.Gcd.{same_from_IsGcd}
use Rattle.std.specs.Int.{IsGcd}
use Rattle.weight_semi.proofs.are_generators.Goals as goal
use Rattle.weight_semi.proofs.are_generators.Goals.{then-is_small, else-is_small}

pub returns-then-is_small-2 : goal.returns-then-is_small-2
returns-then-is_small-2 c =
    let a = c.args.a in
    let b = c.args.b in
    let g = c.greatest_common_divisor.result in
    elim c.if-is_small.branch [
      | then-is_small w ↦
          let a_range : (2 ≤ a) × (a ≤ 32) = c.is_small.ensures.0 w.if-is_small.true in
          let b_range : (2 ≤ b) × (b ≤ 32) = w.is_small-then-is_small.ensures.0 (sym w.value-is ∙ c.if-is_small-2.true) in (
            λ h. record {
              a_least = a_range.0;
              a_most = a_range.1;
              b_least = b_range.0;
              b_most = b_range.1;
              coprime = subst (λ d. IsGcd a b d) (eqb-true g 1 h) c.greatest_common_divisor.ensures;
            },
            λ h. eq-eqb g 1 (same_from_IsGcd a b g 1 c.greatest_common_divisor.ensures h.coprime),
          )
      | else-is_small w ↦ absurd (cc)
    ]
