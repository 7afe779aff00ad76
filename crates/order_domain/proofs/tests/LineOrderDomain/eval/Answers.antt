use Rattle.std.proofs.Common.{◌≡◌, ◌<◌, ℕ, ◌+◌, ◌^◌, ◌∙◌, subst, refl, add-one, arith}
use Rattle.gf_theory.specs.Field.{gf_mul, gf_pow}
use Rattle.order_domain.proofs.tests.LineOrderDomain.eval.Goals as goal

one_more : (bits m x v k : ℕ) → bits ≡ 2 → v ≡ gf_pow 2 m x k → gf_mul bits m x v ≡ gf_pow 2 m x (k + 1)
unfolding gf_pow
one_more bits m x v k e f = rw (add-one, e, f) refl

pub loop-init : goal.loop-init
unfolding gf_pow
loop-init g c = record { power = refl; symbol = omega arith }

pub loop-preserved : goal.loop-preserved
loop-preserved g c = record {
  power = c.mul-value.ensures.product ∙ one_more _ _ _ _ c.loop.counter c.requires.bits c.loop.invariant.power;
  symbol = subst (λ (n : ℕ). c.mul-value.result < 2 ^ n) c.requires.bits c.mul-value.ensures.element;
}
