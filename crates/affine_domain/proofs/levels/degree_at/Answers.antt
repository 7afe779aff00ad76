use Rattle.std.proofs.Common.{◌≡◌, ◌<◌, ◌≤◌, ◌+◌, ℕ, sym, subst, arith}
use Rattle.theory_affine.specs.Monomials.{below_degree}
use Rattle.theory_affine.proofs.Nested.{degree_at-few_variables, degree_at-is, below-zero, below-many}
use Rattle.affine_domain.proofs.levels.degree_at.Goals as goal

pub returns-then-vars-lt2 : goal.returns-then-vars-lt2
returns-then-vars-lt2 c = degree_at-few_variables c.args.vars c.args.i c.if-vars-lt2.true

pub loop-high-init : goal.loop-high-init
loop-high-init c =
    let zero : below_degree c.args.vars 0 ≡ 0 = below-zero c.args.vars in
    let many : 150000 < below_degree c.args.vars 1024 = below-many c.args.vars (omega (arith, c.if-vars-lt2.false)) c.requires.vars in
    let few : c.args.i < 142880 = c.requires.i in
    record { low_is = omega arith; high_is = omega arith; order = omega arith; most = omega arith }

pub returns : goal.returns
returns c =
    let two : 2 ≤ c.args.vars = omega (arith, c.if-vars-lt2.false) in
    let order : c.loop-high.low < c.loop-high.high = c.loop-high.invariant.order in
    let next : c.loop-high.high ≡ c.loop-high.low + 1 = omega (arith, c.loop-high-test.false) in
    sym (degree_at-is c.args.vars c.args.i c.loop-high.low (omega arith) c.requires.vars c.loop-high.invariant.low_is
    (subst (λ (n : ℕ). c.args.i < below_degree c.args.vars n) next c.loop-high.invariant.high_is))
