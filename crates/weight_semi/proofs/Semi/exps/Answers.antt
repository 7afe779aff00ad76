use Rattle.std.proofs.Common.{sym, arith}
use Rattle.weight_semi.proofs.Exponents.{found, not_found}
use Rattle.weight_semi.proofs.Semi.exps.Goals as goal

pub returns-then-w-self-eq0-clause-member : goal.returns-then-w-self-eq0-clause-member
returns-then-w-self-eq0-clause-member c =
    sym (found c.args.self.now.a c.args.self.now.b c.args.w c.loop-j.j c.loop-j-test.true c.if-self-j.true c.if-w-self-eq0.true c.loop-j.invariant).member

pub returns-then-w-self-eq0-clause-exponents : goal.returns-then-w-self-eq0-clause-exponents
returns-then-w-self-eq0-clause-exponents c =
    let f = found c.args.self.now.a c.args.self.now.b c.args.w c.loop-j.j c.loop-j-test.true c.if-self-j.true c.if-w-self-eq0.true c.loop-j.invariant in
    (sym f.x_is, sym f.y_is)

pub returns-clause-member : goal.returns-clause-member
returns-clause-member c =
    sym (not_found c.args.self.now.a c.args.self.now.b c.args.w (λ k l. c.loop-j.invariant k (omega arith)))
