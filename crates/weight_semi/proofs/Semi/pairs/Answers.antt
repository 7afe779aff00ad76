use Rattle.std.proofs.Common.{◌≡◌, ◌+◌, ◌-◌, ◌*◌, sym, ◌∙◌, ap, arith}
use Rattle.weight_semi.proofs.PairCount.{pairs-closed, pairs-no_member}
use Rattle.weight_semi.proofs.Semi.pairs.Goals as goal

pub returns-in-Some : goal.returns-in-Some
returns-in-Some c =
    let s = c.args.self.now in
    let i = c.in-Some.i in
    let j = c.in-Some.j in
    let rest : s.a - 1 - j ≡ s.a - (j + 1) = omega arith in
    ap (λ z. (j + 1) * (i + 1) + (s.a - 1 - j) * z) c.saturating_sub.ensures
    ∙ ap (λ z. (j + 1) * (i + 1) + z * (i + 1 - s.b)) rest
    ∙ sym (pairs-closed s.a s.b c.args.w i j s.generators.coprime c.in-Some.ensures.weight.0 c.in-Some.ensures.weight.1)

pub returns-in-None : goal.returns-in-None
returns-in-None c =
    let s = c.args.self.now in
    sym (pairs-no_member s.a s.b c.args.w (omega arith) (sym c.in-None.ensures.member))
