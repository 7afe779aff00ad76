use Rattle.std.proofs.Common.{◌≡◌, ◌<◌, ap, ◌∙◌, arith}
use Rattle.descriptor_design.proofs.Chosen.{few_kept, few_left, few_all}
use Rattle.descriptor_design.proofs.lines.small_members.Goals as goal
use Rattle.descriptor_design.proofs.lines.small_members.Goals.{then-checks+in_ok-push, else-checks}

pub loop-k-preserved : goal.loop-k-preserved
loop-k-preserved g c =
    let n_is : c.n-n.result ≡ c.args.basis.now.n = c.n-n.ensures.value in
    let low : c.loop-k.k < c.args.basis.now.n = omega (arith, c.loop-k-test.true) in
    elim c.if-checks.branch [
      | then-checks+in_ok-push w ↦
          ap (λ v. v.items) w.members-is
          ∙ few_kept c.args.basis.now c.args.want c.loop-k.k c.label.result c.pairs.result c.checks.result w.numbers_of.result c.loop-k.members.items w.push.new.self.items
          low c.label.ensures.value c.pairs.ensures.value c.checks.ensures w.if-checks.true w.numbers_of.ensures c.loop-k.invariant w.in_ok-push.ensures.items
      | else-checks w ↦
          ap (λ v. v.items) w.members-is
          ∙ few_left c.args.basis.now c.args.want c.loop-k.k c.label.result c.pairs.result c.checks.result c.loop-k.members.items
          low c.label.ensures.value c.pairs.ensures.value c.checks.ensures w.if-checks.false c.loop-k.invariant
    ]

pub returns : goal.returns
returns g c = few_all c.args.basis.now c.args.want c.loop-k.k c.n-n.result c.loop-k.members.items c.n-n.ensures.value c.loop-k-test.false c.loop-k.invariant
