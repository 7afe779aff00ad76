use Rattle.std.proofs.Common.{◌≡◌, None, rules}
use Rattle.cab_curve.specs.First.{first_of}
use Rattle.code_descriptor.specs.Tests.{refusals}
use Rattle.code_descriptor.specs.Built.{space_of}
use Rattle.code_descriptor.specs.Views.{named_of}
use Rattle.code_descriptor.proofs.Sound.{built}
use Rattle.code_descriptor.proofs.parts.descriptor.Goals as goal

pub returns-in_err-depth : goal.returns-in_err-depth
unfolding refusals
returns-in_err-depth c = search rules depth 9

pub new-requires : goal.new-requires
unfolding refusals
new-requires c =
    let none : first_of (refusals (named_of c.args.named.now)) ≡ None = search rules depth 9 in
    built (named_of c.args.named.now) c.in_ok-field.field.bits c.in_ok-field.field.modulus (space_of c.in_ok-space.space) c.in_ok-points.points c.in_ok-rule.rule c.in_ok-depth.depth c.in_ok-packed.packed
    none (search rules) (search rules) (search rules) (search rules) (search rules) (search rules) (search rules)
