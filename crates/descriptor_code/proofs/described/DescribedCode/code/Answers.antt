use Rattle.std.proofs.Common.{subst}
use Rattle.code_descriptor.specs.Parts.{Parts}
use Rattle.descriptor_code.specs.PlainLaws.{IsPlain}
use Rattle.descriptor_code.specs.Described.{parts_in}
use Rattle.descriptor_code.proofs.Plainly.{is_plain}
use Rattle.descriptor_code.proofs.described.DescribedCode.code.Goals as goal

pub returns-clause-plain : goal.returns-clause-plain
returns-clause-plain c =
    subst (λ (p : Parts). IsPlain p c.self.inside.code) c.self.view_is
    (is_plain (parts_in c.self.inside) c.self.inside.code c.self.invariant.descriptor c.self.invariant.code)
