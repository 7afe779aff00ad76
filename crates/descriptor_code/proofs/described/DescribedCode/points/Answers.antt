use Rattle.std.proofs.Common.{subst}
use Rattle.order_domain.specs.Domain.{AreOn}
use Rattle.code_descriptor.specs.Parts.{Parts}
use Rattle.descriptor_code.specs.Codes.{domain_of}
use Rattle.descriptor_code.specs.Described.{parts_in}
use Rattle.descriptor_code.proofs.Spaces.{points_on}
use Rattle.descriptor_code.proofs.described.DescribedCode.points.Goals as goal

pub returns-clause-on : goal.returns-clause-on
returns-clause-on c =
    subst (λ (p : Parts). AreOn (domain_of p) p.modulus p.points) c.self.view_is
    (points_on (parts_in c.self.inside) c.self.invariant.descriptor)
