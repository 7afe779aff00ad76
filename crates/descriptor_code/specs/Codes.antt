-- What is built of a descriptor. No clause of a command speaks of it: `PlainLaw` says that it is what Plain says.
--
-- domain_on       the functions of a space as an order domain, with the coefficients that its laws name
-- domain_of       those of a descriptor's space
-- IsCodeOf        the code that is built of a descriptor
-- form_of_parts   it, as coded files see it, in groups of the descriptor's depth and in its layout
-- OneCodeLaw      the theorem: of a descriptor one code is built at the most
use Rattle.std.specs.Prelude.{◌≡◌}
use Rattle.stored_form.specs.Form.{Form, at_layout}
use Rattle.order_domain.specs.Domain.{Domain}
use Rattle.cab_curve.specs.Domain.{cab_domain}
use Rattle.affine_domain.specs.Domain.{affine_domain}
use Rattle.eval_basis.specs.Rules.{checked_by}
use Rattle.eval_basis.specs.Built.{IsBuilt}
use Rattle.block_code.specs.Compiled.{Compiled, IsMade, form_in}
use Rattle.code_descriptor.specs.Parts.{Parts, Space, Cab, Affine}

abbrev pub domain_on : Space → Domain
domain_on (Cab e) = cab_domain e
domain_on (Affine bits vars) = affine_domain bits vars

abbrev pub domain_of : Parts → Domain
domain_of p = domain_on p.space

pub record IsCodeOf (p : Parts) (c : Compiled) : Type 0 where
  pub built : IsBuilt (domain_of p) p.modulus p.points c.basis
  pub marks : c.marks ≡ checked_by c.basis p.rule
  pub made : IsMade c

abbrev pub form_of_parts : Parts → Compiled → Form
form_of_parts p c = at_layout p.depth p.packed (form_in c)

abbrev pub OneCodeLaw : Type 0
OneCodeLaw = (p : Parts) (c d : Compiled) → IsCodeOf p c → IsCodeOf p d → c ≡ d
