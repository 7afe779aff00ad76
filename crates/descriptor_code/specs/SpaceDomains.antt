-- space_in        the space of a domain
-- space-lawful    the domain of a space meets the laws of an order domain, since that of each kind does
use Rattle.cab_curve.specs.DomainLaws.{cab_domain-lawful}
use Rattle.affine_domain.specs.DomainLaws.{affine_domain-lawful}
use Rattle.order_domain.specs.Domain.{IsOrderDomain}
use Rattle.code_descriptor.specs.Parts as parts
use Rattle.descriptor_code.specs.Codes.{domain_on}
use Rattle.descriptor_code.specs.declared.space_domain.SpaceDomain.{SpaceDomain}
use Rattle.descriptor_code.specs.declared.space_domain.SpaceDomain.TheVariants.{Cab, Affine}

abbrev pub space_in : SpaceDomain → parts.Space
space_in (Cab d) = parts.Cab d.curve
space_in (Affine d) = parts.Affine d.bits d.vars

pub space-lawful : (d : SpaceDomain) → IsOrderDomain (domain_on (space_in d))
space-lawful (Cab d) = cab_domain-lawful d.curve d.is_curve.equation
space-lawful (Affine d) = affine_domain-lawful d.bits d.vars d.is_space
