use Rattle.descriptor_code.proofs.BySpaceMonomials.{space_monomial_law}
use Rattle.descriptor_code.proofs.space_codes_are_by_monomials.Goals as goal

pub returns : goal.returns
returns c = space_monomial_law
