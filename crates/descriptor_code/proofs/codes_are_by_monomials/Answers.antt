use Rattle.descriptor_code.proofs.ByMonomials.{monomial_law}
use Rattle.descriptor_code.proofs.codes_are_by_monomials.Goals as goal

pub returns : goal.returns
returns c = monomial_law
