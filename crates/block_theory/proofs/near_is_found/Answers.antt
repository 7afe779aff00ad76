use Rattle.block_theory.proofs.Codewords.{near_law}
use Rattle.block_theory.proofs.Forms.{code_law, basis_near_law}
use Rattle.block_theory.proofs.near_is_found.Goals as goal

pub returns-clause-code : goal.returns-clause-code
returns-clause-code c = code_law

pub returns-clause-near : goal.returns-clause-near
returns-clause-near c = near_law

pub returns-clause-basis : goal.returns-clause-basis
returns-clause-basis c = basis_near_law
