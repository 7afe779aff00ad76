use Rattle.block_theory.proofs.ExampleCodes.{repeated_code, sum_zero_code, weighted_code}
use Rattle.block_theory.proofs.small_codes.Goals as goal

pub returns-clause-repeated : goal.returns-clause-repeated
returns-clause-repeated c = repeated_code

pub returns-clause-sum_zero : goal.returns-clause-sum_zero
returns-clause-sum_zero c = sum_zero_code

pub returns-clause-weighted : goal.returns-clause-weighted
returns-clause-weighted c = weighted_code
