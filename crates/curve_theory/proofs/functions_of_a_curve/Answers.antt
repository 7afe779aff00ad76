use Rattle.curve_theory.proofs.Functions.{ordered_functions_law}
use Rattle.curve_theory.proofs.functions_of_a_curve.Goals as goal

pub returns : goal.returns
returns c = ordered_functions_law
