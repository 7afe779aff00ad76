use Rattle.gf_theory.proofs.Division.{division_exists, quotient_only, remainder_only}
use Rattle.gf_theory.proofs.division_is_unique.Goals as goal

pub returns : goal.returns
returns c m p d = record {
  divides = λ n. division_exists m p n d;
  quotient = λ n q r q' r'. quotient_only m p n q r q' r' d;
  remainder = λ n q r q' r'. remainder_only m p n q r q' r' d;
}
