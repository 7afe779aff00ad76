use Rattle.std.proofs.Common.{◌≡◌, ◌*◌, ◌/◌, ◌%◌, ◌^◌, slice_index}
use Rattle.field_theory.specs.Sums.{xor_sum}
use Rattle.gf_linear.proofs.lists.sum_where.Given as goal

abbrev pub invariant-loop-p : goal.invariant-loop-p
invariant-loop-p l = l.sum ≡ xor_sum l.p (λ q. slice_index l.x q / 2 ^ l.bit % 2 * slice_index l.y q)
