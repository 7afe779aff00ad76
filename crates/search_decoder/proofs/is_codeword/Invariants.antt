use Rattle.std.proofs.Common.{ℕ, ◌≡◌, ◌<◌, true}
use Rattle.order_theory.specs.Basis.{times}
use Rattle.order_theory.specs.Errors.{syndrome}
use Rattle.order_theory.specs.Codes.{marked}
use Rattle.search_decoder.proofs.is_codeword.Given as goal

abbrev pub invariant-loop-k : goal.invariant-loop-k
invariant-loop-k g l = (m : ℕ) → m < l.k → marked l.checked m ≡ true → syndrome (times l.basis) l.basis l.word m ≡ 0
