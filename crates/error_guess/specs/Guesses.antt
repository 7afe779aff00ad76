-- GuessState   what contracts see of the room for guesses: the field and the length of a basis, and the positions from the
--              first check position on
-- IsFor        it was made for such a basis
-- IsMatrixOf   a growing matrix has the field and the length of a basis
use Rattle.std.specs.Prelude.{◌≡◌, ℕ}
use Rattle.order_theory.specs.Basis.{Basis}
use Rattle.vote_matrix.specs.Elimination.{Elimination}

pub record GuessState : Type 0 where
  pub bits : ℕ
  pub modulus : ℕ
  pub n : ℕ
  pub tail : ℕ

pub record IsFor (b : Basis) (g : GuessState) : Type 0 where
  pub bits : g.bits ≡ b.bits
  pub modulus : g.modulus ≡ b.modulus
  pub n : g.n ≡ b.n

pub record IsMatrixOf (b : Basis) (m : Elimination) : Type 0 where
  pub bits : m.bits ≡ b.bits
  pub modulus : m.modulus ≡ b.modulus
  pub n : m.n ≡ b.n
