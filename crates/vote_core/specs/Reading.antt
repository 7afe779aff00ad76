-- IsWidth      so many of the first columns of a row have sums below a limit
-- IsSettled    what is known of a matrix that grows stands at sums below a limit; in the rows above i it is all of that
-- IsRead       such a matrix that is the matrix of a working list, as far as it is known
use Rattle.std.specs.Prelude.{◌≡◌, ℕ, ◌<◌, ◌≤◌, List, length, slice_index}
use Rattle.order_theory.specs.Basis.{Basis, times, sum_at}
use Rattle.order_theory.specs.Errors.{entry}
use Rattle.vote_matrix.specs.Elimination.{Elimination, IsEliminationOf}

pub record IsWidth (b : Basis) (limit i to : ℕ) : Type 0 where
  pub inside : to ≤ b.n
  pub below : (q : ℕ) → q < to → sum_at b i q < limit
  pub all : (q : ℕ) → q < b.n → sum_at b i q < limit → q < to

pub record IsSettled (b : Basis) (m : Elimination) (s i : ℕ) : Type 0 where
  pub bits : m.bits ≡ b.bits
  pub modulus : m.modulus ≡ b.modulus
  pub n : m.n ≡ b.n
  pub long : length m.known ≡ b.n
  pub wide : (p : ℕ) → p < b.n → slice_index m.known p ≤ b.n
  pub within : (p q : ℕ) → p < b.n → q < slice_index m.known p → sum_at b p q < s
  pub above : (p q : ℕ) → p < i → q < b.n → sum_at b p q < s → q < slice_index m.known p

pub record IsRead (b : Basis) (w : List ℕ) (m : Elimination) (s i : ℕ) : Type 0 where
  pub settled : IsSettled b m s i
  pub matrix : IsEliminationOf (entry (times b) b w) m
