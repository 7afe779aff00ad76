-- IsSystem   a matrix for equations has room for `tail` columns and for a row more than pivots, and is over this field
-- IsRoom     what the equations of a guess are written in has the sizes of a basis
use Rattle.std.specs.Prelude.{◌≡◌, ℕ, ◌≤◌, length}
use Rattle.vote_matrix.specs.Elimination.{Elimination}
use Rattle.error_guess.specs.declared.guess.Room.{Room}

pub record IsSystem (bits modulus tail : ℕ) (system : Elimination) : Type 0 where
  pub bits_are : system.bits ≡ bits
  pub modulus_is : system.modulus ≡ modulus
  pub columns : tail ≤ system.n
  pub rows : system.most ≤ system.n

pub record IsRoom (bits modulus n tail : ℕ) (room : Room) : Type 0 where
  pub few_members : n ≤ 1024
  pub tail_within : tail ≤ n
  pub line_long : length room.line.items ≡ tail
  pub solution_long : length room.solution.items ≡ room.system.most
  pub unknowns_long : length room.unknowns.items ≡ n
  pub keeps_long : length room.keeps.items ≡ tail
  pub system_room : IsSystem bits modulus tail room.system
