-- state_of   what contracts see of the fields of a guess
-- IsKept     what the fields of a guess keep
use Rattle.std.specs.Prelude.{◌≡◌, length}
use Rattle.error_guess.specs.Guesses.{GuessState}
use Rattle.error_guess.specs.Rooms.{IsRoom}
use Rattle.error_guess.specs.declared.guess.Guess.TheInside.{Inside}

abbrev pub state_of : Inside → GuessState
state_of g = record { bits = g.bits; modulus = g.modulus; n = g.n; tail = g.tail }

pub record IsKept (g : Inside) : Type 0 where
  pub zeros_long : length g.zeros.items ≡ g.n
  pub line_long : length g.line.items ≡ g.n
  pub has_room : IsRoom g.bits g.modulus g.n g.tail g.room
