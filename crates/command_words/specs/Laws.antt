-- CommandLinesAreRead    a list of words says one thing at the most
use Rattle.std.specs.Prelude.{◌≡◌, ℕ, List}
use Rattle.command_words.specs.declared.words.Words.{Words}
use Rattle.command_words.specs.Lines.{IsCommandLine}

abbrev pub CommandLinesAreRead : Type 0
CommandLinesAreRead =
    (texts : List (List ℕ)) (v w : Words) → IsCommandLine texts v → IsCommandLine texts w → v ≡ w
