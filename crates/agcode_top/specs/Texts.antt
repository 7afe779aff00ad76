-- IsReadFault    why a text was not read: want of memory, where no read failed, or a fault whose count rose
-- IsFront        a text is the front of the bytes that were left: all of them, or as many as there was room for
use Rattle.std.specs.Prelude.{◌≡◌, ℕ, List, [], ◌++◌, length, ◌⊎◌}
use Rattle.agcode_top.specs.Calls.{SourceCall, ReadFailed, ReadsWell}
use Rattle.agcode_top.specs.declared.text.TextFault.{TextFault}
use Rattle.agcode_top.specs.declared.text.TextFault.TheVariants.{NoMemory, Fault}

abbrev pub IsReadFault : SourceCall → TextFault → Type 0
IsReadFault desc NoMemory = ReadsWell desc
IsReadFault desc Fault = ReadFailed desc

pub record IsFront (room : ℕ) (text before after : List ℕ) : Type 0 where
  pub split : before ≡ text ++ after
  pub end : (after ≡ []) ⊎ (length text ≡ room)
