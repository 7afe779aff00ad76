-- bytes_in     the whole bytes of the released bits and of the group that is held
-- last_bytes   the bytes of the released bits and of these ones behind them
-- bytes_left   the bits after the whole bytes
-- WriterFits   what holds of the parts of a writer: its queue, whether it holds a group, and the room for symbols and
--              bytes
-- EndsFile     the held group ends a file: these bits stand before its last 1, and with the released ones they are
--              whole bytes
-- EndsNoFile   the held group ends no file
use Rattle.std.specs.Prelude.{ℕ, ◌-◌, ◌*◌, ◌/◌, ◌%◌, ◌<◌, ◌≤◌, ◌≡◌, ◌++◌, Bool, List, length, drop, Some, is_some}
use Rattle.ag_frame.specs.Queues.{OutState, out_bits, bits_held}
use Rattle.stored_form.specs.Bits.{symbols_of}
use Rattle.stored_form.specs.Frame.{before_last_one}

abbrev pub bytes_in : OutState → List ℕ
bytes_in s = symbols_of 8 (s.released ++ bits_held s.held)

abbrev pub last_bytes : OutState → List Bool → List ℕ
last_bytes s front = symbols_of 8 (s.released ++ front)

abbrev pub bytes_left : List Bool → List Bool
bytes_left bits = drop (length bits / 8 * 8) bits

pub record WriterFits (s : OutState) (holds : Bool) (symbols bytes : ℕ) : Type 0 where
  pub holds_is : holds ≡ is_some s.held
  pub few : length s.released < 8
  pub held_long : length (bits_held s.held) ≤ out_bits s
  pub symbols_is : symbols ≡ s.size
  pub bytes_fit : out_bits s ≤ 8 * (bytes - 1)

pub record EndsFile (s : OutState) (front : List Bool) : Type 0 where
  pub last_one : before_last_one (bits_held s.held) ≡ Some front
  pub whole : length (s.released ++ front) % 8 ≡ 0

abbrev pub EndsNoFile : OutState → Type 0
EndsNoFile s =
    (front : List Bool) → before_last_one (bits_held s.held) ≡ Some front → length (s.released ++ front) % 8 ≡ 0 → ⊥
