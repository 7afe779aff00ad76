-- WindowState    what contracts see of a window: how its groups are stored, and its slots
-- WindowFits     what holds of the parts of a window of so many groups
-- CutShort       bytes that passed the limit: as many as a group, or all that the source had, or a read failed behind them
-- TailSays       why a window was filled no further: there may be more, the source ended, a read failed, or the limit
--                was passed
-- WindowFilled   the whole groups z were taken into the slots, and the bytes p after them were taken too
use Rattle.std.specs.Prelude.{ℕ, ◌+◌, ◌*◌, ◌<◌, ◌≤◌, ◌≡◌, ◌⊎◌, ◌++◌, Bool, IsTrue, List, [], length, take}
use Rattle.ag_io.specs.Counts.{Rose}
use Rattle.ag_frame.specs.declared.frame.Layout.{Layout}
use Rattle.ag_frame.specs.Layouts.{IsLayout, bytes_in_group, symbols_stored}
use Rattle.ag_io.specs.Views.{SourceView, IsSpent}
use Rattle.stream_codec.specs.Layouts.{blocks_at}
use Rattle.stream_codec.specs.Slots.{SlotState, blocks_of}
use Rattle.stream_codec.specs.declared.window.Filling.{Filling}
use Rattle.stream_codec.specs.declared.window.Tail.{Tail}
use Rattle.stream_codec.specs.declared.window.Tail.TheVariants.{More, End, Fault, TooLong}

pub record WindowState : Type 0 where
  pub layout : Layout
  pub slots : List SlotState

pub record WindowFits (l : Layout) (groups slots group words : ℕ) : Type 0 where
  pub layout : IsLayout l
  pub groups_least : 1 ≤ groups
  pub groups_most : groups ≤ 64
  pub slots_are : slots ≡ groups * l.depth
  pub group_long : group ≡ bytes_in_group l
  pub words_long : words ≡ symbols_stored l

abbrev pub CutShort : Layout → Bool → SourceView → SourceView → List ℕ → Type 0
CutShort l tells before after p =
    (length p ≡ bytes_in_group l) ⊎ (IsSpent tells after ⊎ Rose before.faults after.faults)

abbrev pub TailSays : Layout → Bool → SourceView → SourceView → ℕ → ℕ → ℕ → List ℕ → Tail → Type 0
TailSays l tells before after limit groups total p More =
    (p ≡ []) × (0 < groups) × (total ≤ limit) × (after.faults ≡ before.faults)
TailSays l tells before after limit groups total p (End got) =
    (length p ≡ got)
    × (got < bytes_in_group l)
    × (total ≤ limit)
    × IsSpent tells after
    × (after.faults ≡ before.faults)
TailSays l tells before after limit groups total p Fault =
    (length p < bytes_in_group l) × (total ≤ limit) × Rose before.faults after.faults
TailSays l tells before after limit groups total p TooLong =
    (length p ≤ bytes_in_group l) × (limit < total) × CutShort l tells before after p

pub record WindowFilled (l : Layout) (tells : Bool) (before after : SourceView) (limit taken : ℕ)
    (slots : List SlotState) (filling : Filling) (z p : List ℕ) : Type 0 where
  pub left : IsTrue tells → before.left ≡ z ++ (p ++ after.left)
  pub whole : length z ≡ filling.groups * bytes_in_group l
  pub total : filling.taken ≡ taken + length z + length p
  pub within : taken + length z ≤ limit
  pub slots_fit : filling.groups * l.depth ≤ length slots
  pub blocks_are : blocks_of (take (filling.groups * l.depth) slots) ≡ blocks_at l z
  pub tail : TailSays l tells before after limit filling.groups filling.taken p filling.tail
