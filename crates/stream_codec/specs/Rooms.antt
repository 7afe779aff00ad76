-- RoomState   what contracts see of a room to decode in: how groups are stored, and what each bench keeps of the code
-- RoomFits    a room for groups of a code: its benches were made for a code with these numbers
-- PartsFit    what holds of the parts of a room
use Rattle.std.specs.Prelude.{◌≡◌, List, length, All}
use Rattle.ag_frame.specs.declared.frame.Layout.{Layout}
use Rattle.ag_frame.specs.Layouts.{symbols_in_group}
use Rattle.ag_frame.specs.Queues.{OutState}
use Rattle.stored_form.specs.Form.{Form}
use Rattle.coded_block.specs.Codes.{BenchNumbers}
use Rattle.stream_codec.specs.Layouts.{Fits}
use Rattle.stream_codec.specs.Windows.{WindowState}

pub record RoomState : Type 0 where
  pub layout : Layout
  pub benches : List BenchNumbers

pub record RoomFits (F : Form) (numbers : BenchNumbers) (room : RoomState) : Type 0 where
  pub layout : Fits room.layout F
  pub benches : All (λ bench. bench ≡ numbers) room.benches

pub record PartsFit (window : WindowState) (writer : OutState) : Type 0 where
  pub got_long : All (λ s. length s.got ≡ window.layout.n) window.slots
  pub word_long : All (λ s. length s.word ≡ window.layout.n) window.slots
  pub size : writer.size ≡ symbols_in_group window.layout
  pub width : writer.width ≡ window.layout.bits
