-- Rooms whose benches fit a code.
use Rattle.std.proofs.Common.{◌*◌, ◌≡◌, ◌<◌, length, get_or, map, All, sym, ◌∙◌, arith}
use Rattle.std.proofs.lemmas.List.{length-map, get_or-map}
use Rattle.std.proofs.lemmas.List.Elements.{All-map}
use Rattle.ag_frame.specs.Queues.{OutState}
use Rattle.stored_form.specs.Form.{Form}
use Rattle.coded_block.specs.Codes.{BenchNumbers}
use Rattle.stream_codec.specs.Layouts.{Fits}
use Rattle.stream_codec.specs.Rooms.{RoomFits, PartsFit}
use Rattle.stream_codec.specs.Slots.{SlotState, CanDecode}
use Rattle.stream_codec.specs.Windows.{WindowState}

pub room_ready : (F : Form) (numbers : BenchNumbers) (window : WindowState) (writer : OutState) → PartsFit window writer → RoomFits F numbers (record { layout = window.layout; benches = map (λ (s : SlotState). s.bench) window.slots }) → All (CanDecode F numbers) window.slots
room_ready F numbers window writer parts fits k d below =
    let s = get_or window.slots k d in
    let inside : k < length (map (λ (x : SlotState). x.bench) window.slots) = omega (arith, length-map window.slots (λ (x : SlotState). x.bench)) in
    record {
      fits = sym (get_or-map (λ (x : SlotState). x.bench) window.slots k d s.bench below) ∙ fits.benches k s.bench inside;
      got_long = parts.got_long k d below ∙ fits.layout.n;
      word_long = parts.word_long k d below ∙ fits.layout.n;
    }

pub room_fits : (F : Form) (numbers : BenchNumbers) (window : WindowState) → Fits window.layout F → All (CanDecode F numbers) window.slots → RoomFits F numbers (record { layout = window.layout; benches = map (λ (s : SlotState). s.bench) window.slots })
room_fits F numbers window fits ready = record { layout = fits; benches = All-map (λ (b : BenchNumbers). b ≡ numbers) (λ (s : SlotState). s.bench) window.slots (λ k d below. (ready k d below).fits) }

pub parts_fit : (F : Form) (numbers : BenchNumbers) (window : WindowState) (writer : OutState) → Fits window.layout F → All (CanDecode F numbers) window.slots → writer.size ≡ window.layout.depth * window.layout.k → writer.width ≡ window.layout.bits → PartsFit window writer
parts_fit F numbers window writer fits ready size width = record {
  got_long = λ k d below. (ready k d below).got_long ∙ sym fits.n;
  word_long = λ k d below. (ready k d below).word_long ∙ sym fits.n;
  size = size;
  width = width;
}
