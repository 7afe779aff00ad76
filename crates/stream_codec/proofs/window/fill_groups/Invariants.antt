-- The groups so far are in the slots.
use Rattle.std.proofs.Common.{ℕ, List, ◌≡◌, length, All}
use Rattle.stored_form.specs.Form.{Form}
use Rattle.coded_block.specs.Codes.{BenchNumbers}
use Rattle.stream_codec.specs.Slots.{CanDecode}
use Rattle.stream_codec.proofs.FillLemmas.{IsFilling}
use Rattle.stream_codec.proofs.window.fill_groups.Given as goal

abbrev pub invariant-loop-g : goal.invariant-loop-g
invariant-loop-g g l = record {
  filling : (z : List ℕ) × IsFilling l.layout g.I.Source.tells (g.I.Source.view l.initial.src).left (g.I.Source.view l.src).left l.limit l.taken l.slots l.g l.total z;
  kept : (F : Form) (numbers : BenchNumbers) → All (CanDecode F numbers) l.initial.slots → All (CanDecode F numbers) l.slots;
  got_long : All (λ s. length s.got ≡ l.layout.n) l.slots;
  steady : (g.I.Source.view l.src).faults ≡ (g.I.Source.view l.initial.src).faults;
}
