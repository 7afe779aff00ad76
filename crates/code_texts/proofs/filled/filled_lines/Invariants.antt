use Rattle.std.proofs.Common.{◌≡◌, take, slice_index}
use Rattle.std.specs.List.{flat_map}
use Rattle.ag_texts.specs.Lines.{filled_line_of}
use Rattle.code_texts.proofs.filled.filled_lines.Given as goal

abbrev pub invariant-loop-place : goal.invariant-loop-place
invariant-loop-place l = l.text.items ≡ flat_map (λ p. filled_line_of p (slice_index l.word p)) (take l.place-index l.places)
