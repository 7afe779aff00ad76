use Rattle.std.proofs.Common.{◌≡◌, ◌++◌, map, take}
use Rattle.code_texts.specs.Designs.{member_text_of}
use Rattle.code_texts.proofs.Lines.{spaced}
use Rattle.code_texts.proofs.design.push_must.Given as goal

abbrev pub invariant-loop-member : goal.invariant-loop-member
invariant-loop-member l = l.text.items ≡ l.initial.text.items ++ spaced (map member_text_of (take l.member-index l.must))
