use Rattle.std.proofs.Common.{◌≡◌, ◌++◌, map, take}
use Rattle.code_texts.specs.Texts.{term_text_of}
use Rattle.code_texts.proofs.Lines.{spaced}
use Rattle.code_texts.proofs.params.push_relation.Given as goal

abbrev pub invariant-loop-term : goal.invariant-loop-term
invariant-loop-term l = l.text.items ≡ l.initial.text.items ++ spaced (map term_text_of (take l.term-index l.relation))
