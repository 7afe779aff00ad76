use Rattle.std.proofs.Common.{◌≡◌, take}
use Rattle.std.specs.List.{flat_map}
use Rattle.ag_texts.specs.Lines.{votes_line_of}
use Rattle.code_texts.proofs.votes.votes_text.Given as goal

abbrev pub invariant-loop-votes : goal.invariant-loop-votes
invariant-loop-votes l = l.text.items ≡ flat_map (λ v. votes_line_of v.label v.pairs v.right v.wrong) (take l.votes-index l.ledger)
