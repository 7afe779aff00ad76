use Rattle.agcode_top.proofs.TextLemmas.{read-means}
use Rattle.agcode_top.proofs.text.read_text.Goals as goal

pub returns-clause-text : goal.returns-clause-text
returns-clause-text g c = read-means _ _ _ _ c.read_at_most.ensures.front
