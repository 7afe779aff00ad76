use Rattle.agcode_top.proofs.PiecesLemmas.{pieces_law}
use Rattle.agcode_top.proofs.pieces.pieces_do_not_count.Goals as goal

pub returns : goal.returns
returns c = pieces_law
