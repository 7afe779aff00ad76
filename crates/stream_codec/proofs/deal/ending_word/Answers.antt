use Rattle.stream_codec.proofs.DealLemmas.{stopped_word}
use Rattle.stream_codec.proofs.deal.ending_word.Goals as goal

pub returns-in-Stop : goal.returns-in-Stop
returns-in-Stop g c = stopped_word c.args.slots.now c.args.when_lost c.first_beyond.result c.in-Stop.is c.first_beyond.ensures
