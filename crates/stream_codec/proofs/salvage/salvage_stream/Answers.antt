use Rattle.std.proofs.Common.{refl}
use Rattle.stream_codec.proofs.SalvagedLemmas.{salvaged_from}
use Rattle.stream_codec.proofs.salvage.salvage_stream.Goals as goal

pub returns-clause-salvaged : goal.returns-clause-salvaged
returns-clause-salvaged g c = c.decode_room.ensures.run.salvaged refl

pub returns-clause-alike : goal.returns-clause-alike
returns-clause-alike g c = λ t none. c.decode_room.ensures.run.decoded (t, none)

pub returns-clause-complete : goal.returns-clause-complete
returns-clause-complete g c = salvaged_from _ c.decode_room.result (c.decode_room.ensures.run.salvaged refl)
