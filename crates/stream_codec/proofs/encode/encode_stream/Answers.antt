use Rattle.std.proofs.Common.{ap, ◌∙◌}
use Rattle.stream_codec.specs.Layouts.{in_groups}
use Rattle.stream_codec.specs.Encoded.{encode_of}
use Rattle.stream_codec.specs.Groups.{GroupState}
use Rattle.stream_codec.proofs.FitLemmas.{fits_sound}
use Rattle.stream_codec.proofs.UseLemmas.{outcome_at}
use Rattle.stream_codec.proofs.EncodedLemmas.{encoded_as, encodes_all}
use Rattle.stream_codec.proofs.encode.encode_stream.Goals as goal

pub returns-clause-encoded : goal.returns-clause-encoded
returns-clause-encoded g c =
    let F = g.C.BlockCode.form c.args.code.now in
    let (x, h) = c.encode_all.ensures.outcome in
    let same = ap (λ (s : GroupState). s.layout) c.clear.ensures ∙ c.room.view_is in
    encoded_as _ x c.encode_all.result (fits_sound F c.args.room.now c.requires.fits) c.encode_all.ensures.counted (outcome_at F c.clear.new.self.layout c.args.room.now h same)

pub returns-clause-complete : goal.returns-clause-complete
returns-clause-complete g c =
    let F = g.C.BlockCode.form c.args.code.now in
    let (x, h) = c.encode_all.ensures.outcome in
    let same = ap (λ (s : GroupState). s.layout) c.clear.ensures ∙ c.room.view_is in
    let e = encode_of (in_groups c.args.room.now F) c.args.limit g.I.Source.tells (g.I.Source.view c.args.src.now) (g.I.Source.view c.encode_all.new.src) g.O.Sink.tells (g.O.Sink.view c.args.sink.now) (g.O.Sink.view c.encode_all.new.sink) in
    encodes_all e c.encode_all.result (encoded_as e x c.encode_all.result (fits_sound F c.args.room.now c.requires.fits) c.encode_all.ensures.counted (outcome_at F c.clear.new.self.layout c.args.room.now h same))
