use Rattle.stream_codec.proofs.Groups.{stored_is}
use Rattle.stream_codec.proofs.group_writer.write_group.Goals as goal

pub returns : goal.returns
returns g c =
    let same = stored_is (g.C.BlockCode.form c.args.code.now) c.args.layout.now c.args.messages.now c.encode_words.new.words c.spread.new.group c.requires.fits c.requires.messages_fit c.encode_words.ensures c.spread.ensures in
    rw same at c.put.ensures.written
