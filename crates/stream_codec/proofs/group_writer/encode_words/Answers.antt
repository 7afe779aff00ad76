use Rattle.std.proofs.Common.{arith, false, ◌+◌, ◌-◌, ◌*◌, ◌≡◌}
use Rattle.stream_codec.proofs.Groups.{words_step, words_all, part_long}
use Rattle.stream_codec.proofs.group_writer.encode_words.Goals as goal

pub loop-c-preserved : goal.loop-c-preserved
loop-c-preserved g c =
    let k = c.args.k in
    let from = c.loop-c.c * k in
    let span : from + k - from ≡ k = omega arith in
    let at = c.loop-c.c * c.args.n in
    let size : at + c.args.n - at ≡ c.args.n = omega arith in
    words_step (g.C.BlockCode.form c.args.code.now).word c.loop-c.words c.encode_block.new.word c.args.messages.now c.args.n k c.loop-c.c c.args.depth _ _ c.loop-c-test.true (omega arith) (part_long c.loop-c.words c.encode_block.new.word c.args.n c.loop-c.c c.args.depth _ c.encode_block.auto.word size c.loop-c-test.true (omega arith)) span c.encode_block.ensures c.loop-c.invariant

pub returns : goal.returns
returns g c = words_all (g.C.BlockCode.form c.args.code.now).word c.loop-c.words c.args.messages.now c.args.n c.args.k c.loop-c.c c.args.depth (omega arith) (omega (arith, (c.requires.code.sound 1 false (omega arith)).k_above_0)) (omega arith) c.requires.messages_long c.loop-c.invariant
