use Rattle.std.proofs.Common.{below_more, sym}
use Rattle.stream_codec.proofs.DealLemmas.{near_slot, lost_slot, all_near}
use Rattle.stream_codec.proofs.deal.first_beyond.Goals as goal

pub returns-in-Beyond : goal.returns-in-Beyond
returns-in-Beyond g c = λ F each. lost_slot F c.args.slots.now c.loop-c.c c.index-slots-c.result each c.loop-c-test.true c.index-slots-c.is (sym c.in-Beyond.ensures) (c.loop-c.invariant F each)

pub loop-c-preserved : goal.loop-c-preserved
loop-c-preserved g c = λ F each. below_more _ _ (c.loop-c.invariant F each) (near_slot F c.args.slots.now c.loop-c.c c.index-slots-c.result c.in-Near.changes each c.loop-c-test.true c.index-slots-c.is (sym c.in-Near.ensures))

pub returns : goal.returns
returns g c = λ F each. all_near F c.args.slots.now c.loop-c.c c.loop-c-test.false (c.loop-c.invariant F each)
