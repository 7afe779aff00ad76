use Rattle.std.proofs.Common.{◌∙◌}
use Rattle.agcode_top.proofs.TextLemmas.{read-stops}
use Rattle.agcode_top.proofs.input.read_input.Goals as goal

pub returns-in-Fault-clause-fault : goal.returns-in-Fault-clause-fault
returns-in-Fault-clause-fault g c =
    read-stops c.args.limit _ _ _ _ c.loop-piece.text.items _ c.len-in-Fault.result c.in-Fault.got c.in_ok-tail.tail _
    c.loop-piece.invariant.read c.loop-piece.invariant.within c.loop-piece.invariant.well
    c.in_ok-tail.ensures.took c.in-Fault.is (c.len-in-Fault.ensures ∙ c.take_piece.new.text.ok.0) c.fault_at.ensures
