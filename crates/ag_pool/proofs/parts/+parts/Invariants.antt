-- The slots that are left grow fewer by at least one with each part
use Rattle.std.proofs.Common.{◌+◌, ◌*◌, length}
use Rattle.ag_pool.proofs.parts.+parts.Given as goal

abbrev pub decreases-act_in_parts : goal.decreases-act_in_parts
decreases-act_in_parts g l = 3 * length l.slots.now

abbrev pub decreases-act_on_both : goal.decreases-act_on_both
decreases-act_on_both g l = 3 * length l.rest.now + 2

abbrev pub decreases-act_on_both-here : goal.decreases-act_on_both-here
decreases-act_on_both-here g l = 3 * length l.rest.now + 1
