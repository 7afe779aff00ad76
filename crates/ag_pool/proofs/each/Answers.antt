use Rattle.std.proofs.Common.{ℕ, ◌≡◌, ◌+◌, List, ap, get_or, ◌∙◌, arith}
use Rattle.ag_pool.specs.Acts.{Acted, PartActed}
use Rattle.ag_pool.proofs.Schedules.{every_schedule}
use Rattle.ag_pool.proofs.each.Goals as goal

-- a part that begins with the first slot
from_first : {S : Type 0} (after : ℕ → S → S) (old new : List S) → PartActed after 0 old new → Acted after old new
from_first after old new h k d l = let e : 0 + k ≡ k = omega arith in h.each k d l ∙ ap (λ (m : ℕ). after m (get_or old k d)) e

pub returns-clause-acted : goal.returns-clause-acted
returns-clause-acted g c = from_first (g.W.Work.after c.args.work.now) c.args.slots.now c.act_in_parts.new.slots c.act_in_parts.ensures.acted

pub returns-clause-schedules : goal.returns-clause-schedules
returns-clause-schedules g c =
    let acted = c.act_in_parts.ensures.acted in
    every_schedule (g.W.Work.after c.args.work.now) c.args.slots.now c.act_in_parts.new.slots acted.long (from_first (g.W.Work.after c.args.work.now) c.args.slots.now c.act_in_parts.new.slots acted)
