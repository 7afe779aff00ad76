use Rattle.std.proofs.Common.{ℕ, List, ◌++◌, length, length-append, arith, ap, ◌∙◌}
use Rattle.std.specs.Fmt.{decimal}
use Rattle.ag_texts.proofs.Digits.{twenty_digits, writing_starts, writing_has_room, writing_step, writing_ends}
use Rattle.ag_texts.proofs.buffer.LineBuf.number.Goals as goal

pub loop-rest-init : goal.loop-rest-init
loop-rest-init c = writing_starts _ _ (omega arith) (omega arith)

pub overflow_sub-at : goal.overflow_sub-at
overflow_sub-at c = writing_has_room _ _ _ _ (omega arith) c.loop-rest.invariant

pub loop-rest-preserved : goal.loop-rest-preserved
loop-rest-preserved c = writing_step _ _ _ _ (omega arith) (omega arith) c.loop-rest.invariant

pub overflow_sub-at-2 : goal.overflow_sub-at-2
overflow_sub-at-2 c = writing_has_room _ _ _ _ (omega arith) c.loop-rest.invariant

pub append-requires : goal.append-requires
append-requires c =
    let written = writing_ends c.args.v c.loop-rest.rest c.loop-rest.at c.loop-rest.digits (omega arith) c.loop-rest.invariant in
    rw written (omega arith)

pub returns-clause-added : goal.returns-clause-added
returns-clause-added c =
    let written = writing_ends c.args.v c.loop-rest.rest c.loop-rest.at c.loop-rest.digits (omega arith) c.loop-rest.invariant in
    c.append.ensures ∙ ap (λ (ds : List ℕ). c.args.self.now ++ ds) written

pub returns-clause-len : goal.returns-clause-len
returns-clause-len c =
    let written = writing_ends c.args.v c.loop-rest.rest c.loop-rest.at c.loop-rest.digits (omega arith) c.loop-rest.invariant in
    let added = c.append.ensures ∙ ap (λ (ds : List ℕ). c.args.self.now ++ ds) written in
    omega (arith, ap length added, length-append c.args.self.now (decimal c.args.v), twenty_digits c.args.v (omega arith))
