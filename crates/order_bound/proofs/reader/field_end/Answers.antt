use Rattle.std.proofs.Common.{◌∙◌, sym, ap, List, ℕ, arith, length-drop, drop, nat_eq}
use Rattle.std.specs.List.{position}
use Rattle.std.proofs.lemmas.List.{take_rest}
use Rattle.order_bound.proofs.Splits.{pol_none, pol-le}
use Rattle.order_bound.proofs.reader.field_end.Goals as goal

pub returns-in-None-clause-first : goal.returns-in-None-clause-first
returns-in-None-clause-first c =
    omega (arith, pol_none (λ b. nat_eq b 32) (drop c.args.from c.args.line.now) (ap (λ (z : List ℕ). position (λ b. nat_eq b 32) z) (sym (take_rest c.args.line.now c.args.from)) ∙ sym c.in-None.ensures.place), pol-le (λ b. nat_eq b 32) (drop c.args.from c.args.line.now), length-drop c.args.from c.args.line.now)
