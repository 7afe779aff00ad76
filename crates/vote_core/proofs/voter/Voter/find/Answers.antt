use Rattle.std.proofs.Common.{ℕ, List, sym, subst, ap, ◌∙◌}
use Rattle.order_theory.specs.Basis.{IsWord}
use Rattle.order_theory.specs.Codes.{low_bits}
use Rattle.order_theory.proofs.Errors.{low_word}
use Rattle.vote_core.proofs.voter.Voter.find.Goals as goal

pub run_in_room-found-requires-clause-word : goal.run_in_room-found-requires-clause-word
run_in_room-found-requires-clause-word g c =
    subst (λ (xs : List ℕ). IsWord c.args.basis.now.bits c.args.basis.now.n xs) (sym (c.low_symbols.ensures ∙ ap (λ (m : ℕ). low_bits m c.args.got.now) c.bits.ensures.value))
    (low_word c.args.basis.now.bits c.args.basis.now.n c.args.got.now c.requires.received)
