use Rattle.std.proofs.Common.{subst, sym}
use Rattle.order_theory.specs.Basis.{Basis, IsWord}
use Rattle.block_code.proofs.Again.{low_is_word}
use Rattle.block_code.proofs.Pursuing.{can_pursue}
use Rattle.block_code.proofs.correction.find_near.Goals as goal

pub run-found-requires-clause-can : goal.run-found-requires-clause-can
run-found-requires-clause-can g c =
    can_pursue c.args.code.now c.n.ensures.made c.basis.result.now c.basis.ensures.value c.args.poll.now c.classes.result.now c.requires.fits c.requires.values c.classes.ensures.classes c.classes.ensures.few

pub run-found-requires-clause-word : goal.run-found-requires-clause-word
run-found-requires-clause-word g c =
    subst (λ (b : Basis). IsWord b.bits b.n c.write_low_bits.new.word) (sym c.basis.ensures.value)
    (low_is_word c.args.code.now c.n.ensures.made c.args.got.now c.requires.received c.bits.result c.write_low_bits.new.word c.write_low_bits.ensures c.bits.ensures)
