use Rattle.std.proofs.Common.{arith, ℕ, List, sym, subst}
use Rattle.search_decoder.specs.Words.{SameBefore}
use Rattle.search_decoder.proofs.Finishes.{end_found, front_back, finish_back, tried_more}
use Rattle.search_decoder.proofs.+finish.Goals as goal
use Rattle.search_decoder.proofs.+finish.Goals.{then-price-left+else-finish, else-price-left}

pub returns-then-place-got-clause-found : goal.returns-then-place-got-clause-found
returns-then-place-got-clause-found g t c = end_found c.args.basis.now c.args.checked.now c.args.got.now c.args.word.now c.args.place c.args.left c.is_codeword.result (omega arith) (omega arith) c.is_codeword.ensures

pub returns-then-finish-clause-found : goal.returns-then-finish-clause-found
returns-then-finish-clause-found g t c =
    finish_back c.args.basis.now c.args.checked.now c.args.got.now c.args.word.now c.loop-symbol.word c.finish.new.word c.args.place c.args.left c.loop-symbol.symbol c.cost-price.result
    (omega arith) (omega arith) c.loop-symbol.invariant.front (record { same = c.cost-price.ensures.same; other = c.cost-price.ensures.other }) c.if-price-left.true c.if-finish.ensures.found

pub loop-symbol-preserved : goal.loop-symbol-preserved
loop-symbol-preserved g t c = record {
  front = elim c.if-price-left.branch [
    | then-price-left+else-finish w ↦
        subst (λ (xs : List ℕ). SameBefore c.args.place c.args.word.now xs) (sym w.word-is)
        (front_back c.args.place c.loop-symbol.symbol c.args.word.now c.loop-symbol.word _ c.loop-symbol.invariant.front w.if-finish.ensures.front)
    | else-price-left w ↦ subst (λ (xs : List ℕ). SameBefore c.args.place c.args.word.now xs) (sym w.word-is) c.loop-symbol.invariant.front
  ];
  tried = tried_more c.args.basis.now c.args.checked.now c.args.got.now c.args.word.now c.loop-symbol.word c.args.place c.args.left c.loop-symbol.symbol c.cost-price.result
      (omega arith) (omega arith) c.loop-symbol.invariant.front (record { same = c.cost-price.ensures.same; other = c.cost-price.ensures.other }) c.loop-symbol.invariant.tried
      (elim c.if-price-left.branch [
        | then-price-left+else-finish w ↦ (λ l. w.if-finish.ensures.found)
        | else-price-left w ↦ (λ l. absurd (omega arith))
      ]);
}
