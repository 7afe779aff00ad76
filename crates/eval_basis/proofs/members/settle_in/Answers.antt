use Rattle.std.proofs.Common.{ℕ, List, length, get_or, subst, arith}
use Rattle.gf_theory.specs.Field.{gf_mul}
use Rattle.eval_basis.specs.Found.{AreSoFar}
use Rattle.eval_basis.proofs.AfterTakes.{lists_none}
use Rattle.eval_basis.proofs.Judging.{pending_of, lists_changed}
use Rattle.eval_basis.proofs.members.settle_in.Goals as goal

pub returns : goal.returns
returns g c =
    let b = g.F.Field.bits_of c.args.f.now in
    let m = g.F.Field.modulus_of c.args.f.now in
    let d = g.D.OrderDomain.domain c.args.dom.now in
    let points = c.args.points.now in
    let n = length points in
    let band = c.args.band.now in
    let symbols = c.args.symbols.now in
    let takes = c.args.takes.now in
    let now = c.judge.new.takes in
    record {
      so_far = λ stop waiting h.
          subst (λ (w : List ℕ). AreSoFar d m points stop c.judge.new.ranks.items c.judge.new.vectors.items w c.judge.new.order c.judge.new.used c.judge.new.old)
          (lists_changed (gf_mul b m) _ n c.deref.result.now c.deref-2.result.now c.deref-3.result.now now.numbers.items now.factors.items now.products.items symbols c.change_lists.new.symbols
          (omega arith) c.deref.ensures.value c.deref-2.ensures.value c.deref-3.ensures.value c.change_lists.ensures)
          (c.in_ok-judge.ensures.so_far symbols stop
          (pending_of d m points b _ stop band c.copy_from_slice.new.self c.evaluate_band.new.values c.multiply_band.new.table symbols c.requires.bits (omega arith) c.copy_from_slice.ensures.after
          (λ i q li lq. c.multiply_band.ensures.products i q (omega arith) lq) waiting)
          (subst (λ (w : List ℕ). AreSoFar d m points (get_or band 0 stop) c.args.ranks.now.items c.args.vectors.now.items w c.args.order.now c.args.used.now c.args.old.now)
          (lists_none (gf_mul b m) n takes.numbers.items takes.factors.items takes.products.items symbols c.requires.no_numbers c.requires.lists.n_symbols) h));
    }
