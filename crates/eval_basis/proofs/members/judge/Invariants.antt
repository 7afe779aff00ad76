use Rattle.std.proofs.Common.{ℕ, List, ◌<◌, length, slice_index, get_or}
use Rattle.gf_theory.specs.Field.{gf_mul}
use Rattle.eval_basis.specs.Found.{AreSoFar, ArePending}
use Rattle.eval_basis.specs.Lists.{AreTakes, lists_after}
use Rattle.eval_basis.proofs.members.judge.Given as goal

abbrev pub invariant-loop-b : goal.invariant-loop-b
invariant-loop-b g l = record {
  numbers : (i : ℕ) → i < length l.order → slice_index l.order i < length l.points;
  takes : AreTakes (g.F.Field.bits_of l.f) (length l.points) l.takes.numbers.items l.takes.factors.items l.takes.products.items;
  so_far : (symbols : List ℕ) (stop : ℕ) → ArePending (g.D.OrderDomain.domain l.dom) (g.F.Field.modulus_of l.f) l.points stop l.band l.values l.products symbols →
      AreSoFar (g.D.OrderDomain.domain l.dom) (g.F.Field.modulus_of l.f) l.points (get_or l.band 0 stop) l.fn.ranks.items l.fn.vectors.items
      (lists_after (gf_mul (g.F.Field.bits_of l.f) (g.F.Field.modulus_of l.f)) (length l.points) l.fn.takes.numbers.items l.fn.takes.factors.items l.fn.takes.products.items symbols) l.fn.order l.fn.used l.fn.old →
      AreSoFar (g.D.OrderDomain.domain l.dom) (g.F.Field.modulus_of l.f) l.points (get_or l.band l.b stop) l.ranks.items l.vectors.items
      (lists_after (gf_mul (g.F.Field.bits_of l.f) (g.F.Field.modulus_of l.f)) (length l.points) l.takes.numbers.items l.takes.factors.items l.takes.products.items symbols) l.order l.used l.old;
}
