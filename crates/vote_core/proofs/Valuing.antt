-- The values of classes, when the working list takes on a syndrome
use Rattle.std.proofs.Common.{ℕ, ◌+◌, ◌^◌, ◌<◌, List, ◌∙◌, arith}
use Rattle.order_theory.specs.Basis.{Basis, IsSoundBasis, IsWord, times, rank_at}
use Rattle.order_theory.specs.Course.{IsMoved}
use Rattle.order_theory.proofs.Theorems.{known_law}
use Rattle.product_classes.specs.Table.{ClassTable}
use Rattle.product_classes.specs.Values.{AreValues}
use Rattle.vote_core.proofs.Courses.{moved_same}

-- below the member the values stay
pub values_moved : (b : Basis) (table : ClassTable) (w w' values : List ℕ) (k v : ℕ) → IsSoundBasis b → IsWord b.bits b.n w → IsWord b.bits b.n w' → k < b.n → v < 2 ^ b.bits → IsMoved (times b) b w k v w'
    → AreValues b table w values (rank_at b k + 1) → AreValues b table w' values (rank_at b k)
values_moved b table w w' values k v h ww ww' lk symbol moved a = record {
  at = λ i j li lj l. a.at i j li lj (omega arith) ∙ (known_law (times b) b w w' k h.sound ww ww' lk (moved_same b w w' k v h lk symbol moved)).before i j li lj l;
}
