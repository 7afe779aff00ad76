-- IsMemberIndex   the index of a member
-- IsBuilt         the basis of a domain at some points, over the field with this modulus: its members are exactly the
--                 functions that are no combination of the functions before them
use Rattle.std.specs.Prelude.{◌≡◌, ℕ, ◌<◌, List, length}
use Rattle.counting_theory.specs.Votes.{pairs}
use Rattle.order_theory.specs.Basis.{Basis, rank_at, label, pairs_at, lead, times}
use Rattle.order_theory.specs.Domains.{HasMembers}
use Rattle.order_domain.specs.declared.Point.{Point}
use Rattle.order_domain.specs.Domain.{Domain}
use Rattle.order_domain.specs.Values.{value_at, sum_or_count, lead_at}

pub record IsMemberIndex (b : Basis) (i : ℕ) : Type 0 where
  pub number : ℕ
  pub below : number < b.n
  pub is : i ≡ rank_at b number

pub record IsBuilt (d : Domain) (modulus : ℕ) (points : List Point) (b : Basis) : Type 0 where
  pub bits_are : b.bits ≡ d.bits
  pub modulus_is : b.modulus ≡ modulus
  pub n_is : b.n ≡ length points
  pub count_is : b.count ≡ d.count
  -- the members, with their values at the points, their sums and their leads
  pub members : HasMembers (times b) b (value_at d modulus points) (sum_or_count d) (lead_at d modulus)
  -- 0 where there is no sum
  pub leads : (i j : ℕ) → i < b.n → j < b.n → lead b i j ≡ lead_at d modulus (rank_at b i) (rank_at b j)
  pub labels : (k : ℕ) → k < b.n → label b k ≡ d.label (rank_at b k)
  -- the pairs of all functions of the domain are counted
  pub pairs_are : (k : ℕ) → k < b.n → pairs_at b k ≡ pairs d.count (sum_or_count d) (rank_at b k)
  -- where the sum of two functions is a member, both are members
  pub members_below : (i j k : ℕ) → i < d.count → j < d.count → k < b.n → sum_or_count d i j ≡ rank_at b k → IsMemberIndex b i × IsMemberIndex b j
