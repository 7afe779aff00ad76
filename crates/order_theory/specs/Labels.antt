-- HasLabels          the labels of a basis are those of the functions that it comes from, and rise with them
-- AreMarkedUpTo      the marked members are those whose labels are at most a number
-- IsOrthogonalUpTo   a list is orthogonal to each function whose label is at most a number, member or not
-- LabelLaw           the theorem: the codewords of the members that are marked so are the lists that are orthogonal so
use Rattle.std.specs.Prelude.{◌≡◌, ℕ, ◌^◌, ◌<◌, ◌≤◌, ◌↔◌, leb, Bool, List, slice_index}
use Rattle.linear_theory.specs.Linear.{dot}
use Rattle.order_theory.specs.Basis.{Basis, IsWord, IsSound, rank_at, label}
use Rattle.order_theory.specs.Codes.{marked, IsCodeword}
use Rattle.order_theory.specs.Domains.{IsOrdered, HasMembers}

pub record HasLabels (b : Basis) (labels : ℕ → ℕ) : Type 0 where
  pub rise : (i j : ℕ) → i < j → j < b.count → labels i < labels j
  pub of_members : (k : ℕ) → k < b.n → label b k ≡ labels (rank_at b k)

pub record AreMarkedUpTo (b : Basis) (marks : List Bool) (s : ℕ) : Type 0 where
  pub marks_are : (k : ℕ) → k < b.n → marked marks k ≡ leb (label b k) s

-- ev i p is the value of function i at point p
pub record IsOrthogonalUpTo (mul : ℕ → ℕ → ℕ) (b : Basis) (ev : ℕ → ℕ → ℕ) (labels : ℕ → ℕ) (s : ℕ) (x : List ℕ) : Type 0 where
  pub products : (i : ℕ) → i < b.count → labels i ≤ s → dot mul b.n (slice_index x) (ev i) ≡ 0

abbrev pub LabelLaw : Type 0
LabelLaw =
    (mul : ℕ → ℕ → ℕ) (b : Basis) (ev sum lead : ℕ → ℕ → ℕ) (labels : ℕ → ℕ) (marks : List Bool) (s : ℕ) (x : List ℕ) →
    IsSound mul b → IsOrdered (2 ^ b.bits) mul b.n b.count ev sum lead → HasMembers mul b ev sum lead → HasLabels b labels → AreMarkedUpTo b marks s →
    IsWord b.bits b.n x → IsCodeword mul b marks x ↔ IsOrthogonalUpTo mul b ev labels s x
