-- What each candidate votes for, and the tallies.
use Rattle.std.specs.Prelude.{ℕ, true, ◌+◌, ◌≡◌, ◌≢◌, ◌<◌, Bool, ◌&&◌, eqb, List, length, get_or}
use Rattle.field_theory.specs.Sums.{total, one_if, count_pairs}
use Rattle.counting_theory.specs.Ranks.{candidate, right, wrong}

-- (i, j) is a candidate of sum r that votes for v
unfoldable pub casts : (ℕ → ℕ → ℕ) → (ℕ → ℕ → ℕ) → (ℕ → ℕ → ℕ) → ℕ → ℕ → ℕ → ℕ → Bool
casts R sum_at vote r v i j = (eqb (sum_at i j) r && candidate R i j) && eqb (vote i j) v

-- the number of candidates of sum r that vote for v
unfoldable pub votes_for : ℕ → (ℕ → ℕ → ℕ) → (ℕ → ℕ → ℕ) → (ℕ → ℕ → ℕ) → ℕ → ℕ → ℕ
votes_for n R sum_at vote r v = count_pairs n (casts R sum_at vote r v)

-- among the candidates of sum r, the right ones vote for s, and the wrong ones do not
pub record IsVoteOn (n : ℕ) (R sum_at vote : ℕ → ℕ → ℕ) (r s : ℕ) : Type 0 where
  pub right_says : (i j : ℕ) → i < n → j < n → sum_at i j ≡ r → right R i j ≡ true → vote i j ≡ s
  pub wrong_says : (i j : ℕ) → i < n → j < n → sum_at i j ≡ r → wrong R i j ≡ true → vote i j ≢ s

-- the number of pairs at which p holds in the rows above i, and in row i at the columns before j
unfoldable pub count_before : ℕ → (ℕ → ℕ → Bool) → ℕ → ℕ → ℕ
count_before n p i j = total i (λ a. total n (λ b. one_if (p a b))) + total j (λ b. one_if (p i b))

-- a tally at each value: it counts the votes of the pairs before (i, j)
pub record IsTallied (n : ℕ) (R sum_at vote : ℕ → ℕ → ℕ) (r : ℕ) (tally : List ℕ) (i j : ℕ) : Type 0 where
  pub at : (v : ℕ) → v < length tally → get_or tally v 0 ≡ count_before n (casts R sum_at vote r v) i j

-- count is the number of candidates of sum r in the rows above i
pub record IsCounted (n : ℕ) (R sum_at : ℕ → ℕ → ℕ) (r count i : ℕ) : Type 0 where
  pub above : count ≡ count_before n (λ a b. eqb (sum_at a b) r && candidate R a b) i 0
