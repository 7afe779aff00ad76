-- The hypotheses can be met: the ranks of the parts of an identity matrix, and the sum of the members of ℕ.
use Rattle.std.proofs.Common.{ℕ, ◌+◌, ◌*◌, ◌≡◌, List, [], ◌∷◌, get_or, min, refl, arith}
use Rattle.counting_theory.specs.Ranks.{IsRank, wrong, right, candidate}
use Rattle.counting_theory.specs.Votes.{IsSum, pairs, right_votes, wrong_votes, pivots}
use Rattle.field_theory.specs.Sums.{count_pairs}

identity_ranks : (n : ℕ) → IsRank n (λ i j. min i j)
identity_ranks n = record {
  no_rows = λ j h. omega arith;
  no_columns = λ i h. omega arith;
  row = λ i j h k. omega arith;
  column = λ i j h k. omega arith;
  corner = λ i j h k. omega arith;
}

plain_sum : (n count : ℕ) → IsSum n count (λ i j. i + j)
plain_sum n count = record { rises = λ i j i' j' h k a b c d. omega arith }

-- values by computation
three : pairs 3 (λ i j. i + j) 2 ≡ 3
unfolding pairs count_pairs
three = refl

one_pivot : pivots 3 (λ i j. min i j) (λ i j. i + j) 2 ≡ 1
unfolding pivots count_pairs wrong candidate
one_pivot = refl

-- A known vote: y^2 + y = x^3 over GF(4) with its eight points, and an error with 1 at point 2 and 2 at point 3. The
-- table of ranks has nine rows and columns, that of sums eight. Label 6 has the index 5: five pairs, two right, one wrong.
ranks : List ℕ
ranks = 0 ∷ 0 ∷ 0 ∷ 0 ∷ 0 ∷ 0 ∷ 0 ∷ 0 ∷ 0 ∷ 0 ∷ 1 ∷ 1 ∷ 1 ∷ 1 ∷ 1 ∷ 1 ∷ 1 ∷ 1 ∷ 0 ∷ 1 ∷ 1 ∷ 1 ∷ 1 ∷ 1 ∷ 1 ∷ 1 ∷ 1 ∷ 0 ∷ 1 ∷ 1 ∷ 2 ∷ 2 ∷ 2 ∷ 2 ∷ 2 ∷ 2 ∷ 0 ∷ 1 ∷ 1 ∷ 2 ∷ 2 ∷ 2 ∷ 2 ∷ 2 ∷ 2 ∷ 0 ∷ 1 ∷ 1 ∷ 2 ∷ 2 ∷ 2 ∷ 2 ∷ 2 ∷ 2 ∷ 0 ∷ 1 ∷ 1 ∷ 2 ∷ 2 ∷ 2 ∷ 2 ∷ 2 ∷ 2 ∷ 0 ∷ 1 ∷ 1 ∷ 2 ∷ 2 ∷ 2 ∷ 2 ∷ 2 ∷ 2 ∷ 0 ∷ 1 ∷ 1 ∷ 2 ∷ 2 ∷ 2 ∷ 2 ∷ 2 ∷ 2 ∷ []

sums : List ℕ
sums = 0 ∷ 1 ∷ 2 ∷ 3 ∷ 4 ∷ 5 ∷ 6 ∷ 8 ∷ 1 ∷ 3 ∷ 4 ∷ 5 ∷ 6 ∷ 7 ∷ 8 ∷ 9 ∷ 2 ∷ 4 ∷ 5 ∷ 6 ∷ 7 ∷ 8 ∷ 9 ∷ 9 ∷ 3 ∷ 5 ∷ 6 ∷ 7 ∷ 8 ∷ 9 ∷ 9 ∷ 9 ∷ 4 ∷ 6 ∷ 7 ∷ 8 ∷ 9 ∷ 9 ∷ 9 ∷ 9 ∷ 5 ∷ 7 ∷ 8 ∷ 9 ∷ 9 ∷ 9 ∷ 9 ∷ 9 ∷ 6 ∷ 8 ∷ 9 ∷ 9 ∷ 9 ∷ 9 ∷ 9 ∷ 9 ∷ 8 ∷ 9 ∷ 9 ∷ 9 ∷ 9 ∷ 9 ∷ 9 ∷ 9 ∷ []

six : record { pairs : pairs 8 (λ i j. get_or sums (i * 8 + j) 0) 5 ≡ 5; right : right_votes 8 (λ i j. get_or ranks (i * 9 + j) 0) (λ i j. get_or sums (i * 8 + j) 0) 5 ≡ 2; wrong : wrong_votes 8 (λ i j. get_or ranks (i * 9 + j) 0) (λ i j. get_or sums (i * 8 + j) 0) 5 ≡ 1 }
unfolding pairs right_votes wrong_votes count_pairs right wrong candidate ranks sums
six = record { pairs = refl; right = refl; wrong = refl }
