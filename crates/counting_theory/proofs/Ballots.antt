-- The tallies of the candidates, their loop, and the value that wins.
use Rattle.std.proofs.Common.{ℕ, zero, suc, ◌+◌, ◌*◌, ◌≡◌, ◌≢◌, ◌<◌, ◌≤◌, Bool, true, false, ◌&&◌, eqb, not, List, length, get_or, refl, sym, ◌∙◌, arith, add-one, eqb-true, eq-eqb, ne_eqb}
use Rattle.std.specs.List.{IsFirstMaxByKey}
use Rattle.field_theory.specs.Sums.{total, one_if, count_pairs}
use Rattle.counting_theory.specs.Ranks.{IsRank, candidate, right, wrong}
use Rattle.counting_theory.specs.Votes.{IsSum, pairs, candidates, right_votes, wrong_votes}
use Rattle.counting_theory.specs.Ballots.{casts, votes_for, IsVoteOn, count_before}
use Rattle.field_theory.proofs.Totals.{count-le-count, count_same}
use Rattle.counting_theory.proofs.Votes.{right_wins}
use Rattle.counting_theory.proofs.Majority.{max_is}

same_test : (e c x t : Bool) → (e ≡ true → (c && x) ≡ true → t ≡ true) → (e ≡ true → (c && not x) ≡ true → t ≡ false) → one_if ((e && c) && t) ≡ one_if (e && (c && x))
same_test e c x t f g = grind arith

other_test : (e c x t : Bool) → (e ≡ true → (c && x) ≡ true → t ≡ false) → one_if ((e && c) && t) ≤ one_if (e && (c && not x))
other_test e c x t f = grind arith

cast_for : {n r s : ℕ} {R sum_at vote : ℕ → ℕ → ℕ} → IsVoteOn n R sum_at vote r s → (i j : ℕ) → i < n → j < n → one_if (casts R sum_at vote r s i j) ≡ one_if (eqb (sum_at i j) r && right R i j)
unfolding casts right wrong
cast_for {n} {r} {s} {R} {sum_at} {vote} h i j hi hj =
    same_test (eqb (sum_at i j) r) (candidate R i j) (eqb (R (i + 1) (j + 1)) (R i j)) (eqb (vote i j) s)
    (λ e t. eq-eqb (vote i j) s (h.right_says i j hi hj (eqb-true (sum_at i j) r e) t))
    (λ e t. ne_eqb (vote i j) s (h.wrong_says i j hi hj (eqb-true (sum_at i j) r e) t))

cast_other : {n r s : ℕ} {R sum_at vote : ℕ → ℕ → ℕ} → IsVoteOn n R sum_at vote r s → (v i j : ℕ) → v ≢ s → i < n → j < n → one_if (casts R sum_at vote r v i j) ≤ one_if (eqb (sum_at i j) r && wrong R i j)
unfolding casts right wrong
cast_other {n} {r} {s} {R} {sum_at} {vote} h v i j ne hi hj =
    other_test (eqb (sum_at i j) r) (candidate R i j) (eqb (R (i + 1) (j + 1)) (R i j)) (eqb (vote i j) v)
    (λ e t. ne_eqb (vote i j) v (λ u. ne (sym u ∙ h.right_says i j hi hj (eqb-true (sum_at i j) r e) t)))

-- s has the votes of the right candidates
pub votes_for_is : {n r s : ℕ} {R sum_at vote : ℕ → ℕ → ℕ} → IsVoteOn n R sum_at vote r s → votes_for n R sum_at vote r s ≡ right_votes n R sum_at r
unfolding votes_for right_votes
votes_for_is {n} {r} {s} {R} {sum_at} {vote} h = count_same n (casts R sum_at vote r s) (λ i j. eqb (sum_at i j) r && right R i j) (cast_for h)

-- another value has votes of wrong candidates alone
pub votes_for_other : {n r s : ℕ} {R sum_at vote : ℕ → ℕ → ℕ} → IsVoteOn n R sum_at vote r s → (v : ℕ) → v ≢ s → votes_for n R sum_at vote r v ≤ wrong_votes n R sum_at r
unfolding votes_for wrong_votes
votes_for_other {n} {r} {s} {R} {sum_at} {vote} h v ne = count-le-count n (casts R sum_at vote r v) (λ i j. eqb (sum_at i j) r && wrong R i j) (λ i j. cast_other h v i j ne)

-- no value has more votes than there are candidates
pub votes_for-le : (n : ℕ) (R sum_at vote : ℕ → ℕ → ℕ) (r v : ℕ) → votes_for n R sum_at vote r v ≤ candidates n R sum_at r
unfolding votes_for candidates casts
votes_for-le n R sum_at vote r v =
    count-le-count n (λ i j. (eqb (sum_at i j) r && candidate R i j) && eqb (vote i j) v) (λ i j. eqb (sum_at i j) r && candidate R i j) (λ i j l m. fewer (eqb (sum_at i j) r && candidate R i j) (eqb (vote i j) v))
  where
    fewer : (x y : Bool) → one_if (x && y) ≤ one_if x
    fewer x y = grind arith

-- so s is where the greatest tally stands
pub winner_is : {n count : ℕ} {R sum_at vote : ℕ → ℕ → ℕ} {r s : ℕ} → IsRank n R → IsSum n count sum_at → IsVoteOn n R sum_at vote r s → (w : ℕ) (tally : List ℕ) (b : ℕ) → R n n ≤ w → r < count → 2 * w < pairs n sum_at r → s < length tally → ((v : ℕ) → v < length tally → get_or tally v 0 ≡ votes_for n R sum_at vote r v) → IsFirstMaxByKey (λ x. x) tally (length tally) b → b ≡ s
winner_is {s = s} k m h w tally b hw hr hp hs t =
    max_is tally s b hs (λ v hv ne. omega (arith, right_wins k m w _ hw hr hp, votes_for_is h, votes_for_other h v ne, t v hv, t s hs))

-- ---- the steps of a loop over the rows and, in each, over the columns
pub count_before_none : (n : ℕ) (p : ℕ → ℕ → Bool) → count_before n p 0 0 ≡ 0
unfolding count_before
count_before_none n p = refl

pub count_before_more : (n : ℕ) (p : ℕ → ℕ → Bool) (i j : ℕ) → count_before n p i (j + 1) ≡ count_before n p i j + one_if (p i j)
unfolding count_before
count_before_more n p i j = rw add-one (omega arith)

pub count_before_row : (n : ℕ) (p : ℕ → ℕ → Bool) (i : ℕ) → count_before n p (i + 1) 0 ≡ count_before n p i n
unfolding count_before
count_before_row n p i = rw add-one (omega arith)

pub count_before_all : (n : ℕ) (p : ℕ → ℕ → Bool) → count_before n p n 0 ≡ count_pairs n p
unfolding count_before count_pairs
count_before_all n p = omega arith

total-le-mul : (n m : ℕ) (f : ℕ → ℕ) → ((k : ℕ) → k < n → f k ≤ m) → total n f ≤ n * m
total-le-mul zero m f h = omega arith
total-le-mul (suc n) m f h = omega (arith, total-le-mul n m f (λ k l. h k (omega arith)), h n (omega arith))

one_if-le : (b : Bool) → one_if b ≤ 1
one_if-le b = grind arith

pub count_before-le : (n : ℕ) (p : ℕ → ℕ → Bool) (i j : ℕ) → count_before n p i j ≤ i * n + j
unfolding count_before
count_before-le n p i j =
    omega (arith, total-le-mul i n (λ a. total n (λ b. one_if (p a b))) (λ a l. full n a), full j i)
  where
    full : (m a : ℕ) → total m (λ b. one_if (p a b)) ≤ m
    full m a = omega (arith, total-le-mul m 1 (λ b. one_if (p a b)) (λ b l. one_if-le (p a b)))
