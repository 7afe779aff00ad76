-- The tallies of the vote on one member, row by row
use Rattle.std.proofs.Common.{ℕ, ◌≡◌, ◌+◌, ◌*◌, ◌^◌, ◌<◌, ◌≤◌, List, length, get_or, set, ◌∙◌, ap, subst, inl, inr, arith}
use Rattle.std.specs.List.{IsFirstMaxByKey}
use Rattle.std.specs.Prelude.{replicate}
use Rattle.std.proofs.lemmas.Bool.{cases_eq, cases_lt}
use Rattle.std.proofs.lemmas.List.{get_or-replicate, length-replicate}
use Rattle.std.proofs.lemmas.Nat.{mul-add-lt, mul-le}
use Rattle.counting_theory.specs.Ballots.{IsTallied, IsCounted}
use Rattle.counting_theory.proofs.Ballots.{votes_for-le}
use Rattle.counting_theory.proofs.Tally.{tallied_none, tallied_row_none, tallied_row_one, tallied_all, tally-le, counted_none, counted_row_none, counted_row_one, counted_all}
use Rattle.order_theory.specs.Basis.{Basis, IsSoundBasis, times, sum_at, rank_at}
use Rattle.order_theory.specs.Errors.{part_rank}
use Rattle.order_theory.specs.Voting.{IsElected, vote_at, votes_at, candidates_at}
use Rattle.vote_core.specs.Votes.{HasNoVote, HasVote}
use Rattle.vote_core.proofs.Settled.{smaller}

module _ (b : Basis) (w : List ℕ) (k : ℕ) (h : IsSoundBasis b) (lk : k < b.n) where
  -- the tallies of the rows above i, and the number of candidates in them
  abbrev pub Tallied : List ℕ → ℕ → Type 0
  Tallied tally i = IsTallied b.n (part_rank (times b) b w) (sum_at b) (vote_at (times b) b w k) (rank_at b k) tally i 0

  abbrev pub Counted : ℕ → ℕ → Type 0
  Counted count i = IsCounted b.n (part_rank (times b) b w) (sum_at b) (rank_at b k) count i

  -- a row has at most one pair of the sum
  once : (i p q : ℕ) → i < b.n → p < b.n → q < b.n → sum_at b i p ≡ rank_at b k → sum_at b i q ≡ rank_at b k → p ≡ q
  once i p q li lp lq ep eq =
      let few : rank_at b k < b.count = h.sound.shape.ranks_below k lk in
      elim (cases_lt p q) [
        | inl u ↦ let l : sum_at b i p < sum_at b i q = smaller b i q i p h li lq (omega arith) (omega arith) (omega arith) (omega arith) in absurd (omega arith)
        | inr u ↦ elim (cases_eq p q) [
          | inl e ↦ e
          | inr d ↦ let l : sum_at b i q < sum_at b i p = smaller b i p i q h li lp (omega arith) (omega arith) (omega arith) (omega arith) in absurd (omega arith)
        ]
      ]

  pub votes_none : (tally : List ℕ) (n : ℕ) → tally ≡ replicate n 0 → Tallied tally 0
  votes_none tally n e = tallied_none tally (λ v l. ap (λ (t : List ℕ). get_or t v 0) e ∙ get_or-replicate n v 0 0 (omega (arith, ap length e, length-replicate {A = ℕ} n 0)))

  pub count_none : Counted 0 0
  count_none = counted_none

  pub votes_same : (tally : List ℕ) (i : ℕ) → HasNoVote b w k i → Tallied tally i → Tallied tally (i + 1)
  votes_same tally i none t = tallied_row_none t none.none

  pub count_same : (count i : ℕ) → HasNoVote b w k i → Counted count i → Counted count (i + 1)
  count_same count i none t = counted_row_none t none.none

  pub votes_more : (tally : List ℕ) (i v y : ℕ) → i < b.n → HasVote b w k i v → length tally ≡ 2 ^ b.bits → y ≡ get_or tally v 0 + 1 → Tallied tally i → Tallied (set tally v y) (i + 1)
  votes_more tally i v y li vote long e t =
      let symbol : v < 2 ^ b.bits = vote.symbol in
      tallied_row_one vote.column v y t vote.inside (λ p lp s. once i p vote.column li lp vote.inside s vote.at_sum) vote.at_sum vote.is_candidate vote.value (omega arith) e

  pub count_more : (count i v : ℕ) → i < b.n → HasVote b w k i v → Counted count i → Counted (count + 1) (i + 1)
  count_more count i v li vote t = counted_row_one vote.column t vote.inside (λ p lp s. once i p vote.column li lp vote.inside s vote.at_sum) vote.at_sum vote.is_candidate

  -- a tally stays small
  pub tally_fits : (tally : List ℕ) (i v : ℕ) → i < b.n → v < length tally → Tallied tally i → get_or tally v 0 + 1 < 2 ^ 32
  tally_fits tally i v li lv t =
      let counted : get_or tally v 0 ≤ i * b.n + 0 = tally-le t v lv in
      let some : 1 ≤ b.n = h.sound.shape.some_members in
      let few : b.n ≤ 1024 = h.sound.shape.few_members in
      let place : i * b.n + 0 < b.n * b.n = mul-add-lt i b.n 0 b.n li (omega arith) in
      let square : b.n * b.n ≤ 1024 * 1024 = mul-le b.n b.n 1024 1024 few few in
      omega arith

  -- after the last row, the first of the greatest tallies is elected
  pub elected : (tally : List ℕ) (i v : ℕ) → length tally ≡ 2 ^ b.bits → i ≡ b.n → Tallied tally i → IsFirstMaxByKey (λ x. x) tally (length tally) v
      → IsElected (times b) b w k v × (get_or tally v 0 ≡ votes_at (times b) b w k v)
  elected tally i v long e t first =
      let all : Tallied tally b.n = subst (λ (y : ℕ). Tallied tally y) e t in
      let counts : (x : ℕ) → x < length tally → get_or tally x 0 ≡ votes_at (times b) b w k x = λ x l. tallied_all all x l in
      let low : v < length tally = first.0 in (
        record {
          symbol = omega arith;
          most = λ x l. omega (arith, counts x (omega arith), counts v low, first.1 x 0 (omega arith));
          least = λ x l. omega (arith, counts x (omega arith), counts v low, first.2 x 0 l);
        },
        counts v low,
      )

  pub counted : (count i : ℕ) → i ≡ b.n → Counted count i → count ≡ candidates_at (times b) b w k
  counted count i e t = counted_all (subst (λ (y : ℕ). Counted count y) e t)

  -- no value has more votes than there are candidates
  pub votes-le : (votes candidates v : ℕ) → votes ≡ votes_at (times b) b w k v → candidates ≡ candidates_at (times b) b w k → votes ≤ candidates
  votes-le votes candidates v e f = omega (arith, votes_for-le b.n (part_rank (times b) b w) (sum_at b) (vote_at (times b) b w k) (rank_at b k) v)
