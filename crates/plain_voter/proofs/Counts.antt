-- The tallies of the vote on one member, pair by pair
use Rattle.std.proofs.Common.{ℕ, ◌≡◌, ◌+◌, ◌*◌, ◌%◌, ◌^◌, ◌<◌, ◌≤◌, Bool, true, false, ◌&&◌, eqb, List, length, get_or, set, sym, ◌∙◌, ap, arith}
use Rattle.std.specs.List.{IsFirstMaxByKey}
use Rattle.std.specs.Prelude.{replicate}
use Rattle.std.proofs.lemmas.Bool.Decides.{nat_tests}
use Rattle.std.proofs.lemmas.List.{get_or-replicate, length-replicate, length-set}
use Rattle.std.proofs.lemmas.Nat.{mul-add-lt, mul-le, pow_below}
use Rattle.std.proofs.Math.Nat.{mod-eq_of_lt}
use Rattle.field_theory.specs.Sums.{one_if}
use Rattle.counting_theory.specs.Ballots.{count_before}
use Rattle.counting_theory.specs.Ranks.{candidate}
use Rattle.counting_theory.specs.Votes.{candidates}
use Rattle.counting_theory.proofs.Ballots.{votes_for-le, count_before_none, count_before_more, count_before_row, count_before_all, count_before-le}
use Rattle.counting_theory.proofs.Tally.{tallied_none, tallied_no, tallied_yes, tallied_row, tallied_all, tally-le}
use Rattle.order_theory.specs.Basis.{Basis, IsSoundBasis, times, sum_at, rank_at}
use Rattle.order_theory.specs.Errors.{part_rank}
use Rattle.order_theory.specs.Voting.{IsElected, vote_at, votes_at, candidates_at}
use Rattle.plain_voter.specs.Ballots.{HasNoVote, HasVote, IsPolled}

-- the number of the symbols
pub symbols_fit : (bits b : ℕ) → bits ≡ b → b ≤ 8 → 1 * 2 ^ bits % 18446744073709551616 ≡ 2 ^ b
symbols_fit bits b e l =
    let few : 2 ^ b < 2 ^ 64 = pow_below b 64 (omega arith) in
    let is : 1 * 2 ^ bits ≡ 2 ^ b = ap (λ (x : ℕ). 1 * 2 ^ x) e ∙ one_times (2 ^ b) in
    ap (λ (x : ℕ). x % 18446744073709551616) is ∙ mod-eq_of_lt few
  where
    one_times : (x : ℕ) → 1 * x ≡ x
    one_times x = omega arith

no_one : (s r : ℕ) (c : Bool) → (s ≡ r → c ≡ false) → one_if (eqb s r && c) ≡ 0
no_one s r c h = grind (arith, nat_tests)

yes_one : (s r : ℕ) (c : Bool) → s ≡ r → c ≡ true → one_if (eqb s r && c) ≡ 1
yes_one s r c e f = grind (arith, nat_tests)

module _ (b : Basis) (w : List ℕ) (k : ℕ) where
  abbrev Counts : ℕ → ℕ → Bool
  Counts p q = eqb (sum_at b p q) (rank_at b k) && candidate (part_rank (times b) b w) p q

  pub polled_none : (tally : List ℕ) (n : ℕ) → tally ≡ replicate n 0 → n ≡ 2 ^ b.bits → IsPolled b w k tally 0 0 0
  polled_none tally n e f = record {
    long = ap length e ∙ length-replicate n 0 ∙ f;
    tallied = tallied_none tally (λ v l. ap (λ (t : List ℕ). get_or t v 0) e ∙ get_or-replicate n v 0 0 (omega (arith, ap length e, length-replicate {A = ℕ} n 0)));
    counted = sym (count_before_none b.n Counts);
  }

  -- a pair that is no candidate of the member
  pub polled_same : (tally : List ℕ) (count i j : ℕ) → HasNoVote b w k i j → IsPolled b w k tally count i j → IsPolled b w k tally count i (j + 1)
  polled_same tally count i j none p = record {
    long = p.long;
    tallied = tallied_no p.tallied none.none;
    counted = omega (arith, p.counted, count_before_more b.n Counts i j, no_one (sum_at b i j) (rank_at b k) (candidate (part_rank (times b) b w) i j) none.none);
  }

  -- a candidate
  pub polled_more : (tally : List ℕ) (count i j v y : ℕ) → HasVote b w k i j v → y ≡ get_or tally v 0 + 1 → IsPolled b w k tally count i j → IsPolled b w k (set tally v y) (count + 1) i (j + 1)
  polled_more tally count i j v y vote e p =
      let symbol : v < 2 ^ b.bits = vote.symbol in
      let long : length tally ≡ 2 ^ b.bits = p.long in
      record {
        long = length-set tally v y ∙ p.long;
        tallied = tallied_yes v y p.tallied vote.at_sum vote.is_candidate vote.value (omega arith) e;
        counted = omega (arith, p.counted, count_before_more b.n Counts i j, yes_one (sum_at b i j) (rank_at b k) (candidate (part_rank (times b) b w) i j) vote.at_sum vote.is_candidate);
      }

  -- the end of a row
  pub polled_row : (tally : List ℕ) (count i j : ℕ) → j ≡ b.n → IsPolled b w k tally count i j → IsPolled b w k tally count (i + 1) 0
  polled_row tally count i j e p = record {
    long = p.long;
    tallied = tallied_row p.tallied e;
    counted = p.counted ∙ ap (λ (q : ℕ). count_before b.n Counts i q) e ∙ sym (count_before_row b.n Counts i);
  }

  -- the numbers stay small
  few_pairs : (i j : ℕ) → IsSoundBasis b → i < b.n → j < b.n → i * b.n + j < 1024 * 1024
  few_pairs i j h li lj =
      let few : b.n ≤ 1024 = h.sound.shape.few_members in
      let place : i * b.n + j < b.n * b.n = mul-add-lt i b.n j b.n li lj in
      let square : b.n * b.n ≤ 1024 * 1024 = mul-le b.n b.n 1024 1024 few few in
      omega arith

  pub tally_fits : (tally : List ℕ) (count i j v : ℕ) → IsSoundBasis b → i < b.n → j < b.n → v < 2 ^ b.bits → IsPolled b w k tally count i j → get_or tally v 0 + 1 < 2 ^ 32
  tally_fits tally count i j v h li lj lv p =
      let long : length tally ≡ 2 ^ b.bits = p.long in
      let counted : get_or tally v 0 ≤ i * b.n + j = tally-le p.tallied v (omega arith) in
      let few : i * b.n + j < 1024 * 1024 = few_pairs i j h li lj in
      omega arith

  pub count_fits : (tally : List ℕ) (count i j : ℕ) → IsSoundBasis b → i < b.n → j < b.n → IsPolled b w k tally count i j → count + 1 < 2 ^ 32
  count_fits tally count i j h li lj p =
      let counted : count_before b.n Counts i j ≤ i * b.n + j = count_before-le b.n Counts i j in
      let few : i * b.n + j < 1024 * 1024 = few_pairs i j h li lj in
      omega (arith, p.counted)

  -- after the last pair, the first of the greatest tallies is elected
  pub elected : (tally : List ℕ) (count v : ℕ) → IsPolled b w k tally count b.n 0 → IsFirstMaxByKey (λ x. x) tally (length tally) v
      → IsElected (times b) b w k v × (get_or tally v 0 ≡ votes_at (times b) b w k v)
  elected tally count v p first =
      let long : length tally ≡ 2 ^ b.bits = p.long in
      let counts : (x : ℕ) → x < length tally → get_or tally x 0 ≡ votes_at (times b) b w k x = λ x l. tallied_all p.tallied x l in
      let low : v < length tally = first.0 in (
        record {
          symbol = omega arith;
          most = λ x l. omega (arith, counts x (omega arith), counts v low, first.1 x 0 (omega arith));
          least = λ x l. omega (arith, counts x (omega arith), counts v low, first.2 x 0 l);
        },
        counts v low,
      )

  pub all_counted : (tally : List ℕ) (count : ℕ) → IsPolled b w k tally count b.n 0 → count ≡ candidates_at (times b) b w k
  unfolding candidates
  all_counted tally count p = p.counted ∙ count_before_all b.n Counts

  -- no value has more votes than there are candidates
  pub votes-le : (votes count v : ℕ) → votes ≡ votes_at (times b) b w k v → count ≡ candidates_at (times b) b w k → votes ≤ count
  votes-le votes count v e f = omega (arith, votes_for-le b.n (part_rank (times b) b w) (sum_at b) (vote_at (times b) b w k) (rank_at b k) v)
