-- RankLaw          the ranks of an error are ranks in the sense of the counting theory, at most its weight
-- GreatestRankLaw  a rank is the greatest number of independent rows
-- MajorityLaw      the counts of the votes on a member, and that the right ones win where the error is light
-- DistanceLaw      a codeword that is not zero is as heavy as the pairs of some member that is not marked
-- BoundLaw         hence it is as heavy as the order bound
-- ApartLaw         hence two codewords differ in as many places as the order bound says
-- RadiusLaw        what the radius of a bound is
-- NearLaw          at most one codeword is near a list of bytes
-- ErrorLaw         a list of symbols has at most one light error
-- KnownLaw         what the known syndromes of an error tell of its entries and candidates
-- VoteLaw          a candidate is right exactly where it votes for the syndrome of the error
-- VoteOnceLaw      each candidate has one vote
-- VoteMadeLaw      how a vote is made, from the value that keeps the rank
-- ElectionLaw      the elected value is the syndrome of the error
-- CountLaw         the syndrome of the error has the votes of its right candidates, and each candidate is right or wrong
-- NoErrorLaw       where there is no error, each pair is a right candidate
-- RecoveryLaw      an error is the combination of the dual lists by its syndromes
-- SyndromeLaw      two errors with the same syndromes are one
-- StepLaw          a multiple of a dual list changes one syndrome
-- MarkedLaw        a working list stays on course where it takes the syndrome of a marked member from what was received
-- VotedLaw         .. and that of a member that is not marked from the vote
-- FoundLaw         a list that is on course to the end is the error, if there is one
-- NearErrorLaw     a near codeword gives an error, and the error leads back to it
-- OriginLaw        what ordered functions give of the products and the pairs of a basis that holds their new ones
-- SoundLaw         so such a basis is sound
-- RanksOf, IsGreatestRank, VotesOn, KnownPart, VotesOnce, VotesCounted, VotesOfNone, NearGives, OriginOf   what these laws give
use Rattle.std.specs.Prelude.{◌≡◌, ◌≢◌, ℕ, ◌+◌, ◌-◌, ◌*◌, ◌/◌, ◌^◌, ◌<◌, ◌≤◌, ◌↔◌, Bool, true, false, bit_xor, List, length, slice_index}
use Rattle.linear_theory.specs.Linear.{AreIndependent}
use Rattle.counting_theory.specs.Votes.{pairs}
use Rattle.counting_theory.specs.Ranks.{IsRank, candidate, right}
use Rattle.field_theory.specs.Field.{IsField}
use Rattle.order_theory.specs.Basis.{HasShape, HasLead, IsSpannedBelow, product, Basis, IsWord, IsSound, sum_at, rank_at, pairs_at, lead, dual}
use Rattle.order_theory.specs.Domains.{IsOrdered, HasMembers}
use Rattle.order_theory.specs.Errors.{weight, syndrome, entry, part_rank, right_at, wrong_at, pivots_at}
use Rattle.order_theory.specs.Codes.{low_bits, marked, IsCodeword, IsBound, IsRadius, IsNear, list_sum, distance}
use Rattle.order_theory.specs.Voting.{SameBelow, IsResidue, IsVote, IsElected, vote_at, votes_at, candidates_at, dual_sum}
use Rattle.order_theory.specs.Course.{IsErrorOf, IsOnCourse, IsMoved}

-- The ranks of an error are ranks in the sense of the counting theory, and none is above its weight
pub record RanksOf (mul : ℕ → ℕ → ℕ) (b : Basis) (e : List ℕ) : Type 0 where
  pub are_ranks : IsRank b.n (part_rank mul b e)
  pub at_most_weight : (i j : ℕ) → part_rank mul b e i j ≤ weight e

abbrev pub RankLaw : Type 0
RankLaw = (mul : ℕ → ℕ → ℕ) (b : Basis) (e : List ℕ) → IsSound mul b → IsWord b.bits b.n e → RanksOf mul b e

-- A rank is the greatest number of independent rows: there are so many, and no more
pub record IsGreatestRank (mul : ℕ → ℕ → ℕ) (b : Basis) (e : List ℕ) (i j : ℕ) : Type 0 where
  pub picks : ℕ → ℕ
  pub within : (t : ℕ) → t < part_rank mul b e i j → picks t < i
  pub independent : AreIndependent (2 ^ b.bits) mul j (λ t. entry mul b e (picks t)) (part_rank mul b e i j)
  pub no_more : (others : ℕ → ℕ) (m : ℕ) → ((t : ℕ) → t < m → others t < i) → AreIndependent (2 ^ b.bits) mul j (λ t. entry mul b e (others t)) m → m ≤ part_rank mul b e i j

abbrev pub GreatestRankLaw : Type 0
GreatestRankLaw = (mul : ℕ → ℕ → ℕ) (b : Basis) (e : List ℕ) (i j : ℕ) → IsSound mul b → IsGreatestRank mul b e i j

-- The votes on member k
pub record VotesOn (mul : ℕ → ℕ → ℕ) (b : Basis) (e : List ℕ) (k : ℕ) : Type 0 where
  pub pairs_bound : pairs_at b k ≤ right_at mul b e k + wrong_at mul b e k + 2 * pivots_at mul b e k
  pub weight_bound : pivots_at mul b e k + wrong_at mul b e k ≤ weight e
  pub right_wins : 2 * weight e < pairs_at b k → wrong_at mul b e k < right_at mul b e k

abbrev pub MajorityLaw : Type 0
MajorityLaw = (mul : ℕ → ℕ → ℕ) (b : Basis) (e : List ℕ) (k : ℕ) → IsSound mul b → IsWord b.bits b.n e → k < b.n → VotesOn mul b e k

-- A codeword that is not zero is as heavy as the pairs of a member that is not marked
abbrev pub DistanceLaw : Type 0
DistanceLaw =
    (mul : ℕ → ℕ → ℕ) (b : Basis) (marks : List Bool) (x : List ℕ) → IsSound mul b → IsCodeword mul b marks x → weight x ≢ 0 →
    (k : ℕ) × (k < b.n) × (marked marks k ≡ false) × (pairs_at b k ≤ weight x)

-- hence it is as heavy as each bound on them
abbrev pub BoundLaw : Type 0
BoundLaw =
    (mul : ℕ → ℕ → ℕ) (b : Basis) (marks : List Bool) (d : ℕ) (x : List ℕ) → IsSound mul b → IsBound b marks d → IsCodeword mul b marks x → weight x ≢ 0 → d ≤ weight x

-- hence two different codewords differ in at least as many places as each bound on them
abbrev pub ApartLaw : Type 0
ApartLaw =
    (mul : ℕ → ℕ → ℕ) (b : Basis) (marks : List Bool) (d : ℕ) (x x' : List ℕ) → IsSound mul b → IsBound b marks d →
    IsCodeword mul b marks x → IsCodeword mul b marks x' → x ≢ x' → d ≤ distance x x'

-- the radius is half the bound less one, rounded down
abbrev pub RadiusLaw : Type 0
RadiusLaw = (d t : ℕ) → 1 ≤ d → IsRadius d t ↔ (t ≡ (d - 1) / 2)

-- at most one codeword lies within t of a list of n bytes, where 2t is below the bound
abbrev pub NearLaw : Type 0
NearLaw =
    (mul : ℕ → ℕ → ℕ) (b : Basis) (marks : List Bool) (t d : ℕ) (y x x' : List ℕ) → IsSound mul b → IsBound b marks d → 2 * t < d →
    length y ≡ b.n → IsNear mul b marks t y x → IsNear mul b marks t y x' → x ≡ x'

-- and at most one error of weight at most t makes it one
abbrev pub ErrorLaw : Type 0
ErrorLaw =
    (mul : ℕ → ℕ → ℕ) (b : Basis) (marks : List Bool) (t d : ℕ) (y e e' : List ℕ) → IsSound mul b → IsBound b marks d → 2 * t < d →
    IsWord b.bits b.n y → IsWord b.bits b.n e → IsWord b.bits b.n e' → IsCodeword mul b marks (list_sum y e) → IsCodeword mul b marks (list_sum y e') →
    weight e ≤ t → weight e' ≤ t → e ≡ e'

-- Two lists with the same syndromes below k have the same entries at the sums below k; at the sum k their entries differ by
-- the lead times the difference of their syndromes of k
pub record KnownPart (mul : ℕ → ℕ → ℕ) (b : Basis) (e w : List ℕ) (k : ℕ) : Type 0 where
  pub before : (i j : ℕ) → i < b.n → j < b.n → sum_at b i j < rank_at b k → entry mul b e i j ≡ entry mul b w i j
  pub at_member : (i j : ℕ) → i < b.n → j < b.n → sum_at b i j ≡ rank_at b k →
      bit_xor (entry mul b e i j) (entry mul b w i j) ≡ mul (lead b i j) (bit_xor (syndrome mul b e k) (syndrome mul b w k))
  pub candidates : (i j : ℕ) → i < b.n → j < b.n → sum_at b i j ≡ rank_at b k → candidate (part_rank mul b e) i j ≡ candidate (part_rank mul b w) i j

abbrev pub KnownLaw : Type 0
KnownLaw =
    (mul : ℕ → ℕ → ℕ) (b : Basis) (e w : List ℕ) (k : ℕ) → IsSound mul b → IsWord b.bits b.n e → IsWord b.bits b.n w → k < b.n → SameBelow mul b e w k → KnownPart mul b e w k

-- A candidate is right exactly where it votes for the syndrome of the error
abbrev pub VoteLaw : Type 0
VoteLaw =
    (mul : ℕ → ℕ → ℕ) (b : Basis) (e w : List ℕ) (k i j v : ℕ) → IsSound mul b → IsWord b.bits b.n e → IsWord b.bits b.n w → k < b.n → SameBelow mul b e w k →
    i < b.n → j < b.n → sum_at b i j ≡ rank_at b k → candidate (part_rank mul b w) i j ≡ true → IsVote mul b w k i j v →
    (right (part_rank mul b e) i j ≡ true) ↔ (v ≡ syndrome mul b e k)

-- Each candidate has one vote ..
pub record VotesOnce (mul : ℕ → ℕ → ℕ) (b : Basis) (w : List ℕ) (k i j : ℕ) : Type 0 where
  pub votes : IsVote mul b w k i j (vote_at mul b w k i j)
  pub once : (v : ℕ) → IsVote mul b w k i j v → v ≡ vote_at mul b w k i j

abbrev pub VoteOnceLaw : Type 0
VoteOnceLaw =
    (mul : ℕ → ℕ → ℕ) (b : Basis) (w : List ℕ) (k i j : ℕ) → IsSound mul b → k < b.n →
    i < b.n → j < b.n → sum_at b i j ≡ rank_at b k → candidate (part_rank mul b w) i j ≡ true → VotesOnce mul b w k i j

-- .. which is made from the value x that keeps the rank, and u, the inverse of the lead
abbrev pub VoteMadeLaw : Type 0
VoteMadeLaw =
    (mul : ℕ → ℕ → ℕ) (b : Basis) (w : List ℕ) (k i j x u : ℕ) → IsSound mul b → k < b.n →
    i < b.n → j < b.n → sum_at b i j ≡ rank_at b k → candidate (part_rank mul b w) i j ≡ true → IsResidue mul b w i j x → u < 2 ^ b.bits → mul (lead b i j) u ≡ 1 →
    bit_xor (mul u (bit_xor x (entry mul b w i j))) (syndrome mul b w k) ≡ vote_at mul b w k i j

-- The least value with the most votes is the syndrome of the error, where twice the weight is below the pairs
abbrev pub ElectionLaw : Type 0
ElectionLaw =
    (mul : ℕ → ℕ → ℕ) (b : Basis) (e w : List ℕ) (k v : ℕ) →
    IsSound mul b → IsWord b.bits b.n e → IsWord b.bits b.n w → k < b.n → SameBelow mul b e w k → 2 * weight e < pairs_at b k →
    IsElected mul b w k v → v ≡ syndrome mul b e k

-- The syndrome of the error has the votes of the right candidates, and each candidate is right or wrong
pub record VotesCounted (mul : ℕ → ℕ → ℕ) (b : Basis) (e w : List ℕ) (k : ℕ) : Type 0 where
  pub right_ones : votes_at mul b w k (syndrome mul b e k) ≡ right_at mul b e k
  pub all : candidates_at mul b w k ≡ right_at mul b e k + wrong_at mul b e k

abbrev pub CountLaw : Type 0
CountLaw = (mul : ℕ → ℕ → ℕ) (b : Basis) (e w : List ℕ) (k : ℕ) → IsSound mul b → IsWord b.bits b.n e → IsWord b.bits b.n w → k < b.n → SameBelow mul b e w k → VotesCounted mul b e w k

-- Where there is no error, all pairs are right candidates
pub record VotesOfNone (mul : ℕ → ℕ → ℕ) (b : Basis) (e : List ℕ) (k : ℕ) : Type 0 where
  pub right_ones : right_at mul b e k ≡ pairs_at b k
  pub wrong_ones : wrong_at mul b e k ≡ 0

abbrev pub NoErrorLaw : Type 0
NoErrorLaw = (mul : ℕ → ℕ → ℕ) (b : Basis) (e : List ℕ) (k : ℕ) → IsSound mul b → IsWord b.bits b.n e → weight e ≡ 0 → k < b.n → VotesOfNone mul b e k

-- An error is the combination of the dual lists by its syndromes, so two errors with the same syndromes are one
abbrev pub RecoveryLaw : Type 0
RecoveryLaw = (mul : ℕ → ℕ → ℕ) (b : Basis) (e : List ℕ) (p : ℕ) → IsSound mul b → IsWord b.bits b.n e → p < b.n → slice_index e p ≡ dual_sum mul b e p

abbrev pub SyndromeLaw : Type 0
SyndromeLaw = (mul : ℕ → ℕ → ℕ) (b : Basis) (e w : List ℕ) → IsSound mul b → IsWord b.bits b.n e → IsWord b.bits b.n w → SameBelow mul b e w b.n → e ≡ w

-- a multiple of a dual list changes one syndrome
abbrev pub StepLaw : Type 0
StepLaw =
    (mul : ℕ → ℕ → ℕ) (b : Basis) (w w' : List ℕ) (k c : ℕ) → IsSound mul b → k < b.n → c < 2 ^ b.bits →
    ((p : ℕ) → p < b.n → slice_index w' p ≡ bit_xor (slice_index w p) (mul c (dual b k p))) →
    (syndrome mul b w' k ≡ bit_xor (syndrome mul b w k) c) × ((m : ℕ) → m < b.n → m ≢ k → syndrome mul b w' m ≡ syndrome mul b w m)

-- A list stays on course where it takes on the syndrome of a marked member from the list y that was received ..
abbrev pub MarkedLaw : Type 0
MarkedLaw =
    (mul : ℕ → ℕ → ℕ) (b : Basis) (marks : List Bool) (t : ℕ) (y w w' : List ℕ) (k : ℕ) → IsSound mul b → IsWord b.bits b.n y → k < b.n → marked marks k ≡ true →
    IsOnCourse mul b marks t y w k → IsMoved mul b w k (syndrome mul b y k) w' → IsOnCourse mul b marks t y w' (k + 1)

-- .. and that of a member that is not marked from the vote
abbrev pub VotedLaw : Type 0
VotedLaw =
    (mul : ℕ → ℕ → ℕ) (b : Basis) (marks : List Bool) (t d : ℕ) (y w w' : List ℕ) (k v : ℕ) → IsSound mul b → IsBound b marks d → 2 * t < d →
    IsWord b.bits b.n w → k < b.n → marked marks k ≡ false →
    IsOnCourse mul b marks t y w k → IsElected mul b w k v → IsMoved mul b w k v w' → IsOnCourse mul b marks t y w' (k + 1)

-- A list that is on course to the end is the error, if there is one
abbrev pub FoundLaw : Type 0
FoundLaw =
    (mul : ℕ → ℕ → ℕ) (b : Basis) (marks : List Bool) (t : ℕ) (y w e : List ℕ) → IsSound mul b → IsWord b.bits b.n w →
    IsOnCourse mul b marks t y w b.n → IsErrorOf mul b marks t y e → w ≡ e

-- Where a codeword lies within t of the bytes y, its difference from their low bits is an error, and leads back to it
pub record NearGives (mul : ℕ → ℕ → ℕ) (b : Basis) (marks : List Bool) (t : ℕ) (y x : List ℕ) : Type 0 where
  pub is_error : IsErrorOf mul b marks t (low_bits b.bits y) (list_sum (low_bits b.bits y) x)
  pub back : list_sum (low_bits b.bits y) (list_sum (low_bits b.bits y) x) ≡ x

abbrev pub NearErrorLaw : Type 0
NearErrorLaw =
    (mul : ℕ → ℕ → ℕ) (b : Basis) (marks : List Bool) (t : ℕ) (y x : List ℕ) → IsSound mul b → length y ≡ b.n → IsNear mul b marks t y x → NearGives mul b marks t y x

-- What the laws of the functions give of a basis that holds its members: its products, and that a pair whose sum is a
-- member is a pair of members
pub record OriginOf (mul : ℕ → ℕ → ℕ) (b : Basis) (sum : ℕ → ℕ → ℕ) : Type 0 where
  pub member_products : (i j k : ℕ) → i < b.n → j < b.n → k < b.n → sum_at b i j ≡ rank_at b k → HasLead mul b i j k
  pub other_products : (i j : ℕ) → i < b.n → j < b.n → sum_at b i j < b.count → ((k : ℕ) → k < b.n → sum_at b i j ≢ rank_at b k) → IsSpannedBelow mul b (sum_at b i j) (product mul b i j)
  pub members_below : (i j k : ℕ) → i < b.count → j < b.count → k < b.n → sum i j ≡ rank_at b k → ((q : ℕ) × (q < b.n) × (i ≡ rank_at b q)) × ((q : ℕ) × (q < b.n) × (j ≡ rank_at b q))
  -- the pairs of members with that sum are all pairs of functions with that sum
  pub pairs_are : (k : ℕ) → k < b.n → pairs b.n (sum_at b) (rank_at b k) ≡ pairs b.count sum (rank_at b k)

abbrev pub OriginLaw : Type 0
OriginLaw =
    (mul : ℕ → ℕ → ℕ) (b : Basis) (ev sum lead' : ℕ → ℕ → ℕ) → IsField (2 ^ b.bits) mul → IsOrdered (2 ^ b.bits) mul b.n b.count ev sum lead' → HasMembers mul b ev sum lead' → OriginOf mul b sum

-- so such a basis is sound, where its lists have their shape, function 0 is neutral for the sum, and each member's pairs are
-- all pairs of functions with that sum
abbrev pub SoundLaw : Type 0
SoundLaw =
    (mul : ℕ → ℕ → ℕ) (b : Basis) (ev sum lead' : ℕ → ℕ → ℕ) → IsField (2 ^ b.bits) mul → HasShape mul b → IsOrdered (2 ^ b.bits) mul b.n b.count ev sum lead' → HasMembers mul b ev sum lead' →
    ((i : ℕ) → i < b.count → sum 0 i ≡ i) → ((k : ℕ) → k < b.n → pairs_at b k ≡ pairs b.count sum (rank_at b k)) → IsSound mul b
