-- The theorems, at lists
use Rattle.std.proofs.Common.{◌-◌, ◌/◌, ◌≡◌, ◌≢◌, ◌⊎◌, ℕ, zero, suc, ◌+◌, ◌*◌, ◌%◌, ◌^◌, ◌<◌, ◌≤◌, Bool, true, false, eqb, List, length, get_or, sym, ◌∙◌, ap, subst, inl, inr, arith, bit_xor}
use Rattle.std.proofs.lemmas.Bool.{false_from_ne_true, true_from_ne_false, cases_Bool, both_ways, cond-true, cond-false, eq-eqb, eqb-true}
use Rattle.std.proofs.lemmas.Grind.{same_number_lists}
use Rattle.std.proofs.Math.Nat.{mod-eq_of_lt}
use Rattle.std.proofs.lemmas.Nat.{xor_comm, mod_below, pow_pos}
use Rattle.std.proofs.lemmas.List.{get_or-map, get_or_default, length-map}
use Rattle.std.specs.Int.Bits.{xor_self, xor_zero_r}
use Rattle.field_theory.specs.Sums.{unit}
use Rattle.linear_theory.specs.Linear.{AreIndependent, dot, rank, put_entry, weight as weight_below}
use Rattle.field_theory.proofs.Sums.{sum-same, xor_cancel, xor_same, xor_below, mul_one, mul-zero, eq_or_below}
use Rattle.linear_theory.proofs.Spans.{put-same, put-other, xor_back}
use Rattle.linear_theory.proofs.Ranks.{xor_front}
use Rattle.linear_theory.proofs.Bases.{rank_reached, rank_greatest}
use Rattle.linear_theory.proofs.Duals.{dual_combination, dot_comm}
use Rattle.counting_theory.specs.Ranks.{candidate}
use Rattle.counting_theory.specs.Votes.{pairs, right_votes, wrong_votes, pivots}
use Rattle.counting_theory.proofs.Votes.{right_of_zeros, pairs-le, pivots-add-wrong, candidates_split}
use Rattle.counting_theory.proofs.Ballots.{votes_for_is}
use Rattle.order_theory.specs.Basis.{Basis, IsSound, IsWord, vector, dual, sum_at, rank_at, pairs_at}
use Rattle.order_theory.specs.Errors.{weight, syndrome, entry, part_rank}
use Rattle.order_theory.specs.Codes.{low_bits, marked, IsCodeword, IsBound, list_sum, distance}
use Rattle.order_theory.specs.Voting.{SameBelow, vote_at, one_below, entry_by}
use Rattle.order_theory.specs.Course.{IsMoved}
use Rattle.order_theory.specs.Laws.{VotesOn, RankLaw, GreatestRankLaw, MajorityLaw, DistanceLaw, BoundLaw, ApartLaw, RadiusLaw, NearLaw, ErrorLaw, KnownLaw, VoteLaw, VoteOnceLaw, VoteMadeLaw, ElectionLaw, CountLaw, NoErrorLaw, RecoveryLaw, SyndromeLaw, StepLaw, MarkedLaw, VotedLaw, FoundLaw, NearErrorLaw}
use Rattle.linear_theory.proofs.Functionals.{dot_xor, dot_scale}
use Rattle.order_theory.proofs.Fields.{first_or_none}
use Rattle.order_theory.proofs.Shape.{word_below, dual_below}
use Rattle.order_theory.proofs.Known.{syn, entry_before, entry_at_member}
use Rattle.order_theory.proofs.Weights.{weight-le, list_sum_back, weight_same, weight_zero, weight_is, distance_is, length-list_sum, get_or-list_sum}
use Rattle.order_theory.proofs.Distances.{entries_below, ranks_of, are_ranks, ranks-le-weight, syn_below, heavy, near_unique, far_apart}
use Rattle.order_theory.proofs.Ballots.{filled, filled_below, Keeps, candidates_same, vote_is, vote_exists, vote_once, made_is, elected_is, votes_on, votes_same, candidates_count_same}

-- a list as a function of the position
abbrev at : List ℕ → ℕ → ℕ
at xs p = get_or xs p 0

pub rank_law : RankLaw
rank_law mul b e h w = record {
  are_ranks = are_ranks mul b h (at e);
  at_most_weight = λ i j. let k : ranks_of mul b h (at e) i j ≤ weight_below b.n (at e) = ranks-le-weight mul b h (at e) i j in omega (arith, weight_is b.n e w.n_long);
}

pub greatest_rank_law : GreatestRankLaw
greatest_rank_law mul b e i j h =
    let r : (picks : ℕ → ℕ) × ((t : ℕ) → t < part_rank mul b e i j → picks t < i) × AreIndependent (2 ^ b.bits) mul j (λ t. entry mul b e (picks t)) (part_rank mul b e i j) =
    rank_reached (2 ^ b.bits) mul h.field j (entry mul b e) i (entries_below mul b h (at e)) in
    record {
      picks = r.0;
      within = r.1;
      independent = r.2;
      no_more = λ others m w a. rank_greatest (2 ^ b.bits) mul h.field j (entry mul b e) i (entries_below mul b h (at e)) others m w a;
    }

pub majority_law : MajorityLaw
majority_law mul b e k h w lk =
    let is : pairs_at b k ≡ pairs b.n (sum_at b) (rank_at b k) = (h.pairs_counted k lk).counted in
    let few : ranks_of mul b h (at e) b.n b.n ≤ weight_below b.n (at e) = ranks-le-weight mul b h (at e) b.n b.n in
    let same : weight_below b.n (at e) ≡ weight e = weight_is b.n e w.n_long in
    let bound : pairs b.n (sum_at b) (rank_at b k) ≤ right_votes b.n (ranks_of mul b h (at e)) (sum_at b) (rank_at b k) + wrong_votes b.n (ranks_of mul b h (at e)) (sum_at b) (rank_at b k) + 2 * pivots b.n (ranks_of mul b h (at e)) (sum_at b) (rank_at b k) =
    pairs-le (are_ranks mul b h (at e)) h.sums_order.rise (rank_at b k) (h.shape.ranks_below k lk) in
    let wrongs : pivots b.n (ranks_of mul b h (at e)) (sum_at b) (rank_at b k) + wrong_votes b.n (ranks_of mul b h (at e)) (sum_at b) (rank_at b k) ≤ ranks_of mul b h (at e) b.n b.n =
    pivots-add-wrong (are_ranks mul b h (at e)) (sum_at b) (rank_at b k) in
    record { pairs_bound = omega arith; weight_bound = omega arith; right_wins = λ l. omega arith }

pub distance_law : DistanceLaw
distance_law mul b marks x h c some = elim (first_or_none b.n (at x)) [
  | inr z ↦ absurd (some (sym (weight_is b.n x c.is_word.n_long) ∙ weight_zero b.n (at x) z))
  | inl w ↦
      let f : (k : ℕ) × (k < b.n) × (syn mul b h (at x) k ≢ 0) × (pairs_at b k ≤ weight_below b.n (at x)) = heavy mul b h (at x) (word_below c.is_word) w.0 w.1 w.2 in
      (f.0, f.1, false_from_ne_true (marked marks f.0) (λ t. f.2 (c.orthogonal f.0 f.1 t)), omega (arith, f.3, weight_is b.n x c.is_word.n_long))
]

pub bound_law : BoundLaw
bound_law mul b marks d x h bound c some =
    let f : (k : ℕ) × (k < b.n) × (marked marks k ≡ false) × (pairs_at b k ≤ weight x) = distance_law mul b marks x h c some in
    omega (arith, f.3, bound.at_most f.0 f.1 f.2)

-- two lists of numbers are the same, or differ at some place
same_or_differ : (n : ℕ) (x y : List ℕ) → length x ≡ n → length y ≡ n → (x ≡ y) ⊎ ((p : ℕ) × (p < n) × (at x p ≢ at y p))
same_or_differ n x y lx ly = elim (first_or_none n (λ p. bit_xor (at x p) (at y p))) [
  | inr z ↦ inl (same_number_lists x y (lx ∙ sym ly) (λ p l. xor_same (at x p) (at y p) (z p (omega arith))))
  | inl w ↦ inr (w.0, w.1, (λ e. w.2 (ap (λ (v : ℕ). bit_xor v (at y w.0)) e ∙ xor_self (at y w.0))))
]

pub apart_law : ApartLaw
apart_law mul b marks d x x' h bound c c' other = elim (same_or_differ b.n x x' c.is_word.n_long c'.is_word.n_long) [
  | inl same ↦ absurd (other same)
  | inr w ↦
      let f : (k : ℕ) × (k < b.n) × (syn mul b h (at x) k ≢ syn mul b h (at x') k) × (pairs_at b k ≤ weight_below b.n (λ p. bit_xor (at x p) (at x' p))) =
      far_apart mul b h (at x) (at x') (word_below c.is_word) (word_below c'.is_word) w.0 w.1 w.2 in
      let free : marked marks f.0 ≡ false = false_from_ne_true (marked marks f.0) (λ t. f.2 (c.orthogonal f.0 f.1 t ∙ sym (c'.orthogonal f.0 f.1 t))) in
      omega (arith, f.3, bound.at_most f.0 f.1 free, distance_is b.n x x' c.is_word.n_long c'.is_word.n_long)
]

-- a member with few pairs is marked
is_marked : (b : Basis) (marks : List Bool) (t d : ℕ) → IsBound b marks d → 2 * t < d → (k : ℕ) → k < b.n → pairs_at b k ≤ 2 * t → marked marks k ≡ true
is_marked b marks t d bound l k lk few = true_from_ne_false (marked marks k) (λ f. absurd (omega (arith, bound.at_most k lk f)))

pub radius_law : RadiusLaw
radius_law d t some = (
  λ r. let below : 2 * t < d = r.below in let high : (d - 1) / 2 ≤ t = r.greatest ((d - 1) / 2) (omega arith) in omega arith,
  λ e. record { below = omega arith; greatest = λ u l. omega arith },
)

pub near_law : NearLaw
near_law mul b marks t d y x x' h bound l long first second =
    let c : IsCodeword mul b marks x = first.is_codeword in
    let c' : IsCodeword mul b marks x' = second.is_codeword in
    let near : distance y x ≤ t = first.close in
    let near' : distance y x' ≤ t = second.close in
    let turn : (z : List ℕ) → length z ≡ b.n → weight_below b.n (λ p. bit_xor (at z p) (at y p)) ≡ distance y z =
    λ z e. weight_same b.n (λ p. bit_xor (at z p) (at y p)) (λ p. bit_xor (at y p) (at z p)) (λ p u. xor_comm (at z p) (at y p)) ∙ distance_is b.n y z long e in
    let one : weight_below b.n (λ p. bit_xor (at x p) (at y p)) ≤ t = omega (arith, turn x c.is_word.n_long) in
    let two : weight_below b.n (λ p. bit_xor (at x' p) (at y p)) ≤ t = omega (arith, turn x' c'.is_word.n_long) in
    same_number_lists x x' (c.is_word.n_long ∙ sym c'.is_word.n_long)
    (λ p u.
    near_unique mul b h t (at x) (at x') (at y) (word_below c.is_word) (word_below c'.is_word)
    (λ k lk few. let m : marked marks k ≡ true = is_marked b marks t d bound l k lk few in c.orthogonal k lk m ∙ sym (c'.orthogonal k lk m))
    one two p (omega (arith, c.is_word.n_long)))

pub known_law : KnownLaw
known_law mul b e w k h ew ww lk same = record {
  before = entry_before mul b h (at e) (at w) k lk same.each;
  at_member = entry_at_member mul b h (at e) (at w) k lk same.each;
  candidates = candidates_same mul b h (at e) (at w) k lk same.each;
}

pub vote_law : VoteLaw
vote_law mul b e w k i j v h ew ww lk same li lj s c vote =
    vote_is mul b h (at e) (at w) k lk same.each i j li lj s v vote.symbol
    (candidates_same mul b h (at e) (at w) k lk same.each i j li lj s ∙ c) vote.residue.symbol vote.residue.keeps

one_below-passes : (n : ℕ) (p : ℕ → Bool) (i : ℕ) → i < n → p i ≡ true → (one_below n p < n) × (p (one_below n p) ≡ true)
one_below-passes zero p i l e = absurd (omega arith)
one_below-passes (suc n) p i l e = elim (cases_Bool (p n)) [
  | inl t ↦
      let is : one_below (suc n) p ≡ n = cond-true (p n) n (one_below n p) t in
      (omega arith, ap p is ∙ t)
  | inr f ↦
      let is : one_below (suc n) p ≡ one_below n p = cond-false (p n) n (one_below n p) f in
      let low : i < n = elim (eq_or_below i n l) [ inl d ↦ absurd (both_ways (p n) f (ap p (sym d) ∙ e)) | inr u ↦ u ] in
      let w : (one_below n p < n) × (p (one_below n p) ≡ true) = one_below-passes n p i low e in
      let u : one_below n p < n = w.0 in
      (omega arith, ap p is ∙ w.1)
]

-- the vote of a candidate keeps the rank
vote_at-keeps : (mul : ℕ → ℕ → ℕ) (b : Basis) (h : IsSound mul b) (w : List ℕ) (k i j : ℕ) → k < b.n → i < b.n → j < b.n → sum_at b i j ≡ rank_at b k → candidate (part_rank mul b w) i j ≡ true
    → (vote_at mul b w k i j < 2 ^ b.bits) × Keeps mul b h (at w) i j (filled mul b h (at w) k i j (vote_at mul b w k i j))
unfolding vote_at
vote_at-keeps mul b h w k i j lk li lj s c =
    let test : ℕ → Bool = λ v. eqb (rank (2 ^ b.bits) mul (suc j) (put_entry (entry mul b w) i j (entry_by mul b w k i j v)) (suc i)) (part_rank mul b w i j) in
    let x : (v : ℕ) × (v < 2 ^ b.bits) × (filled mul b h (at w) k i j v < 2 ^ b.bits) × Keeps mul b h (at w) i j (filled mul b h (at w) k i j v) = vote_exists mul b h (at w) k i j lk li lj s c in
    let y : (one_below (2 ^ b.bits) test < 2 ^ b.bits) × (test (one_below (2 ^ b.bits) test) ≡ true) =
    one_below-passes (2 ^ b.bits) test x.0 x.1 (eq-eqb (rank (2 ^ b.bits) mul (suc j) (put_entry (entry mul b w) i j (entry_by mul b w k i j x.0)) (suc i)) (part_rank mul b w i j) x.3) in
    (y.0, eqb-true (rank (2 ^ b.bits) mul (suc j) (put_entry (entry mul b w) i j (entry_by mul b w k i j (one_below (2 ^ b.bits) test))) (suc i)) (part_rank mul b w i j) y.1)

pub vote_once_law : VoteOnceLaw
vote_once_law mul b w k i j h lk li lj s c =
    let x : (vote_at mul b w k i j < 2 ^ b.bits) × Keeps mul b h (at w) i j (filled mul b h (at w) k i j (vote_at mul b w k i j)) = vote_at-keeps mul b h w k i j lk li lj s c in
    record {
      votes = record { symbol = x.0; residue = record { symbol = filled_below mul b h (at w) k i j (vote_at mul b w k i j); keeps = x.1 } };
      once = λ v y. vote_once mul b h (at w) k i j v (vote_at mul b w k i j) lk li lj s c y.symbol x.0 y.residue.keeps x.1;
    }

pub vote_made_law : VoteMadeLaw
vote_made_law mul b w k i j x u h lk li lj s c r lu e =
    let y : (vote_at mul b w k i j < 2 ^ b.bits) × Keeps mul b h (at w) i j (filled mul b h (at w) k i j (vote_at mul b w k i j)) = vote_at-keeps mul b h w k i j lk li lj s c in
    let v : ℕ = bit_xor (mul u (bit_xor x (entry mul b w i j))) (syndrome mul b w k) in
    let small : v < 2 ^ b.bits = xor_below (2 ^ b.bits) mul h.field (mul u (bit_xor x (entry mul b w i j))) (syndrome mul b w k) (h.field.mul_below u (bit_xor x (entry mul b w i j))) (syn_below mul b h (at w) k) in
    vote_once mul b h (at w) k i j v (vote_at mul b w k i j) lk li lj s c small y.0
    (subst (λ (z : ℕ). Keeps mul b h (at w) i j z) (sym (made_is mul b h (at w) k i j x u r.symbol e)) r.keeps) y.1

pub election_law : ElectionLaw
election_law mul b e w k v h ew ww lk same l elected =
    elected_is mul b h (at e) (at w) k lk same.each (subst (λ (x : ℕ). 2 * x < pairs_at b k) (sym (weight_is b.n e ew.n_long)) l) (vote_at mul b w k)
    (λ i j li lj s c.
    let x : (vote_at mul b w k i j < 2 ^ b.bits) × Keeps mul b h (at w) i j (filled mul b h (at w) k i j (vote_at mul b w k i j)) = vote_at-keeps mul b h w k i j lk li lj s c in
    (x.0, filled_below mul b h (at w) k i j (vote_at mul b w k i j), x.1))
    v elected.most

pub count_law : CountLaw
count_law mul b e w k h ew ww lk same = record {
  right_ones =
      sym (votes_same mul b h (at e) (at w) k lk same.each (vote_at mul b w k) (syndrome mul b e k))
      ∙ votes_for_is
      (votes_on mul b h (at e) (at w) k lk same.each (vote_at mul b w k)
      (λ i j li lj s c.
      let x : (vote_at mul b w k i j < 2 ^ b.bits) × Keeps mul b h (at w) i j (filled mul b h (at w) k i j (vote_at mul b w k i j)) = vote_at-keeps mul b h w k i j lk li lj s c in
      (x.0, filled_below mul b h (at w) k i j (vote_at mul b w k i j), x.1)));
  all =
      sym (candidates_count_same mul b h (at e) (at w) k lk same.each)
      ∙ candidates_split b.n (part_rank mul b e) (sum_at b) (rank_at b k);
}

no_ranks : (mul : ℕ → ℕ → ℕ) (b : Basis) (e : List ℕ) → IsSound mul b → IsWord b.bits b.n e → weight e ≡ 0 → (i j : ℕ) → part_rank mul b e i j ≡ 0
no_ranks mul b e h ew z i j = let l : part_rank mul b e i j ≤ weight e = (rank_law mul b e h ew).at_most_weight i j in omega arith

pub no_error_law : NoErrorLaw
no_error_law mul b e k h ew z lk =
    let none : (i j : ℕ) → part_rank mul b e i j ≡ 0 = no_ranks mul b e h ew z in
    let w : VotesOn mul b e k = majority_law mul b e k h ew lk in
    let right_is : right_votes b.n (part_rank mul b e) (sum_at b) (rank_at b k) ≡ pairs b.n (sum_at b) (rank_at b k) = right_of_zeros b.n (part_rank mul b e) (sum_at b) (rank_at b k) none in
    record {
      right_ones = right_is ∙ sym (h.pairs_counted k lk).counted;
      wrong_ones = omega (arith, w.weight_bound);
    }

pub recovery_law : RecoveryLaw
recovery_law mul b e p h w lp = dual_combination (2 ^ b.bits) mul h.field b.n (vector b) (dual b) (at e) (dual_below mul b h) (word_below w) h.shape.duals_fit p lp

pub syndrome_law : SyndromeLaw
syndrome_law mul b e w h ew ww same =
    same_number_lists e w (ew.n_long ∙ sym ww.n_long)
    (λ p u.
    let lp : p < b.n = omega (arith, ew.n_long) in
    recovery_law mul b e p h ew lp
    ∙ sum-same b.n (λ i. mul (syndrome mul b e i) (dual b i p)) (λ i. mul (syndrome mul b w i) (dual b i p)) (λ i l. ap (λ (x : ℕ). mul x (dual b i p)) (same.each i l))
    ∙ sym (recovery_law mul b w p h ww lp))

-- the syndromes of a sum
pub syndrome_sum : (mul : ℕ → ℕ → ℕ) (b : Basis) (h : IsSound mul b) (x y z : ℕ → ℕ) (m : ℕ) → ((p : ℕ) → p < b.n → z p ≡ bit_xor (x p) (y p)) → dot mul b.n z (vector b m) ≡ bit_xor (dot mul b.n x (vector b m)) (dot mul b.n y (vector b m))
syndrome_sum mul b h x y z m e =
    dot_comm (2 ^ b.bits) mul h.field b.n z (vector b m)
    ∙ sum-same b.n (λ p. mul (vector b m p) (z p)) (λ p. mul (vector b m p) (bit_xor (x p) (y p))) (λ p l. ap (λ (u : ℕ). mul (vector b m p) u) (e p l))
    ∙ dot_xor (2 ^ b.bits) mul h.field b.n (vector b m) x y
    ∙ ap (λ (u : ℕ). bit_xor u (dot mul b.n (vector b m) y)) (dot_comm (2 ^ b.bits) mul h.field b.n (vector b m) x)
    ∙ ap (λ (u : ℕ). bit_xor (dot mul b.n x (vector b m)) u) (dot_comm (2 ^ b.bits) mul h.field b.n (vector b m) y)

pub step_law : StepLaw
step_law mul b w w' k c h lk lc e = (
  all k lk ∙ ap (λ (u : ℕ). bit_xor (syndrome mul b w k) (mul c u)) (put-same (λ i. 0) k 1) ∙ ap (λ (u : ℕ). bit_xor (syndrome mul b w k) u) (mul_one (2 ^ b.bits) mul h.field c lc),
  λ m lm d.
      all m lm ∙ ap (λ (u : ℕ). bit_xor (syndrome mul b w m) (mul c u)) (put-other (λ i. 0) m 1 k (λ f. d (sym f)))
      ∙ ap (λ (u : ℕ). bit_xor (syndrome mul b w m) u) (mul-zero (2 ^ b.bits) mul h.field c) ∙ xor_zero_r (syndrome mul b w m),
)
  where
    all : (m : ℕ) → m < b.n → syndrome mul b w' m ≡ bit_xor (syndrome mul b w m) (mul c (unit m k))
    all m lm =
        syndrome_sum mul b h (at w) (λ p. mul c (dual b k p)) (at w') m e
        ∙ ap (λ (u : ℕ). bit_xor (syndrome mul b w m) u)
        (dot_comm (2 ^ b.bits) mul h.field b.n (λ p. mul c (dual b k p)) (vector b m)
        ∙ dot_scale (2 ^ b.bits) mul h.field b.n (vector b m) c (dual b k)
        ∙ ap (λ (u : ℕ). mul c u) (h.shape.duals_fit.products m k lm lk))

pub error_law : ErrorLaw
error_law mul b marks t d y e e' h bound l yw ew ew' c c' light light' =
    same_number_lists e e' (ew.n_long ∙ sym ew'.n_long)
    (λ p u.
    let same : at (list_sum y e) p ≡ at (list_sum y e') p =
    near_unique mul b h t (at (list_sum y e)) (at (list_sum y e')) (at y) (word_below c.is_word) (word_below c'.is_word)
    (λ k lk few. let m : marked marks k ≡ true = is_marked b marks t d bound l k lk few in c.orthogonal k lk m ∙ sym (c'.orthogonal k lk m))
    (omega (arith, weighs e ew)) (omega (arith, weighs e' ew')) p (omega (arith, ew.n_long)) in
    sym (xor_cancel (at y p) (at e p)) ∙ ap (λ (x : ℕ). bit_xor (at y p) x) (sym (get_or-list_sum y e p (yw.n_long ∙ sym ew.n_long)) ∙ same ∙ get_or-list_sum y e' p (yw.n_long ∙ sym ew'.n_long)) ∙ xor_cancel (at y p) (at e' p))
  where
    weighs : (x : List ℕ) → IsWord b.bits b.n x → weight_below b.n (λ p. bit_xor (at (list_sum y x) p) (at y p)) ≡ weight x
    weighs x xw =
        weight_same b.n (λ p. bit_xor (at (list_sum y x) p) (at y p)) (at x)
        (λ p u. ap (λ (z : ℕ). bit_xor z (at y p)) (get_or-list_sum y x p (yw.n_long ∙ sym xw.n_long)) ∙ xor_front (at y p) (at x p))
        ∙ weight_is b.n x xw.n_long

-- ---- the course of a decoder
-- a list with the syndromes of e below k has that of k too, once it is moved there
pub moved_on : (mul : ℕ → ℕ → ℕ) (b : Basis) (h : IsSound mul b) (e w w' : List ℕ) (k v : ℕ) → k < b.n → v < 2 ^ b.bits → IsMoved mul b w k v w' → SameBelow mul b e w k → v ≡ syndrome mul b e k → SameBelow mul b e w' (k + 1)
moved_on mul b h e w w' k v lk lv move same is = record {
  each = λ m l.
      let s : (syndrome mul b w' k ≡ bit_xor (syndrome mul b w k) (bit_xor v (syndrome mul b w k))) × ((m : ℕ) → m < b.n → m ≢ k → syndrome mul b w' m ≡ syndrome mul b w m) =
      step_law mul b w w' k (bit_xor v (syndrome mul b w k)) h lk (xor_below (2 ^ b.bits) mul h.field v (syndrome mul b w k) lv (syn_below mul b h (at w) k)) move.each in
      elim (eq_or_below m k (let u : m < suc k = omega arith in u)) [
        | inl f ↦ subst (λ (q : ℕ). syndrome mul b e q ≡ syndrome mul b w' q) (sym f)
            (sym is ∙ sym (s.0 ∙ xor_comm (syndrome mul b w k) (bit_xor v (syndrome mul b w k)) ∙ xor_back v (syndrome mul b w k)))
        | inr u ↦ same.each m u ∙ sym (s.1 m (omega arith) (λ f. omega arith))
      ];
}

pub marked_law : MarkedLaw
marked_law mul b marks t y w w' k h yw lk m course move = record {
  each = λ e x.
      let cancel : bit_xor (syndrome mul b y k) (syndrome mul b e k) ≡ 0 =
      sym (syndrome_sum mul b h (at y) (at e) (at (list_sum y e)) k (λ p l. get_or-list_sum y e p (yw.n_long ∙ sym x.is_word.n_long))) ∙ x.corrects.orthogonal k lk m in
      moved_on mul b h e w w' k (syndrome mul b y k) lk (syn_below mul b h (at y) k) move (course.each e x) (xor_same (syndrome mul b y k) (syndrome mul b e k) cancel);
}

pub voted_law : VotedLaw
voted_law mul b marks t d y w w' k v h bound l ww lk m course vote move = record {
  each = λ e x.
      let light : weight e ≤ t = x.light in
      let is : v ≡ syndrome mul b e k = election_law mul b e w k v h x.is_word ww lk (course.each e x) (omega (arith, bound.at_most k lk m)) vote in
      moved_on mul b h e w w' k v lk vote.symbol move (course.each e x) is;
}

pub found_law : FoundLaw
found_law mul b marks t y w e h ww course x = sym (syndrome_law mul b e w h x.is_word ww (course.each e x))

low_at : (bits : ℕ) (y : List ℕ) (p : ℕ) → p < length y → get_or (low_bits bits y) p 0 ≡ get_or y p 0 % 2 ^ bits
low_at bits y p l = get_or-map (λ (a : ℕ). a % 2 ^ bits) y p 0 0 l

pub near_error_law : NearErrorLaw
near_error_law mul b marks t y x h long there =
    let c : IsCodeword mul b marks x = there.is_codeword in
    let near : distance y x ≤ t = there.close in
    let low : List ℕ = low_bits b.bits y in
    let n_low : length (low_bits b.bits y) ≡ b.n = length-map y (λ (a : ℕ). a % 2 ^ b.bits) ∙ long in
    let same : length (low_bits b.bits y) ≡ length x = n_low ∙ sym c.is_word.n_long in
    let n_sum : length (list_sum (low_bits b.bits y) x) ≡ b.n = length-list_sum (low_bits b.bits y) x same ∙ n_low in
    let below : (p : ℕ) → p < b.n → get_or (low_bits b.bits y) p 0 < 2 ^ b.bits =
    λ p l. subst (λ (u : ℕ). u < 2 ^ b.bits) (sym (low_at b.bits y p (omega arith))) (mod_below (get_or y p 0) (2 ^ b.bits) (pow_pos b.bits)) in
    let word : IsWord b.bits b.n (list_sum (low_bits b.bits y) x) = record {
      n_long = n_sum;
      symbols = λ p d l. subst (λ (u : ℕ). u < 2 ^ b.bits) (sym (get_or-list_sum (low_bits b.bits y) x p same) ∙ get_or_default (list_sum (low_bits b.bits y) x) p 0 d l)
          (xor_below (2 ^ b.bits) mul h.field (get_or (low_bits b.bits y) p 0) (get_or x p 0) (below p (omega arith)) (word_below c.is_word p));
    } in
    let light : weight_below b.n (at (list_sum (low_bits b.bits y) x)) ≤ weight_below b.n (λ p. bit_xor (at y p) (at x p)) =
    weight-le b.n (at (list_sum (low_bits b.bits y) x)) (λ p. bit_xor (at y p) (at x p))
    (λ p l z.
    let e : at y p ≡ at x p = xor_same (at y p) (at x p) z in
    get_or-list_sum (low_bits b.bits y) x p same
    ∙ ap (λ (u : ℕ). bit_xor u (at x p)) (low_at b.bits y p (omega arith) ∙ ap (λ (u : ℕ). u % 2 ^ b.bits) e ∙ mod-eq_of_lt (word_below c.is_word p))
    ∙ xor_self (at x p)) in
    let back : list_sum (low_bits b.bits y) (list_sum (low_bits b.bits y) x) ≡ x = list_sum_back (low_bits b.bits y) x same in
    record {
      is_error = record {
        is_word = word;
        light = omega (arith, weight_is b.n (list_sum (low_bits b.bits y) x) n_sum, distance_is b.n y x long c.is_word.n_long);
        corrects = subst (λ (z : List ℕ). IsCodeword mul b marks z) (sym back) c;
      };
      back = back;
    }
