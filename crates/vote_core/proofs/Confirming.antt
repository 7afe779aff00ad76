-- The candidates that voted for the winner are settled, row by row
use Rattle.std.proofs.Common.{ℕ, ◌≡◌, ◌≢◌, suc, ◌+◌, ◌^◌, ◌<◌, ◌≤◌, ◌⊎◌, true, eqb, List, refl, sym, ◌∙◌, ap, subst, inl, inr, arith, add-one, bit_xor, eqb-true, eq-eqb, length}
use Rattle.std.specs.Prelude.{slice_index, slice_index_or, Option, Some, None, nat_eq}
use Rattle.std.specs.Option.{option_eq}
use Rattle.std.proofs.lemmas.List.{length-set}
use Rattle.std.proofs.lemmas.Bool.{and_parts, cases_eq, cases_lt, cond-true, cond-false, ne_eqb}
use Rattle.field_theory.specs.Sums.{put}
use Rattle.field_theory.proofs.Sums.{xor_below, xor_cancel}
use Rattle.std.proofs.lemmas.Nat.{xor_comm}
use Rattle.gf_theory.specs.Field.{gf_mul}
use Rattle.linear_theory.specs.Linear.{put_entry, IsCandidate, KeepsRank}
use Rattle.linear_theory.proofs.Spans.{put-same, put-other}
use Rattle.linear_theory.proofs.Corners.{rank_rows}
use Rattle.counting_theory.specs.Ranks.{candidate, right}
use Rattle.order_theory.specs.Basis.{Basis, IsSoundBasis, IsWord, times, sum_at, rank_at}
use Rattle.order_theory.specs.Errors.{entry, part_rank, syndrome}
use Rattle.order_theory.specs.Voting.{SameBelow, IsVote, vote_at}
use Rattle.order_theory.specs.Course.{IsMoved}
use Rattle.order_theory.specs.Laws.{KnownPart}
use Rattle.order_theory.proofs.Distances.{syn_below}
use Rattle.order_theory.proofs.Theorems.{step_law, known_law, vote_law, vote_once_law}
use Rattle.vote_matrix.specs.Elimination.{Elimination, IsEliminationOf, Grows}
use Rattle.vote_core.specs.Reading.{IsRead}
use Rattle.vote_core.specs.Votes.{HasVote, RowVotes, AreVotes}
use Rattle.vote_core.proofs.Courses.{moved_same}
use Rattle.vote_core.proofs.Settled.{smaller, settled_later, elimination_moved, known_here, known_there}
use Rattle.vote_core.proofs.RowVoting.{candidate_is, from_field}

-- a matrix that has this entry already
pub put_own : (size : ℕ) (mul : ℕ → ℕ → ℕ) (S : ℕ → ℕ → ℕ) (i j p q : ℕ) → put_entry S i j (S i j) p q ≡ S p q
put_own size mul S i j p q = elim (cases_eq p i) [
  | inr d ↦ ap (λ (f : ℕ → ℕ). f q) (cond-false (eqb p i) (put (S i) j (S i j)) (S p) (ne_eqb p i d))
  | inl e ↦ ap (λ (f : ℕ → ℕ). f q) (cond-true (eqb p i) (put (S i) j (S i j)) (S p) (eq-eqb p i e)) ∙ own e (cases_eq q j)
]
  where
    own : p ≡ i → (q ≡ j) ⊎ (q ≢ j) → put (S i) j (S i j) q ≡ S p q
    own e (inl f) = ap (λ (r : ℕ). put (S i) j (S i j) r) f ∙ put-same (S i) j (S i j) ∙ sym (ap (λ (r : ℕ). S i r) f) ∙ sym (ap (λ (r : ℕ). S r q) e)
    own e (inr d) = put-other (S i) j (S i j) q d ∙ sym (ap (λ (r : ℕ). S r q) e)

-- What is known of m is of w', as far as member k; below it every entry is known. The rows from i on are those of m0
pub record IsConfirming (b : Basis) (w' : List ℕ) (m0 m : Elimination) (k i : ℕ) : Type 0 where
  pub part : IsRead b w' m (rank_at b k + 1) 0
  pub below : (p q : ℕ) → p < b.n → q < b.n → sum_at b p q < rank_at b k → q < slice_index m.known p
  pub same : (a : ℕ) → i ≤ a → a < b.n → slice_index m.known a ≡ slice_index m0.known a
  pub count : m.count ≡ m0.count
  pub most : m.most ≡ m0.most

module _ (b : Basis) (w w' : List ℕ) (m0 : Elimination) (k v : ℕ) (h : IsSoundBasis b) (lk : k < b.n) (ww : IsWord b.bits b.n w) (ww' : IsWord b.bits b.n w') (symbol : v < 2 ^ b.bits) (moved : IsMoved (times b) b w k v w')
    (a0 : IsRead b w m0 (rank_at b k) b.n) where
  alike : SameBelow (times b) b w w' k
  alike = moved_same b w w' k v h lk symbol moved

  alike_back : SameBelow (times b) b w' w k
  alike_back = record { each = λ m l. sym (alike.each m l) }

  -- the winner is the syndrome now
  winner_is : syndrome (times b) b w' k ≡ v
  winner_is =
      let s : ℕ = syndrome (times b) b w k in
      (step_law (times b) b w w' k (bit_xor v s) h.sound lk (xor_below (2 ^ b.bits) (times b) h.sound.field v s symbol (syn_below (times b) b h.sound (slice_index w) k)) moved.each).0
      ∙ ap (λ (y : ℕ). bit_xor s y) (xor_comm v s) ∙ xor_cancel s v

  pub confirming_none : IsConfirming b w' m0 m0 k 0
  confirming_none = record {
    part = record {
      settled = settled_later b m0 (rank_at b k) (rank_at b k + 1) b.n (omega arith) a0.settled;
      matrix = elimination_moved b w w' m0 k b.n h ww ww' lk alike a0.settled a0.matrix;
    };
    below = a0.settled.above;
    same = λ a l u. refl;
    count = refl;
    most = refl;
  }

  module _ (m : Elimination) (i : ℕ) (c : IsConfirming b w' m0 m k i) where
    pub confirming_past : IsConfirming b w' m0 m k (i + 1)
    confirming_past = record {
      part = c.part;
      below = c.below;
      same = λ a l u. c.same a (omega arith) u;
      count = c.count;
      most = c.most;
    }

    module _ (li : i < b.n) (vote : HasVote b w k i v) where
      -- the row has its vote at its next column
      column_is : vote.column ≡ slice_index m.known i
      column_is =
          let few : rank_at b k < b.count = h.sound.shape.ranks_below k lk in
          let inside : vote.column < b.n = vote.inside in
          let at_sum : sum_at b i vote.column ≡ rank_at b k = vote.at_sum in
          elim (cases_eq vote.column (slice_index m.known i)) [
            | inl e ↦ e
            | inr d ↦ elim (cases_lt vote.column (slice_index m.known i)) [
              | inl u ↦
                  let old : slice_index m.known i ≡ slice_index m0.known i = c.same i (omega arith) li in
                  let low : sum_at b i vote.column < rank_at b k = a0.settled.within i vote.column li (omega arith) in
                  absurd (omega arith)
              | inr u ↦
                  let less : sum_at b i (slice_index m.known i) < sum_at b i vote.column = smaller b i vote.column i (slice_index m.known i) h li vote.inside (omega arith) u (omega arith) (omega arith) in
                  let t : slice_index m.known i < slice_index m.known i = c.below i (slice_index m.known i) li (omega arith) (omega arith) in
                  absurd (omega arith)
            ]
          ]

      pub confirmed_inside : slice_index m.known i < b.n
      confirmed_inside = subst (λ (q : ℕ). q < b.n) column_is vote.inside

      pub confirmed_sum : sum_at b i (slice_index m.known i) ≡ rank_at b k
      confirmed_sum = ap (λ (q : ℕ). sum_at b i q) (sym column_is) ∙ vote.at_sum

      pub confirmed_above : (p : ℕ) → p < i → slice_index m.known i < slice_index m.known p
      confirmed_above p lp =
          let few : rank_at b k < b.count = h.sound.shape.ranks_below k lk in
          let s : sum_at b i (slice_index m.known i) ≡ rank_at b k = confirmed_sum in
          let lj : slice_index m.known i < b.n = confirmed_inside in
          let less : sum_at b p (slice_index m.known i) < sum_at b i (slice_index m.known i) = smaller b i (slice_index m.known i) p (slice_index m.known i) h li lj (omega arith) (omega arith) (omega arith) (omega arith) in
          c.below p (slice_index m.known i) (omega arith) lj (omega arith)

      was : candidate (part_rank (times b) b w) i (slice_index m.known i) ≡ true
      was = subst (λ (q : ℕ). candidate (part_rank (times b) b w) i q ≡ true) column_is vote.is_candidate

      known : KnownPart (times b) b w' w k
      known = known_law (times b) b w' w k h.sound ww' ww lk alike_back

      pub confirmed_candidate : IsCandidate (2 ^ m.bits) (gf_mul m.bits m.modulus) (entry (times b) b w') i (slice_index m.known i)
      confirmed_candidate =
          from_field b m c.part.settled.bits c.part.settled.modulus (λ size mul. IsCandidate size mul (entry (times b) b w') i (slice_index m.known i))
          ((candidate_is b w' i (slice_index m.known i)).1 (known.candidates i (slice_index m.known i) li confirmed_inside confirmed_sum ∙ was))

      is_right : right (part_rank (times b) b w') i (slice_index m.known i) ≡ true
      is_right =
          (vote_law (times b) b w' w k i (slice_index m.known i) v h.sound ww' ww lk alike_back li confirmed_inside confirmed_sum was
          (subst (λ (y : ℕ). IsVote (times b) b w k i (slice_index m.known i) y) (sym (vote.value ∙ ap (λ (q : ℕ). vote_at (times b) b w k i q) column_is)) (vote_once_law (times b) b w k i (slice_index m.known i) h.sound lk li confirmed_inside confirmed_sum was).votes)).1 (sym winner_is)

      keeps_rank : (j : ℕ) → right (part_rank (times b) b w') i j ≡ true → part_rank (times b) b w' (suc i) (suc j) ≡ part_rank (times b) b w' i j
      unfolding right
      keeps_rank j r =
          let R : ℕ → ℕ → ℕ = part_rank (times b) b w' in
          let e : R (i + 1) (j + 1) ≡ R i j = eqb-true (R (i + 1) (j + 1)) (R i j) (and_parts (candidate R i j) (eqb (R (i + 1) (j + 1)) (R i j)) r).1 in
          ap (λ (p : ℕ). R p (suc j)) (sym (add-one i)) ∙ ap (λ (q : ℕ). R (i + 1) q) (sym (add-one j)) ∙ e

      pub confirmed_keeps : KeepsRank (2 ^ m.bits) (gf_mul m.bits m.modulus) (entry (times b) b w') i (slice_index m.known i) (entry (times b) b w' i (slice_index m.known i))
      confirmed_keeps =
          let j : ℕ = slice_index m.known i in
          let S : ℕ → ℕ → ℕ = entry (times b) b w' in
          from_field b m c.part.settled.bits c.part.settled.modulus (λ size mul. KeepsRank size mul (entry (times b) b w') i (slice_index m.known i) (entry (times b) b w' i (slice_index m.known i)))
          (record {
            rank_is =
                rank_rows (2 ^ b.bits) (times b) h.sound.field (suc (slice_index m.known i)) (put_entry S i (slice_index m.known i) (S i (slice_index m.known i))) S (suc i)
                (λ p lp q lq. put_own (2 ^ b.bits) (times b) S i (slice_index m.known i) p q)
                ∙ keeps_rank (slice_index m.known i) is_right;
          })

      pub confirming_more : (m' : Elimination) → Grows m i 1 m' → m'.count ≡ m.count → IsEliminationOf (entry (times b) b w') m' → IsConfirming b w' m0 m' k (i + 1)
      confirming_more m' g count e =
          let n : m.n ≡ b.n = c.part.settled.n in
          let long : length m.known ≡ b.n = c.part.settled.long in
          let here : slice_index m'.known i ≡ slice_index m.known i + 1 = known_here m m' i 1 (omega arith) g in
          let there : (p : ℕ) → p ≢ i → slice_index m'.known p ≡ slice_index m.known p = known_there m m' i 1 (omega arith) g in
          let s : sum_at b i (slice_index m.known i) ≡ rank_at b k = confirmed_sum in
          record {
            part = record {
              settled = record {
                bits = g.bits ∙ c.part.settled.bits;
                modulus = g.modulus ∙ c.part.settled.modulus;
                n = g.n ∙ n;
                long = ap (λ (xs : List ℕ). length xs) g.known ∙ length-set m.known i (slice_index m.known i + 1) ∙ c.part.settled.long;
                wide = λ p lp. elim (cases_eq p i) [
                  | inr d ↦ let f : slice_index m'.known p ≡ slice_index m.known p = there p d in let l : slice_index m.known p ≤ b.n = c.part.settled.wide p lp in omega arith
                  | inl f ↦ let f' : slice_index m'.known p ≡ slice_index m'.known i = ap (λ (r : ℕ). slice_index m'.known r) f in let l : slice_index m.known i < b.n = confirmed_inside in omega arith
                ];
                within = λ p q lp l. elim (cases_eq p i) [
                  | inr d ↦ let f : slice_index m'.known p ≡ slice_index m.known p = there p d in c.part.settled.within p q lp (omega arith)
                  | inl f ↦
                      let f' : slice_index m'.known p ≡ slice_index m'.known i = ap (λ (r : ℕ). slice_index m'.known r) f in
                      subst (λ (r : ℕ). sum_at b r q < rank_at b k + 1) (sym f)
                      (elim (cases_eq q (slice_index m.known i)) [
                        | inl g' ↦ let t : sum_at b i q ≡ sum_at b i (slice_index m.known i) = ap (λ (r : ℕ). sum_at b i r) g' in omega arith
                        | inr d ↦ c.part.settled.within i q li (omega arith)
                      ])
                ];
                above = λ p q l lq u. absurd (omega arith);
              };
              matrix = e;
            };
            below = λ p q lp lq l. elim (cases_eq p i) [
              | inr d ↦ let f : slice_index m'.known p ≡ slice_index m.known p = there p d in let old : q < slice_index m.known p = c.below p q lp lq l in omega arith
              | inl f ↦
                  let f' : slice_index m'.known p ≡ slice_index m'.known i = ap (λ (r : ℕ). slice_index m'.known r) f in
                  let f'' : slice_index m.known p ≡ slice_index m.known i = ap (λ (r : ℕ). slice_index m.known r) f in
                  let old : q < slice_index m.known p = c.below p q lp lq l in
                  omega arith
            ];
            same = λ a l u. there a (λ f. omega arith) ∙ c.same a (omega arith) u;
            count = count ∙ c.count;
            most = g.most ∙ c.most;
          }

-- the test of an option that is some
option_is : (o : Option ℕ) (v : ℕ) → option_eq nat_eq o (Some v) ≡ true → o ≡ Some v
option_is None v e = absurd (cc)
option_is (Some x) v e = ap (λ (y : ℕ). Some y) (eqb-true x v e)

-- the vote that stands in a list
pub vote_in : (b : Basis) (w : List ℕ) (votes : List (Option ℕ)) (k i v : ℕ) → AreVotes b w k votes b.n → i < b.n → option_eq nat_eq (slice_index_or votes i None) (Some v) ≡ true → HasVote b w k i v
vote_in b w votes k i v all li f = subst (λ (o : Option ℕ). RowVotes b w k i o) (option_is (slice_index_or votes i None) v f) (all.at i li)
