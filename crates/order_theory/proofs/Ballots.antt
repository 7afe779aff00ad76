-- What the candidates of a member vote for
use Rattle.std.proofs.Common.{inl, inr, ◌≡◌, ◌≢◌, ◌↔◌, ℕ, suc, ◌+◌, ◌*◌, ◌^◌, ◌<◌, ◌≤◌, Bool, true, false, ◌&&◌, not, eqb, sym, ◌∙◌, ap, subst, refl, arith, bit_xor, add-one, eqb-true, eq-eqb}
use Rattle.std.proofs.lemmas.Bool.{cases_eq, and_parts, and_from, both_ways, not-true}
use Rattle.std.proofs.lemmas.Nat.{xor_comm}
use Rattle.linear_theory.specs.Linear.{rank, syndromes, put_entry, weight}
use Rattle.field_theory.proofs.Sums.{xor_cancel, xor_below}
use Rattle.linear_theory.proofs.Spans.{xor_back}
use Rattle.linear_theory.proofs.Ranks.{xor_front}
use Rattle.linear_theory.proofs.Corners.{rank_rows, candidate_entry, candidate_value}
use Rattle.field_theory.specs.Sums.{one_if}
use Rattle.counting_theory.specs.Ranks.{candidate, right, wrong}
use Rattle.counting_theory.specs.Votes.{pairs, candidates, right_votes, wrong_votes}
use Rattle.counting_theory.specs.Ballots.{casts, votes_for, IsVoteOn}
use Rattle.field_theory.proofs.Totals.{count_same}
use Rattle.counting_theory.proofs.Ranks.{candidate_same}
use Rattle.counting_theory.proofs.Ballots.{votes_for_is, votes_for_other}
use Rattle.counting_theory.proofs.Votes.{right_wins}
use Rattle.order_theory.specs.Basis.{Basis, IsSound, vector, lead, rank_at, sum_at, pairs_at, HasLead}
use Rattle.order_theory.proofs.Fields.{mul_cancel}
use Rattle.order_theory.proofs.Parts.{put_entry_same}
use Rattle.order_theory.proofs.Shape.{lead_below, smaller_sum}
use Rattle.order_theory.proofs.Known.{syn, entry_before, entry_at_member}
use Rattle.order_theory.proofs.Distances.{ranks_of, are_ranks, ranks-le-weight, entries_below, syn_below}

flat : (R : ℕ → ℕ → ℕ) (i j : ℕ) → candidate R i j ≡ true → (R (i + 1) j ≡ R i j) × (R i (j + 1) ≡ R i j)
unfolding candidate
flat R i j c =
    let both : (eqb (R (i + 1) j) (R i j) ≡ true) × (eqb (R i (j + 1)) (R i j) ≡ true) = and_parts (eqb (R (i + 1) j) (R i j)) (eqb (R i (j + 1)) (R i j)) c in
    (eqb-true (R (i + 1) j) (R i j) both.0, eqb-true (R i (j + 1)) (R i j) both.1)

right_is : (R : ℕ → ℕ → ℕ) (i j : ℕ) → candidate R i j ≡ true → (right R i j ≡ true) ↔ (R (i + 1) (j + 1) ≡ R i j)
unfolding right
right_is R i j c = (
  λ r. eqb-true (R (i + 1) (j + 1)) (R i j) (and_parts (candidate R i j) (eqb (R (i + 1) (j + 1)) (R i j)) r).1,
  λ e. and_from (candidate R i j) (eqb (R (i + 1) (j + 1)) (R i j)) c (eq-eqb (R (i + 1) (j + 1)) (R i j) e),
)

right_candidate : (R : ℕ → ℕ → ℕ) (i j : ℕ) → right R i j ≡ true → candidate R i j ≡ true
unfolding right
right_candidate R i j r = (and_parts (candidate R i j) (eqb (R (i + 1) (j + 1)) (R i j)) r).0

wrong_candidate : (R : ℕ → ℕ → ℕ) (i j : ℕ) → wrong R i j ≡ true → candidate R i j ≡ true
unfolding wrong
wrong_candidate R i j r = (and_parts (candidate R i j) (not (eqb (R (i + 1) (j + 1)) (R i j))) r).0

wrong_not_right : (R : ℕ → ℕ → ℕ) (i j : ℕ) → wrong R i j ≡ true → right R i j ≡ true → ⊥
unfolding wrong right
wrong_not_right R i j w r =
    both_ways (eqb (R (i + 1) (j + 1)) (R i j))
    (not-true (eqb (R (i + 1) (j + 1)) (R i j)) (and_parts (candidate R i j) (not (eqb (R (i + 1) (j + 1)) (R i j))) w).1)
    (and_parts (candidate R i j) (eqb (R (i + 1) (j + 1)) (R i j)) r).1

cast_same : (e c d t : Bool) → (e ≡ true → c ≡ d) → one_if ((e && c) && t) ≡ one_if ((e && d) && t)
cast_same true c d t f = ap (λ (x : Bool). one_if (x && t)) (f refl)
cast_same false c d t f = refl

and_same : (e c d : Bool) → (e ≡ true → c ≡ d) → one_if (e && c) ≡ one_if (e && d)
and_same true c d f = ap one_if (f refl)
and_same false c d f = refl

module _ (mul : ℕ → ℕ → ℕ) (b : Basis) (h : IsSound mul b) where
  -- e and w have the same syndromes below k
  abbrev pub Same : (ℕ → ℕ) → (ℕ → ℕ) → ℕ → Type 0
  Same e w k = (m : ℕ) → m < k → syn mul b h e m ≡ syn mul b h w m

  corner_same : (e w : ℕ → ℕ) (k : ℕ) → k < b.n → Same e w k → (i j : ℕ) → i < b.n → j < b.n → sum_at b i j ≡ rank_at b k
      → (q p : ℕ) → q ≤ i → p ≤ j → (q ≡ i → p ≡ j → ⊥) → syndromes mul b.n e (vector b) q p ≡ syndromes mul b.n w (vector b) q p
  corner_same e w k lk same i j li lj s q p lq lp d =
      entry_before mul b h e w k lk same q p (omega arith) (omega arith) (smaller_sum mul b h i j k q p li lj lk s lq lp d)

  -- so their parts that leave (i, j) out have the same ranks
  ranks_same : (e w : ℕ → ℕ) (k : ℕ) → k < b.n → Same e w k → (i j : ℕ) → i < b.n → j < b.n → sum_at b i j ≡ rank_at b k
      → (r c : ℕ) → r ≤ i + 1 → c ≤ j + 1 → r + c < i + j + 2 → ranks_of mul b h e r c ≡ ranks_of mul b h w r c
  ranks_same e w k lk same i j li lj s r c lr lc m =
      rank_rows (2 ^ b.bits) mul h.field c (syndromes mul b.n e (vector b)) (syndromes mul b.n w (vector b)) r
      (λ q lq p lp. corner_same e w k lk same i j li lj s q p (omega arith) (omega arith) (λ d f. omega arith))

  pub candidates_same : (e w : ℕ → ℕ) (k : ℕ) → k < b.n → Same e w k → (i j : ℕ) → i < b.n → j < b.n → sum_at b i j ≡ rank_at b k
      → candidate (ranks_of mul b h e) i j ≡ candidate (ranks_of mul b h w) i j
  candidates_same e w k lk same i j li lj s =
      candidate_same (ranks_of mul b h e) (ranks_of mul b h w) i j
      (ranks_same e w k lk same i j li lj s i j (omega arith) (omega arith) (omega arith))
      (ranks_same e w k lk same i j li lj s (i + 1) j (omega arith) (omega arith) (omega arith))
      (ranks_same e w k lk same i j li lj s i (j + 1) (omega arith) (omega arith) (omega arith))

  -- the entry at (i, j), of sum k, with the syndrome v at k
  abbrev pub filled : (ℕ → ℕ) → ℕ → ℕ → ℕ → ℕ → ℕ
  filled w k i j v = bit_xor (syndromes mul b.n w (vector b) i j) (mul (lead b i j) (bit_xor v (syn mul b h w k)))

  -- the value that keeps the rank at (i, j)
  abbrev pub Keeps : (ℕ → ℕ) → ℕ → ℕ → ℕ → Type 0
  Keeps w i j x = rank (2 ^ b.bits) mul (suc j) (put_entry (syndromes mul b.n w (vector b)) i j x) (suc i) ≡ ranks_of mul b h w i j

  filled_is : (e w : ℕ → ℕ) (k : ℕ) → k < b.n → Same e w k → (i j : ℕ) → i < b.n → j < b.n → sum_at b i j ≡ rank_at b k → (v : ℕ) → v < 2 ^ b.bits
      → (syndromes mul b.n e (vector b) i j ≡ filled w k i j v) ↔ (v ≡ syn mul b h e k)
  filled_is e w k lk same i j li lj s v lv =
      let c : HasLead mul b i j k = h.member_products i j k li lj lk s in
      let differ : bit_xor (syndromes mul b.n e (vector b) i j) (syndromes mul b.n w (vector b) i j) ≡ mul (lead b i j) (bit_xor (syn mul b h e k) (syn mul b h w k)) = entry_at_member mul b h e w k lk same i j li lj s in
      let small : (x : ℕ) → x < 2 ^ b.bits → bit_xor x (syn mul b h w k) < 2 ^ b.bits = λ x l. xor_below (2 ^ b.bits) mul h.field x (syn mul b h w k) l (syn_below mul b h w k) in (
        λ e'.
            let f : mul (lead b i j) (bit_xor v (syn mul b h w k)) ≡ mul (lead b i j) (bit_xor (syn mul b h e k) (syn mul b h w k)) =
            sym (xor_front (syndromes mul b.n w (vector b) i j) (mul (lead b i j) (bit_xor v (syn mul b h w k))))
            ∙ ap (λ (x : ℕ). bit_xor x (syndromes mul b.n w (vector b) i j)) (sym e') ∙ differ in
            let g : bit_xor v (syn mul b h w k) ≡ bit_xor (syn mul b h e k) (syn mul b h w k) =
            mul_cancel (2 ^ b.bits) mul h.field (lead b i j) (bit_xor v (syn mul b h w k)) (bit_xor (syn mul b h e k) (syn mul b h w k)) (lead_below mul b h i j) c.lead_not_zero (small v lv) (small (syn mul b h e k) (syn_below mul b h e k)) f in
            sym (xor_back v (syn mul b h w k)) ∙ ap (λ (x : ℕ). bit_xor x (syn mul b h w k)) g ∙ xor_back (syn mul b h e k) (syn mul b h w k),
        λ f.
            sym (ap (λ (x : ℕ). bit_xor (syndromes mul b.n w (vector b) i j) (mul (lead b i j) (bit_xor x (syn mul b h w k)))) f
            ∙ ap (λ (x : ℕ). bit_xor (syndromes mul b.n w (vector b) i j) x) (sym differ)
            ∙ xor_comm (syndromes mul b.n w (vector b) i j) (bit_xor (syndromes mul b.n e (vector b) i j) (syndromes mul b.n w (vector b) i j))
            ∙ xor_back (syndromes mul b.n e (vector b) i j) (syndromes mul b.n w (vector b) i j)),
      )

  -- a candidate is right exactly where its vote is the syndrome of the error
  pub vote_is : (e w : ℕ → ℕ) (k : ℕ) → k < b.n → Same e w k → (i j : ℕ) → i < b.n → j < b.n → sum_at b i j ≡ rank_at b k → (v : ℕ) → v < 2 ^ b.bits
      → candidate (ranks_of mul b h e) i j ≡ true → filled w k i j v < 2 ^ b.bits → Keeps w i j (filled w k i j v) → (right (ranks_of mul b h e) i j ≡ true) ↔ (v ≡ syn mul b h e k)
  vote_is e w k lk same i j li lj s v lv c lx keeps =
      let S : ℕ → ℕ → ℕ = syndromes mul b.n e (vector b) in
      let x : ℕ = filled w k i j v in
      let both : (ranks_of mul b h e (i + 1) j ≡ ranks_of mul b h e i j) × (ranks_of mul b h e i (j + 1) ≡ ranks_of mul b h e i j) = flat (ranks_of mul b h e) i j c in
      let row : rank (2 ^ b.bits) mul j S (suc i) ≡ rank (2 ^ b.bits) mul j S i = rw (add-one i) at both.0 in
      let column : rank (2 ^ b.bits) mul (suc j) S i ≡ rank (2 ^ b.bits) mul j S i = rw (add-one j) at both.1 in
      let kept : rank (2 ^ b.bits) mul (suc j) (put_entry S i j x) (suc i) ≡ rank (2 ^ b.bits) mul j S i =
      rank_rows (2 ^ b.bits) mul h.field (suc j) (put_entry S i j x) (put_entry (syndromes mul b.n w (vector b)) i j x) (suc i)
      (λ q lq p lp. put_entry_same S (syndromes mul b.n w (vector b)) i j x q p (λ d. corner_same e w k lk same i j li lj s q p (omega arith) (omega arith) d))
      ∙ keeps ∙ sym (ranks_same e w k lk same i j li lj s i j (omega arith) (omega arith) (omega arith)) in
      let entry : (rank (2 ^ b.bits) mul (suc j) S (suc i) ≡ rank (2 ^ b.bits) mul j S i) ↔ (S i j ≡ x) = candidate_entry (2 ^ b.bits) mul h.field S (entries_below mul b h e) i j x row column lx kept in
      let is : (right (ranks_of mul b h e) i j ≡ true) ↔ (ranks_of mul b h e (i + 1) (j + 1) ≡ ranks_of mul b h e i j) = right_is (ranks_of mul b h e) i j c in
      let value : (S i j ≡ x) ↔ (v ≡ syn mul b h e k) = filled_is e w k lk same i j li lj s v lv in (
        λ r. let f : ranks_of mul b h e (i + 1) (j + 1) ≡ ranks_of mul b h e i j = is.0 r in value.0 (entry.0 (rw (add-one i, add-one j) at f)),
        λ f. is.1 (rw (add-one i, add-one j) (entry.1 (value.1 f))),
      )

  -- each candidate has a vote
  pub vote_exists : (w : ℕ → ℕ) (k i j : ℕ) → k < b.n → i < b.n → j < b.n → sum_at b i j ≡ rank_at b k → candidate (ranks_of mul b h w) i j ≡ true
      → (v : ℕ) × (v < 2 ^ b.bits) × (filled w k i j v < 2 ^ b.bits) × Keeps w i j (filled w k i j v)
  vote_exists w k i j lk li lj s c =
      let S : ℕ → ℕ → ℕ = syndromes mul b.n w (vector b) in
      let both : (ranks_of mul b h w (i + 1) j ≡ ranks_of mul b h w i j) × (ranks_of mul b h w i (j + 1) ≡ ranks_of mul b h w i j) = flat (ranks_of mul b h w) i j c in
      let row : rank (2 ^ b.bits) mul j S (suc i) ≡ rank (2 ^ b.bits) mul j S i = rw (add-one i) at both.0 in
      let column : rank (2 ^ b.bits) mul (suc j) S i ≡ rank (2 ^ b.bits) mul j S i = rw (add-one j) at both.1 in
      let x : (x : ℕ) × (x < 2 ^ b.bits) × (rank (2 ^ b.bits) mul (suc j) (put_entry S i j x) (suc i) ≡ rank (2 ^ b.bits) mul j S i)
      × ((y : ℕ) → y < 2 ^ b.bits → y ≢ x → rank (2 ^ b.bits) mul (suc j) (put_entry S i j y) (suc i) ≡ rank (2 ^ b.bits) mul j S i + 1) =
      candidate_value (2 ^ b.bits) mul h.field S (entries_below mul b h w) i j row column in
      let u : (y : ℕ) × (y < 2 ^ b.bits) × (mul (lead b i j) y ≡ 1) = h.field.inverse (lead b i j) (lead_below mul b h i j) (h.member_products i j k li lj lk s).lead_not_zero in
      let gap : ℕ = mul u.0 (bit_xor x.0 (S i j)) in
      let v : ℕ = bit_xor gap (syn mul b h w k) in
      let is : filled w k i j v ≡ x.0 =
      ap (λ (y : ℕ). bit_xor (S i j) (mul (lead b i j) y)) (xor_back gap (syn mul b h w k))
      ∙ ap (λ (y : ℕ). bit_xor (S i j) y)
      (sym (h.field.mul_assoc (lead b i j) u.0 (bit_xor x.0 (S i j))) ∙ ap (λ (y : ℕ). mul y (bit_xor x.0 (S i j))) u.2
      ∙ h.field.one_mul (bit_xor x.0 (S i j)) (xor_below (2 ^ b.bits) mul h.field x.0 (S i j) x.1 (entries_below mul b h w i j)))
      ∙ xor_comm (S i j) (bit_xor x.0 (S i j)) ∙ xor_back x.0 (S i j) in (
        v,
        xor_below (2 ^ b.bits) mul h.field gap (syn mul b h w k) (h.field.mul_below u.0 (bit_xor x.0 (S i j))) (syn_below mul b h w k),
        subst (λ (y : ℕ). y < 2 ^ b.bits) (sym is) x.1,
        subst (λ (y : ℕ). Keeps w i j y) (sym is) x.2,
      )

  -- what each candidate of sum k says
  abbrev pub Says : (ℕ → ℕ) → ℕ → (ℕ → ℕ → ℕ) → Type 0
  Says w k vote =
      (i j : ℕ) → i < b.n → j < b.n → sum_at b i j ≡ rank_at b k → candidate (ranks_of mul b h w) i j ≡ true →
      (vote i j < 2 ^ b.bits) × (filled w k i j (vote i j) < 2 ^ b.bits) × Keeps w i j (filled w k i j (vote i j))

  pub votes_on : (e w : ℕ → ℕ) (k : ℕ) → k < b.n → Same e w k → (vote : ℕ → ℕ → ℕ) → Says w k vote → IsVoteOn b.n (ranks_of mul b h e) (sum_at b) vote (rank_at b k) (syn mul b h e k)
  votes_on e w k lk same vote says = record {
    right_says = λ i j li lj s r. (is i j li lj s (right_candidate (ranks_of mul b h e) i j r)).0 r;
    wrong_says = λ i j li lj s r f. wrong_not_right (ranks_of mul b h e) i j r ((is i j li lj s (wrong_candidate (ranks_of mul b h e) i j r)).1 f);
  }
    where
      is : (i j : ℕ) → i < b.n → j < b.n → sum_at b i j ≡ rank_at b k → candidate (ranks_of mul b h e) i j ≡ true → (right (ranks_of mul b h e) i j ≡ true) ↔ (vote i j ≡ syn mul b h e k)
      is i j li lj s c =
          let d : candidate (ranks_of mul b h w) i j ≡ true = sym (candidates_same e w k lk same i j li lj s) ∙ c in
          let x : (vote i j < 2 ^ b.bits) × (filled w k i j (vote i j) < 2 ^ b.bits) × Keeps w i j (filled w k i j (vote i j)) = says i j li lj s d in
          vote_is e w k lk same i j li lj s (vote i j) x.0 c x.1 x.2

  pub votes_same : (e w : ℕ → ℕ) (k : ℕ) → k < b.n → Same e w k → (vote : ℕ → ℕ → ℕ) (v : ℕ) → votes_for b.n (ranks_of mul b h e) (sum_at b) vote (rank_at b k) v ≡ votes_for b.n (ranks_of mul b h w) (sum_at b) vote (rank_at b k) v
  unfolding votes_for casts
  votes_same e w k lk same vote v =
      count_same b.n (casts (ranks_of mul b h e) (sum_at b) vote (rank_at b k) v) (casts (ranks_of mul b h w) (sum_at b) vote (rank_at b k) v)
      (λ i j li lj.
      cast_same (eqb (sum_at b i j) (rank_at b k)) (candidate (ranks_of mul b h e) i j) (candidate (ranks_of mul b h w) i j) (eqb (vote i j) v)
      (λ t. candidates_same e w k lk same i j li lj (eqb-true (sum_at b i j) (rank_at b k) t)))

  pub candidates_count_same : (e w : ℕ → ℕ) (k : ℕ) → k < b.n → Same e w k → candidates b.n (ranks_of mul b h e) (sum_at b) (rank_at b k) ≡ candidates b.n (ranks_of mul b h w) (sum_at b) (rank_at b k)
  unfolding candidates
  candidates_count_same e w k lk same =
      count_same b.n (λ i j. eqb (sum_at b i j) (rank_at b k) && candidate (ranks_of mul b h e) i j) (λ i j. eqb (sum_at b i j) (rank_at b k) && candidate (ranks_of mul b h w) i j)
      (λ i j li lj.
      and_same (eqb (sum_at b i j) (rank_at b k)) (candidate (ranks_of mul b h e) i j) (candidate (ranks_of mul b h w) i j)
      (λ t. candidates_same e w k lk same i j li lj (eqb-true (sum_at b i j) (rank_at b k) t)))

  pub filled_below : (w : ℕ → ℕ) (k i j v : ℕ) → filled w k i j v < 2 ^ b.bits
  filled_below w k i j v = xor_below (2 ^ b.bits) mul h.field (syndromes mul b.n w (vector b) i j) (mul (lead b i j) (bit_xor v (syn mul b h w k))) (entries_below mul b h w i j) (h.field.mul_below (lead b i j) (bit_xor v (syn mul b h w k)))

  -- the value that keeps the rank at a candidate is one
  keeps_once : (w : ℕ → ℕ) (i j x y : ℕ) → candidate (ranks_of mul b h w) i j ≡ true → x < 2 ^ b.bits → y < 2 ^ b.bits → Keeps w i j x → Keeps w i j y → x ≡ y
  keeps_once w i j x y c lx ly kx ky =
      let S : ℕ → ℕ → ℕ = syndromes mul b.n w (vector b) in
      let both : (ranks_of mul b h w (i + 1) j ≡ ranks_of mul b h w i j) × (ranks_of mul b h w i (j + 1) ≡ ranks_of mul b h w i j) = flat (ranks_of mul b h w) i j c in
      let row : rank (2 ^ b.bits) mul j S (suc i) ≡ rank (2 ^ b.bits) mul j S i = rw (add-one i) at both.0 in
      let column : rank (2 ^ b.bits) mul (suc j) S i ≡ rank (2 ^ b.bits) mul j S i = rw (add-one j) at both.1 in
      let z : (x : ℕ) × (x < 2 ^ b.bits) × (rank (2 ^ b.bits) mul (suc j) (put_entry S i j x) (suc i) ≡ rank (2 ^ b.bits) mul j S i)
      × ((y : ℕ) → y < 2 ^ b.bits → y ≢ x → rank (2 ^ b.bits) mul (suc j) (put_entry S i j y) (suc i) ≡ rank (2 ^ b.bits) mul j S i + 1) =
      candidate_value (2 ^ b.bits) mul h.field S (entries_below mul b h w) i j row column in
      let that : (v : ℕ) → v < 2 ^ b.bits → Keeps w i j v → v ≡ z.0 = λ v lv kv. elim (cases_eq v z.0) [
        | inl e ↦ e
        | inr d ↦ absurd (let f : rank (2 ^ b.bits) mul (suc j) (put_entry S i j v) (suc i) ≡ rank (2 ^ b.bits) mul j S i + 1 = z.3 v lv d in omega arith)
      ] in
      that x lx kx ∙ sym (that y ly ky)

  filled_once : (w : ℕ → ℕ) (k i j u v : ℕ) → k < b.n → i < b.n → j < b.n → sum_at b i j ≡ rank_at b k → u < 2 ^ b.bits → v < 2 ^ b.bits → filled w k i j u ≡ filled w k i j v → u ≡ v
  filled_once w k i j u v lk li lj s lu lv e =
      let c : HasLead mul b i j k = h.member_products i j k li lj lk s in
      let small : (x : ℕ) → x < 2 ^ b.bits → bit_xor x (syn mul b h w k) < 2 ^ b.bits = λ x l. xor_below (2 ^ b.bits) mul h.field x (syn mul b h w k) l (syn_below mul b h w k) in
      let parts : mul (lead b i j) (bit_xor u (syn mul b h w k)) ≡ mul (lead b i j) (bit_xor v (syn mul b h w k)) =
      sym (xor_cancel (syndromes mul b.n w (vector b) i j) (mul (lead b i j) (bit_xor u (syn mul b h w k))))
      ∙ ap (λ (x : ℕ). bit_xor (syndromes mul b.n w (vector b) i j) x) e
      ∙ xor_cancel (syndromes mul b.n w (vector b) i j) (mul (lead b i j) (bit_xor v (syn mul b h w k))) in
      let g : bit_xor u (syn mul b h w k) ≡ bit_xor v (syn mul b h w k) =
      mul_cancel (2 ^ b.bits) mul h.field (lead b i j) (bit_xor u (syn mul b h w k)) (bit_xor v (syn mul b h w k)) (lead_below mul b h i j) c.lead_not_zero (small u lu) (small v lv) parts in
      sym (xor_back u (syn mul b h w k)) ∙ ap (λ (x : ℕ). bit_xor x (syn mul b h w k)) g ∙ xor_back v (syn mul b h w k)

  pub vote_once : (w : ℕ → ℕ) (k i j u v : ℕ) → k < b.n → i < b.n → j < b.n → sum_at b i j ≡ rank_at b k → candidate (ranks_of mul b h w) i j ≡ true
      → u < 2 ^ b.bits → v < 2 ^ b.bits → Keeps w i j (filled w k i j u) → Keeps w i j (filled w k i j v) → u ≡ v
  vote_once w k i j u v lk li lj s c lu lv ku kv =
      filled_once w k i j u v lk li lj s lu lv (keeps_once w i j (filled w k i j u) (filled w k i j v) c (filled_below w k i j u) (filled_below w k i j v) ku kv)

  -- the vote is made from the value that keeps the rank
  pub made_is : (w : ℕ → ℕ) (k i j x u : ℕ) → x < 2 ^ b.bits → mul (lead b i j) u ≡ 1
      → filled w k i j (bit_xor (mul u (bit_xor x (syndromes mul b.n w (vector b) i j))) (syn mul b h w k)) ≡ x
  made_is w k i j x u lx e =
      let S : ℕ = syndromes mul b.n w (vector b) i j in
      ap (λ (y : ℕ). bit_xor S (mul (lead b i j) y)) (xor_back (mul u (bit_xor x S)) (syn mul b h w k))
      ∙ ap (λ (y : ℕ). bit_xor S y)
      (sym (h.field.mul_assoc (lead b i j) u (bit_xor x S)) ∙ ap (λ (y : ℕ). mul y (bit_xor x S)) e
      ∙ h.field.one_mul (bit_xor x S) (xor_below (2 ^ b.bits) mul h.field x S lx (entries_below mul b h w i j)))
      ∙ xor_comm S (bit_xor x S) ∙ xor_back x S

  pub elected_is : (e w : ℕ → ℕ) (k : ℕ) → k < b.n → Same e w k → 2 * weight b.n e < pairs_at b k → (vote : ℕ → ℕ → ℕ) → Says w k vote → (v : ℕ)
      → ((x : ℕ) → x < 2 ^ b.bits → votes_for b.n (ranks_of mul b h w) (sum_at b) vote (rank_at b k) x ≤ votes_for b.n (ranks_of mul b h w) (sum_at b) vote (rank_at b k) v)
      → v ≡ syn mul b h e k
  elected_is e w k lk same l vote says v most = elim (cases_eq v (syn mul b h e k)) [
    | inl f ↦ f
    | inr ne ↦
        let s : ℕ = syn mul b h e k in
        let few : 2 * weight b.n e < pairs b.n (sum_at b) (rank_at b k) = subst (λ (x : ℕ). 2 * weight b.n e < x) (h.pairs_counted k lk).counted l in
        let on : IsVoteOn b.n (ranks_of mul b h e) (sum_at b) vote (rank_at b k) (syn mul b h e k) = votes_on e w k lk same vote says in
        let wins : wrong_votes b.n (ranks_of mul b h e) (sum_at b) (rank_at b k) < right_votes b.n (ranks_of mul b h e) (sum_at b) (rank_at b k) =
        right_wins (are_ranks mul b h e) h.sums_order.rise (weight b.n e) (rank_at b k) (ranks-le-weight mul b h e b.n b.n) (h.shape.ranks_below k lk) few in
        let mine : votes_for b.n (ranks_of mul b h e) (sum_at b) vote (rank_at b k) (syn mul b h e k) ≡ right_votes b.n (ranks_of mul b h e) (sum_at b) (rank_at b k) = votes_for_is on in
        let other : votes_for b.n (ranks_of mul b h e) (sum_at b) vote (rank_at b k) v ≤ wrong_votes b.n (ranks_of mul b h e) (sum_at b) (rank_at b k) = votes_for_other on v ne in
        let more : votes_for b.n (ranks_of mul b h w) (sum_at b) vote (rank_at b k) (syn mul b h e k) ≤ votes_for b.n (ranks_of mul b h w) (sum_at b) vote (rank_at b k) v = most (syn mul b h e k) (syn_below mul b h e k) in
        let one : votes_for b.n (ranks_of mul b h e) (sum_at b) vote (rank_at b k) v ≡ votes_for b.n (ranks_of mul b h w) (sum_at b) vote (rank_at b k) v = votes_same e w k lk same vote v in
        let two : votes_for b.n (ranks_of mul b h e) (sum_at b) vote (rank_at b k) (syn mul b h e k) ≡ votes_for b.n (ranks_of mul b h w) (sum_at b) vote (rank_at b k) (syn mul b h e k) = votes_same e w k lk same vote (syn mul b h e k) in
        absurd (omega arith)
  ]
