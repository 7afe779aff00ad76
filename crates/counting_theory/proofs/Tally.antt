-- The steps of a loop that tallies the votes, row by row.
use Rattle.std.proofs.Common.{ℕ, ◌+◌, ◌*◌, ◌≡◌, ◌≢◌, ◌<◌, ◌≤◌, zero, suc, Bool, true, false, ◌&&◌, eqb, List, length, get_or, set, sym, ◌∙◌, ap, inl, inr, arith, length-set, add-one}
use Rattle.std.specs.List.{IsFirstMaxByKey}
use Rattle.std.proofs.lemmas.Bool.{cases_eq}
use Rattle.std.proofs.lemmas.Bool.Decides.{nat_tests}
use Rattle.std.proofs.lemmas.List.{get_or-set_other, get_or-set_same}
use Rattle.field_theory.specs.Sums.{one_if, total}
use Rattle.field_theory.proofs.Totals.{total_zero}
use Rattle.counting_theory.specs.Ranks.{IsRank, candidate}
use Rattle.counting_theory.specs.Votes.{IsSum, pairs, candidates}
use Rattle.counting_theory.specs.Ballots.{casts, votes_for, IsTallied, IsVoteOn, IsCounted, count_before}
use Rattle.counting_theory.proofs.Ballots.{count_before_none, count_before_more, count_before_row, count_before_all, count_before-le, winner_is}

yes_number : (s r x v : ℕ) (c : Bool) → s ≡ r → c ≡ true → v ≡ x → one_if ((eqb s r && c) && eqb x v) ≡ 1
yes_number s r x v c e f g = grind (arith, nat_tests)

other_number : (s r x v : ℕ) (c : Bool) → v ≢ x → one_if ((eqb s r && c) && eqb x v) ≡ 0
other_number s r x v c ne = grind (arith, nat_tests)

no_number : (s r x v : ℕ) (c : Bool) → (s ≡ r → c ≡ false) → one_if ((eqb s r && c) && eqb x v) ≡ 0
no_number s r x v c h = grind (arith, nat_tests)

module _ {n r : ℕ} {R sum_at vote : ℕ → ℕ → ℕ} where
  -- at the start each tally is 0
  pub tallied_none : (tally : List ℕ) → ((v : ℕ) → v < length tally → get_or tally v 0 ≡ 0) → IsTallied n R sum_at vote r tally 0 0
  tallied_none tally h = record { at = λ v l. h v l ∙ sym (count_before_none n (casts R sum_at vote r v)) }

  -- a pair of another sum, or one that is no candidate, leaves the tallies alone
  pub tallied_no : {tally : List ℕ} {i j : ℕ} → IsTallied n R sum_at vote r tally i j → (sum_at i j ≡ r → candidate R i j ≡ false) → IsTallied n R sum_at vote r tally i (j + 1)
  unfolding casts
  tallied_no {tally} {i} {j} t h = record {
    at = λ v l. omega (arith, t.at v l, count_before_more n (casts R sum_at vote r v) i j, no_number (sum_at i j) r (vote i j) v (candidate R i j) h);
  }

  -- a candidate of the sum adds 1 at the value that it votes for
  pub tallied_yes : {tally : List ℕ} {i j : ℕ} (x y : ℕ) → IsTallied n R sum_at vote r tally i j → sum_at i j ≡ r → candidate R i j ≡ true → x ≡ vote i j → x < length tally → y ≡ get_or tally x 0 + 1 → IsTallied n R sum_at vote r (set tally x y) i (j + 1)
  unfolding casts
  tallied_yes {tally} {i} {j} x y t e c xe xl ye = record {
    at = λ v l. elim (cases_eq v x) [
      | inl same ↦
          let here : get_or (set tally x y) v 0 ≡ y = rw same (get_or-set_same tally x y 0 xl) in
          let old : get_or tally v 0 ≡ get_or tally x 0 = ap (λ k. get_or tally k 0) same in
          omega (arith, t.at v (omega (arith, length-set tally x y)), count_before_more n (casts R sum_at vote r v) i j, yes_number (sum_at i j) r (vote i j) v (candidate R i j) e c (omega arith))
      | inr ne ↦
          let there : get_or (set tally x y) v 0 ≡ get_or tally v 0 = get_or-set_other tally x v y 0 ne in
          omega (arith, t.at v (omega (arith, length-set tally x y)), count_before_more n (casts R sum_at vote r v) i j, other_number (sum_at i j) r (vote i j) v (candidate R i j) (omega arith))
    ];
  }

  -- after the last column comes the next row
  pub tallied_row : {tally : List ℕ} {i j : ℕ} → IsTallied n R sum_at vote r tally i j → j ≡ n → IsTallied n R sum_at vote r tally (i + 1) 0
  tallied_row {tally} {i} {j} t e = record { at = λ v l. (rw e at (t.at v l)) ∙ sym (count_before_row n (casts R sum_at vote r v) i) }

  -- after the last row the tallies are the numbers of votes
  pub tallied_all : {tally : List ℕ} → IsTallied n R sum_at vote r tally n 0 → (v : ℕ) → v < length tally → get_or tally v 0 ≡ votes_for n R sum_at vote r v
  unfolding votes_for
  tallied_all t v l = t.at v l ∙ count_before_all n (casts R sum_at vote r v)

  -- no tally is above the number of pairs that were looked at
  pub tally-le : {tally : List ℕ} {i j : ℕ} → IsTallied n R sum_at vote r tally i j → (v : ℕ) → v < length tally → get_or tally v 0 ≤ i * n + j
  tally-le {i = i} {j = j} t v l = omega (arith, t.at v l, count_before-le n (casts R sum_at vote r v) i j)

-- ---- row by row, where a row has at most one pair of the sum
total_one : (n j : ℕ) (p : ℕ → Bool) → j < n → ((b : ℕ) → b < n → b ≢ j → p b ≡ false) → total n (λ b. one_if (p b)) ≡ one_if (p j)
total_one zero j p l h = absurd (omega arith)
total_one (suc n) j p l h = elim (cases_eq j n) [
  | inl e ↦
      let none : total n (λ b. one_if (p b)) ≡ 0 = total_zero n (λ b. one_if (p b)) (λ b u. ap one_if (h b (omega arith) (omega arith))) in
      let here : one_if (p n) ≡ one_if (p j) = ap (λ (b : ℕ). one_if (p b)) (sym e) in
      omega arith
  | inr ne ↦
      let before : total n (λ b. one_if (p b)) ≡ one_if (p j) = total_one n j p (omega arith) (λ b u d. h b (omega arith) d) in
      let here : one_if (p n) ≡ 0 = ap one_if (h n (omega arith) (λ e. ne (sym e))) in
      omega arith
]

row_none : (n : ℕ) (p : ℕ → ℕ → Bool) (i : ℕ) → ((b : ℕ) → b < n → p i b ≡ false) → count_before n p (i + 1) 0 ≡ count_before n p i 0
unfolding count_before
row_none n p i h = rw add-one (omega (arith, total_zero n (λ b. one_if (p i b)) (λ b u. ap one_if (h b u))))

row_one : (n : ℕ) (p : ℕ → ℕ → Bool) (i j : ℕ) → j < n → ((b : ℕ) → b < n → b ≢ j → p i b ≡ false) → count_before n p (i + 1) 0 ≡ count_before n p i 0 + one_if (p i j)
unfolding count_before
row_one n p i j l h = rw add-one (omega (arith, total_one n j (p i) l h))

not_cast : (s r x v : ℕ) (c : Bool) → (s ≡ r → c ≡ false) → ((eqb s r && c) && eqb x v) ≡ false
not_cast s r x v c h = grind (arith, nat_tests)

not_counted : (s r : ℕ) (c : Bool) → (s ≡ r → c ≡ false) → (eqb s r && c) ≡ false
not_counted s r c h = grind (arith, nat_tests)

counted_number : (s r : ℕ) (c : Bool) → s ≡ r → c ≡ true → one_if (eqb s r && c) ≡ 1
counted_number s r c e f = grind (arith, nat_tests)

module _ {n r : ℕ} {R sum_at vote : ℕ → ℕ → ℕ} where
  -- a row with no candidate of the sum leaves the tallies alone
  pub tallied_row_none : {tally : List ℕ} {i : ℕ} → IsTallied n R sum_at vote r tally i 0 → ((j : ℕ) → j < n → sum_at i j ≡ r → candidate R i j ≡ false) → IsTallied n R sum_at vote r tally (i + 1) 0
  unfolding casts
  tallied_row_none {tally} {i} t h = record {
    at = λ v l. t.at v l ∙ sym (row_none n (casts R sum_at vote r v) i (λ b u. not_cast (sum_at i b) r (vote i b) v (candidate R i b) (h b u)));
  }

  -- its one candidate of the sum adds 1 at the value that it votes for
  pub tallied_row_one : {tally : List ℕ} {i : ℕ} (j x y : ℕ) → IsTallied n R sum_at vote r tally i 0 → j < n → ((b : ℕ) → b < n → sum_at i b ≡ r → b ≡ j) → sum_at i j ≡ r → candidate R i j ≡ true
      → x ≡ vote i j → x < length tally → y ≡ get_or tally x 0 + 1 → IsTallied n R sum_at vote r (set tally x y) (i + 1) 0
  unfolding casts
  tallied_row_one {tally} {i} j x y t lj only e c xe xl ye =
      let row : (v : ℕ) → count_before n (casts R sum_at vote r v) (i + 1) 0 ≡ count_before n (casts R sum_at vote r v) i 0 + one_if (casts R sum_at vote r v i j) =
      λ v. row_one n (casts R sum_at vote r v) i j lj (λ b u d. not_cast (sum_at i b) r (vote i b) v (candidate R i b) (λ f. absurd (d (only b u f)))) in
      record {
        at = λ v l. elim (cases_eq v x) [
          | inl same ↦
              let here : get_or (set tally x y) v 0 ≡ y = rw same (get_or-set_same tally x y 0 xl) in
              let old : get_or tally v 0 ≡ get_or tally x 0 = ap (λ k. get_or tally k 0) same in
              omega (arith, t.at v (omega (arith, length-set tally x y)), row v, yes_number (sum_at i j) r (vote i j) v (candidate R i j) e c (omega arith))
          | inr ne ↦
              let there : get_or (set tally x y) v 0 ≡ get_or tally v 0 = get_or-set_other tally x v y 0 ne in
              omega (arith, t.at v (omega (arith, length-set tally x y)), row v, other_number (sum_at i j) r (vote i j) v (candidate R i j) (omega arith))
        ];
      }

-- the same of the number of candidates
module _ {n r : ℕ} {R sum_at : ℕ → ℕ → ℕ} where
  pub counted_none : IsCounted n R sum_at r 0 0
  counted_none = record { above = sym (count_before_none n (λ a b. eqb (sum_at a b) r && candidate R a b)) }

  pub counted_row_none : {count i : ℕ} → IsCounted n R sum_at r count i → ((j : ℕ) → j < n → sum_at i j ≡ r → candidate R i j ≡ false) → IsCounted n R sum_at r count (i + 1)
  counted_row_none {count} {i} t h = record {
    above = t.above ∙ sym (row_none n (λ a b. eqb (sum_at a b) r && candidate R a b) i (λ b u. not_counted (sum_at i b) r (candidate R i b) (h b u)));
  }

  pub counted_row_one : {count i : ℕ} (j : ℕ) → IsCounted n R sum_at r count i → j < n → ((b : ℕ) → b < n → sum_at i b ≡ r → b ≡ j) → sum_at i j ≡ r → candidate R i j ≡ true → IsCounted n R sum_at r (count + 1) (i + 1)
  counted_row_one {count} {i} j t lj only e c = record {
    above = omega (
      arith,
      t.above,
      row_one n (λ a b. eqb (sum_at a b) r && candidate R a b) i j lj (λ b u d. not_counted (sum_at i b) r (candidate R i b) (λ f. absurd (d (only b u f)))),
      counted_number (sum_at i j) r (candidate R i j) e c,
    );
  }

  pub counted_all : {count : ℕ} → IsCounted n R sum_at r count n → count ≡ candidates n R sum_at r
  unfolding candidates
  counted_all t = t.above ∙ count_before_all n (λ a b. eqb (sum_at a b) r && candidate R a b)

-- After the last row, s is where the greatest tally stands: what the right candidates vote for and the wrong ones do
-- not, where twice a bound on the rank is below the number of pairs.
pub elected : {n count r s i : ℕ} {R sum_at vote : ℕ → ℕ → ℕ} {tally : List ℕ} → IsRank n R → IsSum n count sum_at → IsVoteOn n R sum_at vote r s → (w b : ℕ) → R n n ≤ w → r < count → 2 * w < pairs n sum_at r → IsTallied n R sum_at vote r tally i 0 → i ≡ n → s < length tally → IsFirstMaxByKey (λ x. x) tally (length tally) b → b ≡ s
elected {tally = tally} k m h w b hw hr hp t e hs g = winner_is k m h w tally b hw hr hp hs (tallied_all (rw e at t)) g

-- for `#[tactic(auto, using(counting_theory::proofs::Tally::tally_steps))]` on a function with such a loop
pub ruleset tally_steps = (tallied_none, tallied_no, tallied_yes, tallied_row, tally-le)
