-- How often each index is a sum
use Rattle.std.proofs.Common.{◌≡◌, ◌≢◌, ℕ, zero, suc, ◌<◌, ◌≤◌, true, false, Some, ap, arith}
use Rattle.std.specs.Prelude.{◌==◌}
use Rattle.std.proofs.lemmas.Bool.Decides.{nat_tests}
use Rattle.field_theory.specs.Sums.{total, one_if, count_pairs}
use Rattle.field_theory.proofs.Totals.{total_once}
use Rattle.counting_theory.specs.Votes.{pairs}
use Rattle.order_domain.specs.Domain.{Domain, IsOrderDomain}
use Rattle.order_domain.specs.Values.{sum_or_count}
use Rattle.order_domain.proofs.Values.{sum_or_count-some, sum_or_count-below}

total_few : (n : ℕ) (f : ℕ → ℕ) → ((k : ℕ) → k < n → f k ≤ 1) → total n f ≤ n
total_few zero f h = omega arith
total_few (suc n) f h = omega (arith, total_few n f (λ k l. h k (omega arith)), h n (omega arith))

pub same_test : (a r : ℕ) → a ≡ r → one_if (a == r) ≡ 1
same_test a r e = let t : (a == r) ≡ true = grind (arith, nat_tests) in ap one_if t

pub other_test : (a r : ℕ) → a ≢ r → one_if (a == r) ≡ 0
other_test a r e = let t : (a == r) ≡ false = grind (arith, nat_tests) in ap one_if t

test_same : (a r : ℕ) → (a == r) ≡ true → a ≡ r
test_same a r t = grind (arith, nat_tests)

module _ (d : Domain) (lawful : IsOrderDomain d) where
  -- a function has a sum with one function at the most
  row_once : (i m r : ℕ) → i < d.count → m ≤ d.count → r < d.count → total m (λ v. one_if (sum_or_count d i v == r)) ≤ 1
  row_once i m r li lm lr = total_once m 1 (λ v. sum_or_count d i v == r)
      (λ k l less below pk pl.
      let ek : sum_or_count d i k ≡ r = test_same _ r pk in
      let el : sum_or_count d i l ≡ r = test_same _ r pl in
      let has : d.sum i l ≡ Some (sum_or_count d i l) = sum_or_count-below d i l (omega arith) in
      let w = lawful.sums_rise.smaller i l i k (sum_or_count d i l) li (omega arith) has (omega arith) (omega arith) (omega arith) in
      let s : sum_or_count d i k ≡ w.0 = sum_or_count-some d i k w.0 w.1 in
      let low : w.0 < sum_or_count d i l = w.2 in
      omega arith)

  -- so no function is the sum of more pairs than there are functions
  pub pairs-le-count : (r : ℕ) → r < d.count → pairs d.count (sum_or_count d) r ≤ d.count
  unfolding pairs count_pairs
  pairs-le-count r lr = total_few d.count _ (λ u lu. row_once u d.count r lu (omega arith) lr)
