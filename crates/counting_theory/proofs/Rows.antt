-- The number of free rows is a rank function.
use Rattle.std.proofs.Common.{ℕ, zero, suc, ◌+◌, ◌≡◌, ◌<◌, ◌≤◌, Bool, true, false, ◌&&◌, not, refl, arith, add-one}
use Rattle.std.proofs.lemmas.Bool.{both_ways, and_parts, not-true}
use Rattle.field_theory.specs.Sums.{total, one_if}
use Rattle.counting_theory.specs.Ranks.{IsRank}
use Rattle.counting_theory.specs.Rows.{IsDependence, free_rows}
use Rattle.field_theory.proofs.Totals.{total_zero, total-le-total, total-add, total_once}

free-le : (x y : Bool) → (y ≡ true → x ≡ true) → one_if (not x) ≤ one_if (not y)
free-le x y h = grind arith

freed : (x y : Bool) → one_if (not y) ≤ one_if (not x) + one_if (x && not y)
freed x y = grind arith

one-le : (x : Bool) → one_if x ≤ 1
one-le x = grind arith

module _ {m n : ℕ} {dep : ℕ → ℕ → Bool} (d : IsDependence m n dep) where
  row : (i j : ℕ) → free_rows dep (i + 1) j ≡ free_rows dep i j + one_if (not (dep i j))
  unfolding free_rows
  row i j = rw add-one refl

  up : (i j : ℕ) → i ≤ m → j < n → free_rows dep i j ≤ free_rows dep i (j + 1)
  unfolding free_rows
  up i j hi hj = total-le-total i (λ a. one_if (not (dep a j))) (λ a. one_if (not (dep a (j + 1)))) (λ a l. free-le (dep a j) (dep a (j + 1)) (d.fewer a j (omega arith) hj))

  freed_once : (i j : ℕ) → i ≤ m → j < n → total i (λ a. one_if (dep a j && not (dep a (j + 1)))) ≤ 1
  freed_once i j hi hj = total_once i 1 (λ a. dep a j && not (dep a (j + 1)))
      (λ a b ab bi e f.
      let first = and_parts (dep a j) (not (dep a (j + 1))) e in
      let second = and_parts (dep b j) (not (dep b (j + 1))) f in
      both_ways (dep b (j + 1)) (not-true (dep b (j + 1)) second.1) (d.once a b j ab (omega arith) hj first.0 (not-true (dep a (j + 1)) first.1) second.0))

  down : (i j : ℕ) → i ≤ m → j < n → free_rows dep i (j + 1) ≤ free_rows dep i j + 1
  unfolding free_rows
  down i j hi hj = omega (
    arith,
    total-le-total i (λ a. one_if (not (dep a (j + 1)))) (λ a. one_if (not (dep a j)) + one_if (dep a j && not (dep a (j + 1)))) (λ a l. freed (dep a j) (dep a (j + 1))),
    total-add i (λ a. one_if (not (dep a j))) (λ a. one_if (dep a j && not (dep a (j + 1)))),
    freed_once i j hi hj,
  )

  none : (i : ℕ) → i ≤ m → free_rows dep i 0 ≡ 0
  unfolding free_rows
  none i hi = total_zero i (λ a. one_if (not (dep a 0))) (λ a l. kept (dep a 0) (d.no_columns a (omega arith)))
    where
      kept : (x : Bool) → x ≡ true → one_if (not x) ≡ 0
      kept x e = grind arith

  start : (j : ℕ) → free_rows dep 0 j ≡ 0
  unfolding free_rows
  start j = refl

  -- a column that frees no row adds nothing
  same : (j : ℕ) → j < n → ((i : ℕ) → i < m → dep i j ≡ true → dep i (j + 1) ≡ true) → free_rows dep m (j + 1) ≤ free_rows dep m j
  unfolding free_rows
  same j hj h = total-le-total m (λ a. one_if (not (dep a (j + 1)))) (λ a. one_if (not (dep a j))) (λ a l. free-le (dep a (j + 1)) (dep a j) (h a l))

-- the number of free rows is at most the number of columns that may free one
pub free-le-marked : {m n : ℕ} {dep : ℕ → ℕ → Bool} → IsDependence m n dep → (marked : ℕ → Bool) → ((i j : ℕ) → i < m → j < n → marked j ≡ false → dep i j ≡ true → dep i (j + 1) ≡ true) → (j : ℕ) → j ≤ n → free_rows dep m j ≤ total j (λ p. one_if (marked p))
free-le-marked {m} d marked h zero hj = omega (arith, none d m (omega arith))
free-le-marked {m} {n} {dep} d marked h (suc j) hj = go (marked j) refl (free-le-marked d marked h j (omega arith))
  where
    go : (b : Bool) → marked j ≡ b → free_rows dep m j ≤ total j (λ p. one_if (marked p)) → free_rows dep m (suc j) ≤ total j (λ p. one_if (marked p)) + one_if (marked j)
    go true e le =
        let step : free_rows dep m (suc j) ≤ free_rows dep m j + 1 = rw (add-one j) at (down d m j (omega arith) (omega arith)) in
        let one : one_if (marked j) ≡ 1 = rw e refl in
        omega arith
    go false e le =
        let step : free_rows dep m (suc j) ≤ free_rows dep m j = rw (add-one j) at (same d j (omega arith) (λ i hi. h i j hi (omega arith) e)) in
        omega arith

pub free-le-columns : {m n : ℕ} {dep : ℕ → ℕ → Bool} → IsDependence m n dep → free_rows dep m n ≤ n
free-le-columns {m} {n} d = omega (arith, free-le-marked d (λ j. true) (λ i j hi hj e. absurd (false_ne e)) n (omega arith), ones n)
  where
    false_ne : true ≡ false → ⊥
    false_ne e = cc

    ones : (k : ℕ) → total k (λ p. 1) ≡ k
    ones zero = refl
    ones (suc k) = omega (arith, ones k)

-- where a row that depends in one matrix depends in the other, the other has no more free rows
pub free-le-free : (m n k : ℕ) (dep other : ℕ → ℕ → Bool) → ((i : ℕ) → i < m → dep i n ≡ true → other i k ≡ true) → free_rows other m k ≤ free_rows dep m n
unfolding free_rows
free-le-free m n k dep other h = total-le-total m (λ a. one_if (not (other a k))) (λ a. one_if (not (dep a n))) (λ a l. free-le (other a k) (dep a n) (h a l))

pub IsRank-free_rows : {n : ℕ} {dep : ℕ → ℕ → Bool} → IsDependence n n dep → IsRank n (free_rows dep)
IsRank-free_rows {n} {dep} d = record {
  no_rows = λ j h. start d j;
  no_columns = λ i h. none d i h;
  row = λ i j hi hj. omega (arith, row d i j, one-le (not (dep i j)));
  column = λ i j hi hj. (up d i j hi hj, down d i j hi hj);
  corner = λ i j hi hj. omega (arith, row d i j, row d i (j + 1), free-le (dep i j) (dep i (j + 1)) (d.fewer i j hi hj));
}
