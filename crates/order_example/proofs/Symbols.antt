-- A matrix whose rows are lists of symbols
use Rattle.std.proofs.Common.{ℕ, ◌≡◌, suc, ◌+◌, ◌<◌, List, length, get_or, All, sym, subst, inl, inr, arith}
use Rattle.std.proofs.lemmas.Bool.{cases_lt}
use Rattle.std.proofs.lemmas.List.{get_or_default, get_or_past}
use Rattle.field_theory.proofs.Sums.{eq_or_below}
use Rattle.gf_linear.specs.Matrix.{Matrix, entry, row as row_of}

pub symbols_more : (m : Matrix) (i : ℕ) (row : List ℕ) → row ≡ row_of m i → All (λ x. x < 4) row → ((q j : ℕ) → q < i → entry m q j < 4) → (q j : ℕ) → q < i + 1 → entry m q j < 4
symbols_more m i row e all h q j l = elim (eq_or_below q i (let u : q < suc i = omega arith in u)) [
  | inr u ↦ h q j u
  | inl f ↦ subst (λ (p : ℕ). entry m p j < 4) (sym f) (subst (λ (xs : List ℕ). get_or xs j 0 < 4) e (elim (cases_lt j (length row)) [
    | inl u ↦ subst (λ (x : ℕ). x < 4) (sym (get_or_default row j 0 0 u)) (all j 0 u)
    | inr u ↦ subst (λ (x : ℕ). x < 4) (sym (get_or_past row j 0 u)) (let z : 0 < 4 = omega arith in z)
  ]))
]
