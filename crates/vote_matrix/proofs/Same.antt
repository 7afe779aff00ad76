-- An elimination speaks of the settled part alone
use Rattle.std.proofs.Common.{◌≡◌, ℕ, ◌<◌, ◌^◌, ◌∙◌, sym, ap, bit_xor}
use Rattle.std.specs.Prelude.{slice_index}
use Rattle.vote_matrix.specs.Elimination.{Elimination, IsEliminationOf, kept_at}

-- a matrix with the same settled part
pub elimination_same : (v : Elimination) (S S' : ℕ → ℕ → ℕ) → ((i j : ℕ) → S' i j < 2 ^ v.bits)
    → ((i j : ℕ) → i < v.n → j < slice_index v.known i → S i j ≡ S' i j) → IsEliminationOf S v → IsEliminationOf S' v
elimination_same v S S' symbols same h = record {
  symbols = symbols;
  inside = h.inside;
  pivot_rows = λ t j l u. h.pivot_rows t j l u ∙ ap (λ (x : ℕ). bit_xor x (kept_at v (slice_index v.rows t) j)) (same (slice_index v.rows t) j (h.inside t l) u);
  before = λ i j l u w. sym (same i j l u) ∙ h.before i j l u w;
}
