-- What an index reads, and the two ways to answer a test
use Rattle.std.proofs.lemmas.Bool.{cases_lt, le-leb, leb-true, both_ways}
use Rattle.std.proofs.lemmas.List.{get_or_read_under}
use Rattle.std.proofs.Common.{◌≡◌, ℕ, ◌<◌, ◌≤◌, List, length, get_or, sym, refl, inl, inr, leb, false}
use Rattle.std.specs.Prelude.{slice_index, IsTrue}

pub read_at : (xs : List ℕ) (i n x : ℕ) → x ≡ get_or xs i x → i < n → length xs ≡ n → x ≡ slice_index xs i
read_at xs i n x e l f = get_or_read_under xs i n x 0 e l (sym f)

pub answer_no : (P : Type 0) → (P → ⊥) → (IsTrue false → P) × (P → IsTrue false)
answer_no P d = (λ f. absurd (both_ways false refl f), λ p. absurd (d p))

-- a test that was false
pub not_past : (j x : ℕ) → (x < j → IsTrue false) → j ≤ x
not_past j x h = elim (cases_lt x j) [ inl l ↦ absurd (let e : IsTrue false = h l in cc) | inr l ↦ l ]

pub answer_leb : (P : Type 0) (a b : ℕ) → (a ≤ b → P) → (P → a ≤ b) → (IsTrue (leb a b) → P) × (P → IsTrue (leb a b))
answer_leb P a b f g = (λ t. f (leb-true a b t), λ p. le-leb a b (g p))
