-- is_lost           whether position p is marked as lost
-- lost_count        how many positions are
-- Fits              a codeword that equals the bytes y at every position that is not lost
-- IsOnlyFit         the one list that fits
-- IsLeastDifference two lists that fit differ at this position, and no two differ at a position before it
-- HasNoFit          no list fits
-- IsAnswer          what an answer says of the bytes, and what it leaves in the place of `before`
use Rattle.std.specs.Prelude.{◌≡◌, ◌≢◌, ℕ, ◌<◌, Bool, false, List, count_by, slice_index, slice_index_or}
use Rattle.block_theory.specs.Checks.{ParityChecks, IsInCode}
use Rattle.erase_code.specs.declared.fill.FillSays.{FillSays}
use Rattle.erase_code.specs.declared.fill.FillSays.TheVariants.{Filled, Ambiguous, NoCodeword}

abbrev pub is_lost : List Bool → ℕ → Bool
is_lost lost p = slice_index_or lost p false

abbrev pub lost_count : List Bool → ℕ
lost_count lost = count_by (λ m. m) lost

pub record Fits (c : ParityChecks) (y : List ℕ) (lost : List Bool) (x : List ℕ) : Type 0 where
  pub in_code : IsInCode c x
  pub kept : (p : ℕ) → p < c.n → is_lost lost p ≡ false → slice_index x p ≡ slice_index y p

pub record IsOnlyFit (c : ParityChecks) (y : List ℕ) (lost : List Bool) (x : List ℕ) : Type 0 where
  pub fits : Fits c y lost x
  pub no_other : (z : List ℕ) → Fits c y lost z → z ≡ x

pub record IsLeastDifference (c : ParityChecks) (y : List ℕ) (lost : List Bool) (place : ℕ) : Type 0 where
  pub one : List ℕ
  pub other : List ℕ
  pub one_fits : Fits c y lost one
  pub other_fits : Fits c y lost other
  pub differ : slice_index one place ≢ slice_index other place
  pub same_before : (x z : List ℕ) → Fits c y lost x → Fits c y lost z →
      (p : ℕ) → p < place → slice_index x p ≡ slice_index z p

pub record HasNoFit (c : ParityChecks) (y : List ℕ) (lost : List Bool) : Type 0 where
  pub none : (x : List ℕ) → Fits c y lost x → ⊥

abbrev pub IsAnswer : ParityChecks → List ℕ → List Bool → List ℕ → FillSays → List ℕ → Type 0
IsAnswer c y lost before (Filled count) out = IsOnlyFit c y lost out × (count ≡ lost_count lost)
IsAnswer c y lost before (Ambiguous place) out = IsLeastDifference c y lost place × (out ≡ before)
IsAnswer c y lost before NoCodeword out = HasNoFit c y lost × (out ≡ before)
