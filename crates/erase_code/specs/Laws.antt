-- AgreeLaw      two codewords that agree at every position that is not lost are one, where fewer positions are lost than the
--               order bound
-- AnswersLaw    no two of the three answers hold of the same bytes
-- AnswersExclude    .. of these bytes and lost positions
use Rattle.std.specs.Prelude.{◌≡◌, ℕ, ◌<◌, Bool, List, length}
use Rattle.order_theory.specs.Basis.{Basis, IsSoundBasis}
use Rattle.order_theory.specs.Codes.{IsBound}
use Rattle.block_theory.specs.Checks.{ParityChecks}
use Rattle.block_theory.specs.Marked.{checks_of}
use Rattle.erase_code.specs.Filling.{lost_count, Fits, IsOnlyFit, IsLeastDifference, HasNoFit}

abbrev pub AgreeLaw : Type 0
AgreeLaw =
    (b : Basis) (marks : List Bool) (d : ℕ) (y : List ℕ) (lost : List Bool) (x z : List ℕ) →
    IsSoundBasis b → length marks ≡ b.n → IsBound b marks d → length lost ≡ b.n → lost_count lost < d →
    Fits (checks_of b marks) y lost x → Fits (checks_of b marks) y lost z → x ≡ z

pub record AnswersExclude (c : ParityChecks) (y : List ℕ) (lost : List Bool) : Type 0 where
  pub one_or_more : (x : List ℕ) (place : ℕ) → IsOnlyFit c y lost x → IsLeastDifference c y lost place → ⊥
  pub one_or_none : (x : List ℕ) → IsOnlyFit c y lost x → HasNoFit c y lost → ⊥
  pub more_or_none : (place : ℕ) → IsLeastDifference c y lost place → HasNoFit c y lost → ⊥
  pub one_place : (place other : ℕ) → IsLeastDifference c y lost place → IsLeastDifference c y lost other → place ≡ other

abbrev pub AnswersLaw : Type 0
AnswersLaw = (c : ParityChecks) (y : List ℕ) (lost : List Bool) → AnswersExclude c y lost
