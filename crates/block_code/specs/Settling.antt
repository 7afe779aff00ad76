-- IsReached      the word that an error leads to, in how many bytes it differs from the block, and that this is within the radius
-- IsOutOfReach   it differs in more bytes, and the low bits of the block stand in its place
-- IsSettled      what each verdict says of the word that stands in the place of the error
use Rattle.std.specs.Prelude.{◌≡◌, ℕ, ◌<◌, ◌≤◌, List}
use Rattle.order_theory.specs.Codes.{distance, low_bits, list_sum}
use Rattle.coded_block.specs.declared.Verdict.{Verdict}
use Rattle.coded_block.specs.declared.Verdict.TheVariants.{Near, Beyond}

pub record IsReached (bits radius : ℕ) (got err word : List ℕ) (changes : ℕ) : Type 0 where
  pub word_is : word ≡ list_sum (low_bits bits got) err
  pub changes_are : changes ≡ distance got word
  pub within : changes ≤ radius

pub record IsOutOfReach (bits radius : ℕ) (got err word : List ℕ) : Type 0 where
  pub far : radius < distance got (list_sum (low_bits bits got) err)
  pub low : word ≡ low_bits bits got

abbrev pub IsSettled : ℕ → ℕ → List ℕ → List ℕ → List ℕ → Verdict → Type 0
IsSettled bits radius got err word (Near changes) = IsReached bits radius got err word changes
IsSettled bits radius got err word Beyond = IsOutOfReach bits radius got err word
