-- Codes over GF(4), worked by hand.
-- repeated       three times the same symbol: two checks, that the first two symbols agree and that the last two do
-- sum_zero       three symbols whose sum is 0
-- weighted       two symbols, of which the first and twice the second have the sum 0
-- RepeatedCode, SumZeroCode, WeightedCode   their message places, words and nears
use Rattle.std.specs.Prelude.{◌≡◌, [], ◌∷◌, Some, None}
use Rattle.block_theory.specs.Checks.{ParityChecks, message_places}
use Rattle.block_theory.specs.Blocks.{word_of, near_of}

abbrev pub repeated : ParityChecks
repeated = record { bits = 2; modulus = 7; n = 3; vectors = (1 ∷ 1 ∷ 0 ∷ []) ∷ (0 ∷ 1 ∷ 1 ∷ []) ∷ [] }

abbrev pub sum_zero : ParityChecks
sum_zero = record { bits = 2; modulus = 7; n = 3; vectors = (1 ∷ 1 ∷ 1 ∷ []) ∷ [] }

abbrev pub weighted : ParityChecks
weighted = record { bits = 2; modulus = 7; n = 2; vectors = (1 ∷ 2 ∷ []) ∷ [] }

pub record RepeatedCode : Type 0 where
  pub places : message_places repeated ≡ 0 ∷ []
  pub word : word_of repeated (2 ∷ []) ≡ 2 ∷ 2 ∷ 2 ∷ []
  pub near_of_one_change : near_of repeated 1 (2 ∷ 1 ∷ 2 ∷ []) ≡ Some (2 ∷ 2 ∷ 2 ∷ [])
  -- a byte that differs in its high bits alone is a change
  pub near_of_high_bits : near_of repeated 1 (2 ∷ 2 ∷ 6 ∷ []) ≡ Some (2 ∷ 2 ∷ 2 ∷ [])
  pub near_of_two_high_bits : near_of repeated 1 (6 ∷ 2 ∷ 6 ∷ []) ≡ None
  pub near_of_three : near_of repeated 1 (1 ∷ 2 ∷ 3 ∷ []) ≡ None

pub record SumZeroCode : Type 0 where
  pub places : message_places sum_zero ≡ 0 ∷ 1 ∷ []
  pub word : word_of sum_zero (1 ∷ 2 ∷ []) ≡ 1 ∷ 2 ∷ 3 ∷ []
  pub near_of_itself : near_of sum_zero 0 (1 ∷ 2 ∷ 3 ∷ []) ≡ Some (1 ∷ 2 ∷ 3 ∷ [])
  pub near_of_other : near_of sum_zero 0 (1 ∷ 2 ∷ 2 ∷ []) ≡ None

-- 3 is the inverse of 2
pub record WeightedCode : Type 0 where
  pub places : message_places weighted ≡ 0 ∷ []
  pub word_of_one : word_of weighted (1 ∷ []) ≡ 1 ∷ 3 ∷ []
  pub word_of_two : word_of weighted (2 ∷ []) ≡ 2 ∷ 1 ∷ []
