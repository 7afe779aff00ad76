-- BenchNumbers   what a bench keeps of the code that it was made for
-- IsCode         what coded files use of a code: it is sound in groups of every depth and in either layout, and its
--                numbers are in range
-- verdict_of     what decoding a block finds: the number of positions at which it differs from its near, or that it has none
use Rattle.std.specs.Prelude.{ℕ, ◌<◌, ◌≤◌, Bool, List, Option, Some, None}
use Rattle.stored_form.specs.Form.{Form, at_layout, IsSound, distance}
use Rattle.coded_block.specs.declared.Verdict.{Verdict}
use Rattle.coded_block.specs.declared.Verdict.TheVariants.{Near, Beyond}

pub record BenchNumbers : Type 0 where
  pub bits : ℕ
  pub modulus : ℕ
  pub n : ℕ
  -- one mark for each member, and how many errors are found
  pub marks : List Bool
  pub radius : ℕ

pub record IsCode (F : Form) : Type 0 where
  pub sound : (depth : ℕ) (packed : Bool) → 0 < depth → IsSound (at_layout depth packed F)
  pub bits_least : 2 ≤ F.bits
  pub n_most : F.n ≤ 1024

abbrev pub verdict_by : List ℕ → Option (List ℕ) → Verdict
verdict_by got (Some word) = Near (distance got word)
verdict_by got None = Beyond

abbrev pub verdict_of : Form → List ℕ → Verdict
verdict_of F got = verdict_by got (F.near got)
