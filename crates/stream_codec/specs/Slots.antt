-- SlotState       what contracts see of a slot: the numbers of its bench, the block that came, the codeword and the
--                 verdict
-- CanDecode       a slot is as long as a block, and its bench fits the code
-- loaded          a slot with another block
-- decoded         a slot after its block is decoded: the codeword is the near of the block or else its low bits
-- IsSettled       a slot that holds what decoding its block finds
-- blocks_of       the blocks that slots hold
-- words_of        the codewords that slots hold
use Rattle.std.specs.Prelude.{ℕ, ◌≡◌, List, length, map}
use Rattle.stored_form.specs.Form.{Form}
use Rattle.stored_form.specs.Reading.{kept}
use Rattle.coded_block.specs.Codes.{BenchNumbers, verdict_of}
use Rattle.coded_block.specs.declared.Verdict.{Verdict}

pub record SlotState : Type 0 where
  pub bench : BenchNumbers
  pub got : List ℕ
  pub word : List ℕ
  pub verdict : Verdict

pub record CanDecode (F : Form) (numbers : BenchNumbers) (s : SlotState) : Type 0 where
  pub fits : s.bench ≡ numbers
  pub got_long : length s.got ≡ F.n
  pub word_long : length s.word ≡ F.n

abbrev pub loaded : SlotState → List ℕ → SlotState
loaded s block = record s { got = block }

abbrev pub decoded : Form → SlotState → SlotState
decoded F s = record s { word = kept F s.got; verdict = verdict_of F s.got }

pub record IsSettled (F : Form) (s : SlotState) : Type 0 where
  pub got_long : length s.got ≡ F.n
  pub word_long : length s.word ≡ F.n
  pub word : s.word ≡ kept F s.got
  pub verdict : s.verdict ≡ verdict_of F s.got

abbrev pub blocks_of : List SlotState → List (List ℕ)
blocks_of slots = map (λ s. s.got) slots

abbrev pub words_of : List SlotState → List (List ℕ)
words_of slots = map (λ s. s.word) slots
