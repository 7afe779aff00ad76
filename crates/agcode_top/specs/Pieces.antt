-- RunSays      what a run of some words says of the status that it ended with: each field is the clause of `run` of that name
-- IsWhole      the descriptor and the input of a call are told, and no count of faults rose
-- SameBytes    the same bytes were left of the descriptor and of the input at the start of two calls
-- PiecesLaw    two runs of the same words on the same bytes end alike, unless memory was wanting in one of them: however
--              many bytes a source gives at a time, and a sink takes, and how many workers there are, does not count
use Rattle.std.specs.Prelude.{◌≡◌, ℕ, List, IsTrue, true, false, ◌⊎◌}
use Rattle.command_words.specs.declared.words.Command.TheVariants.{Encode, Decode}
use Rattle.command_words.specs.declared.words.Words.{Words}
use Rattle.command_words.specs.Lines.{IsCommandLine}
use Rattle.agcode_top.specs.declared.status.Status.{Status}
use Rattle.agcode_top.specs.declared.status.Status.TheVariants.{DescFault, InputFault, OutFault, ReportFault, NoMemory}
use Rattle.agcode_top.specs.Calls.{Call, ReadFailed, WriteFailed, NoneFailed}
use Rattle.agcode_top.specs.Statuses.{OnWords, OnCommand, CanEnd}
use Rattle.agcode_top.specs.Headline.{RefusesBy, RefusesExactly, Answers, AnswersExactly, EncodesAs, DecodesAs, SalvagesAs}

pub record RunSays (texts : List (List ℕ)) (c : Call) (status : Status) : Type 0 where
  pub own : OnWords texts (λ w. CanEnd status w.command)
  pub descriptor : OnWords texts (λ w. RefusesBy w.command c.desc status)
  pub desc_fault : status ≡ DescFault → ReadFailed c.desc
  pub input_fault : status ≡ InputFault → ReadFailed c.input
  pub out_fault : status ≡ OutFault → WriteFailed c.out
  pub report_fault : status ≡ ReportFault → WriteFailed c.report
  pub answer : OnWords texts (λ w. Answers w c status)
  pub refused : OnWords texts (λ w. RefusesExactly w.command c.desc status)
  pub exactly : OnWords texts (λ w. AnswersExactly w c status)
  pub encoded : OnCommand texts Encode (EncodesAs c status)
  pub decoded : OnWords texts (λ w. w.command ≡ Decode → w.salvage ≡ false → DecodesAs c status)
  pub salvaged : OnWords texts (λ w. w.command ≡ Decode → w.salvage ≡ true → SalvagesAs c status)

pub record IsWhole (c : Call) : Type 0 where
  pub desc_told : IsTrue c.desc.tells
  pub input_told : IsTrue c.input.tells
  pub none : NoneFailed c

pub record SameBytes (a b : Call) : Type 0 where
  pub desc : a.desc.before.left ≡ b.desc.before.left
  pub input : a.input.before.left ≡ b.input.before.left

abbrev pub PiecesLaw : Type 0
PiecesLaw =
    (texts : List (List ℕ)) (w : Words) (a b : Call) (s t : Status) → IsCommandLine texts w →
    RunSays texts a s → RunSays texts b t → IsWhole a → IsWhole b → SameBytes a b →
    (s ≡ t) ⊎ (s ≡ NoMemory) ⊎ (t ≡ NoMemory)
