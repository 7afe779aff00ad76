-- What the one run behind decoding and salvage leaves.
-- Answered        the last lines of these counts were told, and the answer is theirs
-- Untold          a write of these lines failed
-- EndTold         one of both
-- EndWritten      the last bytes of a text were written, by what the writer holds, and the text ends like this
-- MayDecode       no codeword is lost, or the first lost one ends the run
-- RunAs           going on past lost codewords it is a salvage, and where it may decode it is a decoding
use Rattle.std.specs.Prelude.{ℕ, ◌≡◌, ◌<◌, ◌⊎◌, Bool, IsTrue, List, [], length, Result, Err}
use Rattle.ag_frame.specs.Queues.{OutState}
use Rattle.ag_io.specs.Views.{SinkView}
use Rattle.ag_io.specs.Puts.{Wrote, WroteSome}
use Rattle.stored_form.specs.Salvage.{lost_count}
use Rattle.stream_codec.specs.Decoding.{Decode, DecodedAs}
use Rattle.stream_codec.specs.Salvaging.{answer_of, last_lines, plain, SalvagedAs}
use Rattle.stream_codec.specs.Writing.{bytes_in, last_bytes, EndsFile, EndsNoFile}
use Rattle.stream_codec.specs.declared.deal.WhenLost.{WhenLost}
use Rattle.stream_codec.specs.declared.deal.WhenLost.TheVariants.{Stop, Keep}
use Rattle.stream_codec.specs.declared.decode.DecodeFault.{DecodeFault}
use Rattle.stream_codec.specs.declared.decode.DecodeFault.TheVariants.{ReportFault}
use Rattle.stream_codec.specs.declared.salvage.SalvageCounts.{SalvageCounts}
use Rattle.stream_codec.specs.declared.salvage.SalvageEnd.{SalvageEnd}
use Rattle.stream_codec.specs.declared.salvage.SalvageEnd.TheVariants.{File, Ragged, Framing}

pub record Answered (tells : Bool) (before after : SinkView) (counts : SalvageCounts) (answer : Result SalvageCounts DecodeFault) : Type 0 where
  pub answers : answer_of counts ≡ answer
  pub told : Wrote tells before after (last_lines counts)

pub record Untold (tells : Bool) (before after : SinkView) (counts : SalvageCounts) (answer : Result SalvageCounts DecodeFault) : Type 0 where
  pub fault : answer ≡ Err ReportFault
  pub some : WroteSome tells before after (last_lines counts)

abbrev pub EndTold : Bool → SinkView → SinkView → SalvageCounts → Result SalvageCounts DecodeFault → Type 0
EndTold tells before after counts answer = Answered tells before after counts answer ⊎ Untold tells before after counts answer

abbrev pub EndWritten : (extra groups : ℕ) → OutState → Bool → SinkView → SinkView → ℕ → SalvageEnd → Type 0
EndWritten extra groups s tells before after bytes (Ragged more) =
    (more ≡ extra)
    × ((0 < extra) ⊎ (groups ≡ 0))
    × Wrote tells before after (bytes_in s)
    × (bytes ≡ length (bytes_in s))
EndWritten extra groups s tells before after bytes File =
    (extra ≡ 0)
    × (0 < groups)
    × ((front : List Bool) × EndsFile s front × Wrote tells before after (last_bytes s front) × (bytes ≡ length (last_bytes s front)))
EndWritten extra groups s tells before after bytes Framing =
    (extra ≡ 0) × (0 < groups) × EndsNoFile s × Wrote tells before after [] × (bytes ≡ 0)

abbrev pub MayDecode : Decode → WhenLost → Type 0
MayDecode d Stop = Unit {0}
MayDecode d Keep = IsTrue d.source_tells × (lost_count d.form d.source.left ≡ 0)

pub record RunAs (d : Decode) (when : WhenLost) (answer : Result SalvageCounts DecodeFault) : Type 0 where
  pub salvaged : when ≡ Keep → SalvagedAs d answer
  pub decoded : MayDecode d when → DecodedAs d (plain answer)
