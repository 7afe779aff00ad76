-- encode_status    the status of what an encoded stream answers
-- decode_status    the status of what a decoded stream answers
-- salvage_status   the status of what a salvage answers
-- encode_of        an encoding of the input, as the streams see it
-- decode_of        a decoding of the input, as the streams see it
-- Encoded          what encoding an input with the code of a descriptor answers, by the status
-- Decoded          the same of decoding
-- SalvagedText     the same of a salvage
use Rattle.std.specs.Prelude.{◌≡◌, nat_eq, if◌then◌else◌, Result, Ok, Err}
use Rattle.stored_form.specs.Form.{Form, IsSound}
use Rattle.stream_codec.specs.declared.encode.EncodeCounts.{EncodeCounts}
use Rattle.stream_codec.specs.declared.encode.EncodeFault.{EncodeFault}
use Rattle.stream_codec.specs.declared.encode.EncodeFault.TheVariants as encoding
use Rattle.stream_codec.specs.declared.decode.DecodeCounts.{DecodeCounts}
use Rattle.stream_codec.specs.declared.decode.DecodeFault.{DecodeFault}
use Rattle.stream_codec.specs.declared.decode.DecodeFault.TheVariants as decoding
use Rattle.stream_codec.specs.Encoded.{Encode, EncodedAs, EncodesAll}
use Rattle.stream_codec.specs.Decoding.{Decode, DecodedAs, IsComplete}
use Rattle.stream_codec.specs.declared.salvage.SalvageCounts.{SalvageCounts}
use Rattle.stream_codec.specs.Salvaging.{SalvagedAs, DecodesAlike, IsSalvaged}
use Rattle.code_descriptor.specs.Parts.{Parts}
use Rattle.descriptor_code.specs.Plain.{plain_form}
use Rattle.stream_codec.specs.declared.limits.TheConstants.{MOST_BYTES}
use Rattle.agcode_top.specs.declared.status.Status.{Status}
use Rattle.agcode_top.specs.declared.status.Status.TheVariants.{Done, Beyond, Ragged, Framing, Salvaged, TooLong}
use Rattle.agcode_top.specs.declared.status.Status.TheVariants.{InputFault, OutFault, ReportFault}
use Rattle.agcode_top.specs.Calls.{SourceCall, SinkCall}

abbrev pub encode_status : Result EncodeCounts EncodeFault → Status
encode_status (Ok counts) = Done
encode_status (Err encoding.InputFault) = InputFault
encode_status (Err encoding.OutFault) = OutFault
encode_status (Err (encoding.TooLong taken)) = TooLong taken

abbrev pub decode_status : Result DecodeCounts DecodeFault → Status
decode_status (Ok counts) = Done
decode_status (Err decoding.InputFault) = InputFault
decode_status (Err decoding.OutFault) = OutFault
decode_status (Err decoding.ReportFault) = ReportFault
decode_status (Err (decoding.TooLong taken)) = TooLong taken
decode_status (Err (decoding.Beyond group word)) = Beyond group word
decode_status (Err (decoding.Ragged extra)) = Ragged extra
decode_status (Err decoding.Framing) = Framing

abbrev pub salvage_status : Result SalvageCounts DecodeFault → Status
salvage_status (Ok counts) = if nat_eq counts.lost 0 then Done else Salvaged
salvage_status (Err fault) = decode_status (Err fault)

abbrev pub encode_of : Form → SourceCall → SinkCall → Encode
encode_of F input out = record {
  form = F;
  limit = MOST_BYTES;
  source_tells = input.tells;
  source = input.before;
  source_after = input.after;
  out_tells = out.tells;
  out = out.before;
  out_after = out.after;
}

abbrev pub decode_of : Form → SourceCall → SinkCall → SinkCall → Decode
decode_of F input out report = record {
  form = F;
  limit = MOST_BYTES;
  source_tells = input.tells;
  source = input.before;
  source_after = input.after;
  out_tells = out.tells;
  out = out.before;
  out_after = out.after;
  report_tells = report.tells;
  report = report.before;
  report_after = report.after;
}

pub record Encoded (p : Parts) (input : SourceCall) (out : SinkCall) (status : Status) : Type 0 where
  pub answer : Result EncodeCounts EncodeFault
  pub status_is : status ≡ encode_status answer
  pub encoded : EncodedAs (encode_of (plain_form p) input out) answer
  pub complete : EncodesAll (encode_of (plain_form p) input out) answer

pub record Decoded (p : Parts) (input : SourceCall) (out report : SinkCall) (status : Status) : Type 0 where
  pub sound : IsSound (plain_form p)
  pub answer : Result DecodeCounts DecodeFault
  pub status_is : status ≡ decode_status answer
  pub decoded : DecodedAs (decode_of (plain_form p) input out report) answer
  pub complete : IsComplete (decode_of (plain_form p) input out report) answer

pub record SalvagedText (p : Parts) (input : SourceCall) (out report : SinkCall) (status : Status) : Type 0 where
  pub sound : IsSound (plain_form p)
  pub answer : Result SalvageCounts DecodeFault
  pub status_is : status ≡ salvage_status answer
  pub salvaged : SalvagedAs (decode_of (plain_form p) input out report) answer
  pub alike : DecodesAlike (decode_of (plain_form p) input out report) answer
  pub complete : IsSalvaged (decode_of (plain_form p) input out report) answer
