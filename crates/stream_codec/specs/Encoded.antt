-- Encode           a call that encodes: the code in groups, the limit, the source and the sink, before and after
-- encode_of        the same by its parts
-- stored           the bytes that it took
-- within           the bytes of the pieces that lie within a limit
-- encode_answer    the answer that a file asks for under a limit
-- StoresFile       Ok: what was left is within the limit and was read to its end, its image was given, and the counts
--                  are exact
-- EncodeStops      InputFault: the bytes taken are within the limit, and the groups that their bits fill were given
-- EncodePasses     TooLong: more bytes than the limit were taken, and as many as pieces make; the groups that the bits of
--                  the pieces within the limit fill were given
-- EncodePart       OutFault: the bytes taken are within the limit, and a front of their image was given, not all of it
-- EncodeToldAs     what each answer says of a source that tells its bytes, and of a sink that tells its own
-- EncodeFaultAs    what each answer says in any case: the count of the object that it names rose, a told sink has the bytes
--                  that it is sure to take; the count of the other did not rise, but that of the source may have after TooLong, behind
--                  the bytes that pass the limit, and after OutFault, where the last bytes before it were being written
-- EncodeTakesMost  at most the pieces within the limit and one more are taken
-- EncodedAs        all of this
-- EncodesAll       where no count rises, the answer is a function of what was left and of the limit
use Rattle.std.specs.Prelude.{ℕ, ◌*◌, ◌/◌, ◌<◌, ◌≤◌, ◌≡◌, Bool, IsTrue, nat_le, if◌then◌else◌, List, [], length, take, Result, Ok, Err}
use Rattle.ag_io.specs.Counts.{Rose}
use Rattle.ag_io.specs.Views.{SinkView, SourceView, Gives, GivesFront, GivesLess, HasSure}
use Rattle.stored_form.specs.Bits.{bits_of_symbols}
use Rattle.stored_form.specs.Form.{Form}
use Rattle.stored_form.specs.Frame.{group_bytes, image}
use Rattle.stream_codec.specs.Groups.{full_groups}
use Rattle.stream_codec.specs.Taking.{IsSteady, taken_from, WereTaken, most_taken, taken_past}
use Rattle.stream_codec.specs.declared.limits.TheConstants.{PIECE}
use Rattle.stream_codec.specs.declared.encode.EncodeCounts.{EncodeCounts}
use Rattle.stream_codec.specs.declared.encode.EncodeFault.{EncodeFault}
use Rattle.stream_codec.specs.declared.encode.EncodeFault.TheVariants.{InputFault, OutFault, TooLong}

pub record Encode : Type 0 where
  pub form : Form
  pub limit : ℕ
  pub source_tells : Bool
  pub source : SourceView
  pub source_after : SourceView
  pub out_tells : Bool
  pub out : SinkView
  pub out_after : SinkView

abbrev pub encode_of : Form → ℕ → Bool → SourceView → SourceView → Bool → SinkView → SinkView → Encode
encode_of form limit source_tells source source_after out_tells out out_after = record {
  form = form;
  limit = limit;
  source_tells = source_tells;
  source = source;
  source_after = source_after;
  out_tells = out_tells;
  out = out;
  out_after = out_after;
}

abbrev pub stored : Encode → List ℕ
stored e = taken_from e.source e.source_after

abbrev pub within : ℕ → List ℕ → List ℕ
within limit x = take (limit / PIECE * PIECE) x

pub record StoresFile (e : Encode) (counts : EncodeCounts) : Type 0 where
  pub within : length e.source.left ≤ e.limit
  pub ended : e.source_after.left ≡ []
  pub taken_is : counts.taken ≡ length e.source.left
  pub groups_are : counts.groups ≡ length (image e.form e.source.left) / group_bytes e.form
  pub out : Gives e.out_tells e.out e.out_after (image e.form e.source.left)

pub record EncodeStops (e : Encode) : Type 0 where
  pub left : WereTaken e.source e.source_after
  pub within : length (stored e) ≤ e.limit
  pub out : Gives e.out_tells e.out e.out_after (full_groups e.form (bits_of_symbols 8 (stored e)))

pub record EncodePasses (e : Encode) (count : ℕ) : Type 0 where
  pub left : WereTaken e.source e.source_after
  pub count_is : count ≡ length (stored e)
  pub passes : e.limit < count
  pub exact : (Rose e.source.faults e.source_after.faults → ⊥) → count ≡ taken_past PIECE e.limit (length e.source.left)
  pub out : Gives e.out_tells e.out e.out_after (full_groups e.form (bits_of_symbols 8 (within e.limit (stored e))))

pub record EncodePart (e : Encode) : Type 0 where
  pub left : WereTaken e.source e.source_after
  pub within : length (stored e) ≤ e.limit
  pub out : GivesFront e.out_tells e.out e.out_after (image e.form (stored e))
  pub fewer : GivesLess e.out_tells e.out e.out_after (image e.form (stored e))

abbrev pub EncodeToldAs : Encode → Result EncodeCounts EncodeFault → Type 0
EncodeToldAs e (Ok counts) = StoresFile e counts
EncodeToldAs e (Err InputFault) = EncodeStops e
EncodeToldAs e (Err (TooLong count)) = EncodePasses e count
EncodeToldAs e (Err OutFault) = EncodePart e

abbrev pub EncodeFaultAs : Encode → Result EncodeCounts EncodeFault → Type 0
EncodeFaultAs e (Ok counts) =
    IsSteady e.out.faults e.out_after.faults × IsSteady e.source.faults e.source_after.faults
EncodeFaultAs e (Err InputFault) =
    IsSteady e.out.faults e.out_after.faults × Rose e.source.faults e.source_after.faults
EncodeFaultAs e (Err (TooLong taken)) = IsSteady e.out.faults e.out_after.faults × (e.limit < taken)
EncodeFaultAs e (Err OutFault) =
    Rose e.out.faults e.out_after.faults × HasSure e.out_tells e.out e.out_after

abbrev pub EncodeTakesMost : Encode → Type 0
EncodeTakesMost e = IsTrue e.source_tells → length (stored e) ≤ most_taken PIECE e.limit

pub record EncodedAs (e : Encode) (answer : Result EncodeCounts EncodeFault) : Type 0 where
  pub told : IsTrue e.source_tells → EncodeToldAs e answer
  pub fault : EncodeFaultAs e answer
  pub most : EncodeTakesMost e
  pub source_counted : e.source.faults ≤ e.source_after.faults
  pub out_counted : e.out.faults ≤ e.out_after.faults
  pub out_sure : e.out_after.sure ≡ e.out.sure

abbrev pub encode_answer : Form → (limit : ℕ) → List ℕ → Result EncodeCounts EncodeFault
encode_answer F limit x =
    let all : EncodeCounts = record { taken = length x; groups = length (image F x) / group_bytes F } in
    if nat_le (length x) limit then Ok all else Err (TooLong (taken_past PIECE limit (length x)))

abbrev pub EncodesAll : Encode → Result EncodeCounts EncodeFault → Type 0
EncodesAll e answer =
    IsTrue e.source_tells
    → (Rose e.source.faults e.source_after.faults → ⊥)
    → (Rose e.out.faults e.out_after.faults → ⊥)
    → answer ≡ encode_answer e.form e.limit e.source.left
