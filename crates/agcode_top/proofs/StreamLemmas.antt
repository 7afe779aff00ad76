-- From what the streams answer to how encode and decode end
use Rattle.std.proofs.Common.{◌≡◌, ℕ, ◌∙◌, ap, ap₂, arith, subst, Result, Bool}
use Rattle.stored_form.specs.Form.{Form, IsSound, at_layout}
use Rattle.ag_frame.specs.declared.frame.Layout.{Layout}
use Rattle.stream_codec.specs.Layouts.{Fits, in_groups}
use Rattle.block_code.specs.Compiled.{Compiled, form_in}
use Rattle.stream_codec.specs.declared.encode.EncodeCounts.{EncodeCounts}
use Rattle.stream_codec.specs.declared.encode.EncodeFault.{EncodeFault}
use Rattle.stream_codec.specs.declared.decode.DecodeCounts.{DecodeCounts}
use Rattle.stream_codec.specs.declared.decode.DecodeFault.{DecodeFault}
use Rattle.stream_codec.specs.Encoded.{EncodedAs, EncodesAll}
use Rattle.stream_codec.specs.Decoding.{DecodedAs, IsComplete}
use Rattle.stream_codec.specs.declared.salvage.SalvageCounts.{SalvageCounts}
use Rattle.stream_codec.specs.Salvaging.{SalvagedAs, DecodesAlike, IsSalvaged}
use Rattle.code_descriptor.specs.Parts.{Parts, IsDescriptor}
use Rattle.descriptor_code.specs.Plain.{plain_form}
use Rattle.descriptor_code.specs.PlainLaws.{IsPlain}
use Rattle.agcode_top.specs.declared.status.Status.{Status}
use Rattle.agcode_top.specs.Calls.{SourceCall, SinkCall}
use Rattle.agcode_top.specs.Streams.{encode_status, decode_status, salvage_status, encode_of, decode_of, Encoded, Decoded, SalvagedText}

-- the form of a built code in the groups of a descriptor
pub same-form : (p : Parts) (c : Compiled) (l r : Layout) → IsPlain p c → r ≡ l → l.depth ≡ p.depth → l.packed ≡ p.packed → in_groups r (form_in c) ≡ plain_form p
same-form p c l r plain e d b =
    ap (λ (x : Layout). in_groups x (form_in c)) e
    ∙ ap₂ (λ (depth : ℕ) (packed : Bool). at_layout depth packed (form_in c)) d b
    ∙ plain.form_is

pub sound-form : (p : Parts) (c : Compiled) (l : Layout) → IsDescriptor p → Fits l (form_in c) → l.depth ≡ p.depth → IsSound (in_groups l (form_in c))
sound-form p c l d fits e = fits.code.sound l.depth l.packed (omega (arith, e, d.depth_least))

-- a call with the form of a code is one with the form that the descriptor describes
pub encode-did : (p : Parts) (F : Form) (input : SourceCall) (out : SinkCall) (answer : Result EncodeCounts EncodeFault) (status : Status) → F ≡ plain_form p →
    status ≡ encode_status answer → EncodedAs (encode_of F input out) answer → EncodesAll (encode_of F input out) answer → Encoded p input out status
encode-did p F input out answer status same is h k = record {
  answer = answer;
  status_is = is;
  encoded = subst (λ (G : Form). EncodedAs (encode_of G input out) answer) same h;
  complete = subst (λ (G : Form). EncodesAll (encode_of G input out) answer) same k;
}

pub decode-did : (p : Parts) (F : Form) (input : SourceCall) (out report : SinkCall) (answer : Result DecodeCounts DecodeFault) (status : Status) → F ≡ plain_form p → IsSound F →
    status ≡ decode_status answer → DecodedAs (decode_of F input out report) answer → IsComplete (decode_of F input out report) answer → Decoded p input out report status
decode-did p F input out report answer status same sound is h k = record {
  sound = subst (λ (G : Form). IsSound G) same sound;
  answer = answer;
  status_is = is;
  decoded = subst (λ (G : Form). DecodedAs (decode_of G input out report) answer) same h;
  complete = subst (λ (G : Form). IsComplete (decode_of G input out report) answer) same k;
}

pub salvage-did : (p : Parts) (F : Form) (input : SourceCall) (out report : SinkCall) (answer : Result SalvageCounts DecodeFault) (status : Status) → F ≡ plain_form p → IsSound F →
    status ≡ salvage_status answer → SalvagedAs (decode_of F input out report) answer → DecodesAlike (decode_of F input out report) answer → IsSalvaged (decode_of F input out report) answer → SalvagedText p input out report status
salvage-did p F input out report answer status same sound is h a k = record {
  sound = subst (λ (G : Form). IsSound G) same sound;
  answer = answer;
  status_is = is;
  salvaged = subst (λ (G : Form). SalvagedAs (decode_of G input out report) answer) same h;
  alike = subst (λ (G : Form). DecodesAlike (decode_of G input out report) answer) same a;
  complete = subst (λ (G : Form). IsSalvaged (decode_of G input out report) answer) same k;
}
