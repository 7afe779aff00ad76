-- A writer that holds a group, and one that ends.
use Rattle.std.proofs.Common.{ℕ, ◌+◌, ◌*◌, ◌/◌, ◌<◌, ◌≤◌, ◌≡◌, Bool, true, List, ◌++◌, length, flat_map, Option, Some, None, refl, sym, ap, ap₂, ◌∙◌, subst, arith, length-append}
use Rattle.ag_frame.specs.Queues.{OutState, out_bits, bits_held}
use Rattle.stored_form.specs.Bits.{bits_of, bits_of_symbols}
use Rattle.stored_form.specs.Form.{Form, message_of}
use Rattle.stored_form.specs.Frame.{before_last_one}
use Rattle.stored_form.specs.Reading.{message_bits}
use Rattle.stored_form.proofs.Lists.{flat_map-flat_map}
use Rattle.stored_form.proofs.BitsLemmas.{length-bits_of_symbols}
use Rattle.stored_form.proofs.FrameLemmas.{before_last_one-below}
use Rattle.stream_codec.specs.Writing.{WriterFits}

abbrev pub out_with : OutState → List Bool → Option (List Bool) → OutState
out_with s released held = record { size = s.size; width = s.width; released = released; held = held }

pub holds_messages : (F : Form) (s0 s1 s2 : OutState) (msg held : List ℕ) (words : List (List ℕ)) → s1 ≡ s0 → s0.width ≡ F.bits → held ≡ msg → msg ≡ flat_map (message_of F) words → s2 ≡ out_with s1 s1.released (Some (bits_of_symbols s1.width held)) → s2 ≡ out_with s0 s0.released (Some (message_bits F words))
holds_messages F s0 s1 s2 msg held words same width held_is msg_is e =
    let bits : bits_of_symbols s0.width held ≡ message_bits F words = ap₂ bits_of_symbols width (held_is ∙ msg_is) ∙ flat_map-flat_map (bits_of F.bits) (message_of F) words in
    e ∙ ap (λ (s : OutState). out_with s s.released (Some (bits_of_symbols s.width held))) same ∙ ap (λ b. out_with s0 s0.released (Some b)) bits

pub holding_fits : (s s2 : OutState) (holds : Bool) (held : List ℕ) (symbols symbols2 bytes : ℕ) → WriterFits s holds symbols bytes → s2 ≡ out_with s s.released (Some (bits_of_symbols s.width held)) → symbols2 ≡ symbols → length held ≡ symbols → WriterFits s2 true symbols2 bytes
holding_fits s s2 holds held symbols symbols2 bytes fits e same long =
    let bits : length (bits_of_symbols s.width held) ≡ s.size * s.width = length-bits_of_symbols s.width held ∙ ap (λ n. n * s.width) (long ∙ fits.symbols_is) in
    subst (λ (v : OutState). WriterFits v true symbols2 bytes) (sym e) (record {
      holds_is = refl;
      few = fits.few;
      held_long = omega arith;
      symbols_is = same ∙ fits.symbols_is;
      bytes_fit = fits.bytes_fit;
    })

-- there is room for the last bytes
pub last_bytes_fit : (s s2 : OutState) (holds : Bool) (front : List Bool) (symbols bytes : ℕ) → WriterFits s holds symbols bytes → before_last_one (bits_held s.held) ≡ Some front → s2.released ≡ s.released ++ front → length s2.released / 8 ≤ bytes
last_bytes_fit s s2 holds front symbols bytes fits found e =
    omega (arith, before_last_one-below (bits_held s.held) front found, length-append s.released front, ap length e, fits.held_long, fits.bytes_fit, fits.few)

-- few bits are released with the group that was held
pub released_few : (s s2 : OutState) (holds : Bool) (symbols bytes : ℕ) → WriterFits s holds symbols bytes → s2 ≡ out_with s (s.released ++ bits_held s.held) None → length s2.released < out_bits s + 8
released_few s s2 holds symbols bytes fits e = omega (arith, ap (λ (v : OutState). length v.released) e, length-append s.released (bits_held s.held), fits.few, fits.held_long)

pub last_few : (s s2 : OutState) (holds : Bool) (front : List Bool) (symbols bytes count : ℕ) → WriterFits s holds symbols bytes → before_last_one (bits_held s.held) ≡ Some front → s2.released ≡ s.released ++ front → 8 * count ≤ length s2.released → 8 * count < out_bits s + 8
last_few s s2 holds front symbols bytes count fits found e few =
    omega (arith, before_last_one-below (bits_held s.held) front found, length-append s.released front, ap length e, fits.held_long, fits.few)
