-- Layouts of groups of a code.
use Rattle.std.proofs.Common.{ℕ, ◌*◌, ◌<◌, ◌≤◌, ◌≡◌, Bool, true, false, ap₂, arith, mul-le-mul_right}
use Rattle.ag_frame.specs.declared.frame.Layout.{Layout}
use Rattle.ag_frame.specs.Layouts.{IsLayout, bits_in_group, bytes_in_group}
use Rattle.std.proofs.Math.Nat.{mul-le-mul}
use Rattle.stored_form.specs.Symbols.{stored_size}
use Rattle.stored_form.specs.Form.{Form, IsSound}
use Rattle.stored_form.specs.Frame.{group_bits}
use Rattle.stored_form.proofs.FrameLemmas.{group_bits_above_0}
use Rattle.stream_codec.specs.Layouts.{Fits, in_groups}

pub fits_sound : (F : Form) (l : Layout) → Fits l F → IsSound (in_groups l F)
fits_sound F l fits = fits.code.sound l.depth l.packed (omega (arith, fits.layout.depth_least))

pub fits_some : (F : Form) (l : Layout) → Fits l F → 0 < group_bits (in_groups l F)
fits_some F l fits = group_bits_above_0 (in_groups l F) (fits_sound F l fits)

-- the bits of a group, by the layout and by the code
pub fits_bits : (F : Form) (l : Layout) → Fits l F → bits_in_group l ≡ group_bits (in_groups l F)
fits_bits F l fits = ap₂ (λ a b. l.depth * a * b) fits.k fits.bits

pub bits_small : (l : Layout) → IsLayout l → bits_in_group l ≤ 524288
bits_small l fits =
    let a : l.depth * l.k ≤ 64 * l.k = mul-le-mul_right l.k fits.depth_most in
    let k : l.k ≤ 1024 = omega (arith, fits.k_most, fits.n_most) in
    let b : l.depth * l.k ≤ 65536 = omega arith in
    let c : l.depth * l.k * l.bits ≤ 65536 * l.bits = mul-le-mul_right l.bits b in
    let d : l.bits ≤ 8 = omega (arith, fits.bits_most) in
    omega arith

size_small : (packed : Bool) (width count : ℕ) → width ≤ 8 → count ≤ 65536 → stored_size packed width count ≤ 65536
size_small false width count narrow few = few
size_small true width count narrow few =
    let bits : count * width ≤ 65536 * 8 = mul-le-mul few narrow in
    omega arith

pub bytes_small : (l : Layout) → IsLayout l → bytes_in_group l ≤ 65536
bytes_small l fits =
    let few : l.n * l.depth ≤ 1024 * 64 = mul-le-mul fits.n_most fits.depth_most in
    size_small l.packed l.bits (l.n * l.depth) fits.bits_most few
