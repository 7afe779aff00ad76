-- How long the texts of a trial are
use Rattle.std.proofs.Common.{ℕ, ◌+◌, ◌*◌, ◌/◌, ◌%◌, ◌<◌, ◌≤◌, ◌≡◌, List, [], length, refl, sym, ap, ap₂, ◌∙◌, arith, inl, inr, div-add-mod', mul-le-mul_right}
use Rattle.std.proofs.Math.Nat.{mul-le-mul, div-le_self}
use Rattle.std.proofs.lemmas.Bool.{cases_lt}
use Rattle.std.proofs.lemmas.Nat.{mod_below}
use Rattle.ag_io.specs.Memory.{SinkState, sure_by, sure_of}
use Rattle.ag_frame.specs.declared.frame.Layout.{Layout}
use Rattle.ag_frame.specs.Layouts.{IsLayout, bits_in_group, bytes_in_group}
use Rattle.stored_form.specs.Form.{Form, IsSound}
use Rattle.stored_form.specs.Frame.{group_bits, group_bytes, image}
use Rattle.stored_form.specs.Reading.{Reading, Beyond, Ragged, Framing, File, group_count, reading, told_groups}
use Rattle.stored_form.proofs.Lists.{times_mod}
use Rattle.stored_form.proofs.FrameLemmas.{group_bits_above_0, group_bytes_above_0, file_groups}
use Rattle.stored_form.proofs.ImageLemmas.{length-image}
use Rattle.stored_form.proofs.Theorems.{beyond_law, out_law}
use Rattle.stream_codec.specs.Layouts.{Fits, in_groups}
use Rattle.stream_codec.proofs.FitLemmas.{fits_sound, fits_bits, bytes_small}
use Rattle.stream_codec.proofs.WindowGroups.{group_size}
use Rattle.stream_codec.specs.Report.{sure_bytes}

-- ---- numbers
pub div_up : (a b k : ℕ) → 0 < k → a ≤ b → a / k ≤ b / k
div_up a b k some l = elim (cases_lt (b / k) (a / k)) [
  | inl far ↦
      absurd (let m : (b / k + 1) * k ≤ a / k * k = mul-le-mul_right k (omega arith) in
      omega (arith, div-add-mod' a k, div-add-mod' b k, mod_below b k some))
  | inr near ↦ near
]

-- ---- groups
pub sound_at : (l : Layout) (F : Form) → Fits l F → IsSound (in_groups l F)
sound_at l F fits = fits_sound F l fits

pub group_bytes_is : (l : Layout) (F : Form) → Fits l F → group_bytes (in_groups l F) ≡ bytes_in_group l
group_bytes_is l F fits = sym (group_size l F fits)

pub group_bits_is : (l : Layout) (F : Form) → Fits l F → group_bits (in_groups l F) ≡ bits_in_group l
group_bits_is l F fits = sym (fits_bits F l fits)

pub bytes_few : (l : Layout) → IsLayout l → bytes_in_group l ≤ 65536
bytes_few l is = bytes_small l is

pub bits_few : (l : Layout) → IsLayout l → bits_in_group l ≤ 524288
bits_few l is =
    let k : l.k ≤ 1024 = (let a = is.k_most in let b = is.n_most in omega arith) in
    let m : l.depth * l.k ≤ 64 * 1024 = mul-le-mul is.depth_most k in
    let b : l.depth * l.k * l.bits ≤ 64 * 1024 * 8 = mul-le-mul m is.bits_most in
    b

pub file_fits : (l : Layout) (bytes : ℕ) → IsLayout l → bytes ≤ 1099511627776 → bytes / bytes_in_group l * bits_in_group l ≤ 576460752303423488
file_fits l bytes is short =
    let a : bytes / bytes_in_group l ≤ 1099511627776 = (let d = div-le_self bytes (bytes_in_group l) in omega arith) in
    mul-le-mul a (bits_few l is)

-- ---- images
pub image_long : (l : Layout) (F : Form) (x : List ℕ) → Fits l F → length (image (in_groups l F) x) ≡ (length x * 8 / bits_in_group l + 1) * bytes_in_group l
unfolding file_groups
image_long l F x fits =
    length-image (in_groups l F) x (sound_at l F fits)
    ∙ ap₂ (λ (b g : ℕ). (length x * 8 / b + 1) * g) (group_bits_is l F fits) (group_bytes_is l F fits)

pub image_whole : (l : Layout) (F : Form) (x : List ℕ) → Fits l F → length (image (in_groups l F) x) % bytes_in_group l ≡ 0
image_whole l F x fits =
    ap (λ (n : ℕ). n % bytes_in_group l) (length-image (in_groups l F) x (sound_at l F fits))
    ∙ ap (λ (g : ℕ). file_groups (in_groups l F) x * g % bytes_in_group l) (group_bytes_is l F fits)
    ∙ times_mod (file_groups (in_groups l F) x) (bytes_in_group l) (let g = group_bytes_above_0 (in_groups l F) (sound_at l F fits) in let e = group_bytes_is l F fits in omega arith)

pub image_short : (l : Layout) (F : Form) (x : List ℕ) → Fits l F → length x ≤ 65536 → length (image (in_groups l F) x) ≤ 1099511627776
image_short l F x fits short =
    let groups : length x * 8 / bits_in_group l + 1 ≤ 524289 = (let d = div-le_self (length x * 8) (bits_in_group l) in omega arith) in
    let most : (length x * 8 / bits_in_group l + 1) * bytes_in_group l ≤ 524289 * 65536 = mul-le-mul groups (bytes_few l fits.layout) in
    let long = image_long l F x fits in
    omega arith

-- a longer file has no shorter image
pub image_front : (F : Form) (x y : List ℕ) → IsSound F → length x ≤ length y → length (image F x) ≤ length (image F y)
unfolding file_groups
image_front F x y sound l =
    let groups : length x * 8 / group_bits F ≤ length y * 8 / group_bits F = div_up (length x * 8) (length y * 8) (group_bits F) (group_bits_above_0 F sound) (omega arith) in
    let m : (length x * 8 / group_bits F + 1) * group_bytes F ≤ (length y * 8 / group_bits F + 1) * group_bytes F = mul-le-mul_right (group_bytes F) (omega arith) in
    let ex : length (image F x) ≡ (length x * 8 / group_bits F + 1) * group_bytes F = length-image F x sound in
    let ey : length (image F y) ≡ (length y * 8 / group_bits F + 1) * group_bytes F = length-image F y sound in
    omega arith

-- ---- what is sure of a text
pub told_within : (F : Form) (z : List ℕ) → IsSound F → told_groups F z (reading F z) ≤ group_count F z
told_within F z sound = go (reading F z) refl
  where
    go : (r : Reading) → reading F z ≡ r → told_groups F z r ≤ group_count F z
    go (Beyond g c) e = let lost = (beyond_law F z g c sound).0 e in let h = lost.in_text in omega arith
    go (Ragged extra) e = omega arith
    go Framing e = omega arith
    go (File x) e = omega arith

pub sure_short : (F : Form) (z whole : List ℕ) → IsSound F → length z ≤ length whole → length (sure_bytes F z) ≤ length whole / group_bytes F * group_bits F / 8
sure_short F z whole sound l =
    let h : ℕ = told_groups F z (reading F z) in
    let long : length (sure_bytes F z) ≡ h * group_bits F / 8 = (out_law F z h sound (told_within F z sound)).long in
    let groups : length z / group_bytes F ≤ length whole / group_bytes F = div_up (length z) (length whole) (group_bytes F) (group_bytes_above_0 F sound) l in
    let fewer : h ≤ length whole / group_bytes F = (let t = told_within F z sound in omega arith) in
    let bits : h * group_bits F ≤ length whole / group_bytes F * group_bits F = mul-le-mul_right (group_bits F) fewer in
    let bytes : h * group_bits F / 8 ≤ length whole / group_bytes F * group_bits F / 8 = div_up (h * group_bits F) (length whole / group_bytes F * group_bits F) 8 (omega arith) bits in
    omega arith

-- ---- room in memory
new_sure : (sink : SinkState) (room : ℕ) (fails : List ℕ) → fails ≡ [] → sink ≡ record { given = []; room = room; fails = fails; calls = 0; faults = 0 } → sure_of sink ≡ room
new_sure sink room fails none e = ap sure_of e ∙ ap (sure_by room) none

pub image_enough : (l : Layout) (F : Form) (room_layout : Layout) (file left : List ℕ) (room : ℕ) (fails : List ℕ) (sink : SinkState) → Fits l F → room_layout ≡ l → left ≡ file →
    room ≡ (length file * 8 / bits_in_group l + 1) * bytes_in_group l → fails ≡ [] → sink ≡ record { given = []; room = room + 1; fails = fails; calls = 0; faults = 0 } →
    length (image (in_groups room_layout F) left) < sure_of sink
image_enough l F room_layout file left room fails sink fits same src is none new =
    let long : length (image (in_groups room_layout F) left) ≡ (length file * 8 / bits_in_group l + 1) * bytes_in_group l =
    ap₂ (λ (d : Layout) (x : List ℕ). length (image (in_groups d F) x)) same src ∙ image_long l F file fits in
    let sure : sure_of sink ≡ room + 1 = new_sure sink (room + 1) fails none new in
    omega arith

pub room_enough : (l : Layout) (F : Form) (room_layout : Layout) (text left : List ℕ) (room : ℕ) (fails : List ℕ) (sink : SinkState) → Fits l F → room_layout ≡ l → left ≡ text →
    room ≡ length text / bytes_in_group l * bits_in_group l / 8 → fails ≡ [] → sink ≡ record { given = []; room = room + 1; fails = fails; calls = 0; faults = 0 } →
    length left / group_bytes (in_groups room_layout F) * group_bits (in_groups room_layout F) / 8 < sure_of sink
room_enough l F room_layout text left room fails sink fits same src is none new =
    let here : length left / group_bytes (in_groups room_layout F) * group_bits (in_groups room_layout F) / 8 ≡ length text / group_bytes (in_groups l F) * group_bits (in_groups l F) / 8 =
    ap₂ (λ (d : Layout) (x : List ℕ). length x / group_bytes (in_groups d F) * group_bits (in_groups d F) / 8) same src in
    let sizes : length text / group_bytes (in_groups l F) * group_bits (in_groups l F) / 8 ≡ length text / bytes_in_group l * bits_in_group l / 8 =
    ap₂ (λ (size bits : ℕ). length text / size * bits / 8) (group_bytes_is l F fits) (group_bits_is l F fits) in
    let all : length left / group_bytes (in_groups room_layout F) * group_bits (in_groups room_layout F) / 8 ≡ room = here ∙ sizes ∙ sym is in
    let sure : sure_of sink ≡ room + 1 = new_sure sink (room + 1) fails none new in
    omega arith
