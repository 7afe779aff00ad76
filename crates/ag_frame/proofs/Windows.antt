-- A symbol in a window of one byte or of two, and the window in a list of bytes.
use Rattle.std.proofs.Common.{ℕ, zero, suc, ◌+◌, ◌*◌, ◌/◌, ◌%◌, ◌^◌, ◌<◌, ◌≤◌, ◌≡◌, Bool, nat_eq, List, ◌∷◌, ◌++◌, length, get_or, set, take, drop, sym, ap, ap₂, ◌∙◌, subst, arith, zero-add, suc-add, add-one, pow_pos, length-append, length-take-le, take-append-drop, drop-cons, append_assoc, length-drop}
use Rattle.std.proofs.Math.Seq.{take-append-add, drop-append-add}
use Rattle.std.proofs.lemmas.List.{take-append-le, drop-append-le, take-set, take-set-le, drop-set-lt, get_or-set_same, get_or-set_other, length-set, take_at, drop_at}
use Rattle.std.proofs.lemmas.List.Concat.{flat_map-append}
use Rattle.std.proofs.lemmas.Nat.{shr-shr, shr_split, pow-add, div-mul-add, mul-add-lt, mod_below}
use Rattle.std.proofs.Math.Nat.{div-lt_iff_lt-mul}
use Rattle.stored_form.specs.Bits.{bits_of, number_of, bits_of_symbols}
use Rattle.stored_form.proofs.BitsLemmas.{length-bits_of, length-bits_of_symbols, bits_of_low, number_of-bits_of}
use Rattle.ag_frame.specs.Packing.{symbol_in, with_symbol}

-- ---- the bits of a number, cut in two
pub bits_of-add : (a b v : ℕ) → bits_of (a + b) v ≡ bits_of a (v / 2 ^ b) ++ bits_of b v
bits_of-add zero b v = ap (λ w. bits_of w v) (zero-add b)
bits_of-add (suc a) b v =
    let bit : v / 2 ^ (a + b) ≡ v / 2 ^ b / 2 ^ a = ap (λ w. v / 2 ^ w) (let e : a + b ≡ b + a = omega arith in e) ∙ sym (shr-shr v b a) in
    ap (λ w. bits_of w v) (suc-add a b) ∙ ap₂ (λ q rest. nat_eq (q % 2) 1 ∷ rest) bit (bits_of-add a b v)

pub bits_of-joined : (a b high low : ℕ) → low < 2 ^ b → bits_of (a + b) (high * 2 ^ b + low) ≡ bits_of a high ++ bits_of b low
bits_of-joined a b high low below = bits_of-add a b (high * 2 ^ b + low) ∙ ap₂ (λ h l. bits_of a h ++ l) (div-mul-add high (2 ^ b) low below) (bits_of_low b high low)

pub bits_of_rest : (b v : ℕ) → bits_of b (v % 2 ^ b) ≡ bits_of b v
bits_of_rest b v = sym (bits_of_low b (v / 2 ^ b) (v % 2 ^ b)) ∙ ap (bits_of b) (shr_split v b)

-- ---- a symbol in a window
window_parts : (size from width low w : ℕ) → size ≡ from + (width + low) → bits_of size w ≡ bits_of from (w / 2 ^ (width + low)) ++ (bits_of width (w / 2 ^ low) ++ bits_of low w)
window_parts size from width low w is = ap (λ s. bits_of s w) is ∙ bits_of-add from (width + low) w ∙ ap (λ l. bits_of from (w / 2 ^ (width + low)) ++ l) (bits_of-add width low w)

pub cut_is : (w size from width low values : ℕ) → size ≡ from + (width + low) → values ≡ 2 ^ width → w / 2 ^ low % values ≡ symbol_in from width (bits_of size w)
cut_is w size from width low values is count =
    let front = bits_of from (w / 2 ^ (width + low)) in
    let mid = bits_of width (w / 2 ^ low) in
    let cut : take width (drop from (bits_of size w)) ≡ mid =
    ap (λ l. take width (drop from l)) (window_parts size from width low w is)
    ∙ ap (take width) (drop_at front (mid ++ bits_of low w) from (length-bits_of from (w / 2 ^ (width + low))))
    ∙ take_at mid (bits_of low w) width (length-bits_of width (w / 2 ^ low)) in
    ap (λ v. w / 2 ^ low % v) count ∙ sym (number_of-bits_of width (w / 2 ^ low)) ∙ sym (ap number_of cut)

pub paste_below : (w size from width low symbol unit values : ℕ) → size ≡ from + (width + low) → unit ≡ 2 ^ low → values ≡ 2 ^ width → w < 2 ^ size →
    (w / 2 ^ (low + width) * values + symbol % values) * unit + w % unit < 2 ^ size
paste_below w size from width low symbol unit values is unit_is values_is below =
    let some_unit : 0 < unit = subst (λ u. 0 < u) (sym unit_is) (pow_pos low) in
    let some_values : 0 < values = subst (λ u. 0 < u) (sym values_is) (pow_pos width) in
    let whole : 2 ^ size ≡ 2 ^ from * 2 ^ (low + width) = ap (λ s. 2 ^ s) (is ∙ (let e : from + (width + low) ≡ from + (low + width) = omega arith in e)) ∙ pow-add 2 from (low + width) in
    let high : w / 2 ^ (low + width) < 2 ^ from = (div-lt_iff_lt-mul (pow_pos (low + width))).1 (subst (λ l. w < l) whole below) in
    let two : w / 2 ^ (low + width) * values + symbol % values < values * 2 ^ from = mul-add-lt (w / 2 ^ (low + width)) values (symbol % values) (2 ^ from) high (mod_below symbol values some_values) in
    let three : (w / 2 ^ (low + width) * values + symbol % values) * unit + w % unit < unit * (values * 2 ^ from) = mul-add-lt (w / 2 ^ (low + width) * values + symbol % values) unit (w % unit) (values * 2 ^ from) two (mod_below w unit some_unit) in
    let size_is : unit * (values * 2 ^ from) ≡ 2 ^ size = ap₂ (λ u v. u * (v * 2 ^ from)) unit_is values_is ∙ ap (λ v. 2 ^ low * v) (sym (pow-add 2 width from)) ∙ sym (pow-add 2 low (width + from)) ∙ ap (λ s. 2 ^ s) ((let e : low + (width + from) ≡ from + (width + low) = omega arith in e) ∙ sym is) in
    subst (λ l. (w / 2 ^ (low + width) * values + symbol % values) * unit + w % unit < l) size_is three

pub paste_bits : (w size from width low symbol unit values : ℕ) → size ≡ from + (width + low) → unit ≡ 2 ^ low → values ≡ 2 ^ width →
    bits_of size ((w / 2 ^ (low + width) * values + symbol % values) * unit + w % unit) ≡ with_symbol from width symbol (bits_of size w)
paste_bits w size from width low symbol unit values is unit_is values_is =
    let high = w / 2 ^ (width + low) in
    let front = bits_of from high in
    let mid = bits_of width (w / 2 ^ low) in
    let old : bits_of size w ≡ front ++ (mid ++ bits_of low w) = window_parts size from width low w is in
    let whole : (w / 2 ^ (low + width) * values + symbol % values) * unit + w % unit ≡ (high * 2 ^ width + symbol % 2 ^ width) * 2 ^ low + w % 2 ^ low =
    ap₂ (λ u v. (w / 2 ^ (low + width) * v + symbol % v) * u + w % u) unit_is values_is
    ∙ ap (λ s. (w / 2 ^ s * 2 ^ width + symbol % 2 ^ width) * 2 ^ low + w % 2 ^ low) (let e : low + width ≡ width + low = omega arith in e) in
    let low_fits : w % 2 ^ low < 2 ^ low = mod_below w (2 ^ low) (pow_pos low) in
    let symbol_fits : symbol % 2 ^ width < 2 ^ width = mod_below symbol (2 ^ width) (pow_pos width) in
    let first : take from (bits_of size w) ≡ front = ap (take from) old ∙ take_at front (mid ++ bits_of low w) from (length-bits_of from high) in
    let last : drop (from + width) (bits_of size w) ≡ bits_of low w =
    ap (drop (from + width)) (old ∙ sym (append_assoc front mid (bits_of low w)))
    ∙ drop_at (front ++ mid) (bits_of low w) (from + width) (length-append front mid ∙ ap₂ (λ a b. a + b) (length-bits_of from high) (length-bits_of width (w / 2 ^ low))) in
    ap₂ bits_of (is ∙ (let e : from + (width + low) ≡ (from + width) + low = omega arith in e)) whole
    ∙ bits_of-joined (from + width) low (high * 2 ^ width + symbol % 2 ^ width) (w % 2 ^ low) low_fits
    ∙ ap₂ (λ a b. a ++ b) (bits_of-joined from width high (symbol % 2 ^ width) symbol_fits) (bits_of_rest low w)
    ∙ append_assoc front (bits_of width (symbol % 2 ^ width)) (bits_of low w)
    ∙ ap (λ l. front ++ (l ++ bits_of low w)) (bits_of_rest width symbol)
    ∙ ap₂ (λ a b. a ++ (bits_of width symbol ++ b)) (sym first) (sym last)

-- ---- a window in a list of bytes
-- the bits before it, the window and the bits after it
pub record IsWindow (bytes : List ℕ) (byte size : ℕ) (before window after : List Bool) : Type 0 where
  pub bits_are : bits_of_symbols 8 bytes ≡ before ++ (window ++ after)
  pub before_long : length before ≡ byte * 8
  pub window_long : length window ≡ size

bits_before : (bytes : List ℕ) (byte : ℕ) → byte ≤ length bytes → length (bits_of_symbols 8 (take byte bytes)) ≡ byte * 8
bits_before bytes byte fits = length-bits_of_symbols 8 (take byte bytes) ∙ ap (λ l. l * 8) (length-take-le byte bytes fits)

byte_here : (bytes : List ℕ) (byte : ℕ) → byte < length bytes → bits_of_symbols 8 (drop byte bytes) ≡ bits_of 8 (get_or bytes byte 0) ++ bits_of_symbols 8 (drop (byte + 1) bytes)
byte_here bytes byte below = ap (bits_of_symbols 8) (drop-cons bytes byte 0 below ∙ ap (λ k. get_or bytes byte 0 ∷ drop k bytes) (sym (add-one byte)))

split_at : (bytes : List ℕ) (byte : ℕ) → bits_of_symbols 8 bytes ≡ bits_of_symbols 8 (take byte bytes) ++ bits_of_symbols 8 (drop byte bytes)
split_at bytes byte = ap (bits_of_symbols 8) (sym (take-append-drop byte bytes)) ∙ flat_map-append (bits_of 8) (take byte bytes) (drop byte bytes)

pub one_window : (bytes : List ℕ) (byte v : ℕ) → byte < length bytes → v ≡ get_or bytes byte 0 →
    IsWindow bytes byte 8 (bits_of_symbols 8 (take byte bytes)) (bits_of 8 v) (bits_of_symbols 8 (drop (byte + 1) bytes))
one_window bytes byte v below is = record {
  bits_are = split_at bytes byte ∙ ap (λ l. bits_of_symbols 8 (take byte bytes) ++ l) (byte_here bytes byte below ∙ ap (λ x. bits_of 8 x ++ bits_of_symbols 8 (drop (byte + 1) bytes)) (sym is));
  before_long = bits_before bytes byte (omega arith);
  window_long = length-bits_of 8 v;
}

pub two_window : (bytes : List ℕ) (byte v : ℕ) → byte + 1 < length bytes → v ≡ get_or bytes byte 0 * 256 + get_or bytes (byte + 1) 0 → get_or bytes (byte + 1) 0 < 256 →
    IsWindow bytes byte 16 (bits_of_symbols 8 (take byte bytes)) (bits_of 16 v) (bits_of_symbols 8 (drop (byte + 1 + 1) bytes))
two_window bytes byte v below is small =
    let rest = bits_of_symbols 8 (drop (byte + 1 + 1) bytes) in
    let x = get_or bytes byte 0 in
    let y = get_or bytes (byte + 1) 0 in
    let both : bits_of 16 v ≡ bits_of 8 x ++ bits_of 8 y = ap (bits_of 16) is ∙ bits_of-joined 8 8 x y small in
    record {
      bits_are =
          split_at bytes byte
          ∙ ap (λ l. bits_of_symbols 8 (take byte bytes) ++ l)
          (byte_here bytes byte (omega arith) ∙ ap (λ l. bits_of 8 x ++ l) (byte_here bytes (byte + 1) below) ∙ sym (append_assoc (bits_of 8 x) (bits_of 8 y) rest) ∙ ap (λ l. l ++ rest) (sym both));
      before_long = bits_before bytes byte (omega arith);
      window_long = length-bits_of 16 v;
    }

-- a symbol read in a window
pub symbol_in_window : {before window after : List Bool} (bytes : List ℕ) (byte size at from width : ℕ) → IsWindow bytes byte size before window after → at ≡ byte * 8 + from → from + width ≤ size →
    symbol_in at width (bits_of_symbols 8 bytes) ≡ symbol_in from width window
symbol_in_window {before} {window} {after} bytes byte size at from width is place inside =
    let at_is : at ≡ length before + from = place ∙ ap (λ l. l + from) (sym is.before_long) in
    let cut : drop at (bits_of_symbols 8 bytes) ≡ drop from window ++ after =
    ap₂ drop at_is is.bits_are ∙ drop-append-add before (window ++ after) from ∙ drop-append-le from window after (omega (arith, is.window_long)) in
    ap (λ l. number_of (take width l)) cut
    ∙ ap number_of (take-append-le width (drop from window) after (omega (arith, is.window_long, length-drop from window)))

-- a symbol written in a window
pub with_symbol_window : {before window after written : List Bool} (bytes changed : List ℕ) (byte size at from width symbol : ℕ) →
    IsWindow bytes byte size before window after → IsWindow changed byte size before written after →
    written ≡ with_symbol from width symbol window → at ≡ byte * 8 + from → from + width ≤ size →
    bits_of_symbols 8 changed ≡ with_symbol at width symbol (bits_of_symbols 8 bytes)
with_symbol_window {before} {window} {after} {written} bytes changed byte size at from width symbol was is e place inside =
    let at_is : at ≡ length before + from = place ∙ ap (λ l. l + from) (sym was.before_long) in
    let mid = bits_of width symbol in
    let first : take at (bits_of_symbols 8 bytes) ≡ before ++ take from window =
    ap₂ take at_is was.bits_are ∙ take-append-add before (window ++ after) from ∙ ap (λ l. before ++ l) (take-append-le from window after (omega (arith, was.window_long))) in
    let last : drop (at + width) (bits_of_symbols 8 bytes) ≡ drop (from + width) window ++ after =
    ap₂ drop (ap (λ a. a + width) at_is ∙ (let h : length before + from + width ≡ length before + (from + width) = omega arith in h)) was.bits_are
    ∙ drop-append-add before (window ++ after) (from + width) ∙ drop-append-le (from + width) window after (omega (arith, was.window_long)) in
    is.bits_are
    ∙ ap (λ l. before ++ (l ++ after)) e
    ∙ ap (λ l. before ++ l) (append_assoc (take from window) (mid ++ drop (from + width) window) after ∙ ap (λ l. take from window ++ l) (append_assoc mid (drop (from + width) window) after))
    ∙ sym (append_assoc before (take from window) (mid ++ (drop (from + width) window ++ after)))
    ∙ ap₂ (λ a b. a ++ (mid ++ b)) (sym first) (sym last)

-- the window after a write
pub one_written : (bytes : List ℕ) (byte v : ℕ) → byte < length bytes →
    IsWindow (set bytes byte v) byte 8 (bits_of_symbols 8 (take byte bytes)) (bits_of 8 v) (bits_of_symbols 8 (drop (byte + 1) bytes))
one_written bytes byte v below =
    let w = one_window (set bytes byte v) byte v (omega (arith, length-set bytes byte v)) (sym (get_or-set_same bytes byte v 0 below)) in
    record {
      bits_are = w.bits_are ∙ ap₂ (λ a b. bits_of_symbols 8 a ++ (bits_of 8 v ++ bits_of_symbols 8 b)) (take-set bytes byte v) (drop-set-lt (byte + 1) bytes byte v (omega arith));
      before_long = bits_before bytes byte (omega arith);
      window_long = w.window_long;
    }

pub two_written : (bytes : List ℕ) (byte v : ℕ) → byte + 1 < length bytes →
    IsWindow (set (set bytes byte (v / 256)) (byte + 1) (v % 256)) byte 16 (bits_of_symbols 8 (take byte bytes)) (bits_of 16 v) (bits_of_symbols 8 (drop (byte + 1 + 1) bytes))
two_written bytes byte v below =
    let first = set bytes byte (v / 256) in
    let both = set first (byte + 1) (v % 256) in
    let long : length first ≡ length bytes = length-set bytes byte (v / 256) in
    let all_long : length both ≡ length first = length-set first (byte + 1) (v % 256) in
    let low : get_or both (byte + 1) 0 ≡ v % 256 = get_or-set_same first (byte + 1) (v % 256) 0 (omega arith) in
    let high : get_or both byte 0 ≡ v / 256 = get_or-set_other first (byte + 1) byte (v % 256) 0 (omega arith) ∙ get_or-set_same bytes byte (v / 256) 0 (omega arith) in
    let w = two_window both byte v (omega arith) (omega arith) (omega arith) in
    let front : take byte both ≡ take byte bytes = take-set-le byte first (byte + 1) (v % 256) (omega arith) ∙ take-set bytes byte (v / 256) in
    let back : drop (byte + 1 + 1) both ≡ drop (byte + 1 + 1) bytes = drop-set-lt (byte + 1 + 1) first (byte + 1) (v % 256) (omega arith) ∙ drop-set-lt (byte + 1 + 1) bytes byte (v / 256) (omega arith) in
    record {
      bits_are = w.bits_are ∙ ap₂ (λ a b. bits_of_symbols 8 a ++ (bits_of 16 v ++ bits_of_symbols 8 b)) front back;
      before_long = bits_before bytes byte (omega arith);
      window_long = w.window_long;
    }
