-- Packed symbols one by one: what is read, what a write changes, and what the loops over a group have done.
use Rattle.std.proofs.Common.{ℕ, length-take, ◌+◌, ◌*◌, ◌^◌, ◌<◌, ◌≤◌, ◌≡◌, ◌≢◌, Bool, true, false, List, [], ◌++◌, length, get_or, set, take, drop, replicate, All, sym, ap, ◌∙◌, arith, inl, inr, ext_get_or, length-take-le, drop-drop, append-nil, mul-le-mul_right, mod-eq_of_lt}
use borrow.Rule.Slice.PartMut.{put_mid}
use Rattle.std.proofs.lemmas.Slice.{take-put_mid, take-put_mid_below, drop-put_mid}
use Rattle.std.proofs.lemmas.Bool.{cases_eq, cases_lt}
use Rattle.std.proofs.lemmas.List.{get_or-map, get_or-set_same, get_or-set_other, length-set, take_at, drop_at, drop-take}
use Rattle.std.proofs.Math.Nat.{pow-le-pow_right}
use Rattle.stored_form.specs.Bits.{bits_of, number_of, pieces, bits_of_symbols, symbols_of}
use Rattle.stored_form.specs.Symbols.{stored_size, byte_fill, fill_bits, packed_bytes, packed_symbols, stored_symbols, symbol_values}
use Rattle.stored_form.proofs.Lists.{length-pieces, get_or-pieces}
use Rattle.stored_form.proofs.BitsLemmas.{number_of_below, length-bits_of, length-bits_of_symbols, number_of-bits_of, symbols_of-bits_of_symbols}
use Rattle.stored_form.proofs.SymbolLemmas.{length-packed_symbols, packed_symbols-front}
use Rattle.ag_frame.specs.Packing.{symbol_in, with_symbol}
use Rattle.ag_frame.specs.Layouts.{fill_at}

-- ---- a symbol read
pub packed_symbols-at : (width count i : ℕ) (bytes : List ℕ) → i < count → symbol_in (i * width) width (bits_of_symbols 8 bytes) ≡ get_or (packed_symbols width count bytes) i 0
packed_symbols-at width count i bytes below =
    ap number_of (sym (get_or-pieces width count i (bits_of_symbols 8 bytes) [] below))
    ∙ sym (get_or-map number_of (pieces width count (bits_of_symbols 8 bytes)) i [] 0 (omega (arith, length-pieces width count (bits_of_symbols 8 bytes))))

pub stored_symbols-at : (packed : Bool) (width count i : ℕ) (bytes : List ℕ) → packed ≡ true → i < count → symbol_in (i * width) width (bits_of_symbols 8 bytes) ≡ get_or (stored_symbols packed width count bytes) i 0
stored_symbols-at true width count i bytes is below = packed_symbols-at width count i bytes below
stored_symbols-at false width count i bytes is below = absurd (cc)

pub length-stored_symbols : (packed : Bool) (width count : ℕ) (bytes : List ℕ) → length bytes ≡ stored_size packed width count → length (stored_symbols packed width count bytes) ≡ count
length-stored_symbols true width count bytes long = length-packed_symbols width count bytes
length-stored_symbols false width count bytes long = long

symbol_in_below : (at width : ℕ) (bits : List Bool) → symbol_in at width bits < 2 ^ width
symbol_in_below at width bits =
    let most : 2 ^ length (take width (drop at bits)) ≤ 2 ^ width = pow-le-pow_right (omega arith) (omega (arith, length-take width (drop at bits))) in
    omega (arith, number_of_below (take width (drop at bits)))

pub stored_symbol_below : (packed : Bool) (width at : ℕ) (bits : List Bool) → packed ≡ true → symbol_in at width bits < symbol_values packed width
stored_symbol_below true width at bits is = symbol_in_below at width bits
stored_symbol_below false width at bits is = absurd (cc)

-- ---- a symbol written
as_put_mid : (at width symbol : ℕ) (bits : List Bool) → with_symbol at width symbol bits ≡ put_mid at width bits (bits_of width symbol)
as_put_mid at width symbol bits = ap (λ l. take at bits ++ (bits_of width symbol ++ l)) (sym (drop-drop width at bits))

pub take-with_symbol : (at width symbol n : ℕ) (bits : List Bool) → n ≡ at + width → at ≤ length bits → take n (with_symbol at width symbol bits) ≡ take at bits ++ bits_of width symbol
take-with_symbol at width symbol n bits is inside = ap (take n) (as_put_mid at width symbol bits) ∙ take-put_mid at width bits (bits_of width symbol) n (omega (arith, length-bits_of width symbol)) inside

pub take-with_symbol_below : (at width symbol n : ℕ) (bits : List Bool) → n ≤ at → at ≤ length bits → take n (with_symbol at width symbol bits) ≡ take n bits
take-with_symbol_below at width symbol n bits below inside = ap (take n) (as_put_mid at width symbol bits) ∙ take-put_mid_below at width bits (bits_of width symbol) n below inside

pub drop-with_symbol : (at width symbol n : ℕ) (bits : List Bool) → at + width ≤ n → at ≤ length bits → drop n (with_symbol at width symbol bits) ≡ drop n bits
drop-with_symbol at width symbol n bits above inside = ap (drop n) (as_put_mid at width symbol bits) ∙ drop-put_mid at width bits (bits_of width symbol) n above inside (length-bits_of width symbol)

symbol_in-taken : (at width n : ℕ) (bits : List Bool) → n ≡ at + width → symbol_in at width bits ≡ number_of (drop at (take n bits))
symbol_in-taken at width n bits is = ap number_of (sym (drop-take at width bits) ∙ ap (λ m. drop at (take m bits)) (sym is))

-- the symbol at each place after a write
written_at : (width i j symbol : ℕ) (bits : List Bool) → i * width + width ≤ length bits → symbol < 2 ^ width → j ≡ i → symbol_in (j * width) width (with_symbol (i * width) width symbol bits) ≡ symbol
written_at width i j symbol bits inside fits is =
    ap (λ k. symbol_in (k * width) width (with_symbol (i * width) width symbol bits)) is
    ∙ ap (λ l. number_of (take width l)) (drop_at (take (i * width) bits) (bits_of width symbol ++ drop (i * width + width) bits) (i * width) (length-take-le (i * width) bits (omega arith)))
    ∙ ap number_of (take_at (bits_of width symbol) (drop (i * width + width) bits) width (length-bits_of width symbol))
    ∙ number_of-bits_of width symbol ∙ mod-eq_of_lt fits

written_before : (width i j symbol : ℕ) (bits : List Bool) → i * width + width ≤ length bits → j < i → symbol_in (j * width) width (with_symbol (i * width) width symbol bits) ≡ symbol_in (j * width) width bits
written_before width i j symbol bits inside below =
    let room : (j + 1) * width ≤ i * width = mul-le-mul_right width (let h : j + 1 ≤ i = omega arith in h) in
    let end : (j + 1) * width ≡ j * width + width = omega arith in
    symbol_in-taken (j * width) width ((j + 1) * width) (with_symbol (i * width) width symbol bits) end
    ∙ ap (λ l. number_of (drop (j * width) l)) (take-with_symbol_below (i * width) width symbol ((j + 1) * width) bits room (omega arith))
    ∙ sym (symbol_in-taken (j * width) width ((j + 1) * width) bits end)

written_after : (width i j symbol : ℕ) (bits : List Bool) → i * width + width ≤ length bits → i < j → symbol_in (j * width) width (with_symbol (i * width) width symbol bits) ≡ symbol_in (j * width) width bits
written_after width i j symbol bits inside above =
    let room : (i + 1) * width ≤ j * width = mul-le-mul_right width (let h : i + 1 ≤ j = omega arith in h) in
    ap (λ l. number_of (take width l)) (drop-with_symbol (i * width) width symbol (j * width) bits (omega arith) (omega arith))

written_other : (width i j symbol : ℕ) (bits : List Bool) → i * width + width ≤ length bits → j ≢ i → symbol_in (j * width) width (with_symbol (i * width) width symbol bits) ≡ symbol_in (j * width) width bits
written_other width i j symbol bits inside differ = elim (cases_lt j i) [
  | inl below ↦ written_before width i j symbol bits inside below
  | inr above ↦ written_after width i j symbol bits inside (omega arith)
]

pub packed_symbols-put : (width count i symbol : ℕ) (old new : List ℕ) → i < count → count * width ≤ 8 * length old → symbol < 2 ^ width →
    bits_of_symbols 8 new ≡ with_symbol (i * width) width symbol (bits_of_symbols 8 old) → packed_symbols width count new ≡ set (packed_symbols width count old) i symbol
packed_symbols-put width count i symbol old new below long fits e =
    let was = packed_symbols width count old in
    let size : length was ≡ count = length-packed_symbols width count old in
    let room : (i + 1) * width ≤ count * width = mul-le-mul_right width (let h : i + 1 ≤ count = omega arith in h) in
    let inside : i * width + width ≤ length (bits_of_symbols 8 old) = omega (arith, length-bits_of_symbols 8 old) in
    ext_get_or 0 (packed_symbols width count new) (set was i symbol) (length-packed_symbols width count new ∙ sym size ∙ sym (length-set was i symbol))
    (λ j h.
    let place : j < count = omega (arith, length-packed_symbols width count new) in
    sym (packed_symbols-at width count j new place) ∙ ap (symbol_in (j * width) width) e ∙ elim (cases_eq j i) [
      | inl is ↦ written_at width i j symbol (bits_of_symbols 8 old) inside fits is ∙ sym (ap (λ k. get_or (set was i symbol) k 0) is ∙ get_or-set_same was i symbol 0 (omega arith))
      | inr differ ↦ written_other width i j symbol (bits_of_symbols 8 old) inside differ ∙ packed_symbols-at width count j old place ∙ sym (get_or-set_other was i j symbol 0 differ)
    ])

pub stored_symbols-put : (packed : Bool) (width count i symbol : ℕ) (old new : List ℕ) → packed ≡ true → i < count → length old ≡ stored_size packed width count → symbol < symbol_values packed width →
    bits_of_symbols 8 new ≡ with_symbol (i * width) width symbol (bits_of_symbols 8 old) → stored_symbols packed width count new ≡ set (stored_symbols packed width count old) i symbol
stored_symbols-put true width count i symbol old new is below long fits e = packed_symbols-put width count i symbol old new below (omega arith) fits e
stored_symbols-put false width count i symbol old new is below long fits e = absurd (cc)

pub fill-put : (packed : Bool) (width count i symbol : ℕ) (old new : List ℕ) → packed ≡ true → i < count → length old ≡ stored_size packed width count →
    bits_of_symbols 8 new ≡ with_symbol (i * width) width symbol (bits_of_symbols 8 old) → fill_at packed width count new ≡ fill_at packed width count old
fill-put true width count i symbol old new is below long e =
    let room : (i + 1) * width ≤ count * width = mul-le-mul_right width (let h : i + 1 ≤ count = omega arith in h) in
    ap (drop (count * width)) e ∙ drop-with_symbol (i * width) width symbol (count * width) (bits_of_symbols 8 old) (omega arith) (omega (arith, length-bits_of_symbols 8 old))
fill-put false width count i symbol old new is below long e = absurd (cc)

pub packed_bytes-from_bits : (width : ℕ) (target group : List ℕ) → All (λ b. b < 256) group → bits_of_symbols 8 group ≡ bits_of_symbols width target ++ fill_bits width target → group ≡ packed_bytes width target
packed_bytes-from_bits width target group fit e = sym (symbols_of-bits_of_symbols 8 group (omega arith) fit) ∙ ap (symbols_of 8) e

-- ---- symbols of eight bits
pub packed_bytes-of_bytes : (bytes : List ℕ) → All (λ b. b < 256) bytes → packed_bytes 8 bytes ≡ bytes
packed_bytes-of_bytes bytes fit =
    let none : byte_fill (length bytes * 8) ≡ 0 = omega arith in
    ap (λ n. symbols_of 8 (bits_of_symbols 8 bytes ++ replicate n false)) none ∙ ap (symbols_of 8) (append-nil (bits_of_symbols 8 bytes)) ∙ symbols_of-bits_of_symbols 8 bytes (omega arith) fit

pub packed_symbols-of_bytes : (count : ℕ) (bytes : List ℕ) → length bytes ≡ count → All (λ b. b < 256) bytes → packed_symbols 8 count bytes ≡ bytes
packed_symbols-of_bytes count bytes long fit = ap (λ n. packed_symbols 8 n bytes) (sym long) ∙ packed_symbols-front 8 bytes bytes [] fit (sym (append-nil (bits_of_symbols 8 bytes)))
