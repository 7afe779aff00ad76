-- Stored symbols, in either layout. In layout bytes each is a byte; in layout packed each is so many bits, and the bits of
-- the symbols of a group follow one another, highest first, up to a whole byte.
-- symbol_values p w      how many values a stored symbol has: 256 in layout bytes, 2^w packed, where a symbol has w bits
-- stored_size p w c      the bytes of a group of c stored symbols
-- byte_fill c            the fewest 0s that follow c bits to whole bytes
-- fill_bits w ss         these 0s after the bits of symbols: the fill bits
-- packed_bytes w ss      these symbols packed: the bits of each, then the fill bits
-- stored_bytes p w ss    the bytes of a group of these stored symbols
-- packed_symbols w c xs  the first c symbols packed in these bytes, whatever bits follow them
-- stored_symbols p w c xs    the c stored symbols of a group of these bytes
-- AreStorable p w ss     packed symbols have no more than w bits
use Rattle.std.specs.Prelude.{ℕ, ◌+◌, ◌-◌, ◌*◌, ◌/◌, ◌^◌, ◌<◌, ◌≡◌, Bool, true, false, List, ◌++◌, length, map, replicate, All}
use Rattle.stored_form.specs.Bits.{number_of, pieces, bits_of_symbols, symbols_of}

abbrev pub symbol_values : (packed : Bool) (width : ℕ) → ℕ
symbol_values false width = 256
symbol_values true width = 2 ^ width

abbrev pub stored_size : (packed : Bool) (width count : ℕ) → ℕ
stored_size false width count = count
stored_size true width count = (count * width + 7) / 8

abbrev pub byte_fill : (count : ℕ) → ℕ
byte_fill count = (count + 7) / 8 * 8 - count

abbrev pub fill_bits : (width : ℕ) → List ℕ → List Bool
fill_bits width symbols = replicate (byte_fill (length symbols * width)) false

abbrev pub packed_bytes : (width : ℕ) → List ℕ → List ℕ
packed_bytes width symbols = symbols_of 8 (bits_of_symbols width symbols ++ fill_bits width symbols)

abbrev pub stored_bytes : (packed : Bool) (width : ℕ) → List ℕ → List ℕ
stored_bytes false width symbols = symbols
stored_bytes true width symbols = packed_bytes width symbols

abbrev pub packed_symbols : (width count : ℕ) → List ℕ → List ℕ
packed_symbols width count bytes = map number_of (pieces width count (bits_of_symbols 8 bytes))

abbrev pub stored_symbols : (packed : Bool) (width count : ℕ) → List ℕ → List ℕ
stored_symbols false width count bytes = bytes
stored_symbols true width count bytes = packed_symbols width count bytes

abbrev pub AreStorable : (packed : Bool) (width : ℕ) → List ℕ → Type 0
AreStorable packed width symbols = packed ≡ true → All (λ s. s < 2 ^ width) symbols
