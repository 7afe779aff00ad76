-- The stored symbols of a group come back from its bytes, in either layout.
use Rattle.std.proofs.Common.{ℕ, zero, suc, length-take, ◌+◌, ◌*◌, ◌/◌, ◌%◌, ◌^◌, ◌<◌, ◌≤◌, ◌≡◌, Bool, true, false, List, ◌++◌, length, get_or, map, take, All, slice_index, refl, ap, ap₂, sym, subst, ◌∙◌, arith, inl, inr, length-append, mul-div_cancel, mul-pos, pow_pos, mod-eq_of_lt, le_of_eq, drop, take-append-drop, length-take-le}
use Rattle.std.specs.List.{range_with_len}
use Rattle.std.proofs.lemmas.List.{length-replicate, length-map, get_or_past}
use Rattle.std.proofs.lemmas.List.Folds.{map_fixed}
use Rattle.std.proofs.lemmas.List.Elements.{All-nil, All-cons, All-map}
use Rattle.std.proofs.Math.Nat.{pow-le-pow_right}
use Rattle.std.proofs.lemmas.Bool.{cases_lt}
use Rattle.stored_form.specs.Bits.{number_of, bits_of, pieces, bits_of_symbols}
use Rattle.stored_form.specs.Group.{spread}
use Rattle.stored_form.specs.Symbols.{symbol_values, stored_size, byte_fill, fill_bits, packed_bytes, stored_bytes, packed_symbols, stored_symbols, AreStorable}
use Rattle.stored_form.proofs.Lists.{length-pieces, pieces-flat_map, pieces-append_le, map-map, times_mod, All-flat_map}
use Rattle.stored_form.proofs.BitsLemmas.{number_of_below, length-bits_of, number_of-bits_of, length-bits_of_symbols, length-symbols_of, bits_of_symbols-symbols_of}

-- ---- whole bytes
pub byte_fill_whole : (count : ℕ) → count + byte_fill count ≡ (count + 7) / 8 * 8
byte_fill_whole count = omega arith

pub byte_fill_fewest : (count more : ℕ) → (count + more) % 8 ≡ 0 → byte_fill count ≤ more
byte_fill_fewest count more whole = omega arith

-- the bits of symbols with the fill bits after them
unfoldable padded : (width : ℕ) → List ℕ → List Bool
padded width symbols = bits_of_symbols width symbols ++ fill_bits width symbols

length-padded : (width : ℕ) (symbols : List ℕ) → length (padded width symbols) ≡ stored_size true width (length symbols) * 8
unfolding padded
length-padded width symbols =
    length-append (bits_of_symbols width symbols) (fill_bits width symbols)
    ∙ ap₂ (λ a b. a + b) (length-bits_of_symbols width symbols) (length-replicate (byte_fill (length symbols * width)) false)
    ∙ byte_fill_whole (length symbols * width)

pub bits-packed_bytes : (width : ℕ) (symbols : List ℕ) → bits_of_symbols 8 (packed_bytes width symbols) ≡ bits_of_symbols width symbols ++ fill_bits width symbols
unfolding padded
bits-packed_bytes width symbols = bits_of_symbols-symbols_of 8 (padded width symbols) (omega arith) (ap (λ l. l % 8) (length-padded width symbols) ∙ times_mod (stored_size true width (length symbols)) 8 (omega arith))

pub length-packed_bytes : (width : ℕ) (symbols : List ℕ) → length (packed_bytes width symbols) ≡ stored_size true width (length symbols)
unfolding padded
length-packed_bytes width symbols =
    length-symbols_of 8 (padded width symbols) ∙ ap (λ l. l / 8) (length-padded width symbols) ∙ mul-div_cancel (stored_size true width (length symbols)) (omega arith)

pub length-packed_symbols : (width count : ℕ) (bytes : List ℕ) → length (packed_symbols width count bytes) ≡ count
length-packed_symbols width count bytes = length-map (pieces width count (bits_of_symbols 8 bytes)) number_of ∙ length-pieces width count (bits_of_symbols 8 bytes)

-- symbols back from bytes that begin with their bits
pub packed_symbols-front : (width : ℕ) (symbols bytes : List ℕ) (rest : List Bool) → All (λ s. s < 2 ^ width) symbols → bits_of_symbols 8 bytes ≡ bits_of_symbols width symbols ++ rest → packed_symbols width (length symbols) bytes ≡ symbols
packed_symbols-front width symbols bytes rest fit e =
    ap (λ l. map number_of (pieces width (length symbols) l)) e
    ∙ ap (map number_of) (pieces-append_le width (length symbols) (bits_of_symbols width symbols) rest (le_of_eq (sym (length-bits_of_symbols width symbols))))
    ∙ ap (map number_of) (pieces-flat_map (bits_of width) width symbols (λ k d h. length-bits_of width (get_or symbols k d)))
    ∙ map-map number_of (bits_of width) symbols
    ∙ map_fixed (λ s. number_of (bits_of width s)) symbols (λ k d h. number_of-bits_of width (get_or symbols k d) ∙ mod-eq_of_lt (fit k d h))

pub packed_back : (width : ℕ) (symbols : List ℕ) → All (λ s. s < 2 ^ width) symbols → packed_symbols width (length symbols) (packed_bytes width symbols) ≡ symbols
packed_back width symbols fit = packed_symbols-front width symbols (packed_bytes width symbols) (fill_bits width symbols) fit (bits-packed_bytes width symbols)

-- the bits after the symbols do not count
pub packed_symbols-same : (width count : ℕ) (a b : List ℕ) → count * width ≤ length (bits_of_symbols 8 a) → count * width ≤ length (bits_of_symbols 8 b) →
    take (count * width) (bits_of_symbols 8 a) ≡ take (count * width) (bits_of_symbols 8 b) → packed_symbols width count a ≡ packed_symbols width count b
packed_symbols-same width count a b fits_a fits_b e = ap (map number_of) (front (bits_of_symbols 8 a) fits_a ∙ ap (pieces width count) e ∙ sym (front (bits_of_symbols 8 b) fits_b))
  where
    front : (bits : List Bool) → count * width ≤ length bits → pieces width count bits ≡ pieces width count (take (count * width) bits)
    front bits fits = ap (pieces width count) (sym (take-append-drop (count * width) bits)) ∙ pieces-append_le width count (take (count * width) bits) (drop (count * width) bits) (le_of_eq (sym (length-take-le (count * width) bits fits)))

-- ---- in either layout
pub stored_size_above_0 : (packed : Bool) (width count : ℕ) → 0 < width → 0 < count → 0 < stored_size packed width count
stored_size_above_0 true width count some more = let h : 0 < count * width = mul-pos more some in omega arith
stored_size_above_0 false width count some more = more

pub length-stored_bytes : (packed : Bool) (width : ℕ) (symbols : List ℕ) → length (stored_bytes packed width symbols) ≡ stored_size packed width (length symbols)
length-stored_bytes true width symbols = length-packed_bytes width symbols
length-stored_bytes false width symbols = refl

pub stored_back : (packed : Bool) (width : ℕ) (symbols : List ℕ) → AreStorable packed width symbols → stored_symbols packed width (length symbols) (stored_bytes packed width symbols) ≡ symbols
stored_back true width symbols fit = packed_back width symbols (fit refl)
stored_back false width symbols fit = refl

short_pieces : (size count : ℕ) (bits : List Bool) → All (λ p. number_of p < 2 ^ size) (pieces size count bits)
short_pieces size zero bits = All-nil (λ p. number_of p < 2 ^ size)
short_pieces size (suc count) bits =
    let most : 2 ^ length (take size bits) ≤ 2 ^ size = pow-le-pow_right (omega arith) (omega (arith, length-take size bits)) in
    All-cons (λ p. number_of p < 2 ^ size) (take size bits) (pieces size count (drop size bits)) (omega (arith, number_of_below (take size bits))) (short_pieces size count (drop size bits))

pub packed_symbols_below : (width count : ℕ) (bytes : List ℕ) → All (λ s. s < 2 ^ width) (packed_symbols width count bytes)
packed_symbols_below width count bytes = All-map (λ s. s < 2 ^ width) number_of (pieces width count (bits_of_symbols 8 bytes)) (short_pieces width count (bits_of_symbols 8 bytes))

pub stored_symbols_below : (packed : Bool) (width count : ℕ) (bytes : List ℕ) → All (λ b. b < 256) bytes → All (λ s. s < symbol_values packed width) (stored_symbols packed width count bytes)
stored_symbols_below true width count bytes fit = packed_symbols_below width count bytes
stored_symbols_below false width count bytes fit = fit

pub bytes_as_they_are : (packed : Bool) (width count : ℕ) (xs : List ℕ) → packed ≡ false → (stored_bytes packed width xs ≡ xs) × (stored_symbols packed width count xs ≡ xs)
bytes_as_they_are true width count xs e = absurd (cc)
bytes_as_they_are false width count xs e = (refl, refl)

-- ---- spread symbols fit as those of the words do
index_fits : (high : ℕ) (xs : List ℕ) (p : ℕ) → 0 < high → All (λ s. s < high) xs → slice_index xs p < high
index_fits high xs p some fit = elim (cases_lt p (length xs)) [ inl below ↦ fit p 0 below | inr past ↦ subst (λ v. v < high) (sym (get_or_past xs p 0 past)) some ]

pub spread_fits : (packed : Bool) (width n : ℕ) (words : List (List ℕ)) → All (AreStorable packed width) words → AreStorable packed width (spread n words)
spread_fits packed width n words fit is = All-flat_map (λ s. s < 2 ^ width) (λ p. map (λ word. slice_index word p) words) (range_with_len 0 n)
    (λ k d h. All-map (λ s. s < 2 ^ width) (λ word. slice_index word (get_or (range_with_len 0 n) k d)) words (λ c e l. index_fits (2 ^ width) (get_or words c e) (get_or (range_with_len 0 n) k d) (pow_pos width) (fit c e l is)))
