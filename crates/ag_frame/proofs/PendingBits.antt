-- Bits that wait for their byte: how a symbol more is joined to them, and what is written then.
use Rattle.std.proofs.Common.{ℕ, zero, suc, nat_eq, replicate, true, false, ◌+◌, ◌-◌, ◌*◌, ◌/◌, ◌%◌, ◌^◌, ◌<◌, ◌≤◌, ◌≡◌, Bool, List, [], ◌∷◌, ◌++◌, length, get_or, set, take, drop, refl, sym, ap, ap₂, ◌∙◌, arith, append_assoc, length-append, length-take-le, pow_pos, take_all}
use Rattle.std.proofs.Math.Nat.{mul_assoc, zero-div}
use Rattle.std.proofs.lemmas.List.{take_at, take-take, append-nil, take_more}
use Rattle.std.proofs.lemmas.List.Concat.{flat_map-append}
use Rattle.std.proofs.lemmas.Nat.{pow-add, mod_below}
use Rattle.stored_form.specs.Bits.{bits_of, bits_of_symbols}
use Rattle.stored_form.specs.Symbols.{stored_size, byte_fill, fill_bits}
use Rattle.stored_form.proofs.BitsLemmas.{length-bits_of, length-bits_of_symbols, bits_of_low}
use Rattle.ag_frame.specs.Packing.{with_pending}
use Rattle.ag_frame.proofs.Windows.{bits_of-add, bits_of-joined, bits_of_rest, one_window, one_written}

-- ---- a symbol joined to a number
joined_bits : (h w bits symbol values : ℕ) → values ≡ 2 ^ w → bits_of (h + w) (bits * values + symbol % values) ≡ bits_of h bits ++ bits_of w symbol
joined_bits h w bits symbol values is =
    ap (λ v. bits_of (h + w) (bits * v + symbol % v)) is
    ∙ bits_of-joined h w bits (symbol % 2 ^ w) (mod_below symbol (2 ^ w) (pow_pos w))
    ∙ ap (λ l. bits_of h bits ++ l) (bits_of_rest w symbol)

kept_bits : (h v : ℕ) → h ≤ 8 → bits_of h (v % 256) ≡ bits_of h v
kept_bits h v few =
    let whole : 2 ^ (8 - h) * 2 ^ h ≡ 256 = sym (pow-add 2 (8 - h) h) ∙ ap (λ n. 2 ^ n) (let e : 8 - h + h ≡ 8 = omega arith in e) in
    let back : v / 256 * 256 + v % 256 ≡ v = omega arith in
    let parts : v / 256 * 2 ^ (8 - h) * 2 ^ h + v % 256 ≡ v = ap (λ n. n + v % 256) (mul_assoc (v / 256) (2 ^ (8 - h)) (2 ^ h) ∙ ap (λ n. v / 256 * n) whole) ∙ back in
    sym (bits_of_low h (v / 256 * 2 ^ (8 - h)) (v % 256)) ∙ ap (bits_of h) parts

-- ---- the bytes
byte_front : (bytes : List ℕ) (place : ℕ) → place < length bytes → take (place * 8) (bits_of_symbols 8 bytes) ≡ bits_of_symbols 8 (take place bytes)
byte_front bytes place below =
    let was = one_window bytes place (get_or bytes place 0) below refl in
    ap (take (place * 8)) was.bits_are ∙ take_at (bits_of_symbols 8 (take place bytes)) (bits_of 8 (get_or bytes place 0) ++ bits_of_symbols 8 (drop (place + 1) bytes)) (place * 8) was.before_long

byte_stored : (bytes : List ℕ) (place v : ℕ) → place < length bytes → take ((place + 1) * 8) (bits_of_symbols 8 (set bytes place v)) ≡ take (place * 8) (bits_of_symbols 8 bytes) ++ bits_of 8 v
byte_stored bytes place v below =
    let is = one_written bytes place v below in
    let before : List Bool = bits_of_symbols 8 (take place bytes) in
    let after : List Bool = bits_of_symbols 8 (drop (place + 1) bytes) in
    ap (take ((place + 1) * 8)) (is.bits_are ∙ sym (append_assoc before (bits_of 8 v) after))
    ∙ take_at (before ++ bits_of 8 v) after ((place + 1) * 8) (length-append before (bits_of 8 v) ∙ omega (arith, is.before_long, length-bits_of 8 v))
    ∙ ap (λ l. l ++ bits_of 8 v) (sym (byte_front bytes place below))

-- ---- a symbol more
module _ (bytes : List ℕ) (place h w bits symbol values have : ℕ) (all : have ≡ h + w) (is : values ≡ 2 ^ w) where
  joined_behind : take (place * 8) (bits_of_symbols 8 bytes) ++ bits_of have (bits * values + symbol % values) ≡ with_pending bytes place h bits ++ bits_of w symbol
  joined_behind =
      ap (λ n. take (place * 8) (bits_of_symbols 8 bytes) ++ bits_of n (bits * values + symbol % values)) all
      ∙ ap (λ l. take (place * 8) (bits_of_symbols 8 bytes) ++ l) (joined_bits h w bits symbol values is)
      ∙ sym (append_assoc (take (place * 8) (bits_of_symbols 8 bytes)) (bits_of h bits) (bits_of w symbol))

  pub symbol_waits : have < 8 → with_pending bytes place have ((bits * values + symbol % values) % 256) ≡ with_pending bytes place h bits ++ bits_of w symbol
  symbol_waits few = ap (λ l. take (place * 8) (bits_of_symbols 8 bytes) ++ l) (kept_bits have (bits * values + symbol % values) (omega arith)) ∙ joined_behind

  pub symbol_written : (rest : ℕ) → have ≡ 8 + rest → rest ≤ 8 → place < length bytes →
      with_pending (set bytes place ((bits * values + symbol % values) / 2 ^ rest % 256)) (place + 1) rest ((bits * values + symbol % values) % 256) ≡ with_pending bytes place h bits ++ bits_of w symbol
  symbol_written rest parts few below =
      let joined : ℕ = bits * values + symbol % values in
      let front : List Bool = take (place * 8) (bits_of_symbols 8 bytes) in
      ap₂ (λ a b. a ++ b)
      (byte_stored bytes place (joined / 2 ^ rest % 256) below ∙ ap (λ l. front ++ l) (kept_bits 8 (joined / 2 ^ rest) (omega arith)))
      (kept_bits rest joined few)
      ∙ append_assoc front (bits_of 8 (joined / 2 ^ rest)) (bits_of rest joined)
      ∙ ap (λ l. front ++ l) (sym (bits_of-add 8 rest joined) ∙ ap (λ n. bits_of n joined) (sym parts))
      ∙ joined_behind

-- ---- the start
pub pending_start : (bytes : List ℕ) (at place have v : ℕ) → place < length bytes → at ≡ place * 8 + have → have < 8 → v ≡ get_or bytes place 0 → with_pending bytes place have (v / 2 ^ (8 - have)) ≡ take at (bits_of_symbols 8 bytes)
pending_start bytes at place have v below is few value =
    let was = one_window bytes place v below value in
    let before : List Bool = bits_of_symbols 8 (take place bytes) in
    let after : List Bool = bits_of_symbols 8 (drop (place + 1) bytes) in
    let high : List Bool = bits_of have (v / 2 ^ (8 - have)) in
    let low : List Bool = bits_of (8 - have) v in
    let cut : bits_of 8 v ≡ high ++ low = ap (λ n. bits_of n v) (let e : 8 ≡ have + (8 - have) = omega arith in e) ∙ bits_of-add have (8 - have) v in
    ap (λ l. l ++ high) (byte_front bytes place below)
    ∙ sym (take_at (before ++ high) (low ++ after) at (length-append before high ∙ omega (arith, was.before_long, length-bits_of have (v / 2 ^ (8 - have)))))
    ∙ ap (take at) (append_assoc before high (low ++ after) ∙ ap (λ l. before ++ l) (sym (append_assoc high low after) ∙ ap (λ l. l ++ after) (sym cut)) ∙ sym was.bits_are)

-- ---- the symbols so far
pub pending_more : (old new before : List Bool) (symbols : List ℕ) (width i symbol : ℕ) → i < length symbols → symbol ≡ get_or symbols i 0 →
    old ≡ before ++ bits_of_symbols width (take i symbols) → new ≡ old ++ bits_of width symbol → new ≡ before ++ bits_of_symbols width (take (i + 1) symbols)
pending_more old new before symbols width i symbol below value so_far is =
    is
    ∙ ap₂ (λ a b. a ++ b) so_far (ap (bits_of width) value)
    ∙ append_assoc before (bits_of_symbols width (take i symbols)) (bits_of width (get_or symbols i 0))
    ∙ ap (λ l. before ++ (bits_of_symbols width (take i symbols) ++ l)) (sym (append-nil (bits_of width (get_or symbols i 0))))
    ∙ ap (λ l. before ++ l) (sym (flat_map-append (bits_of width) (take i symbols) (get_or symbols i 0 ∷ [])) ∙ ap (bits_of_symbols width) (sym (take_more symbols i 0 below)))

pub length_pending : (bytes : List ℕ) (place have v : ℕ) → place ≤ length bytes → length (with_pending bytes place have v) ≡ place * 8 + have
length_pending bytes place have v fits =
    length-append (take (place * 8) (bits_of_symbols 8 bytes)) (bits_of have v)
    ∙ ap₂ (λ a b. a + b) (length-take-le (place * 8) (bits_of_symbols 8 bytes) (omega (arith, length-bits_of_symbols 8 bytes))) (length-bits_of have v)

-- all of them, and a last piece
pub pending_end : (bits old before fill : List Bool) (symbols : List ℕ) (width i n place : ℕ) → i ≡ length symbols → old ≡ before ++ bits_of_symbols width (take i symbols) →
    take (place * 8) bits ++ [] ≡ old ++ fill → n ≡ length old → n ≤ place * 8 → take n bits ≡ before ++ bits_of_symbols width symbols
pending_end bits old before fill symbols width i n place all so_far is long inside =
    sym (take-take n (place * 8) bits inside) ∙ ap (take n) (sym (append-nil (take (place * 8) bits)) ∙ is) ∙ take_at old fill n (sym long)
    ∙ so_far ∙ ap (λ l. before ++ bits_of_symbols width l) (take_all i symbols (omega arith))

-- ---- a group
-- the first i symbols are written, or wait for their byte
pub record IsPackedTo (width : ℕ) (target : List ℕ) (i : ℕ) (group : List ℕ) (place have pending : ℕ) : Type 0 where
  pub few : have < 8
  pub small : pending < 256
  pub place_is : place * 8 + have ≡ i * width
  pub done : with_pending group place have pending ≡ bits_of_symbols width (take i target)

pub packed_more : (width i j symbol : ℕ) (target old new : List ℕ) (place have pending next_place next_have next : ℕ) → j ≡ i + 1 → i < length target → symbol ≡ get_or target i 0 →
    IsPackedTo width target i old place have pending → next_have < 8 → next < 256 → next_place * 8 + next_have ≡ place * 8 + have + width →
    with_pending new next_place next_have next ≡ with_pending old place have pending ++ bits_of width symbol → IsPackedTo width target j new next_place next_have next
packed_more width i j symbol target old new place have pending next_place next_have next after below value so few small moved is = record {
  few = few;
  small = small;
  place_is = moved ∙ omega (arith, so.place_is, ap (λ k. k * width) after);
  done = pending_more (with_pending old place have pending) (with_pending new next_place next_have next) [] target width i symbol below value so.done is ∙ ap (λ k. bits_of_symbols width (take k target)) (sym after);
}

zero_bits : (n : ℕ) → bits_of n 0 ≡ replicate n false
zero_bits zero = refl
zero_bits (suc n) = ap₂ (λ q l. nat_eq (q % 2) 1 ∷ l) (zero-div (2 ^ n)) (zero_bits n)

whole_list : (bits : List Bool) (place : ℕ) → length bits ≡ place * 8 → take (place * 8) bits ++ [] ≡ bits
whole_list bits place long = append-nil (take (place * 8) bits) ∙ take_all (place * 8) bits (omega arith)

-- no bit waits
pub packed_end : (width i place have pending : ℕ) (target group : List ℕ) → i ≡ length target → length group ≡ stored_size true width (length target) → have ≡ 0 → IsPackedTo width target i group place have pending →
    bits_of_symbols 8 group ≡ bits_of_symbols width target ++ fill_bits width target
packed_end width i place have pending target group all size none so =
    let count : i * width ≡ length target * width = ap (λ k. k * width) all in
    let long : length (bits_of_symbols 8 group) ≡ place * 8 = length-bits_of_symbols 8 group ∙ omega (arith, size, count, so.place_is) in
    let nothing : byte_fill (length target * width) ≡ 0 = omega (arith, count, so.place_is) in
    sym (whole_list (bits_of_symbols 8 group) place long)
    ∙ ap (λ h. with_pending group place h pending) (sym none) ∙ so.done
    ∙ ap (bits_of_symbols width) (take_all i target (omega arith))
    ∙ sym (append-nil (bits_of_symbols width target)) ∙ ap (λ n. bits_of_symbols width target ++ replicate n false) (sym nothing)

-- the bits that waited are written with 0s behind them
pub packed_end_fill : (width i place have pending next_place next_have next : ℕ) (target old group : List ℕ) → i ≡ length target → length group ≡ stored_size true width (length target) → 0 < have →
    IsPackedTo width target i old place have pending → next_have < 8 → next_place * 8 + next_have ≡ place * 8 + have + (8 - have) →
    with_pending group next_place next_have next ≡ with_pending old place have pending ++ bits_of (8 - have) 0 → bits_of_symbols 8 group ≡ bits_of_symbols width target ++ fill_bits width target
packed_end_fill width i place have pending next_place next_have next target old group all size some so few moved is =
    let count : i * width ≡ length target * width = ap (λ k. k * width) all in
    let none : next_have ≡ 0 = omega (arith, so.few, moved, few) in
    let long : length (bits_of_symbols 8 group) ≡ next_place * 8 = length-bits_of_symbols 8 group ∙ omega (arith, size, count, so.place_is, so.few, moved, few, some) in
    let fill : 8 - have ≡ byte_fill (length target * width) = omega (arith, count, so.place_is, so.few, some) in
    sym (whole_list (bits_of_symbols 8 group) next_place long)
    ∙ ap (λ h. with_pending group next_place h next) (sym none) ∙ is
    ∙ ap₂ (λ a b. a ++ b) (so.done ∙ ap (bits_of_symbols width) (take_all i target (omega arith))) (zero_bits (8 - have) ∙ ap (λ n. replicate n false) fill)
