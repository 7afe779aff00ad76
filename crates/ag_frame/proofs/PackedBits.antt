-- Bits that stand in bytes: symbols read one after the other, a byte that is moved, the marker, and the bits that wait.
use Rattle.std.proofs.Common.{ℕ, zero, suc, ◌+◌, ◌-◌, ◌*◌, ◌/◌, ◌%◌, ◌<◌, ◌≤◌, ◌≡◌, Bool, true, false, cond, List, [], ◌∷◌, ◌++◌, length, get_or, set, map, take, drop, replicate, Option, Some, None, MatchOption, refl, sym, ap, ap₂, ◌∙◌, arith, append_assoc, length-take-le, length-drop, mul-le-mul_right, drop-drop, take_all, mul-div_cancel}
use Rattle.std.proofs.Math.Seq.{take-append-add, drop-append-add}
use Rattle.std.proofs.lemmas.List.{take-append-le, drop-append-le, take-take, drop-take, take_at, drop_at, drop_more, append-nil, length-set, take-replicate, replicate-append-replicate, drop_all, take_more_set}
use Rattle.std.proofs.lemmas.List.Concat.{flat_map-append}
use borrow.Rule.Slice.PartMut.{put_mid}
use Rattle.stored_form.specs.Bits.{bits_of, number_of, pieces, bits_of_symbols, symbols_of}
use Rattle.stored_form.proofs.BitsLemmas.{length-bits_of, length-bits_of_symbols}
use Rattle.ag_frame.specs.Packing.{symbol_in}
use Rattle.ag_frame.specs.Queues.{closed, IncomingFits, OutgoingFits}
use Rattle.stored_form.specs.Frame.{before_last_one}
use Rattle.ag_frame.proofs.Steps.{LastOne}
use Rattle.ag_frame.proofs.Windows.{IsWindow, one_window, one_written}

-- ---- parts of a list
pub part_of_part : (xs : List Bool) (n i w : ℕ) → i + w ≤ n → take w (drop i (take n xs)) ≡ take w (drop i xs)
part_of_part xs n i w fits =
    ap (λ m. take w (drop i (take m xs))) (let e : n ≡ i + (n - i) = omega arith in e)
    ∙ ap (take w) (drop-take i (n - i) xs) ∙ take-take w (n - i) (drop i xs) (omega arith)

pub part_later : (xs : List Bool) (at i w : ℕ) → take w (drop i (drop at xs)) ≡ take w (drop (at + i) xs)
part_later xs at i w = ap (take w) (drop-drop i at xs)

-- ---- symbols read
pub symbol_of_part : (bits : List Bool) (at width n i value : ℕ) → i < n → value ≡ symbol_in (at + i * width) width bits → value ≡ number_of (take width (drop (i * width) (take (n * width) (drop at bits))))
symbol_of_part bits at width n i value below is =
    let room : (i + 1) * width ≤ n * width = mul-le-mul_right width (let h : i + 1 ≤ n = omega arith in h) in
    is ∙ ap number_of (sym (part_of_part (drop at bits) (n * width) (i * width) width (omega arith) ∙ part_later bits at (i * width) width))

pub symbols_of_part : (bits : List Bool) (symbols : List ℕ) (at width n i total : ℕ) → 0 < width → i ≡ n → length symbols ≡ n → at + n * width ≤ total → length bits ≡ total
    → take i symbols ≡ map number_of (pieces width i (take (n * width) (drop at bits))) → symbols ≡ symbols_of width (take (n * width) (drop at bits))
symbols_of_part bits symbols at width n i total some all long inside is so_far =
    let part_long : length (take (n * width) (drop at bits)) ≡ n * width = length-take-le (n * width) (drop at bits) (omega (arith, length-drop at bits)) in
    sym (take_all i symbols (omega arith)) ∙ so_far
    ∙ ap (λ k. map number_of (pieces width k (take (n * width) (drop at bits)))) (all ∙ sym (ap (λ l. l / width) part_long ∙ mul-div_cancel n some))

-- ---- a bit
pub bit_at : (bits : List Bool) (k : ℕ) → k < length bits → number_of (take 1 (drop k bits)) ≡ cond (get_or bits k false) 1 0
bit_at bits k below = ap (λ l. number_of (take 1 l)) (drop_more bits k false below) ∙ one (get_or bits k false)
  where
    one : (b : Bool) → number_of (b ∷ []) ≡ cond b 1 0
    one true = refl
    one false = refl

bit_is : (b : Bool) (v : ℕ) → v ≡ cond b 1 0 → v ≡ 1 → b ≡ true
bit_is true v e f = refl
bit_is false v e f = absurd (omega arith)

bit_is_not : (b : Bool) (v : ℕ) → v ≡ cond b 1 0 → (v ≡ 1 → ⊥) → b ≡ false
bit_is_not true v e f = absurd (f e)
bit_is_not false v e f = refl

module _ (bits : List Bool) (from count i value : ℕ) (below : i < count) (inside : from + count ≤ length bits) (is : value ≡ symbol_in (from + i) 1 bits) where
  bit_of_part : value ≡ cond (get_or (take count (drop from bits)) i false) 1 0
  bit_of_part =
      is ∙ ap number_of (sym (part_of_part (drop from bits) count i 1 (omega arith) ∙ part_later bits from i 1))
      ∙ bit_at (take count (drop from bits)) i (let e : length (take count (drop from bits)) ≡ count = length-take-le count (drop from bits) (omega (arith, length-drop from bits)) in omega arith)

  pub bit_set : value ≡ 1 → get_or (take count (drop from bits)) i false ≡ true
  bit_set e = bit_is (get_or (take count (drop from bits)) i false) value bit_of_part e

  pub bit_unset : (value ≡ 1 → ⊥) → get_or (take count (drop from bits)) i false ≡ false
  bit_unset e = bit_is_not (get_or (take count (drop from bits)) i false) value bit_of_part e

-- the last 1 of all of them
pub last_one_end : (bits : List Bool) (from count i : ℕ) (last : Option ℕ) → i ≡ count → from + count ≤ length bits → LastOne (take count (drop from bits)) i last
    → MatchOption last (before_last_one (take count (drop from bits)) ≡ None)
    (λ p. (p < count) × (before_last_one (take count (drop from bits)) ≡ Some (take p (take count (drop from bits)))))
last_one_end bits from count i last all inside found =
    let whole : take i (take count (drop from bits)) ≡ take count (drop from bits) =
    take_all i (take count (drop from bits)) (let e : length (take count (drop from bits)) ≡ count = length-take-le count (drop from bits) (omega (arith, length-drop from bits)) in omega arith) in
    go last found whole
  where
    go : (o : Option ℕ) → LastOne (take count (drop from bits)) i o → take i (take count (drop from bits)) ≡ take count (drop from bits)
        → MatchOption o (before_last_one (take count (drop from bits)) ≡ None)
        (λ p. (p < count) × (before_last_one (take count (drop from bits)) ≡ Some (take p (take count (drop from bits)))))
    go None h whole = sym (ap before_last_one whole) ∙ h
    go (Some p) (below, h) whole = (omega arith, sym (ap before_last_one whole) ∙ h)

-- ---- bytes
window_part : {before window after : List Bool} (bytes : List ℕ) (byte size from width : ℕ) → IsWindow bytes byte size before window after → from + width ≤ size →
    take width (drop (byte * 8 + from) (bits_of_symbols 8 bytes)) ≡ take width (drop from window)
window_part {before} {window} {after} bytes byte size from width is inside =
    let at_is : byte * 8 + from ≡ length before + from = ap (λ l. l + from) (sym is.before_long) in
    ap (take width) (ap₂ drop at_is is.bits_are ∙ drop-append-add before (window ++ after) from ∙ drop-append-le from window after (omega (arith, is.window_long)))
    ∙ take-append-le width (drop from window) after (omega (arith, is.window_long, length-drop from window))

-- a byte that is moved to the front
pub byte_moved : (bytes : List ℕ) (k from width : ℕ) → k < length bytes → from + width ≤ 8 →
    take width (drop from (bits_of_symbols 8 (set bytes 0 (get_or bytes k 0)))) ≡ take width (drop (k * 8 + from) (bits_of_symbols 8 bytes))
byte_moved bytes k from width below inside =
    ap (λ n. take width (drop n (bits_of_symbols 8 (set bytes 0 (get_or bytes k 0))))) (let e : from ≡ 0 * 8 + from = omega arith in e)
    ∙ window_part (set bytes 0 (get_or bytes k 0)) 0 8 from width (one_written bytes 0 (get_or bytes k 0) (omega arith)) inside
    ∙ sym (window_part bytes k 8 from width (one_window bytes k (get_or bytes k 0) below refl) inside)

-- a byte behind the bits that wait
pub byte_pushed : (bytes : List ℕ) (k at len v : ℕ) → k < length bytes → at + len ≡ k * 8 →
    take (len + 8) (drop at (bits_of_symbols 8 (set bytes k v))) ≡ take len (drop at (bits_of_symbols 8 bytes)) ++ bits_of 8 v
byte_pushed bytes k at len v below end =
    let before : List Bool = bits_of_symbols 8 (take k bytes) in
    let after : List Bool = bits_of_symbols 8 (drop (k + 1) bytes) in
    let was = one_window bytes k (get_or bytes k 0) below refl in
    let is = one_written bytes k v below in
    let long : length (drop at before) ≡ len = length-drop at before ∙ (let e : length before ≡ k * 8 = was.before_long in omega arith) in
    let fits : at ≤ length before = (let e : length before ≡ k * 8 = was.before_long in omega arith) in
    let old : take len (drop at (bits_of_symbols 8 bytes)) ≡ drop at before =
    ap (λ l. take len (drop at l)) was.bits_are ∙ ap (take len) (drop-append-le at before (bits_of 8 (get_or bytes k 0) ++ after) fits) ∙ take_at (drop at before) (bits_of 8 (get_or bytes k 0) ++ after) len long in
    ap (λ l. take (len + 8) (drop at l)) is.bits_are
    ∙ ap (take (len + 8)) (drop-append-le at before (bits_of 8 v ++ after) fits)
    ∙ ap (λ n. take (n + 8) (drop at before ++ (bits_of 8 v ++ after))) (sym long)
    ∙ take-append-add (drop at before) (bits_of 8 v ++ after) 8
    ∙ ap₂ (λ a b. a ++ b) (sym old) (take_at (bits_of 8 v) after 8 (length-bits_of 8 v))

-- the marker and zeros
bits_of_zeros : (n : ℕ) → bits_of_symbols 8 (replicate n 0) ≡ replicate (n * 8) false
bits_of_zeros zero = refl
bits_of_zeros (suc n) = ap (λ l. replicate 8 false ++ l) (bits_of_zeros n) ∙ replicate-append-replicate 8 (n * 8) false ∙ ap (λ k. replicate k false) (let e : 8 + n * 8 ≡ suc n * 8 = omega arith in e)

pub marked_bytes : (bytes changed : List ℕ) (k n : ℕ) → k < length bytes → n ≡ length bytes - (k + 1) → changed ≡ take k bytes ++ 128 ∷ replicate n 0 →
    bits_of_symbols 8 changed ≡ closed (length bytes * 8) (take (k * 8) (bits_of_symbols 8 bytes))
marked_bytes bytes changed k n below count is =
    let was = one_window bytes k (get_or bytes k 0) below refl in
    let before : List Bool = bits_of_symbols 8 (take k bytes) in
    let front : take (k * 8) (bits_of_symbols 8 bytes) ≡ before = ap (take (k * 8)) was.bits_are ∙ take_at before (bits_of 8 (get_or bytes k 0) ++ bits_of_symbols 8 (drop (k + 1) bytes)) (k * 8) was.before_long in
    let long : length (take (k * 8) (bits_of_symbols 8 bytes)) ≡ k * 8 = ap length front ∙ was.before_long in
    ap (bits_of_symbols 8) is
    ∙ flat_map-append (bits_of 8) (take k bytes) (128 ∷ replicate n 0)
    ∙ ap (λ l. before ++ (true ∷ replicate 7 false ++ l)) (bits_of_zeros n)
    ∙ ap (λ l. before ++ true ∷ l) (replicate-append-replicate 7 (n * 8) false ∙ ap (λ m. replicate m false) (let e : 7 + n * 8 ≡ length bytes * 8 - 1 - length (take (k * 8) (bits_of_symbols 8 bytes)) = omega arith in e))
    ∙ ap (λ l. l ++ true ∷ replicate (length bytes * 8 - 1 - length (take (k * 8) (bits_of_symbols 8 bytes))) false) (sym front)

-- the marker behind the bits that wait
pub closed_part : (bits : List Bool) (at len whole total : ℕ) → len < whole → at + whole ≤ total → at + len ≤ length bits →
    take whole (drop at (closed total (take (at + len) bits))) ≡ closed whole (take len (drop at bits))
closed_part bits at len whole total short inside fits =
    let front : List Bool = take (at + len) bits in
    let long : length front ≡ at + len = length-take-le (at + len) bits fits in
    let waiting : drop at front ≡ take len (drop at bits) = drop-take at len bits in
    let wait_long : length (drop at front) ≡ len = length-drop at front ∙ omega arith in
    let rest : ℕ = total - 1 - length front in
    ap (take whole) (drop-append-le at front (true ∷ replicate rest false) (omega arith))
    ∙ ap (λ n. take n (drop at front ++ true ∷ replicate rest false)) (let e : whole ≡ length (drop at front) + suc (whole - 1 - len) = omega arith in e)
    ∙ take-append-add (drop at front) (true ∷ replicate rest false) (suc (whole - 1 - len))
    ∙ ap (λ l. drop at front ++ true ∷ l) (take-replicate (whole - 1 - len) rest false (omega arith))
    ∙ ap₂ (λ a n. a ++ true ∷ replicate (whole - 1 - n) false) waiting (sym wait_long ∙ ap length waiting)

pub marked_slice : (bytes zeros : List ℕ) (k count zero_count : ℕ) → k < length bytes → count ≡ length bytes - (k + 1) → zero_count ≡ count → zeros ≡ replicate zero_count 0 →
    bits_of_symbols 8 (put_mid (k + 1) count (set bytes k 128) zeros) ≡ closed (length bytes * 8) (take (k * 8) (bits_of_symbols 8 bytes))
marked_slice bytes zeros k count zero_count below rest same is =
    let after : drop count (drop (k + 1) (set bytes k 128)) ≡ [] = drop_all count (drop (k + 1) (set bytes k 128)) (omega (arith, length-drop (k + 1) (set bytes k 128), length-set bytes k 128)) in
    let tail : zeros ++ drop count (drop (k + 1) (set bytes k 128)) ≡ replicate zero_count 0 = ap₂ (λ a b. a ++ b) is after ∙ append-nil (replicate zero_count 0) in
    marked_bytes bytes (put_mid (k + 1) count (set bytes k 128) zeros) k zero_count below (omega arith)
    (ap₂ (λ a b. a ++ b) (take_more_set bytes k 128 below) tail ∙ append_assoc (take k bytes) (128 ∷ []) (replicate zero_count 0))

-- ---- the bits that wait
pub waiting_long : (bytes : List ℕ) (at len : ℕ) → at + len ≤ length bytes * 8 → length (take len (drop at (bits_of_symbols 8 bytes))) ≡ len
waiting_long bytes at len fits = length-take-le len (drop at (bits_of_symbols 8 bytes)) (omega (arith, length-drop at (bits_of_symbols 8 bytes), length-bits_of_symbols 8 bytes))

pub waiting_fits : {size width whole room at len : ℕ} → IncomingFits size width whole room at len → at + len ≤ room * 8
waiting_fits f = omega (arith, f.room_is, f.in_first, f.within, f.whole_bytes)

pub pushed_fits : {size width whole room at len : ℕ} (new : ℕ) → IncomingFits size width whole room at len → new ≡ room → len < whole → IncomingFits size width whole new at (len + 8)
pushed_fits new f same short = record {
  whole_is = f.whole_is;
  small = f.small;
  some = f.some;
  width_least = f.width_least;
  width_most = f.width_most;
  room_is = same ∙ f.room_is;
  in_first = f.in_first;
  whole_bytes = omega (arith, f.whole_bytes);
  within = omega arith;
}

-- the bits behind the first group, with their byte moved to the front
pub taken_rest : (bytes : List ℕ) (k at whole count len v : ℕ) → k ≡ (at + whole) / 8 → k < length bytes → v ≡ get_or bytes k 0 → whole ≡ count → whole ≤ len → len < whole + 8 → (at + len) % 8 ≡ 0 →
    take (len - whole) (drop ((at + whole) % 8) (bits_of_symbols 8 (set bytes 0 v))) ≡ drop count (take len (drop at (bits_of_symbols 8 bytes)))
taken_rest bytes k at whole count len v place below value is low high end =
    let rest : ℕ = len - whole in
    let bits : List Bool = bits_of_symbols 8 bytes in
    ap (λ b. take rest (drop ((at + whole) % 8) (bits_of_symbols 8 (set bytes 0 b)))) value
    ∙ byte_moved bytes k ((at + whole) % 8) rest below (omega arith)
    ∙ ap (λ n. take rest (drop n bits)) (let e : k * 8 + (at + whole) % 8 ≡ at + whole = omega arith in e)
    ∙ ap (take rest) (sym (drop-drop whole at bits))
    ∙ sym (drop-take whole rest (drop at bits))
    ∙ ap₂ (λ n m. drop n (take m (drop at bits))) is (let e : whole + rest ≡ len = omega arith in e)

-- the bits that wait, closed by the marker
pub closed_symbols : (bytes marked read : List ℕ) (at len whole count n width k : ℕ) → read ≡ marked → k * 8 ≡ at + len → bits_of_symbols 8 marked ≡ closed (length bytes * 8) (take (k * 8) (bits_of_symbols 8 bytes)) →
    len < whole → at + whole ≤ length bytes * 8 → n * width ≡ whole → whole ≡ count →
    symbols_of width (take (n * width) (drop at (bits_of_symbols 8 read))) ≡ symbols_of width (closed count (take len (drop at (bits_of_symbols 8 bytes))))
closed_symbols bytes marked read at len whole count n width k same end is short inside long whole_is =
    let bits : List Bool = bits_of_symbols 8 bytes in
    ap (symbols_of width)
    (ap₂ (λ m l. take m (drop at (bits_of_symbols 8 l))) long same
    ∙ ap (λ l. take whole (drop at l)) (is ∙ ap (λ m. closed (length bytes * 8) (take m bits)) end)
    ∙ closed_part bits at len whole (length bytes * 8) short inside (omega (arith, length-bits_of_symbols 8 bytes))
    ∙ ap (λ m. closed m (take len (drop at bits))) whole_is)

-- ---- the group that is held
pub held_fits_out : {size width whole room at end : ℕ} {held : Bool} (new : ℕ) → OutgoingFits size width whole room at end held → new ≡ room → end - at ≤ 8 → OutgoingFits size width whole new 0 (end - at) true
held_fits_out new f same few = record {
  whole_is = f.whole_is;
  small = f.small;
  width_least = f.width_least;
  width_most = f.width_most;
  room_is = same ∙ f.room_is;
  at_byte = refl;
  in_order = omega arith;
  within = omega arith;
  held_fits = λ e. few;
}

module _ (bytes moved new : List ℕ) (group : List Bool) (at k count n v : ℕ) (place : k * 8 ≡ at) (below : k < length bytes) (value : v ≡ get_or bytes k 0) (few : count ≤ 8) (moved_is : moved ≡ set bytes 0 v)
    (is : take (count + n) (bits_of_symbols 8 new) ≡ take count (bits_of_symbols 8 moved) ++ group) where
  front_long : length (take count (bits_of_symbols 8 moved)) ≡ count
  front_long = length-take-le count (bits_of_symbols 8 moved) (omega (arith, length-bits_of_symbols 8 moved, ap length moved_is, length-set bytes 0 v))

  pub held_behind : take n (drop count (bits_of_symbols 8 new)) ≡ group
  held_behind = sym (drop-take count n (bits_of_symbols 8 new)) ∙ ap (drop count) is ∙ drop_at (take count (bits_of_symbols 8 moved)) group count front_long

  pub held_before : take count (drop 0 (bits_of_symbols 8 new)) ≡ take count (drop at (bits_of_symbols 8 bytes))
  held_before =
      sym (take-take count (count + n) (bits_of_symbols 8 new) (omega arith))
      ∙ ap (take count) is
      ∙ take_at (take count (bits_of_symbols 8 moved)) group count front_long
      ∙ ap (λ l. take count (bits_of_symbols 8 l)) (moved_is ∙ ap (set bytes 0) value)
      ∙ byte_moved bytes k 0 count below (omega arith)
      ∙ ap (λ m. take count (drop m (bits_of_symbols 8 bytes))) (let e : k * 8 + 0 ≡ at = omega arith in e)
