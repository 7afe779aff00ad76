-- What was taken of a source, by the whole groups of it that were dealt with.
use Rattle.std.proofs.Common.{ℕ, ◌+◌, ◌-◌, ◌*◌, ◌/◌, ◌<◌, ◌≤◌, ◌≡◌, ◌⊎◌, Bool, IsTrue, List, ◌++◌, length, take, min, inl, inr, sym, ap, ap₂, ◌∙◌, arith, append_assoc, length-append, mul-le-mul_right}
use Rattle.std.proofs.lemmas.List.{take_at}
use Rattle.std.proofs.lemmas.Nat.{le-div, div-mul-add}
use Rattle.ag_frame.specs.declared.frame.Layout.{Layout}
use Rattle.ag_frame.specs.Layouts.{bytes_in_group}
use Rattle.ag_io.specs.Views.{SourceView}
use Rattle.stored_form.specs.Form.{IsSound}
use Rattle.stored_form.specs.Frame.{group_bytes}
use Rattle.stored_form.proofs.FrameLemmas.{group_bytes_above_0}
use Rattle.stream_codec.specs.Decoding.{Decode, taken, TakesMost}
use Rattle.stream_codec.specs.Taking.{taken_from, WereTaken, most_taken, taken_past}
use Rattle.stream_codec.specs.Windows.{TailSays, WindowFilled}
use Rattle.stream_codec.specs.Slots.{SlotState}
use Rattle.stream_codec.specs.declared.window.Filling.{Filling}
use Rattle.stream_codec.specs.declared.window.Tail.{Tail}
use Rattle.stream_codec.specs.declared.window.Tail.TheVariants.{More, End, Fault, TooLong}

-- ---- the bytes at the front
pub front_taken : (before after : SourceView) (x : List ℕ) → before.left ≡ x ++ after.left → taken_from before after ≡ x
front_taken before after x e =
    let long : length before.left - length after.left ≡ length x = omega (arith, ap length e, length-append x after.left) in
    ap₂ (λ n l. take n l) long e ∙ take_at x after.left (length x) (let h : length x ≡ length x = omega arith in h)

pub front_were_taken : (before after : SourceView) (x : List ℕ) → before.left ≡ x ++ after.left → WereTaken before after
front_were_taken before after x e = e ∙ ap (λ l. l ++ after.left) (sym (front_taken before after x e))

-- the whole groups z were taken, and the bytes p after them
pub record Taken (d : Decode) (z p : List ℕ) : Type 0 where
  pub left : IsTrue d.source_tells → d.source.left ≡ z ++ (p ++ d.source_after.left)
  pub groups : ℕ
  pub whole : length z ≡ groups * group_bytes d.form
  pub within : length z ≤ d.limit
  pub short : length p ≤ group_bytes d.form
  pub source_counted : d.source.faults ≤ d.source_after.faults

pub left_is : (d : Decode) (z p : List ℕ) → Taken d z p → IsTrue d.source_tells → d.source.left ≡ (z ++ p) ++ d.source_after.left
left_is d z p k t = k.left t ∙ sym (append_assoc z p d.source_after.left)

pub taken_is : (d : Decode) (z p : List ℕ) → Taken d z p → IsTrue d.source_tells → taken d ≡ z ++ p
taken_is d z p k t = front_taken d.source d.source_after (z ++ p) (left_is d z p k t)

pub were_taken : (d : Decode) (z p : List ℕ) → Taken d z p → IsTrue d.source_tells → WereTaken d.source d.source_after
were_taken d z p k t = front_were_taken d.source d.source_after (z ++ p) (left_is d z p k t)

-- groups within a limit, and one more
few_groups : (n limit size z p : ℕ) → 0 < size → z ≡ n * size → z ≤ limit → p ≤ size → z + p ≤ most_taken size limit
few_groups n limit size z p some whole within short =
    let most : n ≤ limit / size = le-div n limit size some (omega arith) in
    let h : (n + 1) * size ≤ (limit / size + 1) * size = mul-le-mul_right size (omega arith) in
    omega arith

pub takes_most : (d : Decode) (z p : List ℕ) → IsSound d.form → Taken d z p → TakesMost d
takes_most d z p sound k t =
    let h = few_groups k.groups d.limit (group_bytes d.form) (length z) (length p) (group_bytes_above_0 d.form sound) k.whole k.within k.short in
    omega (arith, ap length (taken_is d z p k t), length-append z p)

pub least_right : (a b c : ℕ) → c ≡ b → c ≤ a → c ≡ min a b
least_right a b c e h = omega arith

pub least_left : (a b c : ℕ) → c ≡ a → c ≤ b → c ≡ min a b
least_left a b c e h = omega arith

-- past the limit as many are taken as pieces make
pub exactly : (n limit size z p all : ℕ) → 0 < size → z ≡ n * size → z ≤ limit → limit < z + p → p ≤ size → z + p ≤ all → ((p ≡ size) ⊎ (z + p ≡ all)) → z + p ≡ taken_past size limit all
exactly n limit size z p all some whole within over short inside (inl full) =
    let over_by = limit - z in
    let limit_is : limit ≡ n * size + over_by = omega arith in
    let count : limit / size ≡ n = ap (λ l. l / size) limit_is ∙ div-mul-add n size over_by (omega arith) in
    let most : most_taken size limit ≡ (n + 1) * size = ap (λ m. (m + 1) * size) count in
    least_right all (most_taken size limit) (z + p) (omega arith) (omega arith)
exactly n limit size z p all some whole within over short inside (inr spent) =
    let h = few_groups n limit size z p some whole within short in
    least_left all (most_taken size limit) (z + p) spent h

-- the bytes after the whole groups are no more than a group
tail_short : (l : Layout) (tells : Bool) (before after : SourceView) (limit groups total : ℕ) (p : List ℕ) (tail : Tail) → TailSays l tells before after limit groups total p tail → length p ≤ bytes_in_group l
tail_short l tells before after limit groups total p More h = omega (arith, ap length h.0)
tail_short l tells before after limit groups total p (End got) h = omega (arith, h.0, h.1)
tail_short l tells before after limit groups total p Fault h = omega (arith, h.0)
tail_short l tells before after limit groups total p TooLong h = h.0

-- a window after the text z
pub window_taken : (l : Layout) (d : Decode) (middle : SourceView) (slots : List SlotState) (filling : Filling) (count n : ℕ) (z w p : List ℕ) → bytes_in_group l ≡ group_bytes d.form → (IsTrue d.source_tells → d.source.left ≡ z ++ middle.left) → count ≡ length z → length z ≡ n * group_bytes d.form → middle.faults ≡ d.source.faults → middle.faults ≤ d.source_after.faults →
    WindowFilled l d.source_tells middle d.source_after d.limit count slots filling w p → Taken d (z ++ w) p
window_taken l d middle slots filling count n z w p size left count_is whole first then f = record {
  left = λ t. left t ∙ ap (λ r. z ++ r) (f.left t) ∙ sym (append_assoc z w (p ++ d.source_after.left));
  groups = n + filling.groups;
  whole = length-append z w ∙ ap₂ (λ a b. a + b) whole (f.whole ∙ ap (λ m. filling.groups * m) size) ∙ (let e : n * group_bytes d.form + filling.groups * group_bytes d.form ≡ (n + filling.groups) * group_bytes d.form = omega arith in e);
  within = omega (arith, length-append z w, f.within);
  short = omega (arith, tail_short l d.source_tells middle d.source_after d.limit filling.groups filling.taken p filling.tail f.tail);
  source_counted = omega arith;
}

-- groups are no more than their bytes
pub groups_fit : (n m size z w limit : ℕ) → 0 < size → z ≡ n * size → w ≡ m * size → z + w ≤ limit → n + m ≤ limit
groups_fit n m size z w limit some first then within =
    let h : 1 * (n + m) ≤ size * (n + m) = mul-le-mul_right (n + m) (let g : 1 ≤ size = omega arith in g) in
    omega arith
