-- A window that is filled group by group.
use Rattle.std.proofs.Common.{ℕ, ◌+◌, ◌*◌, ◌%◌, ◌<◌, ◌≤◌, ◌≡◌, inl, inr, Bool, IsTrue, List, [], ◌++◌, length, take, drop, flat_map, All, refl, sym, ap, ap₂, ◌∙◌, subst, arith, append_assoc, length-append, length-take-le}
use Rattle.std.proofs.lemmas.List.{append-nil, map-append, length-take}
use Rattle.std.proofs.lemmas.List.Concat.{flat_map-append}
use Rattle.std.proofs.lemmas.List.Elements.{All-append, All-take, All-drop}
use Rattle.std.proofs.lemmas.Bool.{cases_lt}
use Rattle.std.proofs.lemmas.Slice.{take-put_mid}
use borrow.Rule.Slice.PartMut.{put_mid}
use Rattle.ag_frame.specs.declared.frame.Layout.{Layout}
use Rattle.ag_frame.specs.Layouts.{IsLayout, bytes_in_group, words_of_group}
use Rattle.std.proofs.Math.Nat.{mul-pos}
use Rattle.stored_form.proofs.SymbolLemmas.{stored_size_above_0}
use Rattle.stored_form.specs.Bits.{whole_pieces}
use Rattle.stored_form.proofs.Lists.{whole_pieces-append, whole_pieces_one, whole_pieces_none, times_mod}
use Rattle.ag_io.specs.Views.{SourceView}
use Rattle.stream_codec.specs.Slots.{SlotState, blocks_of}
use Rattle.stream_codec.specs.Layouts.{blocks_at}
use Rattle.stream_codec.specs.Windows.{CutShort, TailSays, WindowFilled}
use Rattle.stream_codec.specs.declared.window.Filling.{Filling}
use Rattle.stream_codec.specs.declared.window.Tail.{Tail}
use Rattle.stream_codec.specs.declared.window.Tail.TheVariants.{TooLong}

-- the whole groups z are in the first g groups of slots
pub record IsFilling (l : Layout) (tells : Bool) (left0 left1 : List ℕ) (limit taken : ℕ) (slots : List SlotState) (g total : ℕ) (z : List ℕ) : Type 0 where
  pub left : IsTrue tells → left0 ≡ z ++ left1
  pub whole : length z ≡ g * bytes_in_group l
  pub total_is : total ≡ taken + length z
  pub within : total ≤ limit
  pub slots_fit : g * l.depth ≤ length slots
  pub blocks : blocks_of (take (g * l.depth) slots) ≡ blocks_at l z

pub group_some : (l : Layout) → IsLayout l → 0 < bytes_in_group l
group_some l fits = stored_size_above_0 l.packed l.bits (l.n * l.depth) (omega (arith, fits.bits_least)) (mul-pos (let n : 0 < l.n = omega (arith, fits.k_least, fits.k_most) in n) (let d : 0 < l.depth = omega (arith, fits.depth_least) in d))

pub filling_starts : (l : Layout) (tells : Bool) (left : List ℕ) (limit taken : ℕ) (slots : List SlotState) → 0 < bytes_in_group l → taken ≤ limit → IsFilling l tells left left limit taken slots 0 taken []
filling_starts l tells left limit taken slots some within = record {
  left = λ t. refl;
  whole = omega arith;
  total_is = omega arith;
  within = within;
  slots_fit = omega arith;
  blocks = ap (λ m. blocks_of (take m slots)) (let e : 0 * l.depth ≡ 0 = omega arith in e) ∙ sym (ap (flat_map (words_of_group l)) (whole_pieces_none (bytes_in_group l) [] some));
}

-- one more group
blocks_at_more : (l : Layout) (z group : List ℕ) (g : ℕ) → 0 < bytes_in_group l → length z ≡ g * bytes_in_group l → length group ≡ bytes_in_group l → blocks_at l (z ++ group) ≡ blocks_at l z ++ words_of_group l group
blocks_at_more l z group g some whole long =
    let size = bytes_in_group l in
    ap (flat_map (words_of_group l)) (whole_pieces-append size z group some (ap (λ m. m % size) whole ∙ times_mod g size some))
    ∙ flat_map-append (words_of_group l) (whole_pieces size z) (whole_pieces size group)
    ∙ ap (λ ys. blocks_at l z ++ ys) (ap (flat_map (words_of_group l)) (whole_pieces_one size group some long) ∙ append-nil (words_of_group l group))

pub filling_more : (l : Layout) (tells : Bool) (left0 left1 left2 : List ℕ) (limit taken : ℕ) (slots part : List SlotState) (g total all span : ℕ) (z group : List ℕ) →
    0 < bytes_in_group l → IsFilling l tells left0 left1 limit taken slots g total z → (IsTrue tells → left1 ≡ group ++ left2) → length group ≡ bytes_in_group l → all ≡ total + length group → all ≤ limit →
    blocks_of part ≡ words_of_group l group → length part ≡ l.depth → span ≡ l.depth → (g + 1) * l.depth ≤ length slots →
    IsFilling l tells left0 left2 limit taken (put_mid (g * l.depth) span slots part) (g + 1) all (z ++ group)
filling_more l tells left0 left1 left2 limit taken slots part g total all span z group some f source long sum within blocks part_long span_is fits =
    let front : take ((g + 1) * l.depth) (put_mid (g * l.depth) span slots part) ≡ take (g * l.depth) slots ++ part = take-put_mid (g * l.depth) span slots part ((g + 1) * l.depth) (omega arith) (omega arith) in
    record {
      left = λ t. f.left t ∙ ap (λ r. z ++ r) (source t) ∙ sym (append_assoc z group left2);
      whole = omega (arith, length-append z group, f.whole);
      total_is = omega (arith, length-append z group, f.total_is);
      within = within;
      slots_fit = omega (arith, length-take ((g + 1) * l.depth) (put_mid (g * l.depth) span slots part), ap length front, length-append (take (g * l.depth) slots) part, length-take-le (g * l.depth) slots f.slots_fit);
      blocks = ap blocks_of front ∙ map-append (λ (s : SlotState). s.got) (take (g * l.depth) slots) part ∙ ap₂ (λ a b. a ++ b) f.blocks blocks ∙ sym (blocks_at_more l z group g some f.whole long);
    }

-- the window is filled no further
pub window_closed : (l : Layout) (tells : Bool) (before after : SourceView) (left1 : List ℕ) (limit taken : ℕ) (slots : List SlotState) (g total more all : ℕ) (z p : List ℕ) (filling : Filling) (tail : Tail) →
    IsFilling l tells before.left left1 limit taken slots g total z → (IsTrue tells → left1 ≡ p ++ after.left) → length p ≡ more → more ≤ bytes_in_group l → all ≡ total + more →
    (limit < all → filling ≡ record { groups = g; taken = all; tail = TooLong }) →
    (all ≤ limit → filling ≡ record { groups = g; taken = all; tail = tail }) →
    (limit < all → CutShort l tells before after p) →
    (all ≤ limit → TailSays l tells before after limit g all p tail) →
    WindowFilled l tells before after limit taken slots filling z p
window_closed l tells before after left1 limit taken slots g total more all z p filling tail f source long short sum passed within cut says =
    elim (cases_lt limit all) [
      | inl over ↦ subst (λ (v : Filling). WindowFilled l tells before after limit taken slots v z p) (sym (passed over)) (record {
        left = λ t. f.left t ∙ ap (λ r. z ++ r) (source t);
        whole = f.whole;
        total = omega (arith, f.total_is);
        within = omega (arith, f.total_is, f.within);
        slots_fit = f.slots_fit;
        blocks_are = f.blocks;
        tail = (omega arith, over, cut over);
      })
      | inr under ↦ subst (λ (v : Filling). WindowFilled l tells before after limit taken slots v z p) (sym (within under)) (record {
        left = λ t. f.left t ∙ ap (λ r. z ++ r) (source t);
        whole = f.whole;
        total = omega (arith, f.total_is);
        within = omega (arith, f.total_is, f.within);
        slots_fit = f.slots_fit;
        blocks_are = f.blocks;
        tail = says under;
      })
    ]

-- ---- slots that are written in part
pub All-put_mid : (P : SlotState → Type 0) (at span : ℕ) (slots part : List SlotState) → All P slots → All P part → All P (put_mid at span slots part)
All-put_mid P at span slots part each inside =
    All-append P (take at slots) (part ++ drop span (drop at slots)) (All-take P at slots each) (All-append P part (drop span (drop at slots)) inside (All-drop P span (drop at slots) (All-drop P at slots each)))
