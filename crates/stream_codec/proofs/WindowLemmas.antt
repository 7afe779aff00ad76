-- Slots that take the blocks of a group, and windows that are decoded.
use Rattle.std.proofs.Common.{ℕ, ◌+◌, ◌*◌, ◌/◌, ◌<◌, ◌≤◌, ◌≡◌, List, [], ◌∷◌, ◌++◌, length, map, take, drop, set, get_or, flat_map, All, sym, ap, ap₂, ◌∙◌, subst, arith, length-take-le, length-drop, mul-div_cancel, mul-le-mul_right, mul_comm}
use Rattle.std.proofs.lemmas.List.{take_more, take_more_set, take_all, take-append-le, map-append, map-id, length-map}
use Rattle.ag_frame.specs.declared.frame.Layout.{Layout}
use Rattle.ag_frame.specs.Layouts.{IsLayout, words_of_group}
use Rattle.stored_form.specs.Bits.{whole_pieces}
use Rattle.stored_form.specs.Form.{Form}
use Rattle.stored_form.proofs.Lists.{whole_pieces-flat_map, get_or-pieces}
use Rattle.stored_form.proofs.GroupLemmas.{All-long-stored_blocks}
use Rattle.coded_block.specs.Codes.{BenchNumbers}
use Rattle.stream_codec.specs.Slots.{SlotState, CanDecode, loaded, blocks_of}

-- ---- a group in slots
-- the words of a group, cut apart
block_is : (n depth c : ℕ) (words : List ℕ) (ys : List (List ℕ)) → 0 < n → All (λ y. length y ≡ n) ys → words ≡ flat_map (λ w. w) ys → c < depth → length words ≡ n * depth → take n (drop (c * n) words) ≡ get_or ys c []
block_is n depth c words ys some each e below long =
    let count : length words / n ≡ depth = ap (λ l. l / n) (long ∙ mul_comm n depth) ∙ mul-div_cancel depth some in
    let cut : whole_pieces n words ≡ ys = ap (whole_pieces n) e ∙ whole_pieces-flat_map (λ w. w) n ys some each ∙ map-id ys in
    sym (get_or-pieces n (length words / n) c words [] (omega arith)) ∙ ap (λ zs. get_or zs c []) cut

pub block_of_words : (l : Layout) (words group : List ℕ) (c span : ℕ) → IsLayout l → words ≡ flat_map (λ w. w) (words_of_group l group) → c < l.depth → length words ≡ l.n * l.depth → span ≡ l.n → take span (drop (c * l.n) words) ≡ get_or (words_of_group l group) c []
block_of_words l words group c span fits e below long is =
    ap (λ m. take m (drop (c * l.n) words)) is ∙ block_is l.n l.depth c words (words_of_group l group) (omega (arith, fits.k_least, fits.k_most)) (All-long-stored_blocks l.packed l.bits l.n l.depth group) e below long

pub length_block : (words : List ℕ) (n depth c span : ℕ) → c < depth → length words ≡ n * depth → span ≡ n → length (take span (drop (c * n) words)) ≡ n
length_block words n depth c span below long is =
    let fits : (c + 1) * n ≤ depth * n = mul-le-mul_right n (let h : c + 1 ≤ depth = omega arith in h) in
    length-take-le span (drop (c * n) words) (omega (arith, length-drop (c * n) words, mul_comm n depth)) ∙ is

pub load_blocks : (slots : List SlotState) (ys : List (List ℕ)) (v : SlotState) (i : ℕ) → i < length slots → i < length ys → v.got ≡ get_or ys i [] → blocks_of (take i slots) ≡ take i ys → blocks_of (take (i + 1) (set slots i v)) ≡ take (i + 1) ys
load_blocks slots ys v i below inside block so_far =
    ap blocks_of (take_more_set slots i v below)
    ∙ map-append (λ (x : SlotState). x.got) (take i slots) (v ∷ [])
    ∙ ap₂ (λ (a : List (List ℕ)) (b : List ℕ). a ++ b ∷ []) so_far block
    ∙ sym (take_more ys i [] inside)

pub loaded_can_decode : (F : Form) (numbers : BenchNumbers) (s v : SlotState) (block : List ℕ) → v ≡ loaded s block → length block ≡ length s.got → CanDecode F numbers s → CanDecode F numbers v
loaded_can_decode F numbers s v block e long can = subst (CanDecode F numbers) (sym e) (record { fits = can.fits; got_long = long ∙ can.got_long; word_long = can.word_long })

pub load_end : (slots : List SlotState) (ys : List (List ℕ)) (c : ℕ) → length slots ≤ c → length ys ≤ c → blocks_of (take c slots) ≡ take c ys → blocks_of slots ≡ ys
load_end slots ys c past past_ys e = ap blocks_of (sym (take_all c slots past)) ∙ e ∙ take_all c ys past_ys

-- ---- a window that is decoded
pub front_decoded : (f : SlotState → SlotState) (items new old : List SlotState) (m : ℕ) → items ≡ new → new ≡ map f (take m old) ++ drop m old → m ≤ length old → take m items ≡ map f (take m old)
front_decoded f items new old m same e within =
    let long : length (map f (take m old)) ≡ m = length-map (take m old) f ∙ length-take-le m old within in
    ap (take m) (same ∙ e) ∙ take-append-le m (map f (take m old)) (drop m old) (omega arith) ∙ take_all m (map f (take m old)) (omega arith)
