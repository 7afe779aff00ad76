-- The groups of a window that was decoded.
use Rattle.std.proofs.Common.{Bool, IsTrue, ℕ, ◌+◌, ◌*◌, ◌-◌, ◌<◌, ◌≤◌, ◌≡◌, List, ◌++◌, length, map, take, drop, flat_map, All, refl, sym, ap, ap₂, ◌∙◌, subst, arith, append_assoc, length-drop, length-take-le, take-take, take-append-drop, mul-le-mul_right}
use Rattle.std.specs.List.{drop-map, take-map}
use Rattle.std.proofs.lemmas.List.{take_at, drop_at, drop-take, length-take, length-map}
use Rattle.std.proofs.lemmas.List.Elements.{All-take, All-drop, All-map}
use Rattle.ag_frame.specs.declared.frame.Layout.{Layout}
use Rattle.ag_frame.specs.Layouts.{bytes_in_group}
use Rattle.stored_form.specs.Bits.{whole_pieces}
use Rattle.stored_form.specs.Form.{Form, IsSound}
use Rattle.stored_form.specs.Frame.{group_bytes, group_blocks}
use Rattle.stored_form.specs.Group.{stored_blocks}
use Rattle.stored_form.specs.Symbols.{stored_size}
use Rattle.stored_form.specs.Reading.{blocks, kept}
use Rattle.stored_form.proofs.Lists.{map-map}
use Rattle.stored_form.proofs.ImageLemmas.{length-blocks, length-group_blocks}
use Rattle.stored_form.proofs.StreamLemmas.{blocks-append, blocks_of_group}
use Rattle.coded_block.specs.Codes.{BenchNumbers, verdict_of}
use Rattle.stream_codec.specs.Layouts.{Fits, in_groups, blocks_at}
use Rattle.stream_codec.specs.Slots.{SlotState, CanDecode, IsSettled, decoded, blocks_of}
use Rattle.stream_codec.specs.Windows.{WindowState}
use Rattle.ag_frame.specs.Queues.{OutState}
use Rattle.ag_io.specs.Views.{SinkView, SourceView}
use Rattle.stream_codec.specs.Sinks.{sinks_of}
use Rattle.stream_codec.specs.Dealing.{CountsFit, NoneLost, HoldsGroups, Dealt, TextStopped}
use Rattle.stream_codec.specs.declared.deal.Tally.{Tally}
use Rattle.stream_codec.specs.declared.deal.WhenLost.{WhenLost}
use Rattle.stream_codec.specs.declared.decode.DecodeFault.{DecodeFault}
use Rattle.stream_codec.proofs.DealtLemmas.{count_is, even_is}

pub group_size : (l : Layout) (F : Form) → Fits l F → bytes_in_group l ≡ group_bytes (in_groups l F)
group_size l F fits = ap₂ (λ b n. stored_size l.packed b (n * l.depth)) fits.bits fits.n

pub blocks_is : (l : Layout) (F : Form) (z : List ℕ) → Fits l F → blocks_at l z ≡ blocks (in_groups l F) z
unfolding blocks group_blocks
blocks_is l F z fits = ap₂ (λ b n. flat_map (stored_blocks l.packed b n l.depth) (whole_pieces (stored_size l.packed b (n * l.depth)) z)) fits.bits fits.n

-- group g of a text, cut out
abbrev pub group_at : Form → List ℕ → ℕ → List ℕ
group_at G z g = take (group_bytes G) (drop (g * group_bytes G) z)

pub take_next : (at size : ℕ) (z : List ℕ) → take (at + size) z ≡ take at z ++ take size (drop at z)
take_next at size z =
    sym (take-append-drop at (take (at + size) z))
    ∙ ap₂ (λ a b. a ++ b) (take-take at (at + size) z (omega arith)) (drop-take at size z)

part_of_blocks : (G : Form) (z : List ℕ) (groups g : ℕ) → IsSound G → length z ≡ groups * group_bytes G → g < groups → take G.depth (drop (g * G.depth) (blocks G z)) ≡ group_blocks G (group_at G z g)
part_of_blocks G z groups g sound whole below =
    let size = group_bytes G in
    let front = take (g * size) z in
    let group = group_at G z g in
    let rest = drop (g * size + size) z in
    let fits : (g + 1) * size ≤ groups * size = mul-le-mul_right size (let h : g + 1 ≤ groups = omega arith in h) in
    let front_long : length front ≡ g * size = length-take-le (g * size) z (omega arith) in
    let long : length group ≡ size = length-take-le size (drop (g * size) z) (omega (arith, length-drop (g * size) z)) in
    let cut : z ≡ front ++ (group ++ rest) =
    sym (take-append-drop (g * size + size) z) ∙ ap (λ l. l ++ rest) (take_next (g * size) size z) ∙ append_assoc front group rest in
    let one : length group ≡ 1 * size = long ∙ (let e : size ≡ 1 * size = omega arith in e) in
    let split : blocks G z ≡ blocks G front ++ (group_blocks G group ++ blocks G rest) =
    ap (blocks G) cut
    ∙ blocks-append G front (group ++ rest) sound (even_is G front g sound front_long)
    ∙ ap (λ l. blocks G front ++ l) (blocks-append G group rest sound (even_is G group 1 sound one) ∙ ap (λ l. l ++ blocks G rest) (blocks_of_group G group sound long)) in
    let count : length (blocks G front) ≡ g * G.depth = length-blocks G front ∙ ap (λ n. n * G.depth) (count_is G front g sound front_long) in
    ap (λ l. take G.depth (drop (g * G.depth) l)) split
    ∙ ap (take G.depth) (drop_at (blocks G front) (group_blocks G group ++ blocks G rest) (g * G.depth) count)
    ∙ take_at (group_blocks G group) (blocks G rest) G.depth (length-group_blocks G group)

-- what the slots of one group of a window hold
pub record WindowGroup (F G : Form) (slots : List SlotState) (z : List ℕ) (g : ℕ) : Type 0 where
  pub long : length (group_at G z g) ≡ group_bytes G
  pub blocks : blocks_of slots ≡ group_blocks G (group_at G z g)
  pub settled : All (IsSettled F) slots
  pub slots_long : length slots ≡ G.depth
  pub next : take ((g + 1) * group_bytes G) z ≡ take (g * group_bytes G) z ++ group_at G z g
  pub cut : z ≡ take (g * group_bytes G) z ++ (group_at G z g ++ drop (g * group_bytes G + group_bytes G) z)

slots_inside : (depth groups g : ℕ) (slots : List SlotState) → g < groups → take depth (drop (g * depth) (take (groups * depth) slots)) ≡ take depth (drop (g * depth) slots)
slots_inside depth groups g slots below =
    let fits : (g + 1) * depth ≤ groups * depth = mul-le-mul_right depth (let h : g + 1 ≤ groups = omega arith in h) in
    let more : groups * depth ≡ g * depth + (groups * depth - g * depth) = omega arith in
    ap (λ m. take depth (drop (g * depth) (take m slots))) more
    ∙ ap (take depth) (drop-take (g * depth) (groups * depth - g * depth) slots)
    ∙ take-take depth (groups * depth - g * depth) (drop (g * depth) slots) (omega arith)

pub window_group : (F : Form) (w : WindowState) (groups g : ℕ) (z : List ℕ) → Fits w.layout F → IsSound (in_groups w.layout F) → g < groups → HoldsGroups F w groups z →
    WindowGroup F (in_groups w.layout F) (take w.layout.depth (drop (g * w.layout.depth) w.slots)) z g
window_group F w groups g z fits sound below h =
    let depth = w.layout.depth in
    let G = in_groups w.layout F in
    let size = group_bytes G in
    let inside = slots_inside depth groups g w.slots below in
    let whole : length z ≡ groups * size = h.whole ∙ ap (λ m. groups * m) (group_size w.layout F fits) in
    let fits_size : (g + 1) * size ≤ groups * size = mul-le-mul_right size (let h : g + 1 ≤ groups = omega arith in h) in
    let fits_slots : (g + 1) * depth ≤ groups * depth = mul-le-mul_right depth (let h : g + 1 ≤ groups = omega arith in h) in
    let next : take (g * size + size) z ≡ take (g * size) z ++ group_at G z g = take_next (g * size) size z in
    record {
      long = length-take-le size (drop (g * size) z) (omega (arith, length-drop (g * size) z));
      blocks = ap blocks_of (sym inside)
          ∙ sym (take-map (λ (s : SlotState). s.got) depth (drop (g * depth) (take (groups * depth) w.slots)))
          ∙ ap (take depth) (sym (drop-map (λ (s : SlotState). s.got) (g * depth) (take (groups * depth) w.slots)))
          ∙ ap (λ l. take depth (drop (g * depth) l)) (h.blocks ∙ blocks_is w.layout F z fits)
          ∙ part_of_blocks G z groups g sound whole below;
      settled = subst (All (IsSettled F)) inside (All-take (IsSettled F) depth (drop (g * depth) (take (groups * depth) w.slots)) (All-drop (IsSettled F) (g * depth) (take (groups * depth) w.slots) h.settled));
      slots_long = length-take-le depth (drop (g * depth) w.slots) (omega (arith, length-drop (g * depth) w.slots, h.inside));
      next = ap (λ m. take m z) (let e : (g + 1) * size ≡ g * size + size = omega arith in e) ∙ next;
      cut = sym (take-append-drop (g * size + size) z) ∙ ap (λ l. l ++ drop (g * size + size) z) next ∙ append_assoc (take (g * size) z) (group_at G z g) (drop (g * size + size) z);
    }

-- what a window holds, by its layout
record Held (F : Form) (l : Layout) (slots : List SlotState) (groups : ℕ) (z : List ℕ) : Type 0 where
  whole : length z ≡ groups * bytes_in_group l
  inside : groups * l.depth ≤ length slots
  blocks : blocks_of (take (groups * l.depth) slots) ≡ blocks_at l z
  settled : All (IsSettled F) (take (groups * l.depth) slots)

-- a window that was filled with these groups and decoded holds them
pub window_holds : (F : Form) (numbers : BenchNumbers) (l : Layout) (w w2 : WindowState) (groups : ℕ) (z : List ℕ) → w.layout ≡ l → w2.layout ≡ w.layout → length z ≡ groups * bytes_in_group l → groups * l.depth ≤ length w.slots →
    blocks_of (take (groups * l.depth) w.slots) ≡ blocks_at l z → take (groups * w.layout.depth) w2.slots ≡ map (decoded F) (take (groups * w.layout.depth) w.slots) → All (CanDecode F numbers) w2.slots → HoldsGroups F w2 groups z
window_holds F numbers l w w2 groups z is same whole fits blocks found ready =
    let m = groups * l.depth in
    let to : l ≡ w2.layout = sym (same ∙ is) in
    let depth : w.layout.depth ≡ l.depth = ap (λ (v : Layout). v.depth) is in
    let found_here : take m w2.slots ≡ map (decoded F) (take m w.slots) = subst (λ d. take (groups * d) w2.slots ≡ map (decoded F) (take (groups * d) w.slots)) depth found in
    let long : length (take m w2.slots) ≡ m = ap length found_here ∙ length-map (take m w.slots) (decoded F) ∙ length-take-le m w.slots fits in
    let settled : All (λ (s : SlotState). (s.word ≡ kept F s.got) × (s.verdict ≡ verdict_of F s.got)) (take m w2.slots) =
    subst (All (λ (s : SlotState). (s.word ≡ kept F s.got) × (s.verdict ≡ verdict_of F s.got))) (sym found_here) (All-map (λ (s : SlotState). (s.word ≡ kept F s.got) × (s.verdict ≡ verdict_of F s.got)) (decoded F) (take m w.slots) (λ k d h. (refl, refl))) in
    let can = All-take (CanDecode F numbers) m w2.slots ready in
    let here : Held F l w2.slots groups z = record {
      whole = whole;
      inside = omega (arith, length-take m w2.slots);
      blocks = ap blocks_of found_here ∙ map-map (λ (s : SlotState). s.got) (decoded F) (take m w.slots) ∙ blocks;
      settled = λ k d h. record { got_long = (can k d h).got_long; word_long = (can k d h).word_long; word = (settled k d h).0; verdict = (settled k d h).1 };
    } in
    let there = subst (λ (v : Layout). Held F v w2.slots groups z) to here in
    record { whole = there.whole; inside = there.inside; blocks = there.blocks; settled = there.settled }

-- ---- window after window
-- the text z was taken and dealt with
pub record Decoding (F : Form) (layout : Layout) (source_tells : Bool) (source source1 : SourceView) (ot : Bool) (out out1 : SinkView) (rt : Bool) (report report1 : SinkView) (s : OutState) (tally : Tally) (when : WhenLost) (limit taken : ℕ) (z : List ℕ) : Type 0 where
  pub dealt : Dealt (in_groups layout F) (sinks_of ot out out1 rt report report1) s tally z
  pub left : IsTrue source_tells → source.left ≡ z ++ source1.left
  pub taken_is : taken ≡ length z
  pub within : taken ≤ limit
  pub source_steady : source1.faults ≡ source.faults
  pub none : NoneLost when tally.lost
  pub fit : CountsFit tally

pub dealt_at : {ot rt : Bool} {out out1 report report1 : SinkView} {s : OutState} {tally : Tally} {z : List ℕ} (F : Form) (layout layout2 : Layout) → Dealt (in_groups layout F) (sinks_of ot out out1 rt report report1) s tally z → layout ≡ layout2 → Dealt (in_groups layout2 F) (sinks_of ot out out1 rt report report1) s tally z
dealt_at {ot} {rt} {out} {out1} {report} {report1} {s} {tally} {z} F layout layout2 d e = subst (λ n. Dealt (in_groups n F) (sinks_of ot out out1 rt report report1) s tally z) e d

pub stopped_at : (ot rt : Bool) (out out1 report report1 : SinkView) (when : WhenLost) (text : List ℕ) (fault : DecodeFault) (F : Form) (layout layout2 : Layout) → TextStopped (in_groups layout F) (sinks_of ot out out1 rt report report1) when text fault → layout ≡ layout2 → TextStopped (in_groups layout2 F) (sinks_of ot out out1 rt report report1) when text fault
stopped_at ot rt out out1 report report1 when text fault F layout layout2 h e = subst (λ n. TextStopped (in_groups n F) (sinks_of ot out out1 rt report report1) when text fault) e h
