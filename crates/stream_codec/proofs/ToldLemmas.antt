-- The changes of the first groups of a text.
use Rattle.std.proofs.Common.{ℕ, ◌+◌, ◌*◌, ◌/◌, ◌%◌, ◌<◌, ◌≤◌, ◌≡◌, List, [], ◌∷◌, ◌++◌, length, get_or, map, take, drop, All, Some, refl, ap, ap₂, sym, ◌∙◌, arith, append_assoc, length-append, take-take, take-append-drop, mul-le-mul_right, mul-div_cancel, inl, inr}
use Rattle.std.proofs.lemmas.List.{append-nil, length-map, length_push, map-append, take-append-le, get_or_append_left}
use Rattle.std.proofs.lemmas.Nat.{le-div}
use Rattle.std.proofs.lemmas.Bool.{cases_lt}
use Rattle.stored_form.specs.Form.{Form, IsSound}
use Rattle.stored_form.specs.Frame.{group_bytes}
use Rattle.stored_form.specs.Reading.{Reading, Beyond, Ragged, Framing, File, Change, group_count, blocks, kept, reading, told_groups, block_changes, differences}
use Rattle.stored_form.proofs.Lists.{times_mod}
use Rattle.stored_form.proofs.FrameLemmas.{group_bytes_above_0}
use Rattle.stored_form.proofs.ImageLemmas.{length-blocks}
use Rattle.stored_form.proofs.ConverseLemmas.{first_lost_from_reading}
use Rattle.stored_form.proofs.StreamLemmas.{blocks-append, differences_push}
use Rattle.stream_codec.specs.Report.{changes_to}

-- the changes of fewer blocks stand at the front
pub differences_front : (F : Form) (ys cs more words : List (List ℕ)) → length cs ≡ length ys → length words ≡ length more → (rest : List Change) × (differences F (ys ++ more) (cs ++ words) ≡ differences F ys cs ++ rest)
differences_front F ys cs [] [] long same = ([], ap₂ (differences F) (append-nil ys) (append-nil cs) ∙ sym (append-nil (differences F ys cs)))
differences_front F ys cs [] (c ∷ words) long same = absurd (omega arith)
differences_front F ys cs (y ∷ more) [] long same = absurd (omega arith)
differences_front F ys cs (y ∷ more) (c ∷ words) long same =
    let (rest, e) = differences_front F (ys ++ y ∷ []) (cs ++ c ∷ []) more words (omega (arith, length_push ys y, length_push cs c)) (omega arith) in (
      block_changes F (length ys) y c ++ rest,
      ap₂ (differences F) (sym (append_assoc ys (y ∷ []) more)) (sym (append_assoc cs (c ∷ []) words)) ∙ e ∙ ap (λ l. l ++ rest) (differences_push F ys cs y c long) ∙ append_assoc (differences F ys cs) (block_changes F (length ys) y c) rest,
    )

pub changes_to_front : (F : Form) (z : List ℕ) (g h : ℕ) → g ≤ h → (rest : List Change) × (changes_to F z h ≡ changes_to F z g ++ rest)
changes_to_front F z g h below =
    let ys = take (h * F.depth) (blocks F z) in
    let first = take (g * F.depth) ys in
    let more = drop (g * F.depth) ys in
    let front : first ≡ take (g * F.depth) (blocks F z) = take-take (g * F.depth) (h * F.depth) (blocks F z) (mul-le-mul_right F.depth below) in
    let (rest, e) = differences_front F first (map (kept F) first) more (map (kept F) more) (length-map first (kept F)) (length-map more (kept F)) in (
      rest,
      ap (λ l. differences F l (map (kept F) l)) (sym (take-append-drop (g * F.depth) ys))
          ∙ ap (differences F (first ++ more)) (map-append (kept F) first more)
          ∙ e
          ∙ ap (λ l. differences F l (map (kept F) l) ++ rest) front,
    )

-- the changes of the first groups stay
pub changes_to-append : (F : Form) (z more : List ℕ) (h : ℕ) → IsSound F → length z % group_bytes F ≡ 0 → h ≤ group_count F z → changes_to F (z ++ more) h ≡ changes_to F z h
changes_to-append F z more h sound whole below =
    ap (λ l. differences F l (map (kept F) l)) (ap (take (h * F.depth)) (blocks-append F z more sound whole) ∙ take-append-le (h * F.depth) (blocks F z) (blocks F more) (omega (arith, length-blocks F z, mul-le-mul_right F.depth below)))

-- groups whose blocks have nears are told, whatever follows them
pub told_at_least : (F : Form) (z more : List ℕ) (n : ℕ) → IsSound F → length z ≡ n * group_bytes F → All (λ y. F.near y ≡ Some (kept F y)) (blocks F z) → n ≤ told_groups F (z ++ more) (reading F (z ++ more))
told_at_least F z more n sound whole near = go (reading F (z ++ more)) refl
  where
    some : 0 < group_bytes F
    some = group_bytes_above_0 F sound

    even : length z % group_bytes F ≡ 0
    even = ap (λ l. l % group_bytes F) whole ∙ times_mod n (group_bytes F) some

    counted : n ≤ group_count F (z ++ more)
    counted = le-div n (length (z ++ more)) (group_bytes F) some (omega (arith, length-append z more))

    go : (r : Reading) → reading F (z ++ more) ≡ r → n ≤ told_groups F (z ++ more) r
    go (Beyond g c) is = elim (cases_lt g n) [
      | inl early ↦ (let lost = first_lost_from_reading F (z ++ more) g c sound is in
          let i = g * F.depth + c in
          let room : (g + 1) * F.depth ≤ n * F.depth = mul-le-mul_right F.depth (let h : g + 1 ≤ n = omega arith in h) in
          let count : group_count F z ≡ n = ap (λ l. l / group_bytes F) whole ∙ mul-div_cancel n some in
          let long : length (blocks F z) ≡ n * F.depth = length-blocks F z ∙ ap (λ m. m * F.depth) count in
          let inside : i < length (blocks F z) = omega (arith, lost.in_group) in
          let same : get_or (blocks F (z ++ more)) i [] ≡ get_or (blocks F z) i [] = ap (λ l. get_or l i []) (blocks-append F z more sound even) ∙ get_or_append_left (blocks F z) (blocks F more) [] i inside in
          let found = near i [] inside in
          let lost_there = ap F.near (sym same) ∙ lost.lost in
          absurd (cc))
      | inr late ↦ late
    ]
    go (Ragged extra) is = counted
    go Framing is = counted
    go (File x) is = counted
