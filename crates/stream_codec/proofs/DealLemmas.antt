-- Slots whose blocks have nears.
use Rattle.std.proofs.Common.{false, ℕ, ◌*◌, ◌<◌, ◌≤◌, ◌≡◌, List, [], ◌∷◌, ◌++◌, ◌+◌, length, map, get_or, All, Option, Some, None, unwrap_or, refl, sym, ap, ap₂, ◌∙◌, subst, arith}
use Rattle.std.specs.Prelude.{◌^◌, ◌%◌, MatchOption}
use Rattle.std.proofs.lemmas.List.{get_or-map, length-map, get_or_default}
use Rattle.std.proofs.Math.Nat.{mul-le-mul}
use Rattle.ag_frame.specs.Queues.{OutState, out_bits, bits_held}
use Rattle.stored_form.specs.Form.{Form}
use Rattle.stored_form.proofs.Lists.{map_same, map-map}
use Rattle.stored_form.specs.Reading.{kept, message_bits}
use Rattle.coded_block.specs.Codes.{IsCode, verdict_by}
use Rattle.stream_codec.specs.Slots.{SlotState, IsSettled, blocks_of, words_of}
use Rattle.stream_codec.specs.Dealing.{IsNear, FirstLost, NoneLost}
use Rattle.stored_form.specs.Salvage.{lost_in, changes_in}
use Rattle.stored_form.proofs.SalvageLemmas.{lost_in-append, lost_in-changed}
use Rattle.std.proofs.lemmas.List.Elements.{All-head, All-tail}
use Rattle.stream_codec.specs.declared.deal.Tally.{Tally}
use Rattle.stream_codec.specs.declared.deal.WhenLost.{WhenLost}
use Rattle.stream_codec.specs.declared.deal.WhenLost.TheVariants.{Stop, Keep}
use Rattle.stream_codec.specs.GroupLines.{place_changes, lines_at, lines_from, slot_lines}
use Rattle.stream_codec.proofs.LineLemmas.{few_changes}
use Rattle.stream_codec.specs.Writing.{bytes_left}
use Rattle.stream_codec.proofs.WritingLemmas.{out_with}
use Rattle.coded_block.specs.declared.Verdict.TheVariants.{Near, Beyond}
use Rattle.stream_codec.proofs.SlotLemmas.{at_slot}

-- what a verdict says of its block
near_from_verdict : (F : Form) (y : List ℕ) (o : Option (List ℕ)) (changes : ℕ) → F.near y ≡ o → verdict_by y o ≡ Near changes → IsNear F y
near_from_verdict F y None changes e v = absurd (cc)
near_from_verdict F y (Some w) changes e v = e ∙ ap Some (sym (ap (λ (o : Option (List ℕ)). unwrap_or o (map (λ b. b % 2 ^ F.bits) y)) e))

lost_from_verdict : (y : List ℕ) (o : Option (List ℕ)) → verdict_by y o ≡ Beyond → o ≡ None
lost_from_verdict y None v = refl
lost_from_verdict y (Some w) v = absurd (cc)

block_at : (slots : List SlotState) (i : ℕ) (s : SlotState) → i < length slots → s ≡ get_or slots i s → get_or (blocks_of slots) i [] ≡ s.got
block_at slots i s below is = get_or-map (λ (x : SlotState). x.got) slots i s [] below ∙ ap (λ (x : SlotState). x.got) (sym is)

pub near_slot : (F : Form) (slots : List SlotState) (i : ℕ) (s : SlotState) (changes : ℕ) → All (IsSettled F) slots → i < length slots → s ≡ get_or slots i s → s.verdict ≡ Near changes → IsNear F (get_or (blocks_of slots) i [])
near_slot F slots i s changes each below is v =
    let settled = at_slot (IsSettled F) slots i s each below is in
    subst (IsNear F) (sym (block_at slots i s below is)) (near_from_verdict F s.got (F.near s.got) changes refl (sym settled.verdict ∙ v))

pub lost_slot : (F : Form) (slots : List SlotState) (i : ℕ) (s : SlotState) → All (IsSettled F) slots → i < length slots → s ≡ get_or slots i s → s.verdict ≡ Beyond → ((j : ℕ) → j < i → IsNear F (get_or (blocks_of slots) j [])) → FirstLost F (blocks_of slots) i
lost_slot F slots i s each below is v before =
    let settled = at_slot (IsSettled F) slots i s each below is in
    record {
      below = omega (arith, length-map slots (λ (x : SlotState). x.got));
      lost = ap F.near (block_at slots i s below is) ∙ lost_from_verdict s.got (F.near s.got) (sym settled.verdict ∙ v);
      before = before;
    }

pub all_near : (F : Form) (slots : List SlotState) (c : ℕ) → length slots ≤ c → ((j : ℕ) → j < c → IsNear F (get_or (blocks_of slots) j [])) → All (IsNear F) (blocks_of slots)
all_near F slots c past each k d inside =
    let below : k < c = omega (arith, length-map slots (λ (x : SlotState). x.got)) in
    subst (IsNear F) (sym (get_or_default (blocks_of slots) k d [] inside)) (each k below)

-- ---- the words and the numbers of a group
pub kept_words : (F : Form) (slots : List SlotState) → All (IsSettled F) slots → words_of slots ≡ map (kept F) (blocks_of slots)
kept_words F slots each =
    map_same (λ (s : SlotState). s.word) (λ (s : SlotState). kept F s.got) slots (λ k d h. (each k d h).word)
    ∙ sym (map-map (kept F) (λ (s : SlotState). s.got) slots)

pub writer_small : (F : Form) (s : OutState) (count : ℕ) → IsCode F → count ≤ 64 → s.size ≡ count * F.k → s.width ≡ F.bits → out_bits s ≤ 524288
writer_small F s count code few size width =
    let sound = code.sound 1 false (omega arith) in
    let k : F.k ≤ 1024 = omega (arith, sound.k_within_n, code.n_most) in
    let symbols : count * F.k ≤ 64 * 1024 = mul-le-mul few k in
    let bits : count * F.k * F.bits ≤ 64 * 1024 * 8 = mul-le-mul symbols sound.bits_within_byte in
    let e : s.size * s.width ≡ count * F.k * F.bits = ap₂ (λ a b. a * b) size width in
    omega arith

abbrev pub tally_of : ℕ → ℕ → ℕ → ℕ → Tally
tally_of groups bytes changes lost = record { groups = groups; bytes = bytes; changes = changes; lost = lost }

pub few_group_lines : (n group : ℕ) (slots : List SlotState) → n ≤ 1024 → length slots ≤ 64 → changes_in (slot_lines n group 0 slots) ≤ 65536
few_group_lines n group slots n_few few =
    let most : length slots * n ≤ 64 * 1024 = mul-le-mul few n_few in
    omega (arith, few_changes n group 0 slots)

pub held_after : (F : Form) (s0 s1 s2 : OutState) (slots : List SlotState) → All (IsSettled F) slots → s1 ≡ out_with s0 (bytes_left (s0.released ++ bits_held s0.held)) None → s2 ≡ out_with s1 s1.released (Some (message_bits F (words_of slots))) →
    s2 ≡ out_with s0 (bytes_left (s0.released ++ bits_held s0.held)) (Some (message_bits F (map (kept F) (blocks_of slots))))
held_after F s0 s1 s2 slots each e f =
    f ∙ ap (λ (s : OutState). out_with s s.released (Some (message_bits F (words_of slots)))) e
    ∙ ap (λ ws. out_with s0 (bytes_left (s0.released ++ bits_held s0.held)) (Some (message_bits F ws))) (kept_words F slots each)

pub tally_equal : (tally : Tally) (bytes bytes2 changes changes2 lost lost2 : ℕ) → bytes ≡ bytes2 → changes ≡ changes2 → lost ≡ lost2 →
    tally_of (tally.groups + 1) (tally.bytes + bytes) (tally.changes + changes) (tally.lost + lost) ≡ tally_of (tally.groups + 1) (tally.bytes + bytes2) (tally.changes + changes2) (tally.lost + lost2)
tally_equal tally bytes bytes2 changes changes2 lost lost2 b c l =
    ap₂ (λ x y. tally_of (tally.groups + 1) (tally.bytes + x) (tally.changes + y) (tally.lost + lost)) b c
    ∙ ap (λ z. tally_of (tally.groups + 1) (tally.bytes + bytes2) (tally.changes + changes2) (tally.lost + z)) l

-- ---- none lost, where one would end the run
pub none_more : (when : WhenLost) (a b c : ℕ) → NoneLost when a → NoneLost when b → c ≡ a + b → NoneLost when c
none_more Stop a b c first then e = omega arith
none_more Keep a b c first then e = tt

-- where each block has a near, no line tells of a lost codeword
pub none_lost_in : (F : Form) (group word : ℕ) (ys : List (List ℕ)) → All (IsNear F) ys → lost_in (lines_from F.n F.near group word ys) ≡ 0
none_lost_in F group word [] near = refl
none_lost_in F group word (y ∷ ys) near =
    let here : lost_in (lines_at F.n group word y (F.near y)) ≡ 0 =
    ap (λ o. lost_in (lines_at F.n group word y o)) (All-head (IsNear F) y ys near) ∙ lost_in-changed (place_changes F.n group word y (kept F y)) in
    omega (arith, lost_in-append (lines_at F.n group word y (F.near y)) (lines_from F.n F.near group (word + 1) ys), here, none_lost_in F group (word + 1) ys (All-tail (IsNear F) y ys near))

pub none_where_stopped : (F : Form) (when : WhenLost) (group : ℕ) (ys : List (List ℕ)) → (when ≡ Stop → All (IsNear F) ys) → NoneLost when (lost_in (lines_from F.n F.near group 0 ys))
none_where_stopped F Stop group ys near = none_lost_in F group 0 ys (near refl)
none_where_stopped F Keep group ys near = tt

-- where the first lost codeword ends the run
pub stopped_word : (slots : List SlotState) (when : WhenLost) (r : Option ℕ) → when ≡ Stop → MatchOption r ((F : Form) → All (IsSettled F) slots → All (IsNear F) (blocks_of slots)) (λ word. (F : Form) → All (IsSettled F) slots → FirstLost F (blocks_of slots) word) →
    MatchOption r ((F : Form) → All (IsSettled F) slots → when ≡ Stop → All (IsNear F) (blocks_of slots)) (λ word. (F : Form) → All (IsSettled F) slots → (when ≡ Stop) × FirstLost F (blocks_of slots) word)
stopped_word slots when None is h = λ F each stop. h F each
stopped_word slots when (Some word) is h = λ F each. (is, h F each)
