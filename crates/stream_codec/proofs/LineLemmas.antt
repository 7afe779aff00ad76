-- The lines of a group codeword by codeword.
use Rattle.std.proofs.Common.{ℕ, ◌+◌, ◌*◌, ◌<◌, ◌≤◌, ◌≡◌, ◌%◌, ◌^◌, List, [], ◌∷◌, ◌++◌, length, map, take, drop, get_or, All, Option, Some, None, unwrap_or, refl, sym, ap, ap₂, ◌∙◌, arith, append_assoc}
use Rattle.std.proofs.lemmas.List.{append-nil, take_more, take-append-drop, length-take-le}
use Rattle.std.proofs.lemmas.List.Concat.{flat_map-append}
use Rattle.std.proofs.lemmas.List.Elements.{All-head, All-tail}
use Rattle.stored_form.specs.Form.{Form}
use Rattle.stored_form.specs.Reading.{Change}
use Rattle.stored_form.specs.Salvage.{Line, Changed, lost_in, changes_in}
use Rattle.stored_form.proofs.SalvageLemmas.{lost_in-append, changes_in-append, lost_in-changed, changes_in-changed}
use Rattle.coded_block.specs.Codes.{verdict_by}
use Rattle.coded_block.specs.declared.Verdict.{Verdict}
use Rattle.coded_block.specs.declared.Verdict.TheVariants.{Near, Beyond}
use Rattle.stream_codec.specs.Slots.{SlotState, IsSettled, blocks_of}
use Rattle.stream_codec.specs.Report.{change_line, line_text, lines_of, text_of}
use Rattle.stream_codec.specs.GroupLines.{place_changes, lines_at, lines_from, told_by, slot_lines}
use Rattle.stream_codec.proofs.ReportLemmas.{few_place_changes}

-- ---- the text of lines
pub text_of-append : (xs ys : List Line) → text_of (xs ++ ys) ≡ text_of xs ++ text_of ys
text_of-append xs ys = flat_map-append line_text xs ys

pub text_of-changed : (cs : List Change) → text_of (map Changed cs) ≡ lines_of cs
text_of-changed [] = refl
text_of-changed (c ∷ cs) = ap (λ l. change_line c ++ l) (text_of-changed cs)

-- ---- the lines of a slot
pub few_told : (n group word : ℕ) (got codeword : List ℕ) (v : Verdict) → changes_in (told_by n group word got codeword v) ≤ n
few_told n group word got codeword (Near k) = omega (arith, changes_in-changed (place_changes n group word got codeword), few_place_changes n group word got codeword)
few_told n group word got codeword Beyond = omega arith

pub few_lost : (n group word : ℕ) (got codeword : List ℕ) (v : Verdict) → lost_in (told_by n group word got codeword v) ≤ 1
few_lost n group word got codeword (Near k) = omega (arith, lost_in-changed (place_changes n group word got codeword))
few_lost n group word got codeword Beyond = omega arith

pub told_near : (group word k : ℕ) (s : SlotState) (got codeword : List ℕ) → got ≡ s.got → codeword ≡ s.word → s.verdict ≡ Near k → told_by (length s.got) group word s.got s.word s.verdict ≡ map Changed (place_changes (length got) group word got codeword)
told_near group word k s got codeword got_is word_is near =
    ap (λ (v : Verdict). told_by (length s.got) group word s.got s.word v) near
    ∙ ap₂ (λ (a b : List ℕ). map Changed (place_changes (length a) group word a b)) (sym got_is) (sym word_is)

settled_by : (n group word : ℕ) (got low : List ℕ) (o : Option (List ℕ)) → told_by n group word got (unwrap_or o low) (verdict_by got o) ≡ lines_at n group word got o
settled_by n group word got low None = refl
settled_by n group word got low (Some c) = refl

settled_at : (F : Form) (n group word : ℕ) (s : SlotState) → n ≡ F.n → IsSettled F s → told_by n group word s.got s.word s.verdict ≡ lines_at F.n group word s.got (F.near s.got)
settled_at F n group word s is settled =
    ap (λ m. told_by m group word s.got s.word s.verdict) is
    ∙ ap₂ (λ (w : List ℕ) (v : Verdict). told_by F.n group word s.got w v) settled.word settled.verdict
    ∙ settled_by F.n group word s.got (map (λ b. b % 2 ^ F.bits) s.got) (F.near s.got)

pub settled_lines : (F : Form) (n group word : ℕ) (slots : List SlotState) → n ≡ F.n → All (IsSettled F) slots → slot_lines n group word slots ≡ lines_from F.n F.near group word (blocks_of slots)
settled_lines F n group word [] is each = refl
settled_lines F n group word (s ∷ slots) is each =
    ap₂ (λ a b. a ++ b) (settled_at F n group word s is (All-head (IsSettled F) s slots each)) (settled_lines F n group (word + 1) slots is (All-tail (IsSettled F) s slots each))

-- ---- the lines of slots
pub slot_lines-append : (n group word : ℕ) (xs ys : List SlotState) → slot_lines n group word (xs ++ ys) ≡ slot_lines n group word xs ++ slot_lines n group (word + length xs) ys
slot_lines-append n group word [] ys = ap (λ w. slot_lines n group w ys) (let e : word ≡ word + 0 = omega arith in e)
slot_lines-append n group word (s ∷ xs) ys =
    let count : word + 1 + length xs ≡ word + length (s ∷ xs) = omega arith in
    let first = told_by n group word s.got s.word s.verdict in
    ap (λ l. first ++ l) (slot_lines-append n group (word + 1) xs ys ∙ ap (λ w. slot_lines n group (word + 1) xs ++ slot_lines n group w ys) count)
    ∙ sym (append_assoc first (slot_lines n group (word + 1) xs) (slot_lines n group (word + length (s ∷ xs)) ys))

pub few_changes : (n group word : ℕ) (slots : List SlotState) → changes_in (slot_lines n group word slots) ≤ length slots * n
few_changes n group word [] = omega arith
few_changes n group word (s ∷ slots) = omega (arith, changes_in-append (told_by n group word s.got s.word s.verdict) (slot_lines n group (word + 1) slots), few_told n group word s.got s.word s.verdict, few_changes n group (word + 1) slots)

pub few_lost_slots : (n group word : ℕ) (slots : List SlotState) → lost_in (slot_lines n group word slots) ≤ length slots
few_lost_slots n group word [] = omega arith
few_lost_slots n group word (s ∷ slots) = omega (arith, lost_in-append (told_by n group word s.got s.word s.verdict) (slot_lines n group (word + 1) slots), few_lost n group word s.got s.word s.verdict, few_lost_slots n group (word + 1) slots)

-- one more slot: the lines so far, and those of all slots
pub record LineStep (n group i : ℕ) (slots : List SlotState) (s : SlotState) : Type 0 where
  pub lines : text_of (slot_lines n group 0 (take (i + 1) slots)) ≡ text_of (slot_lines n group 0 (take i slots)) ++ text_of (told_by n group i s.got s.word s.verdict)
  pub rest : List ℕ
  pub all : text_of (slot_lines n group 0 slots) ≡ text_of (slot_lines n group 0 (take (i + 1) slots)) ++ rest
  pub changes : changes_in (slot_lines n group 0 (take (i + 1) slots)) ≡ changes_in (slot_lines n group 0 (take i slots)) + changes_in (told_by n group i s.got s.word s.verdict)
  pub lost : lost_in (slot_lines n group 0 (take (i + 1) slots)) ≡ lost_in (slot_lines n group 0 (take i slots)) + lost_in (told_by n group i s.got s.word s.verdict)
  pub few : changes_in (slot_lines n group 0 (take i slots)) ≤ i * n
  pub few_lost : lost_in (slot_lines n group 0 (take i slots)) ≤ i

pub line_step : (n group i : ℕ) (slots : List SlotState) (s : SlotState) → i < length slots → get_or slots i s ≡ s → LineStep n group i slots s
line_step n group i slots s below is =
    let first = take i slots in
    let told = told_by n group i s.got s.word s.verdict in
    let one_more : take (i + 1) slots ≡ first ++ s ∷ [] = take_more slots i s below ∙ ap (λ (x : SlotState). first ++ x ∷ []) is in
    let count : length first ≡ i = length-take-le i slots (omega arith) in
    let more : slot_lines n group 0 (take (i + 1) slots) ≡ slot_lines n group 0 first ++ told =
    ap (λ (l : List SlotState). slot_lines n group 0 l) one_more
    ∙ slot_lines-append n group 0 first (s ∷ [])
    ∙ ap (λ (l : List Line). slot_lines n group 0 first ++ l) (append-nil (told_by n group (0 + length first) s.got s.word s.verdict) ∙ ap (λ (w : ℕ). told_by n group w s.got s.word s.verdict) (let e : 0 + length first ≡ i = omega arith in e)) in
    let front = take (i + 1) slots in
    let back = drop (i + 1) slots in
    let later = slot_lines n group (0 + length front) back in
    let split : slot_lines n group 0 slots ≡ slot_lines n group 0 front ++ later =
    ap (λ (l : List SlotState). slot_lines n group 0 l) (sym (take-append-drop (i + 1) slots)) ∙ slot_lines-append n group 0 front back in
    record {
      lines = ap text_of more ∙ text_of-append (slot_lines n group 0 first) told;
      rest = text_of later;
      all = ap text_of split ∙ text_of-append (slot_lines n group 0 front) later;
      changes = ap changes_in more ∙ changes_in-append (slot_lines n group 0 first) told;
      lost = ap lost_in more ∙ lost_in-append (slot_lines n group 0 first) told;
      few = let h = few_changes n group 0 first in subst_few count h;
      few_lost = let h = few_lost_slots n group 0 first in omega arith;
    }
  where
    subst_few : length (take i slots) ≡ i → changes_in (slot_lines n group 0 (take i slots)) ≤ length (take i slots) * n → changes_in (slot_lines n group 0 (take i slots)) ≤ i * n
    subst_few e h = rw e at h
