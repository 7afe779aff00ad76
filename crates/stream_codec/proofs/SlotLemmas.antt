-- Slots that are acted on at the same time, and lists made of them.
use Rattle.std.proofs.Common.{ℕ, ◌+◌, ◌*◌, ◌<◌, ◌≤◌, ◌≡◌, List, [], ◌∷◌, ◌++◌, length, get_or, map, take, flat_map, All, sym, subst, ap, ap₂, ◌∙◌, arith, mul-le-mul_right}
use Rattle.std.proofs.lemmas.List.{get_or-map, length-map, map-append, same_lists, take_more, take_all, append-nil}
use Rattle.std.proofs.lemmas.List.Concat.{flat_map-append}
use Rattle.std.proofs.lemmas.Slice.{take-put_mid}
use borrow.Rule.Slice.PartMut.{put_mid}
use Rattle.ag_pool.specs.Acts.{Acted}
use Rattle.stream_codec.specs.Slots.{SlotState, words_of}

-- where an act does not look at its index, the slots are mapped
pub acted_is : (f : SlotState → SlotState) (old new : List SlotState) → length new ≡ length old → Acted (λ i. f) old new → new ≡ map f old
acted_is f old new long acted =
    same_lists new (map f old) (long ∙ sym (length-map old f)) (λ k d below. acted k d (omega arith) ∙ sym (get_or-map f old k d d (omega arith)))

-- what holds of all slots holds of the one that is read
pub at_slot : (P : SlotState → Type 0) (slots : List SlotState) (i : ℕ) (s : SlotState) → All P slots → i < length slots → s ≡ get_or slots i s → P s
at_slot P slots i s each below is = subst P (sym is) (each i s below)

-- ---- what is made of each word, one after the other
pub words_more : (slots : List SlotState) (i : ℕ) (s : SlotState) → i < length slots → get_or slots i s ≡ s → words_of (take (i + 1) slots) ≡ words_of (take i slots) ++ s.word ∷ []
words_more slots i s below is =
    ap words_of (take_more slots i s below ∙ ap (λ (x : SlotState). take i slots ++ x ∷ []) is) ∙ map-append (λ (x : SlotState). x.word) (take i slots) (s ∷ [])

pub message_step : (f : List ℕ → List ℕ) (msg part : List ℕ) (slots : List SlotState) (s : SlotState) (k c size : ℕ) → c < length slots → get_or slots c s ≡ s → length msg ≡ length slots * k → size ≡ k → length part ≡ k → part ≡ f s.word → take (c * k) msg ≡ flat_map f (words_of (take c slots)) → take ((c + 1) * k) (put_mid (c * k) size msg part) ≡ flat_map f (words_of (take (c + 1) slots))
message_step f msg part slots s k c size below is long size_is plen e so_far =
    let fits : (c + 1) * k ≤ length slots * k = mul-le-mul_right k (let h : c + 1 ≤ length slots = omega arith in h) in
    take-put_mid (c * k) size msg part ((c + 1) * k) (omega arith) (omega arith)
    ∙ ap₂ (λ (a b : List ℕ). a ++ b) so_far (e ∙ sym (append-nil (f s.word)))
    ∙ sym (flat_map-append f (words_of (take c slots)) (s.word ∷ []))
    ∙ ap (flat_map f) (sym (words_more slots c s below is))

pub message_end : (f : List ℕ → List ℕ) (msg : List ℕ) (slots : List SlotState) (k c : ℕ) → length slots ≤ c → length msg ≡ length slots * k → take (c * k) msg ≡ flat_map f (words_of (take c slots)) → msg ≡ flat_map f (words_of slots)
message_end f msg slots k c past long so_far =
    sym (take_all (c * k) msg (let h : length slots * k ≤ c * k = mul-le-mul_right k past in omega arith)) ∙ so_far ∙ ap (λ l. flat_map f (words_of l)) (take_all c slots past)
