-- Bytes out of bits.
use Rattle.std.proofs.Common.{ℕ, ◌+◌, ◌*◌, ◌/◌, ◌<◌, ◌≤◌, ◌≡◌, Bool, List, [], ◌∷◌, ◌++◌, length, map, take, drop, set, sym, ap, ap₂, ◌∙◌, arith, length-drop, drop-drop}
use Rattle.std.proofs.lemmas.List.{take_more_set, map-append}
use Rattle.ag_frame.specs.Queues.{OutState}
use Rattle.stored_form.specs.Bits.{number_of, pieces}
use Rattle.stored_form.proofs.Lists.{pieces_more}

pub bytes_step : (out : List ℕ) (released now : List Bool) (count byte : ℕ) → count < length out → now ≡ drop (count * 8) released → byte ≡ number_of (take 8 now) → take count out ≡ map number_of (pieces 8 count released) → take (count + 1) (set out count byte) ≡ map number_of (pieces 8 (count + 1) released)
bytes_step out released now count byte below left value so_far =
    take_more_set out count byte below
    ∙ ap₂ (λ front v. front ++ v ∷ []) so_far (value ∙ ap (λ l. number_of (take 8 l)) left)
    ∙ sym (map-append number_of (pieces 8 count released) (take 8 (drop (count * 8) released) ∷ []))
    ∙ ap (map number_of) (sym (pieces_more 8 count released))

pub left_step : (released now after : List Bool) (count : ℕ) → now ≡ drop (count * 8) released → after ≡ drop 8 now → after ≡ drop ((count + 1) * 8) released
left_step released now after count left e = e ∙ ap (drop 8) left ∙ drop-drop 8 (count * 8) released ∙ ap (λ n. drop n released) (let h : count * 8 + 8 ≡ (count + 1) * 8 = omega arith in h)

-- the bits that are released
abbrev pub with_released : OutState → List Bool → OutState
with_released s released = record s { released = released }

pub all_bytes : (released now : List Bool) (count : ℕ) → now ≡ drop (count * 8) released → count * 8 ≤ length released → length now < 8 → count ≡ length released / 8
all_bytes released now count left fits few = omega (arith, ap length left, length-drop (count * 8) released)

pub out_step : (s0 s1 s2 : OutState) (count : ℕ) → s1 ≡ with_released s0 (drop (count * 8) s0.released) → s2 ≡ with_released s1 (drop 8 s1.released) → s2 ≡ with_released s0 (drop ((count + 1) * 8) s0.released)
out_step s0 s1 s2 count e f =
    f ∙ ap (λ (s : OutState). with_released s (drop 8 s.released)) e
    ∙ ap (with_released s0) (drop-drop 8 (count * 8) s0.released ∙ ap (λ n. drop n s0.released) (let h : count * 8 + 8 ≡ (count + 1) * 8 = omega arith in h))
