-- The radius of a sound code is less than the length of its codewords
use Rattle.std.proofs.Common.{ℕ, suc, ◌+◌, ◌<◌, ◌≤◌, ◌≡◌, ◌^◌, Bool, cond, true, false, eqb, List, [], ◌∷◌, length, get_or, replicate, Some, refl, sym, ap, ◌∙◌, arith, inl, inr}
use Rattle.std.proofs.Math.Nat.{pow-le-pow_right}
use Rattle.std.proofs.lemmas.Bool.{cases_lt}
use Rattle.std.proofs.lemmas.List.{get_or-replicate, length-replicate}
use Rattle.std.proofs.lemmas.List.Elements.{All-replicate}
use Rattle.stored_form.specs.Form.{Form, IsSound, IsMessage, message_of, distance}

distance_most : (x y : List ℕ) → distance x y ≤ length x
distance_most [] y = omega arith
distance_most (x ∷ xs) [] = omega arith
distance_most (x ∷ xs) (y ∷ ys) = go (eqb x y) (distance_most xs ys)
  where
    go : (b : Bool) → distance xs ys ≤ length xs → cond b 0 1 + distance xs ys ≤ suc (length xs)
    go true h = omega arith
    go false h = omega arith

same_symbols : (F : Form) (v : ℕ) → v < 2 ^ F.bits → IsMessage F (replicate F.k v)
same_symbols F v l = (length-replicate F.k v, All-replicate (λ s. s < 2 ^ F.bits) F.k v l)

-- no block is near two codewords
pub radius_within : (F : Form) → IsSound F → F.radius < F.n
radius_within F sound = elim (cases_lt F.radius F.n) [
  | inl within ↦ within
  | inr far ↦
      absurd (let two : 2 ^ 1 ≤ 2 ^ F.bits = pow-le-pow_right (omega arith) sound.bits_above_0 in
      let zeros : IsMessage F (replicate F.k 0) = same_symbols F 0 (omega arith) in
      let ones : IsMessage F (replicate F.k 1) = same_symbols F 1 (omega arith) in
      let y : List ℕ = F.word (replicate F.k 0) in
      let long : length (F.word (replicate F.k 0)) ≡ F.n = sound.n_symbols (replicate F.k 0) zeros in
      let first : F.near (F.word (replicate F.k 0)) ≡ Some (F.word (replicate F.k 0)) =
      (sound.near_is (F.word (replicate F.k 0)) (F.word (replicate F.k 0)) long).1 ((replicate F.k 0, zeros, refl), (let d = distance_most (F.word (replicate F.k 0)) (F.word (replicate F.k 0)) in omega arith)) in
      let second : F.near (F.word (replicate F.k 0)) ≡ Some (F.word (replicate F.k 1)) =
      (sound.near_is (F.word (replicate F.k 0)) (F.word (replicate F.k 1)) long).1 ((replicate F.k 1, ones, refl), (let d = distance_most (F.word (replicate F.k 0)) (F.word (replicate F.k 1)) in omega arith)) in
      let words : F.word (replicate F.k 0) ≡ F.word (replicate F.k 1) = cc in
      let same : replicate F.k 0 ≡ replicate F.k 1 =
      sym (sound.message_at_places (replicate F.k 0) zeros) ∙ ap (message_of F) words ∙ sound.message_at_places (replicate F.k 1) ones in
      let symbols : 0 ≡ 1 =
      sym (get_or-replicate F.k 0 0 5 sound.k_above_0) ∙ ap (λ (m : List ℕ). get_or m 0 5) same ∙ get_or-replicate F.k 0 1 5 sound.k_above_0 in
      omega arith)
]
