-- What encoding the low bits of a block again takes and gives
use Rattle.std.proofs.Common.{◌≡◌, ℕ, ◌<◌, ◌^◌, ◌↔◌, List, length, map, get_or, slice_index, sym, ◌∙◌, ap, subst, arith}
use Rattle.std.specs.Prelude.{Contains}
use Rattle.std.proofs.lemmas.List.{get_or-map, get_or_default, length-map}
use Rattle.order_theory.specs.Basis.{IsWord, times}
use Rattle.order_theory.specs.Codes.{IsCodeword, low_bits}
use Rattle.order_theory.proofs.Errors.{low_word}
use Rattle.order_theory.proofs.Shape.{word_below}
use Rattle.block_theory.specs.Checks.{message_places, IsMessagePlace, IsWordOf}
use Rattle.block_theory.proofs.FromBasis.{code_is}
use Rattle.block_code.specs.Compiled.{Compiled, checks_in, IsMade}

-- the symbols of a word at some places
taken_word : (bits n : ℕ) (word places : List ℕ) → IsWord bits n word → IsWord bits (length places) (map (slice_index word) places)
taken_word bits n word places h = record {
  n_long = length-map places (slice_index word);
  symbols = λ p d l. (let low : p < length places = omega (arith, length-map places (slice_index word)) in
      subst (λ (x : ℕ). x < 2 ^ bits) (sym (get_or-map (slice_index word) places p 0 d low)) (word_below h (get_or places p 0)));
}

module _ (c : Compiled) (h : IsMade c) (got : List ℕ) (long : length got ≡ c.basis.n) (bits : ℕ) (low : List ℕ) (is : low ≡ low_bits bits got) (e : bits ≡ c.basis.bits) where
  pub low_is_word : IsWord c.basis.bits c.basis.n low
  low_is_word = subst (λ (xs : List ℕ). IsWord c.basis.bits c.basis.n xs) (sym (is ∙ ap (λ (m : ℕ). low_bits m got) e)) (low_word c.basis.bits c.basis.n got long)

  -- each message place is a position
  pub place_inside : (places : List ℕ) → places ≡ message_places (checks_in c) → ((p : ℕ) → Contains places p ↔ IsMessagePlace (checks_in c) p)
      → (i : ℕ) → i < length places → slice_index places i < length low
  place_inside places same exactly i l =
      let inside : slice_index places i < c.basis.n = ((exactly (slice_index places i)).0 (i, l, get_or_default places i (slice_index places i) 0 l)).position in
      subst (λ (n : ℕ). slice_index places i < n) (sym low_is_word.n_long) inside

  -- the symbols there are a message
  pub message_is : (places msg : List ℕ) → places ≡ message_places (checks_in c) → msg ≡ map (slice_index low) places → IsWord c.basis.bits (length (message_places (checks_in c))) msg
  message_is places msg same taken =
      subst (λ (xs : List ℕ). IsWord c.basis.bits (length (message_places (checks_in c))) xs) (sym taken)
      (subst (λ (ps : List ℕ). IsWord c.basis.bits (length ps) (map (slice_index low) places)) same (taken_word c.basis.bits c.basis.n low places low_is_word))

-- the word of a message is a codeword
pub codeword_of : (c : Compiled) → IsMade c → (msg word : List ℕ) → IsWordOf (checks_in c) msg word → IsCodeword (times c.basis) c.basis c.marks word
codeword_of c h msg word is = (code_is c.basis c.marks h.sound h.n_marks word).0 is.in_code
