-- A write to the byte at position p of codeword c of a group
use Rattle.std.proofs.Common.{◌≡◌, ◌≢◌, ℕ, ◌+◌, ◌*◌, ◌%◌, ◌<◌, List, [], length, get_or, sym, ap, ◌∙◌, inl, inr, arith, zero-add}
use Rattle.std.proofs.Math.ListN.{set}
use Rattle.std.proofs.Math.Nat.{eq_of_mul-eq-mul_left}
use Rattle.std.proofs.lemmas.Bool.{cases_eq}
use Rattle.std.proofs.lemmas.List.{get_or-set_same, get_or-set_other, length-set}
use Rattle.std.proofs.lemmas.List.FromFn.{fill_by_all, get_or-map-range_with_len}
use Rattle.std.proofs.lemmas.Nat.{mul-add-lt, mod-mul-add}
use Rattle.stored_form.specs.Group.{block_at, gather}
use Rattle.stored_form.proofs.GroupLemmas.{length-gather, length-block_at}

-- places of one codeword, and of two
same_position : (depth p q c : ℕ) → c < depth → p * depth + c ≡ q * depth + c → p ≡ q
same_position depth p q c l e = eq_of_mul-eq-mul_left depth (omega arith) p q (omega arith)

same_word : (depth p q c k : ℕ) → c < depth → k < depth → p * depth + c ≡ q * depth + k → c ≡ k
same_word depth p q c k lc lk e = sym (mod-mul-add p depth c lc) ∙ ap (λ n. n % depth) e ∙ mod-mul-add q depth k lk

pub place_below : (n depth p c : ℕ) → p < n → c < depth → p * depth + c < n * depth
place_below n depth p c lp lc = let h = mul-add-lt p depth c n lp lc in omega arith

pub position : (n depth : ℕ) (group : List ℕ) (c p : ℕ) → p < n → get_or (block_at n depth group c) p 0 ≡ get_or group (p * depth + c) 0
position n depth group c p l = get_or-map-range_with_len (λ q. get_or group (q * depth + c) 0) 0 n p p 0 l (zero-add p)

pub block_at-set : (n depth : ℕ) (group : List ℕ) (p c v : ℕ) → length group ≡ n * depth → p < n → c < depth →
    block_at n depth (set group (p * depth + c) v) c ≡ set (block_at n depth group c) p v
block_at-set n depth group p c v long lp lc =
    let below : p * depth + c < length group = omega (arith, place_below n depth p c lp lc) in
    let count : length (block_at n depth group c) ≡ n = length-block_at n depth group c in
    sym (fill_by_all (λ q. get_or (set group (p * depth + c) v) (q * depth + c) 0) (set (block_at n depth group c) p v) n 0
    (length-set (block_at n depth group c) p v ∙ count)
    (λ q lq. elim (cases_eq q p) [
      | inl e ↦
          ap (λ k. get_or (set (block_at n depth group c) p v) k 0) e
          ∙ get_or-set_same (block_at n depth group c) p v 0 (omega arith)
          ∙ sym (get_or-set_same group (p * depth + c) v 0 below)
          ∙ ap (λ k. get_or (set group (p * depth + c) v) (k * depth + c) 0) (sym e)
      | inr other ↦
          get_or-set_other (block_at n depth group c) p q v 0 other
          ∙ position n depth group c q lq
          ∙ sym (get_or-set_other group (p * depth + c) (q * depth + c) v 0 (λ e. other (same_position depth q p c lc e)))
    ]))

pub block_at-set_other : (n depth : ℕ) (group : List ℕ) (p c v k : ℕ) → c < depth → k < depth → k ≢ c →
    block_at n depth (set group (p * depth + c) v) k ≡ block_at n depth group k
block_at-set_other n depth group p c v k lc lk other =
    sym (fill_by_all (λ q. get_or (set group (p * depth + c) v) (q * depth + k) 0) (block_at n depth group k) n 0
    (length-block_at n depth group k)
    (λ q lq. position n depth group k q lq
    ∙ sym (get_or-set_other group (p * depth + c) (q * depth + k) v 0 (λ e. other (same_word depth q p k c lk lc e)))))

-- codeword c of a group, as one of all codewords
pub word_at : (n depth : ℕ) (group : List ℕ) (c : ℕ) (d : List ℕ) → c < depth → get_or (gather n depth group) c d ≡ block_at n depth group c
word_at n depth group c d l = get_or-map-range_with_len (block_at n depth group) 0 depth c c d l (zero-add c)

-- another codeword c, and the others as before
pub gather-set : (n depth c : ℕ) (old new : List ℕ) (word : List ℕ) → c < depth → block_at n depth new c ≡ word →
    ((k : ℕ) → k < depth → k ≢ c → block_at n depth new k ≡ block_at n depth old k) → gather n depth new ≡ set (gather n depth old) c word
gather-set n depth c old new word lc here others =
    let count : length (gather n depth old) ≡ depth = length-gather n depth old in
    sym (fill_by_all (block_at n depth new) (set (gather n depth old) c word) depth []
    (length-set (gather n depth old) c word ∙ count)
    (λ k lk. elim (cases_eq k c) [
      | inl e ↦
          ap (λ j. get_or (set (gather n depth old) c word) j []) e
          ∙ get_or-set_same (gather n depth old) c word [] (omega arith)
          ∙ sym here ∙ ap (block_at n depth new) (sym e)
      | inr other ↦
          get_or-set_other (gather n depth old) c k word [] other
          ∙ word_at n depth old k [] lk
          ∙ sym (others k lk other)
    ]))
