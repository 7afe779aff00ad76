-- The steps of the loop over a codeword, as its code takes them
use Rattle.std.proofs.Common.{◌≡◌, ℕ, ◌+◌, ◌-◌, ◌*◌, ◌<◌, ◌≤◌, List, length, get_or, sym, ap, ◌∙◌, subst, arith, bit_xor}
use Rattle.std.proofs.Math.ListN.{set}
use Rattle.rand_pcg.specs.Lcg.{Lcg}
use Rattle.stored_form.specs.Group.{block_at}
use Rattle.stored_form.proofs.GroupLemmas.{length-block_at}
use Rattle.ag_trial.specs.Words.{drawn, after_draw}
use Rattle.ag_trial.proofs.Blocks.{block_at-set, position}
use Rattle.ag_trial.proofs.Steps.{IsDamagedTo, changed_byte, damaged-changed, damaged-same}

module _ (size : ℕ) (F : List ℕ × Lcg) (n depth c p left : ℕ) (group : List ℕ) (g : Lcg) (long : length group ≡ n * depth) (lp : p < n) (lc : c < depth)
    (so : IsDamagedTo size F (block_at n depth group c) p left g) where
  word : List ℕ
  word = block_at n depth group c

  below : p < length word
  unfolding word
  below = let count : length (block_at n depth group c) ≡ n = length-block_at n depth group c in omega arith

  pub write-changed : drawn (n - p) g < left →
      IsDamagedTo size F (block_at n depth (set group (p * depth + c) (bit_xor (get_or group (p * depth + c) 0) (1 + drawn (size - 1) (after_draw g)))) c) (p + 1) (left - 1) (after_draw (after_draw g))
  unfolding word
  write-changed low =
      let count : length (block_at n depth group c) ≡ n = length-block_at n depth group c in
      let m : ℕ = 1 + drawn (size - 1) (after_draw g) in
      let v : ℕ = bit_xor (get_or group (p * depth + c) 0) m in
      let same : set (block_at n depth group c) p (changed_byte size (get_or (block_at n depth group c) p 0) (after_draw g)) ≡ block_at n depth (set group (p * depth + c) v) c =
      ap (λ (x : ℕ). set (block_at n depth group c) p (bit_xor x m)) (position n depth group c p lp) ∙ sym (block_at-set n depth group p c v long lp lc) in
      subst (λ (xs : List ℕ). IsDamagedTo size F xs (p + 1) (left - 1) (after_draw (after_draw g))) same
      (damaged-changed size F (block_at n depth group c) p left g below (subst (λ (k : ℕ). drawn (k - p) g < left) (sym count) low) so)

  pub write-same : left ≤ drawn (n - p) g → IsDamagedTo size F (block_at n depth group c) (p + 1) left (after_draw g)
  unfolding word
  write-same high =
      let count : length (block_at n depth group c) ≡ n = length-block_at n depth group c in
      damaged-same size F (block_at n depth group c) p left g below (subst (λ (k : ℕ). left ≤ drawn (k - p) g) (sym count) high) so
