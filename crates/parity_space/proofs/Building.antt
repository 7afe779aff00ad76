-- What is built of a basis and its marks is a `Parity` of their checks.
use Rattle.std.proofs.Common.{◌≡◌, ℕ, ◌+◌, ◌-◌, ◌<◌, ◌≤◌, Bool, List, length, drop, get_or, sym, ◌∙◌, ap, subst}
use Rattle.gf_theory.specs.Field.{IsModulus}
use Rattle.order_theory.specs.Basis.{Basis, IsWord, IsSoundBasis}
use Rattle.gf_linear.specs.Matrix.{Matrix, row, IsOver}
use Rattle.gf_linear.specs.Elimination.{IsEchelonOf}
use Rattle.block_theory.specs.Checks.{ParityChecks}
use Rattle.block_theory.specs.Marked.{chosen, checks_of}
use Rattle.parity_space.specs.Forms.{IsMirrorOf, HasPivots, free_places, IsUnitWord}
use Rattle.parity_space.specs.Prepared.{IsPrepared}
use Rattle.parity_space.specs.declared.Parity.TheInside.{Inside}
use Rattle.parity_space.proofs.Reductions.{over_of_words, mirror_over}
use Rattle.parity_space.proofs.Preparations.{prepared}

pub mirror_symbols : (bits n fb : ℕ) → fb ≡ bits → (vectors mirror : Matrix) → ((i : ℕ) → i < length vectors.rows → IsWord bits n (row vectors i)) → IsMirrorOf vectors mirror → IsOver fb mirror
mirror_symbols bits n fb e vectors mirror words is_mirror =
    subst (λ (k : ℕ). IsOver k mirror) (sym e) (mirror_over n vectors mirror (λ i l. (words i l).n_long) is_mirror bits (over_of_words bits n vectors words))

pub checks_are :
    (b : Basis) (marks : List Bool) (bits modulus n : ℕ) (rows : List (List ℕ)) → bits ≡ b.bits → modulus ≡ b.modulus → n ≡ b.n → rows ≡ chosen marks b.vectors
    → (let c : ParityChecks = record { bits = bits; modulus = modulus; n = n; vectors = rows } in c ≡ checks_of b marks)
checks_are b marks bits modulus n rows same_bits same_modulus same_n same_rows = cc

module _ (b : Basis) (sound : IsSoundBasis b) (fb fm : ℕ) (same_bits : fb ≡ b.bits) (same_modulus : fm ≡ b.modulus)
    (vectors mirror e : Matrix) (cols : vectors.cols ≡ b.n) (words : (i : ℕ) → i < length vectors.rows → IsWord b.bits b.n (row vectors i))
    (is_mirror : IsMirrorOf vectors mirror) (reduced : IsEchelonOf fb fm mirror e) (pivots : List ℕ) (found : HasPivots e pivots) where
  echelon : IsEchelonOf b.bits b.modulus mirror e
  echelon = subst (λ (k : ℕ). IsEchelonOf b.bits k mirror e) same_modulus (subst (λ (k : ℕ). IsEchelonOf k fm mirror e) same_bits reduced)

  positions : e.cols ≡ b.n
  positions = reduced.same_cols ∙ is_mirror.cols ∙ cols

  module _ (s : Inside) (bits : s.bits ≡ b.bits) (modulus : s.modulus ≡ b.modulus) (n : s.n ≡ b.n) (stored : s.vectors ≡ vectors) (places : s.places.items ≡ free_places e.cols pivots)
      (first_within : s.first ≤ e.cols) (first_below : (t : ℕ) → t < length pivots → s.first ≤ e.cols - 1 - get_or pivots t 0) (tail_rows : length s.tails.rows ≡ length s.places.items)
      (tail_width : s.first + s.tails.cols ≡ e.cols) (tails : (i : ℕ) → i < length s.places.items → (word : List ℕ) × IsUnitWord e pivots e.cols (get_or s.places.items i 0) word × (row s.tails i ≡ drop s.first word)) where
    width : e.cols ≡ s.n
    width = positions ∙ sym n

    pub built : IsPrepared s
    built =
        prepared s
        (subst (λ (k : ℕ). IsModulus s.bits k) (sym modulus) (subst (λ (k : ℕ). IsModulus k b.modulus) (sym bits) sound.modulus))
        (subst (λ (v : Matrix). (i : ℕ) → i < length v.rows → IsWord s.bits s.n (row v i)) (sym stored)
        (λ i l. subst (λ (k : ℕ). IsWord s.bits k (row vectors i)) (sym n) (subst (λ (k : ℕ). IsWord k b.n (row vectors i)) (sym bits) (words i l))))
        (ap (λ v. v.cols) stored ∙ cols ∙ sym n)
        mirror e pivots
        (subst (λ (v : Matrix). IsMirrorOf v mirror) (sym stored) is_mirror)
        (subst (λ (k : ℕ). IsEchelonOf s.bits k mirror e) (sym modulus) (subst (λ (k : ℕ). IsEchelonOf k b.modulus mirror e) (sym bits) echelon))
        found
        (places ∙ ap (λ (k : ℕ). free_places k pivots) width)
        (subst (λ (k : ℕ). s.first ≤ k) width first_within)
        (subst (λ (k : ℕ). (t : ℕ) → t < length pivots → s.first ≤ k - 1 - get_or pivots t 0) width first_below)
        tail_rows
        (tail_width ∙ width)
        (subst (λ (k : ℕ). (i : ℕ) → i < length s.places.items → (word : List ℕ) × IsUnitWord e pivots k (get_or s.places.items i 0) word × (row s.tails i ≡ drop s.first word)) width tails)
