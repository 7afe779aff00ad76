-- With fewer lost positions than the order bound, at most one codeword fits
use Rattle.std.proofs.lemmas.Bool.{cases_Bool, cases_eq, cond-true, cond-false, eq-eqb, ne_eqb}
use Rattle.std.proofs.Common.{◌≡◌, ◌≢◌, ℕ, zero, suc, ◌+◌, ◌<◌, ◌≤◌, ◌^◌, Bool, true, false, cond, eqb, List, length, get_or, sym, ◌∙◌, ap, inl, inr, arith, bit_xor, ext_get_or}
use Rattle.std.specs.Int.Bits.{xor_self}
use Rattle.field_theory.specs.Sums.{count_below}
use Rattle.field_theory.proofs.Sums.{xor_same, xor_below}
use Rattle.field_theory.proofs.Counts.{count_below-yes}
use Rattle.linear_theory.specs.Linear.{dot, weight}
use Rattle.linear_theory.proofs.Duals.{dot_comm}
use Rattle.linear_theory.proofs.Functionals.{dot_xor}
use Rattle.order_theory.specs.Basis.{Basis, vector, times, pairs_at, IsSoundBasis}
use Rattle.order_theory.specs.Codes.{marked, IsBound, IsCodeword}
use Rattle.order_theory.proofs.Shape.{word_below}
use Rattle.order_theory.proofs.Known.{syn}
use Rattle.order_theory.proofs.Distances.{heavy}
use Rattle.block_theory.specs.Marked.{checks_of}
use Rattle.block_theory.proofs.FromBasis.{code_is}
use Rattle.erase_code.specs.Filling.{is_lost, lost_count, Fits}
use Rattle.erase_code.proofs.Places.{lost_count_is}

-- a list that is 0 where a test fails is no heavier than the numbers that pass it
weight-le-count : (n : ℕ) (e : ℕ → ℕ) (p : ℕ → Bool) → ((q : ℕ) → q < n → p q ≡ false → e q ≡ 0) → weight n e ≤ count_below n p
weight-le-count zero e p z = omega arith
weight-le-count (suc n) e p z =
    let ih : weight n e ≤ count_below n p = weight-le-count n e p (λ q l f. z q (omega arith) f) in
    elim (cases_Bool (p n)) [
      | inl t ↦ (let more : count_below (suc n) p ≡ count_below n p + 1 = count_below-yes n p t in let at : cond {A = ℕ} (eqb (e n) 0) 0 1 ≤ 1 = at_most (e n) in omega arith)
      | inr f ↦ (let none : cond {A = ℕ} (eqb (e n) 0) 0 1 ≡ 0 = cond-true (eqb (e n) 0) 0 1 (eq-eqb (e n) 0 (z n (omega arith) f)) in omega arith)
    ]
  where
    at_most : (x : ℕ) → cond {A = ℕ} (eqb x 0) 0 1 ≤ 1
    at_most x = elim (cases_eq x 0) [ inl d ↦ omega (arith, cond-true {A = ℕ} (eqb x 0) 0 1 (eq-eqb x 0 d)) | inr d ↦ omega (arith, cond-false {A = ℕ} (eqb x 0) 0 1 (ne_eqb x 0 d)) ]

pub agree :
    (b : Basis) (marks : List Bool) (d : ℕ) (y : List ℕ) (lost : List Bool) (x z : List ℕ) → IsSoundBasis b → length marks ≡ b.n → IsBound b marks d → length lost ≡ b.n → lost_count lost < d
    → Fits (checks_of b marks) y lost x → Fits (checks_of b marks) y lost z → x ≡ z
agree b marks d y lost x z sound n_marks bound n_lost few hx hz =
    ext_get_or 0 x z (hx.in_code.is_word.n_long ∙ sym hz.in_code.is_word.n_long) (λ p l. (let long : length x ≡ b.n = hx.in_code.is_word.n_long in same p (omega arith)))
  where
    diff : ℕ → ℕ
    diff p = bit_xor (get_or x p 0) (get_or z p 0)

    at_kept : (q : ℕ) → q < b.n → is_lost lost q ≡ false → diff q ≡ 0
    at_kept q l f = ap (λ (a : ℕ). bit_xor a (get_or z q 0)) (hx.kept q l f ∙ sym (hz.kept q l f)) ∙ xor_self (get_or z q 0)

    light : weight b.n diff ≤ lost_count lost
    light =
        let w : weight b.n diff ≤ count_below b.n (is_lost lost) = weight-le-count b.n diff (is_lost lost) at_kept in
        let same_count : lost_count lost ≡ count_below b.n (is_lost lost) = lost_count_is lost ∙ ap (λ (n : ℕ). count_below n (is_lost lost)) n_lost in
        omega arith

    code_x : IsCodeword (times b) b marks x
    code_x = (code_is b marks sound n_marks x).0 hx.in_code

    code_z : IsCodeword (times b) b marks z
    code_z = (code_is b marks sound n_marks z).0 hz.in_code

    no_syndrome : (k : ℕ) → k < b.n → marked marks k ≡ true → dot (times b) b.n diff (vector b k) ≡ 0
    no_syndrome k l e =
        dot_comm (2 ^ b.bits) (times b) sound.sound.field b.n diff (vector b k)
        ∙ dot_xor (2 ^ b.bits) (times b) sound.sound.field b.n (vector b k) (λ p. get_or x p 0) (λ p. get_or z p 0)
        ∙ ap (λ (a : ℕ). bit_xor a (dot (times b) b.n (vector b k) (λ p. get_or z p 0))) (dot_comm (2 ^ b.bits) (times b) sound.sound.field b.n (vector b k) (λ p. get_or x p 0) ∙ code_x.orthogonal k l e)
        ∙ ap (λ (a : ℕ). bit_xor 0 a) (dot_comm (2 ^ b.bits) (times b) sound.sound.field b.n (vector b k) (λ p. get_or z p 0) ∙ code_z.orthogonal k l e)

    same : (p : ℕ) → p < b.n → get_or x p 0 ≡ get_or z p 0
    same p l = elim (cases_eq (diff p) 0) [
      | inl e ↦ xor_same (get_or x p 0) (get_or z p 0) e
      | inr ne ↦
          let f : (k : ℕ) × (k < b.n) × (syn (times b) b sound.sound diff k ≢ 0) × (pairs_at b k ≤ weight b.n diff) =
          heavy (times b) b sound.sound diff (λ q. xor_below (2 ^ b.bits) (times b) sound.sound.field (get_or x q 0) (get_or z q 0) (word_below hx.in_code.is_word q) (word_below hz.in_code.is_word q)) p l ne in
          elim (cases_Bool (marked marks f.0)) [
            | inl e ↦ absurd (f.2 (no_syndrome f.0 f.1 e))
            | inr e ↦ (let least : d ≤ pairs_at b f.0 = bound.at_most f.0 f.1 e in
                let some : pairs_at b f.0 ≤ weight b.n diff = f.3 in
                let w : weight b.n diff ≤ lost_count lost = light in
                absurd (omega arith))
          ]
    ]
