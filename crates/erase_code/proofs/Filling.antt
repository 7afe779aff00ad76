-- The lists that fit, by the reduced form of the equations of the lost symbols
use Rattle.std.proofs.lemmas.Bool.{cases_Bool, cases_eq, cases_lt}
use Rattle.std.proofs.lemmas.List.Elements.{All-from_get_or}
use Rattle.std.proofs.lemmas.List.FromFn.{length-map-range_with_len, get_or-map-range_with_len}
use Rattle.std.proofs.Common.{◌≡◌, ◌≢◌, ℕ, suc, ◌+◌, ◌<◌, ◌≤◌, ◌^◌, Bool, true, false, List, length, map, get_or, sym, ◌∙◌, ap, subst, inl, inr, arith, bit_xor, ext_get_or}
use Rattle.std.specs.List.{range_with_len}
use Rattle.std.specs.Int.Bits.{xor_self}
use Rattle.field_theory.proofs.Sums.{sum-same, xor_below, xor_cancel}
use Rattle.linear_theory.specs.Linear.{SameSpan, IsReduced, IsSolution}
use Rattle.order_theory.specs.Basis.{Basis, times, IsSoundBasis}
use Rattle.order_theory.proofs.Shape.{word_below}
use Rattle.block_theory.specs.Marked.{checks_of}
use Rattle.gf_linear.specs.Matrix.{Matrix, entry, IsOver}
use Rattle.gf_linear.proofs.Forms.{symbols_at}
use Rattle.erase_code.specs.Filling.{is_lost, Fits, IsOnlyFit, IsLeastDifference, HasNoFit}
use Rattle.solution_theory.specs.Solutions.{HasSolutionAt}
use Rattle.solution_theory.specs.Solutions.{HasPivot}
use Rattle.erase_code.specs.Equations.{falling, IsKeptPart, AreEquations}
use Rattle.erase_code.proofs.Places.{falling-below, falling-lost, falling-found, falling-falls, laid, laid-at, laid-other}
use Rattle.solution_theory.proofs.Solved.{solution_plus, no_solution, same_past, chosen, chosen_below, chosen_solves, right_sides_solve, another}
use Rattle.erase_code.proofs.Splitting.{checks, lost_here, at_lost, fit_solves, solves_fit}

-- a kept position is none of the lost ones
pub kept_apart : (lost : List Bool) (n p : ℕ) → is_lost lost p ≡ false → (t : ℕ) → t < lost_here lost n → get_or (falling lost n) t 0 ≢ p
kept_apart lost n p e t l same = let a : is_lost lost p ≡ true = ap (is_lost lost) (sym same) ∙ falling-lost lost n t l in absurd (cc)

module _ (b : Basis) (marks : List Bool) (sound : IsSoundBasis b) (y : List ℕ) (lost : List Bool) (kept : List ℕ) (part : IsKeptPart b.bits b.n y lost kept)
    (m : Matrix) (eqs : AreEquations (checks_of b marks) (falling lost b.n) kept m) where
  fit_below : (x : List ℕ) → Fits (checks_of b marks) y lost x → (j : ℕ) → j < lost_here lost b.n → at_lost lost b.n x j < 2 ^ b.bits
  fit_below x h j l = word_below h.in_code.is_word (get_or (falling lost b.n) j 0)

  -- two lists that fit and are the same at some lost place
  fits_same : (x z : List ℕ) → Fits (checks_of b marks) y lost x → Fits (checks_of b marks) y lost z → (p : ℕ) → p < b.n → ((t : ℕ) → t < lost_here lost b.n → get_or (falling lost b.n) t 0 ≡ p → at_lost lost b.n x t ≡ at_lost lost b.n z t)
      → get_or x p 0 ≡ get_or z p 0
  fits_same x z hx hz p l same = elim (cases_Bool (is_lost lost p)) [
    | inl e ↦ (let (t, lt, at) = falling-found lost b.n p l e in
        ap (λ q. get_or x q 0) (sym at) ∙ same t lt at ∙ ap (λ q. get_or z q 0) at)
    | inr e ↦ hx.kept p l e ∙ sym (hz.kept p l e)
  ]

  -- a list that has symbols from a solution at the lost places, and the kept part elsewhere
  word_fits : (x : List ℕ) (s : ℕ → ℕ) → length x ≡ b.n → ((j : ℕ) → j < lost_here lost b.n → s j < 2 ^ b.bits) → ((j : ℕ) → j < lost_here lost b.n → at_lost lost b.n x j ≡ s j)
      → ((p : ℕ) → p < b.n → is_lost lost p ≡ false → get_or x p 0 ≡ get_or kept p 0) → IsSolution (times b) (lost_here lost b.n) (entry m) (checks b marks) (at_lost lost b.n x) → Fits (checks_of b marks) y lost x
  word_fits x s long low at same solves =
      solves_fit b marks sound y lost kept part m eqs x
      (record {
        n_long = long;
        symbols = All-from_get_or (λ a. a < 2 ^ b.bits) x 0 (λ p l. elim (cases_Bool (is_lost lost p)) [
          | inl e ↦ (let (t, lt, is) = falling-found lost b.n p (omega arith) e in
              subst (λ (a : ℕ). a < 2 ^ b.bits) (sym (ap (λ q. get_or x q 0) (sym is) ∙ at t lt)) (low t lt))
          | inr e ↦ subst (λ (a : ℕ). a < 2 ^ b.bits) (sym (same p (omega arith) e)) (symbols_at b.bits kept part.symbols p)
        ]);
      })
      same solves

  laid_word : (ℕ → ℕ) → List ℕ
  laid_word s = map (laid (falling lost b.n) s (λ p. get_or kept p 0)) (range_with_len 0 b.n)

  laid_place : (s : ℕ → ℕ) (p : ℕ) → p < b.n → get_or (laid_word s) p 0 ≡ laid (falling lost b.n) s (λ q. get_or kept q 0) p
  unfolding laid_word
  laid_place s p l = get_or-map-range_with_len (laid (falling lost b.n) s (λ q. get_or kept q 0)) 0 b.n p p 0 l (let e : 0 + p ≡ p = omega arith in e)

  laid_long : (s : ℕ → ℕ) → length (laid_word s) ≡ b.n
  unfolding laid_word
  laid_long s = length-map-range_with_len (laid (falling lost b.n) s (λ q. get_or kept q 0)) 0 b.n

  laid_lost : (s : ℕ → ℕ) (j : ℕ) → j < lost_here lost b.n → at_lost lost b.n (laid_word s) j ≡ s j
  laid_lost s j l = laid_place s (get_or (falling lost b.n) j 0) (falling-below lost b.n j l) ∙ laid-at (falling lost b.n) s (λ q. get_or kept q 0) (falling-falls lost b.n) j l

  laid_kept : (s : ℕ → ℕ) (p : ℕ) → p < b.n → is_lost lost p ≡ false → get_or (laid_word s) p 0 ≡ get_or kept p 0
  laid_kept s p l e = laid_place s p l ∙ laid-other (falling lost b.n) s (λ q. get_or kept q 0) p (kept_apart lost b.n p e)

  solution_same : (x s : ℕ → ℕ) → ((j : ℕ) → j < lost_here lost b.n → x j ≡ s j) → IsSolution (times b) (lost_here lost b.n) (entry m) (checks b marks) s → IsSolution (times b) (lost_here lost b.n) (entry m) (checks b marks) x
  solution_same x s e h = record {
    solves = λ i l. sum-same (lost_here lost b.n) (λ p. times b (entry m i p) (x p)) (λ p. times b (entry m i p) (s p)) (λ p lp. ap (λ a. times b (entry m i p) a) (e p lp)) ∙ h.solves i l;
  }

  laid_fits : (s : ℕ → ℕ) → ((j : ℕ) → j < lost_here lost b.n → s j < 2 ^ b.bits) → IsSolution (times b) (lost_here lost b.n) (entry m) (checks b marks) s → Fits (checks_of b marks) y lost (laid_word s)
  laid_fits s low h = word_fits (laid_word s) s (laid_long s) low (laid_lost s) (laid_kept s) (solution_same (at_lost lost b.n (laid_word s)) s (laid_lost s) h)

  module _ (E : Matrix) (over : IsOver b.bits E) (k : ℕ) (h : IsReduced (suc (lost_here lost b.n)) (entry E) (checks b marks) k)
      (span : SameSpan (times b) (suc (lost_here lost b.n)) (entry m) (checks b marks) (entry E) (checks b marks)) where
    pub nothing_fits : HasPivot h.pivots k (lost_here lost b.n) → HasNoFit (checks_of b marks) y lost
    nothing_fits has = record {
      none = λ x fit. no_solution (2 ^ b.bits) (times b) sound.sound.field (lost_here lost b.n) (checks b marks) (entry m) (entry E) eqs.over.below over.below k h span has (at_lost lost b.n x)
          (fit_solves b marks sound y lost kept part m eqs x fit);
    }

    same_at : (start : ℕ) → ((j : ℕ) → start ≤ j → j < lost_here lost b.n → HasPivot h.pivots k j) → (x z : List ℕ) → Fits (checks_of b marks) y lost x → Fits (checks_of b marks) y lost z
        → (t : ℕ) → start ≤ t → t < lost_here lost b.n → at_lost lost b.n x t ≡ at_lost lost b.n z t
    same_at start all x z hx hz t a l =
        same_past (2 ^ b.bits) (times b) sound.sound.field (lost_here lost b.n) (checks b marks) (entry m) (entry E) eqs.over.below over.below k h span start all (at_lost lost b.n x) (at_lost lost b.n z)
        (fit_below x hx) (fit_below z hz) (fit_solves b marks sound y lost kept part m eqs x hx) (fit_solves b marks sound y lost kept part m eqs z hz) t a l

    pub one_fits : (out : List ℕ) → (HasPivot h.pivots k (lost_here lost b.n) → ⊥) → ((j : ℕ) → j < lost_here lost b.n → HasPivot h.pivots k j) → length out ≡ b.n
        → ((t : ℕ) → t < lost_here lost b.n → at_lost lost b.n out t ≡ entry E t (lost_here lost b.n))
        → ((p : ℕ) → p < b.n → ((t : ℕ) → t < lost_here lost b.n → get_or (falling lost b.n) t 0 ≢ p) → get_or out p 0 ≡ get_or kept p 0) → IsOnlyFit (checks_of b marks) y lost out
    one_fits out none all long at others =
        let fit : Fits (checks_of b marks) y lost out =
        word_fits out (λ j. entry E j (lost_here lost b.n)) long (λ j l. over.below j (lost_here lost b.n)) at (λ p l e. others p l (kept_apart lost b.n p e))
        (right_sides_solve (2 ^ b.bits) (times b) sound.sound.field (lost_here lost b.n) (checks b marks) (entry m) (entry E) eqs.over.below over.below k h span none all (at_lost lost b.n out) at) in
        record {
          fits = fit;
          no_other = λ z hz. ext_get_or 0 z out (hz.in_code.is_word.n_long ∙ sym long)
              (λ p l. (let zl : length z ≡ b.n = hz.in_code.is_word.n_long in
              fits_same z out hz fit p (omega arith) (λ t lt e. same_at 0 (λ j a lj. all j lj) z out hz fit t (omega arith) lt)));
        }

    pub many_fit : (column : ℕ) → (HasPivot h.pivots k (lost_here lost b.n) → ⊥) → column < lost_here lost b.n → (HasPivot h.pivots k column → ⊥) → ((j : ℕ) → column < j → j < lost_here lost b.n → HasPivot h.pivots k j)
        → IsLeastDifference (checks_of b marks) y lost (get_or (falling lost b.n) column 0)
    many_fit column none within free all =
        let s : ℕ → ℕ = chosen (2 ^ b.bits) (times b) sound.sound.field (lost_here lost b.n) (checks b marks) (entry m) (entry E) eqs.over.below over.below k h span in
        let solves : IsSolution (times b) (lost_here lost b.n) (entry m) (checks b marks) s =
        chosen_solves (2 ^ b.bits) (times b) sound.sound.field (lost_here lost b.n) (checks b marks) (entry m) (entry E) eqs.over.below over.below k h span none in
        let low : (j : ℕ) → s j < 2 ^ b.bits =
        chosen_below (2 ^ b.bits) (times b) sound.sound.field (lost_here lost b.n) (checks b marks) (entry m) (entry E) eqs.over.below over.below k h span in
        let w : HasSolutionAt (2 ^ b.bits) (times b) (lost_here lost b.n) (entry m) (checks b marks) column =
        another (2 ^ b.bits) (times b) sound.sound.field (lost_here lost b.n) (checks b marks) (entry m) (entry E) eqs.over.below over.below k h span column within free in
        let z : ℕ → ℕ = λ j. bit_xor (s j) (w.solution j) in
        record {
          one = laid_word s;
          other = laid_word z;
          one_fits = laid_fits s (λ j l. low j) solves;
          other_fits = laid_fits z (λ j l. xor_below (2 ^ b.bits) (times b) sound.sound.field (s j) (w.solution j) (low j) (w.solves.symbols j l))
              (solution_plus (2 ^ b.bits) (times b) sound.sound.field (lost_here lost b.n) (checks b marks) (entry m) s w.solution solves w.solves);
          differ = λ e. (let same : s column ≡ bit_xor (s column) 1 = sym (laid_lost s column within) ∙ e ∙ laid_lost z column within ∙ ap (λ a. bit_xor (s column) a) w.one in
              let zero : 1 ≡ 0 = sym (xor_cancel (s column) 1) ∙ ap (λ a. bit_xor (s column) a) (sym same) ∙ xor_self (s column) in
              omega arith);
          same_before = λ x v hx hv p l. (let place : get_or (falling lost b.n) column 0 < b.n = falling-below lost b.n column within in
              fits_same x v hx hv p (omega arith)
              (λ t lt e. same_at (suc column) all x v hx hv t (later p l t lt e) lt));
        }
      where
        later : (p : ℕ) → p < get_or (falling lost b.n) column 0 → (t : ℕ) → t < lost_here lost b.n → get_or (falling lost b.n) t 0 ≡ p → suc column ≤ t
        later p l t lt e = elim (cases_eq t column) [
          | inl d ↦ (let same : get_or (falling lost b.n) t 0 ≡ get_or (falling lost b.n) column 0 = ap (λ q. get_or (falling lost b.n) q 0) d in absurd (omega arith))
          | inr d ↦ elim (cases_lt t column) [
            | inl a ↦ (let up : get_or (falling lost b.n) column 0 < get_or (falling lost b.n) t 0 = falling-falls lost b.n t column a within in absurd (omega arith))
            | inr a ↦ omega arith
          ]
        ]
