-- The answer of each number of solutions
use Rattle.std.proofs.lemmas.Bool.{cases_lt}
use Rattle.std.proofs.Common.{◌≡◌, ◌≢◌, ℕ, suc, ◌-◌, ◌<◌, ◌≤◌, Bool, List, length, get_or, sym, ◌∙◌, ap, subst, inl, inr, arith}
use Rattle.gf_theory.specs.Field.{gf_mul}
use Rattle.linear_theory.specs.Linear.{SameSpan, IsReduced}
use Rattle.order_theory.specs.Basis.{Basis, times, IsSoundBasis}
use Rattle.block_theory.specs.Marked.{checks_of}
use Rattle.gf_linear.specs.Matrix.{Matrix, entry, IsOver}
use Rattle.gf_linear.specs.Elimination.{IsEchelonOf}
use Rattle.erase_code.specs.declared.solutions.Solutions.{Solutions}
use Rattle.erase_code.specs.declared.solutions.Solutions.TheVariants.{Nothing, One, Many}
use Rattle.erase_code.specs.Filling.{IsOnlyFit, IsLeastDifference, HasNoFit}
use Rattle.erase_code.specs.Equations.{falling, IsKeptPart, AreEquations, IsSolvedBy, IsSolvedIn, IsSolved}
use Rattle.solution_theory.proofs.Solved.{all_pivots}
use Rattle.erase_code.proofs.Splitting.{checks, lost_here}
use Rattle.erase_code.proofs.Filling.{nothing_fits, one_fits, many_fit}

module _ (b : Basis) (marks : List Bool) (sound : IsSoundBasis b) (y : List ℕ) (lost : List Bool) (n_y : length y ≡ b.n) (n_lost : length lost ≡ b.n)
    (bits modulus : ℕ) (eb : bits ≡ b.bits) (em : modulus ≡ b.modulus) (places kept : List ℕ) (are : places ≡ falling lost (length lost)) (keeps : IsKeptPart b.bits (length y) y lost kept)
    (m E : Matrix) (made : AreEquations (checks_of b marks) places kept m) (ech : IsEchelonOf bits modulus m E) where
  here : places ≡ falling lost b.n
  here = are ∙ ap (falling lost) n_lost

  part : IsKeptPart b.bits b.n y lost kept
  part = subst (λ (n : ℕ). IsKeptPart b.bits n y lost kept) n_y keeps

  eqs : AreEquations (checks_of b marks) (falling lost b.n) kept m
  eqs = subst (λ (ps : List ℕ). AreEquations (checks_of b marks) ps kept m) here made

  over : IsOver b.bits E
  over = subst (λ (z : ℕ). IsOver z E) eb ech.over

  reduced : IsReduced (suc (lost_here lost b.n)) (entry E) (checks b marks) ech.count
  reduced = subst (λ (n : ℕ). IsReduced n (entry E) (checks b marks) ech.count) eqs.cols (subst (λ (r : ℕ). IsReduced m.cols (entry E) r ech.count) eqs.rows ech.reduced)

  span : SameSpan (times b) (suc (lost_here lost b.n)) (entry m) (checks b marks) (entry E) (checks b marks)
  span =
      subst (λ (n : ℕ). SameSpan (times b) n (entry m) (checks b marks) (entry E) (checks b marks)) eqs.cols
      (subst (λ (r : ℕ). SameSpan (times b) m.cols (entry m) r (entry E) r) eqs.rows
      (subst (λ (z : ℕ). SameSpan (gf_mul b.bits z) m.cols (entry m) (length m.rows) (entry E) (length m.rows)) em
      (subst (λ (z : ℕ). SameSpan (gf_mul z modulus) m.cols (entry m) (length m.rows) (entry E) (length m.rows)) eb ech.span)))

  solved : (s : Solutions) → IsSolved E s → IsSolvedBy (lost_here lost b.n) ech.count reduced.pivots s
  solved s h =
      let sized : IsSolvedIn (suc (lost_here lost b.n)) (checks b marks) E s =
      subst (λ (n : ℕ). IsSolvedIn n (checks b marks) E s) (ech.same_cols ∙ eqs.cols) (subst (λ (r : ℕ). IsSolvedIn E.cols r E s) (ech.same_rows ∙ eqs.rows) h) in
      subst (λ (w : ℕ). IsSolvedBy w ech.count reduced.pivots s) (let e : suc (lost_here lost b.n) - 1 ≡ lost_here lost b.n = omega arith in e) (sized ech.count reduced)

  pub says_nothing : IsSolved E Nothing → HasNoFit (checks_of b marks) y lost
  says_nothing h = nothing_fits b marks sound y lost kept part m eqs E over ech.count reduced span (solved Nothing h)

  pub says_many : (column : ℕ) → IsSolved E (Many column) → (column < length places) × IsLeastDifference (checks_of b marks) y lost (get_or places column 0)
  says_many column h =
      let (none, within, free, all) = solved (Many column) h in (
        subst (λ (ps : List ℕ). column < length ps) (sym here) within,
        subst (λ (ps : List ℕ). IsLeastDifference (checks_of b marks) y lost (get_or ps column 0)) (sym here) (many_fit b marks sound y lost kept part m eqs E over ech.count reduced span column none within free all),
      )

  -- there are as many rows as lost places
  pub says_high : IsSolved E One → length places ≤ length E.rows
  says_high h =
      let (none, all) = solved One h in
      let rows : length E.rows ≡ checks b marks = ech.same_rows ∙ eqs.rows in
      let few : ech.count ≤ checks b marks = reduced.few in
      let wide : length places ≡ lost_here lost b.n = ap (λ (v : List ℕ). length v) here in
      elim (cases_lt 0 (lost_here lost b.n)) [
        | inl a ↦ (let w = (all_pivots ech.count reduced.pivots reduced.rising (lost_here lost b.n) all (lost_here lost b.n - 1) (omega arith)).0 in omega arith)
        | inr a ↦ omega arith
      ]

  -- ps and ks stand for the places and what is kept
  pub says_one :
      (out ps ks : List ℕ) → ps ≡ places → ks ≡ kept → IsSolved E One → length out ≡ length ks → ((t : ℕ) → t < length ps → get_or out (get_or ps t 0) 0 ≡ entry E t (length ps))
      → ((p : ℕ) → p < length ks → ((t : ℕ) → t < length ps → get_or ps t 0 ≢ p) → get_or out p 0 ≡ get_or ks p 0) → IsOnlyFit (checks_of b marks) y lost out
  says_one out ps ks ep ek h long at others =
      let (none, all) = solved One h in
      let same : ps ≡ falling lost b.n = ep ∙ here in
      let wide : length ks ≡ b.n = ap (λ (v : List ℕ). length v) ek ∙ part.long in
      one_fits b marks sound y lost kept part m eqs E over ech.count reduced span out none all (long ∙ wide)
      (subst (λ (v : List ℕ). (t : ℕ) → t < length v → get_or out (get_or v t 0) 0 ≡ entry E t (length v)) same at)
      (λ p l apart. others p (omega arith) (subst (λ (v : List ℕ). (t : ℕ) → t < length v → get_or v t 0 ≢ p) (sym same) apart) ∙ ap (λ (v : List ℕ). get_or v p 0) ek)
