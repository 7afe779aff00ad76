-- The vote on all members, as far as member k
use Rattle.std.proofs.Common.{ℕ, ◌≡◌, ◌+◌, ◌*◌, ◌<◌, Bool, true, false, List, [], ◌∷◌, ◌++◌, sym, ◌∙◌, ap, subst, refl, arith, add-one}
use Rattle.std.proofs.lemmas.Bool.{both_ways, cond-true, cond-false}
use Rattle.std.proofs.lemmas.List.{append-nil}
use Rattle.order_theory.specs.Basis.{Basis, IsSoundBasis, IsWord, times}
use Rattle.order_theory.specs.Codes.{IsBound, marked}
use Rattle.order_theory.specs.Course.{IsErrorOf, IsOnCourse}
use Rattle.order_theory.specs.Errors.{syndrome}
use Rattle.order_theory.proofs.Theorems.{found_law}
use Rattle.plain_voter.specs.declared.line.PlainLine.{PlainLine}
use Rattle.plain_voter.specs.Lines.{IsTurn, Recovers, line_of, lines_below}
use Rattle.plain_voter.proofs.Steps.{moved_keeps, course_marked, course_turned, line_turned}

lines_same : (b : Basis) (marks : List Bool) (e : List ℕ) (k : ℕ) → marked marks k ≡ true → lines_below b marks e (k + 1) ≡ lines_below b marks e k
lines_same b marks e k m =
    ap (λ (j : ℕ). lines_below b marks e j) (add-one k)
    ∙ ap (λ (ls : List PlainLine). lines_below b marks e k ++ ls) (cond-true (marked marks k) [] (line_of b e k ∷ []) m)
    ∙ append-nil (lines_below b marks e k)

lines_more : (b : Basis) (marks : List Bool) (e : List ℕ) (k : ℕ) → marked marks k ≡ false → lines_below b marks e (k + 1) ≡ lines_below b marks e k ++ line_of b e k ∷ []
lines_more b marks e k m =
    ap (λ (j : ℕ). lines_below b marks e j) (add-one k)
    ∙ ap (λ (ls : List PlainLine). lines_below b marks e k ++ ls) (cond-false (marked marks k) [] (line_of b e k ∷ []) m)

-- Of y, which was received, w has the syndromes of the marked members, and below k those of each error; the lines are those
-- of the error
pub record IsUnderway (b : Basis) (marks : List Bool) (y w : List ℕ) (lines : List PlainLine) (k : ℕ) : Type 0 where
  pub word : IsWord b.bits b.n w
  pub kept : (m : ℕ) → m < b.n → marked marks m ≡ true → syndrome (times b) b w m ≡ syndrome (times b) b y m
  pub course : (t : ℕ) → IsBound b marks (2 * t + 1) → IsOnCourse (times b) b marks t y w k
  pub told : (t : ℕ) (e : List ℕ) → IsBound b marks (2 * t + 1) → IsErrorOf (times b) b marks t y e → lines ≡ lines_below b marks e k

pub underway_none : (b : Basis) (marks : List Bool) (y : List ℕ) (lines : List PlainLine) → IsWord b.bits b.n y → lines ≡ [] → IsUnderway b marks y y lines 0
underway_none b marks y lines yw e = record {
  word = yw;
  kept = λ m l u. refl;
  course = λ t bound. record { each = λ e x. record { each = λ m l. absurd (omega arith) } };
  told = λ t e' bound x. e;
}

module _ (b : Basis) (marks : List Bool) (y w : List ℕ) (lines : List PlainLine) (k : ℕ) (h : IsSoundBasis b) (yw : IsWord b.bits b.n y) (u : IsUnderway b marks y w lines k) where
  pub underway_marked : k < b.n → marked marks k ≡ true → IsUnderway b marks y w lines (k + 1)
  underway_marked lk m = record {
    word = u.word;
    kept = u.kept;
    course = λ t bound. course_marked b marks t y w k h yw lk m (u.kept k lk m) (u.course t bound);
    told = λ t e bound x. u.told t e bound x ∙ sym (lines_same b marks e k m);
  }

  pub underway_turned : (w' : List ℕ) (lines' : List PlainLine) (line : PlainLine) → k < b.n → marked marks k ≡ false → IsTurn b w k w' line → IsWord b.bits b.n w' → lines' ≡ lines ++ line ∷ [] → IsUnderway b marks y w' lines' (k + 1)
  underway_turned w' lines' line lk free turn ww is = record {
    word = ww;
    kept = λ m lm t. moved_keeps b w w' k turn.winner h lk turn.elected.symbol turn.moved m lm (λ e. both_ways (marked marks k) free (ap (λ (q : ℕ). marked marks q) (sym e) ∙ t)) ∙ u.kept m lm t;
    course = λ t bound. course_turned b marks t y w w' k line h u.word lk turn bound free (u.course t bound);
    told = λ t e bound x.
        is
        ∙ ap (λ (ls : List PlainLine). ls ++ line ∷ []) (u.told t e bound x)
        ∙ ap (λ (l : PlainLine). lines_below b marks e k ++ l ∷ []) (line_turned b marks t y w w' k line h u.word lk turn bound free (u.course t bound) e x)
        ∙ sym (lines_more b marks e k free);
  }

  pub underway_all : k ≡ b.n → Recovers b marks y w lines
  underway_all f = record {
    word = u.word;
    kept = u.kept;
    error = λ t e bound x. found_law (times b) b marks t y w e h.sound u.word (subst (λ (q : ℕ). IsOnCourse (times b) b marks t y w q) f (u.course t bound)) x;
    told = λ t e bound x. u.told t e bound x ∙ ap (λ (j : ℕ). lines_below b marks e j) f;
  }
