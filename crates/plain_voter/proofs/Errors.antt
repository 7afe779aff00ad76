-- What the voter answers
use Rattle.std.proofs.Common.{ℕ, ◌≡◌, ◌+◌, ◌*◌, ◌≤◌, Bool, List, ◌++◌, length, take, drop, sym, ◌∙◌, ap, subst}
use Rattle.std.proofs.Math.Seq.{take-append_seam}
use Rattle.order_theory.specs.Basis.{Basis, IsSoundBasis, IsWord, times}
use Rattle.order_theory.specs.Codes.{IsBound}
use Rattle.order_theory.specs.Course.{IsErrorOf}
use Rattle.order_theory.specs.Errors.{weight}
use Rattle.order_theory.proofs.Errors.{error_from}
use Rattle.plain_voter.specs.declared.line.PlainLine.{PlainLine}
use Rattle.plain_voter.specs.declared.plain.PlainFind.{PlainFind}
use Rattle.plain_voter.specs.Finds.{IsFind}
use Rattle.plain_voter.specs.Lines.{Recovers, lines_below}

-- a list of which all was written over
pub written_back : {A : Type 0} (n : ℕ) (xs olds : List A) → length xs ≡ n → take n (xs ++ drop (length xs) olds) ≡ xs
written_back n xs olds e = subst (λ (k : ℕ). take k (xs ++ drop (length xs) olds) ≡ xs) e (take-append_seam xs (drop (length xs) olds))

module _ (b : Basis) (marks : List Bool) (t : ℕ) (y w : List ℕ) (lines : List PlainLine) (h : IsSoundBasis b) (yw : IsWord b.bits b.n y) (found : Recovers b marks y w lines) (bound : IsBound b marks (2 * t + 1)) where
  error_found : weight w ≤ t → IsErrorOf (times b) b marks t y w
  error_found light = error_from b marks t y h yw w found.word light found.kept

  -- it is the only one
  error_only : (e : List ℕ) → IsErrorOf (times b) b marks t y e → e ≡ w
  error_only e x = sym (found.error t e bound x)

  pub find_is : (find : PlainFind) → find.err.items ≡ w → find.lines.items ≡ lines → weight w ≤ t → IsFind b marks t y find
  find_is find e f light = record {
    is_error = subst (λ (xs : List ℕ). IsErrorOf (times b) b marks t y xs) (sym e) (error_found light);
    only = λ e' x. error_only e' x ∙ sym e;
    votes = f ∙ found.told t w bound (error_found light) ∙ ap (λ (xs : List ℕ). lines_below b marks xs b.n) (sym e);
  }
