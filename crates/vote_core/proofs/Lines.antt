-- The lines of the ledger, one after the other
use Rattle.std.proofs.Common.{ℕ, ◌≡◌, zero, suc, ◌+◌, ◌*◌, ◌<◌, ◌≤◌, Bool, true, false, List, [], ◌∷◌, ◌++◌, length, take, set, All, sym, ◌∙◌, ap, subst, refl, arith, add-one}
use Rattle.std.specs.Prelude.{if◌then◌else◌}
use Rattle.std.proofs.lemmas.Bool.{cond-true, cond-false}
use Rattle.std.proofs.lemmas.List.{take_more_set, append-nil}
use Rattle.std.proofs.lemmas.List.Elements.{All-append}
use Rattle.order_theory.specs.Basis.{Basis, IsSoundBasis, IsWord, times, label, pairs_at}
use Rattle.order_theory.specs.Errors.{weight, right_at, wrong_at}
use Rattle.order_theory.specs.Codes.{IsBound, marked}
use Rattle.order_theory.specs.Laws.{VotesOfNone}
use Rattle.order_theory.proofs.Errors.{weight_of_zeros}
use Rattle.order_theory.proofs.Theorems.{majority_law, no_error_law}
use Rattle.vote_core.specs.declared.ledger.VoteLine.{VoteLine}
use Rattle.vote_core.specs.Ledgers.{line_of, lines_below}

-- a line by its parts
pub line_is : (line : VoteLine) (a c d f : ℕ) → line.label ≡ a → line.pairs ≡ c → line.right ≡ d → line.wrong ≡ f → line ≡ record { label = a; pairs = c; right = d; wrong = f }
line_is line a c d f e1 e2 e3 e4 =
    ap (λ (x : ℕ). record { label = x; pairs = line.pairs; right = line.right; wrong = line.wrong }) e1
    ∙ ap (λ (x : ℕ). record { label = a; pairs = x; right = line.right; wrong = line.wrong }) e2
    ∙ ap (λ (x : ℕ). record { label = a; pairs = c; right = x; wrong = line.wrong }) e3
    ∙ ap (λ (x : ℕ). record { label = a; pairs = c; right = d; wrong = x }) e4

pub lines_same : (b : Basis) (marks : List Bool) (e : List ℕ) (k : ℕ) → marked marks k ≡ true → lines_below b marks e (k + 1) ≡ lines_below b marks e k
lines_same b marks e k m =
    ap (λ (j : ℕ). lines_below b marks e j) (add-one k)
    ∙ ap (λ (ls : List VoteLine). lines_below b marks e k ++ ls) (cond-true (marked marks k) [] (line_of b e k ∷ []) m)
    ∙ append-nil (lines_below b marks e k)

pub lines_more : (b : Basis) (marks : List Bool) (e : List ℕ) (k : ℕ) → marked marks k ≡ false → lines_below b marks e (k + 1) ≡ lines_below b marks e k ++ line_of b e k ∷ []
lines_more b marks e k m =
    ap (λ (j : ℕ). lines_below b marks e j) (add-one k)
    ∙ ap (λ (ls : List VoteLine). lines_below b marks e k ++ ls) (cond-false (marked marks k) [] (line_of b e k ∷ []) m)

-- one more line is written
pub written_more : (b : Basis) (marks : List Bool) (e : List ℕ) (k told : ℕ) (lines : List VoteLine) (line : VoteLine) → marked marks k ≡ false → told < length lines → line ≡ line_of b e k
    → take told lines ≡ lines_below b marks e k → take (told + 1) (set lines told line) ≡ lines_below b marks e (k + 1)
written_more b marks e k told lines line m l is so_far =
    take_more_set lines told line l
    ∙ ap (λ (ls : List VoteLine). ls ++ line ∷ []) so_far
    ∙ ap (λ (x : VoteLine). lines_below b marks e k ++ x ∷ []) is
    ∙ sym (lines_more b marks e k m)

-- on each line the right candidates are more than the wrong ones
pub lines_won : (b : Basis) (marks : List Bool) (t : ℕ) (e : List ℕ) (k : ℕ) → IsSoundBasis b → IsWord b.bits b.n e → IsBound b marks (2 * t + 1) → weight e ≤ t → k ≤ b.n → All (λ line. line.wrong < line.right) (lines_below b marks e k)
lines_won b marks t e zero h ew bound light l = λ p d u. absurd (omega arith)
lines_won b marks t e (suc k) h ew bound light l = go (lines_won b marks t e k h ew bound light (omega arith)) (marked marks k) refl
  where
    one : wrong_at (times b) b e k < right_at (times b) b e k → All (λ line. line.wrong < line.right) (line_of b e k ∷ [])
    one won zero d u = won
    one won (suc p) d u = absurd (omega arith)

    go : All (λ line. line.wrong < line.right) (lines_below b marks e k) → (m : Bool) → marked marks k ≡ m → All (λ line. line.wrong < line.right) (lines_below b marks e k ++ (if m then [] else (line_of b e k ∷ [])))
    go rest true m = subst (λ (ls : List VoteLine). All (λ line. line.wrong < line.right) ls) (sym (append-nil (lines_below b marks e k))) rest
    go rest false m =
        let few : 2 * t + 1 ≤ pairs_at b k = bound.at_most k (omega arith) m in
        let won : wrong_at (times b) b e k < right_at (times b) b e k = (majority_law (times b) b e k h.sound ew (omega arith)).right_wins (omega arith) in
        All-append (λ line. line.wrong < line.right) (lines_below b marks e k) (line_of b e k ∷ []) rest (one won)

-- where there is no error, each pair is a right candidate
pub line_of_none : (b : Basis) (e : List ℕ) (k : ℕ) (label' pairs' : ℕ) → IsSoundBasis b → IsWord b.bits b.n e → All (λ x. x ≡ 0) e → k < b.n → label' ≡ label b k → pairs' ≡ pairs_at b k
    → record { label = label'; pairs = pairs'; right = pairs'; wrong = 0 } ≡ line_of b e k
line_of_none b e k label' pairs' h ew zeros lk e1 e2 =
    let none : VotesOfNone (times b) b e k = no_error_law (times b) b e k h.sound ew (weight_of_zeros e zeros) lk in
    line_is (record { label = label'; pairs = pairs'; right = pairs'; wrong = 0 }) (label b k) (pairs_at b k) (right_at (times b) b e k) (wrong_at (times b) b e k) e1 e2 (e2 ∙ sym none.right_ones) (sym none.wrong_ones)
