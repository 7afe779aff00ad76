-- The marks of the members, one after the other
use Rattle.std.proofs.Common.{◌≡◌, ◌<◌, ℕ, ◌+◌, Bool, true, false, cond, List, [], ◌∷◌, ◌++◌, map, length, sym, ◌∙◌, ap, arith, count_by}
use Rattle.std.specs.List.{range_with_len}
use Rattle.std.proofs.lemmas.List.Sums.{sum_by-append}
use Rattle.std.proofs.lemmas.List.FromFn.{map-range_with_len_more, length-map-range_with_len, get_or-map-range_with_len}
use Rattle.order_theory.specs.Basis.{Basis, label, pairs_at}
use Rattle.order_theory.specs.Codes.{marked}
use Rattle.eval_basis.specs.declared.checked.CheckRule.{CheckRule}
use Rattle.eval_basis.specs.Rules.{rule_checks, checked_by}

pub marks_more : (f : ℕ → Bool) (k : ℕ) (mark : Bool) (marks now : List Bool) → marks ≡ map f (range_with_len 0 k) → mark ≡ f k → now ≡ marks ++ mark ∷ [] → now ≡ map f (range_with_len 0 (k + 1))
marks_more f k mark marks now made same is =
    is ∙ ap (λ (m : Bool). marks ++ m ∷ []) same ∙ ap (λ (ms : List Bool). ms ++ f k ∷ []) made ∙ sym (map-range_with_len_more f 0 k k (omega arith))

pub marks_all : (f : ℕ → Bool) (k n : ℕ) (marks : List Bool) → marks ≡ map f (range_with_len 0 k) → k ≡ n → length marks ≡ n
marks_all f k n marks made e = ap length made ∙ length-map-range_with_len f 0 k ∙ e

pub counted_yes : (marks now : List Bool) (mark : Bool) (size : ℕ) → size ≡ count_by (λ m. m) marks → now ≡ marks ++ mark ∷ [] → mark ≡ true → size + 1 ≡ count_by (λ m. m) now
counted_yes marks now mark size e is m =
    let whole : count_by (λ m. m) (marks ++ true ∷ []) ≡ count_by (λ m. m) marks + 1 = sum_by-append (λ (x : Bool). cond x 1 0) marks (true ∷ []) in
    let same : count_by (λ m. m) now ≡ count_by (λ m. m) (marks ++ true ∷ []) = ap (λ (ms : List Bool). count_by (λ m. m) ms) (is ∙ ap (λ (x : Bool). marks ++ x ∷ []) m) in
    omega arith

pub counted_no : (marks now : List Bool) (mark : Bool) (size : ℕ) → size ≡ count_by (λ m. m) marks → now ≡ marks ++ mark ∷ [] → mark ≡ false → size ≡ count_by (λ m. m) now
counted_no marks now mark size e is m =
    let whole : count_by (λ m. m) (marks ++ false ∷ []) ≡ count_by (λ m. m) marks + 0 = sum_by-append (λ (x : Bool). cond x 1 0) marks (false ∷ []) in
    let same : count_by (λ m. m) now ≡ count_by (λ m. m) (marks ++ false ∷ []) = ap (λ (ms : List Bool). count_by (λ m. m) ms) (is ∙ ap (λ (x : Bool). marks ++ x ∷ []) m) in
    omega arith

-- the mark of member k
pub marked-checked_by : (b : Basis) (rule : CheckRule) (k : ℕ) → k < b.n → marked (checked_by b rule) k ≡ rule_checks rule (label b k) (pairs_at b k)
marked-checked_by b rule k l = get_or-map-range_with_len (λ i. rule_checks rule (label b i) (pairs_at b i)) 0 b.n k k false l (omega arith)
