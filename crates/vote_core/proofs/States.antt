-- What the fields of a voter hold
use Rattle.std.proofs.Common.{ℕ, ◌≡◌, ◌+◌, ◌%◌, ◌^◌, ◌<◌, ◌≤◌, Bool, false, List, [], ◌∷◌, ◌++◌, length, take, drop, ◌*◌, sym, ◌∙◌, ap, subst, arith, add-one}
use Rattle.std.proofs.Math.Seq.{take-suc, take-append_seam}
use Rattle.std.proofs.Math.Nat.{mod-eq_of_lt}
use Rattle.std.proofs.lemmas.List.{length-take-le}
use Rattle.std.proofs.lemmas.Nat.{pow_below}
use Rattle.order_theory.specs.Codes.{marked}

-- one more mark is copied
pub copied_more : (marks now checked : List Bool) (k : ℕ) (mark : Bool) → marks ≡ take k checked → mark ≡ marked checked k → now ≡ marks ++ mark ∷ [] → k < length checked → now ≡ take (k + 1) checked
copied_more marks now checked k mark so_far same is l =
    is ∙ ap (λ (m : Bool). marks ++ m ∷ []) same ∙ ap (λ (ms : List Bool). ms ++ marked checked k ∷ []) so_far
    ∙ sym (ap (λ (j : ℕ). take j checked) (add-one k) ∙ take-suc checked k false l)

pub copied_length : (marks checked : List Bool) (k n : ℕ) → marks ≡ take k checked → length checked ≡ n → k ≡ n → length marks ≡ n
copied_length marks checked k n is long e = ap length is ∙ length-take-le k checked (omega arith) ∙ e

-- a list of which all was written over
pub written_back : {A : Type 0} (n : ℕ) (xs olds : List A) → length xs ≡ n → take n (xs ++ drop (length xs) olds) ≡ xs
written_back n xs olds e = subst (λ (k : ℕ). take k (xs ++ drop (length xs) olds) ≡ xs) e (take-append_seam xs (drop (length xs) olds))

-- the number of the symbols
pub symbols_fit : (bits b : ℕ) → bits ≡ b → b ≤ 8 → 1 * 2 ^ bits % 18446744073709551616 ≡ 2 ^ b
symbols_fit bits b e l =
    let few : 2 ^ b < 2 ^ 64 = pow_below b 64 (omega arith) in
    let is : 1 * 2 ^ bits ≡ 2 ^ b = ap (λ (x : ℕ). 1 * 2 ^ x) e ∙ one_times (2 ^ b) in
    ap (λ (x : ℕ). x % 18446744073709551616) is ∙ mod-eq_of_lt few
  where
    one_times : (x : ℕ) → 1 * x ≡ x
    one_times x = omega arith
