-- The numbers of a list of options
use Rattle.std.proofs.lemmas.List.{length-map, map-set, get_or-map}
use Rattle.std.proofs.lemmas.List.Elements.{All-get_or, All-set, All-replicate}
use Rattle.std.specs.Option.{is_some}
use Rattle.std.specs.Prelude.{IsTrue}
use Rattle.std.proofs.Common.{◌↔◌, ◌≤◌, Bool, true, false, not, ◌≡◌, ℕ, zero, suc, ◌∷◌, subst, ◌<◌, List, length, get_or, sym, ◌∙◌, ap, refl, arith}
use Rattle.std.proofs.Math.ListN.{set}
use Rattle.std.specs.Prelude.{slice_index, replicate, Option, Some, None, unwrap_or, All, IfSome, map}
use Rattle.vote_matrix.specs.Slots.{slots, IsSlot}

pub length-slots : (n : ℕ) (xs : List (Option ℕ)) → length (slots n xs) ≡ length xs
unfolding slots
length-slots n xs = length-map xs (λ o. unwrap_or o n)

pub slots-set : (n : ℕ) (xs : List (Option ℕ)) (i : ℕ) (o : Option ℕ) → slots n (set xs i o) ≡ set (slots n xs) i (unwrap_or o n)
unfolding slots
slots-set n xs i o = map-set (λ o. unwrap_or o n) xs i o

slots-replicate : (n m : ℕ) → slots n (replicate m None) ≡ replicate m n
unfolding slots
slots-replicate n zero = refl
slots-replicate n (suc m) = ap (λ (xs : List ℕ). n ∷ xs) (slots-replicate n m)

-- a list of options that are all none
pub slots_none : (n m : ℕ) (xs : List (Option ℕ)) → xs ≡ replicate m None → slots n xs ≡ replicate m n
slots_none n m xs e = ap (λ (os : List (Option ℕ)). slots n os) e ∙ slots-replicate n m

slot_of : (n : ℕ) (o : Option ℕ) → IfSome o (λ x. x < n) → IsSlot n (unwrap_or o n) o
slot_of n None h = refl
slot_of n (Some x) h = record { same = refl; low = h }

pub lows_set : (n : ℕ) (xs : List (Option ℕ)) (i x : ℕ) → x < n → All (λ o. IfSome o (λ x. x < n)) xs → All (λ o. IfSome o (λ x. x < n)) (set xs i (Some x))
lows_set n xs i x l h = All-set (λ o. IfSome o (λ x. x < n)) xs i (Some x) l h

pub lows_none : (n m : ℕ) (xs : List (Option ℕ)) → xs ≡ replicate m None → All (λ o. IfSome o (λ x. x < n)) xs
lows_none n m xs e = subst (λ (os : List (Option ℕ)). All (λ o. IfSome o (λ x. x < n)) os) (sym e) (All-replicate (λ o. IfSome o (λ x. x < n)) m None tt)

-- what a slice reads
pub slot_read : (n : ℕ) (xs : List (Option ℕ)) (i : ℕ) → i < length xs → All (λ o. IfSome o (λ x. x < n)) xs → IsSlot n (slice_index (slots n xs) i) (get_or xs i None)
unfolding slots
slot_read n xs i l low =
    let is : slice_index (map (λ o. unwrap_or o n) xs) i ≡ unwrap_or (get_or xs i None) n = get_or-map (λ o. unwrap_or o n) xs i None 0 l in
    rw is (slot_of n (get_or xs i None) (All-get_or (λ o. IfSome o (λ x. x < n)) xs i None l low))

-- there is no number exactly where the option has none
pub none_iff : (n x : ℕ) (o : Option ℕ) (b : Bool) → IsSlot n x o → is_some o ≡ not b → IsTrue b ↔ (n ≤ x)
none_iff n x None true h e = (λ t. omega arith, λ l. refl)
none_iff n x None false h e = absurd (let u : false ≡ true = e in cc)
none_iff n x (Some y) true h e = absurd (let u : true ≡ false = e in cc)
none_iff n x (Some y) false h e = (λ t. absurd (let u : false ≡ true = t in cc), λ l. absurd (let u : x ≡ y = h.same in let w : y < n = h.low in omega arith))
