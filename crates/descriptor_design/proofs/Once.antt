-- What is said of a design is one answer
use Rattle.std.proofs.Common.{◌≡◌, ℕ, ◌*◌, ◌<◌, ◌≤◌, List, length, map, get_or, ap, arith}
use Rattle.std.specs.Prelude.{All, Contains}
use Rattle.std.proofs.lemmas.List.{get_or-map, length-map}
use Rattle.code_descriptor.specs.Parts.{Parts}
use Rattle.descriptor_code.specs.Plain.{members, pairs_of}
use Rattle.descriptor_design.specs.Plans.{improved, HasDesign, IsMost, HasNoDesign, HasMany}

-- what each of a list is, one that it contains is
at_most_in : (f : ℕ → ℕ) (xs : List ℕ) (x most : ℕ) → Contains xs x → All (λ i. f i ≤ most) xs → f x ≤ most
at_most_in f xs x most (k, l, e) all =
    let low : f (get_or xs k x) ≤ most = all k x l in
    let same : f (get_or xs k x) ≡ f x = ap f e in
    omega arith

most_of : (f : ℕ → ℕ) (xs : List ℕ) (x most : ℕ) → Contains (map f xs) x → All (λ i. f i ≤ most) xs → x ≤ most
most_of f xs x most (k, l, e) all =
    let l' : k < length xs = omega (arith, length-map xs f) in
    let low : f (get_or xs k 0) ≤ most = all k 0 l' in
    let same : get_or (map f xs) k x ≡ f (get_or xs k 0) = get_or-map f xs k 0 x l' in
    omega (arith, e)

pub one_most : (p : Parts) (a b : ℕ) → IsMost p a → IsMost p b → a ≡ b
one_most p a b h k =
    let up : a ≤ b = most_of (pairs_of p) (members p) a b h.reached k.greatest in
    let down : b ≤ a = most_of (pairs_of p) (members p) b a k.reached h.greatest in
    omega arith

pub not_both : (p : Parts) (t : ℕ) (text : List ℕ) (most : ℕ) → HasDesign p t text → HasNoDesign p t most → ⊥
not_both p t text most d n = n.none_serves (improved p t) d.serves

pub some_design : (p : Parts) (t most : ℕ) → HasMany p t → HasNoDesign p t most → ⊥
some_design p t most m n =
    let low : pairs_of p m.member ≤ most = at_most_in (pairs_of p) (members p) m.member most m.is_member n.is_most.greatest in
    let bound : most ≤ 2 * t = n.at_most in
    let many : 2 * t < pairs_of p m.member = m.many in
    absurd (omega arith)
