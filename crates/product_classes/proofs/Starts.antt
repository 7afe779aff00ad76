-- The start of a listing, and where it gets the class of a pair
use Rattle.std.proofs.Common.{ℕ, ◌≡◌, ◌≢◌, refl, ◌+◌, ◌*◌, ◌<◌, ◌≤◌, List, [], ◌∷◌, ◌++◌, length, set, replicate, All, sym, ◌∙◌, ap, subst, inl, inr, arith}
use Rattle.std.specs.Prelude.{slice_index}
use Rattle.std.proofs.lemmas.Bool.{cases_eq}
use Rattle.std.proofs.lemmas.List.{get_or-set_same, get_or-set_other, get_or-replicate, length-replicate}
use Rattle.std.proofs.lemmas.List.Elements.{All-replicate}
use Rattle.field_theory.proofs.Sums.{sum-same}
use Rattle.order_theory.specs.Basis.{Basis, IsSoundBasis, times, vector, sum_at}
use Rattle.order_theory.specs.Errors.{entry}
use Rattle.product_classes.specs.Table.{ClassTable, IsOfClass, class_at, first_sum}
use Rattle.product_classes.specs.Listings.{IsListed, IsListedPair}
use Rattle.product_classes.proofs.Places.{place_in, sum_more}
use Rattle.product_classes.proofs.Growth.{least_of, class_of_source}

-- the matrix of a list is symmetric
pub entry_turned : (b : Basis) (w : List ℕ) (i j : ℕ) → IsSoundBasis b → entry (times b) b w i j ≡ entry (times b) b w j i
entry_turned b w i j sound =
    sum-same b.n (λ p. times b (slice_index w p) (times b (vector b i p) (vector b j p))) (λ p. times b (slice_index w p) (times b (vector b j p) (vector b i p)))
    (λ p l. ap (λ (x : ℕ). times b (slice_index w p) x) (sound.sound.field.mul_comm (vector b i p) (vector b j p)))

-- the pair the other way round is listed
pub class_of_turned : (b : Basis) (v : ClassTable) (k i j c : ℕ) → IsSoundBasis b → IsListed b v (sum_at b i j) k → j < b.n → i < slice_index v.reaches j → c ≡ class_at v j i → IsOfClass b v i j c
class_of_turned b v k i j c sound h lj l e = class_of_source b v k i j j i c h lj l e (λ w. entry_turned b w i j sound)

-- the pair (0, 0) alone is listed
started_one : (b : Basis) (v : ClassTable) (k m : ℕ) (numbers reaches : List ℕ) → IsSoundBasis b → v.n ≡ b.n → k ≡ b.n * b.n → m ≡ b.n
    → numbers ≡ replicate k 0 → reaches ≡ replicate m 0
    → IsListed b (record v { count = 1; numbers = numbers; reaches = set reaches 0 1; lefts = 0 ∷ []; rights = 0 ∷ [] }) (sum_at b 0 0) 0
started_one b v k m numbers reaches sound en ek em e1 e2 =
    let w : ClassTable = record v { count = 1; numbers = numbers; reaches = set reaches 0 1; lefts = 0 ∷ []; rights = 0 ∷ [] } in
    let some : 1 ≤ b.n = sound.sound.shape.some_members in
    let place : 0 * b.n + 0 < b.n * b.n = place_in b.n 0 0 (b.n * b.n) (omega arith) (omega arith) refl in
    let long : length reaches ≡ b.n = ap length e2 ∙ length-replicate m 0 ∙ em in
    let none : (p : ℕ) → p < b.n → slice_index reaches p ≡ 0 = λ p l. ap (λ (xs : List ℕ). slice_index xs p) e2 ∙ get_or-replicate m p 0 0 (omega arith) in
    let one : slice_index (set reaches 0 1) 0 ≡ 1 = get_or-set_same reaches 0 1 0 (omega arith) in
    let other : (p : ℕ) → p < b.n → p ≢ 0 → slice_index (set reaches 0 1) p ≡ 0 = λ p l d. get_or-set_other reaches 0 p 1 0 d ∙ none p l in
    let class : slice_index numbers (0 * v.n + 0) ≡ 0 = ap (λ (x : ℕ). slice_index numbers x) (let e : 0 * v.n + 0 ≡ 0 = omega arith in e) ∙ ap (λ (xs : List ℕ). slice_index xs 0) e1 ∙ get_or-replicate k 0 0 0 (omega arith) in
    let first : first_sum b w 0 ≡ sum_at b 0 0 = refl in
    let stand : IsListedPair b w (sum_at b 0 0) 0 = record {
      row = omega arith;
      column = omega arith;
      own = class;
      low = omega arith;
    } in
    let each : IsOfClass b w 0 0 0 = record {
      number = omega arith;
      lowest = omega arith;
      same = λ e. refl;
    } in
    record {
      n_is = en;
      within = λ p lp. elim (cases_eq p 0) [
        | inl e ↦ let r : slice_index (set reaches 0 1) p ≡ 1 = ap (λ (x : ℕ). slice_index (set reaches 0 1) x) e ∙ one in omega arith
        | inr d ↦ omega (arith, other p lp d)
      ];
      numbers_low = subst (λ (xs : List ℕ). All (λ x. x < 1) xs) (sym e1) (All-replicate (λ x. x < 1) k 0 (omega arith));
      few = omega (arith, sum_more reaches 0 0 (omega arith) (none 0 (omega arith)));
      before = λ p q lp lq ls l. absurd (omega (arith, least_of b 0 0 p q sound lp lq (omega arith) (omega arith) ls));
      here = λ p q l lp lq ls le. absurd (omega arith);
      stand = λ c l. subst (λ (x : ℕ). IsListedPair b w (sum_at b 0 0) x) (let e : 0 ≡ c = omega arith in e) stand;
      rise = λ c d l ld. let e : first_sum b w c ≡ first_sum b w d = ap (λ (x : ℕ). first_sum b w x) (let f : c ≡ d = omega arith in f) in omega arith;
      each = λ p q lp lq. elim (cases_eq p 0) [
        | inr d ↦ absurd (omega (arith, other p lp d))
        | inl e ↦
            let r : slice_index (set reaches 0 1) p ≡ 1 = ap (λ (x : ℕ). slice_index (set reaches 0 1) x) e ∙ one in
            let f : q ≡ 0 = omega arith in
            subst (λ (x : ℕ). IsOfClass b w x q (class_at w x q)) (sym e) (subst (λ (y : ℕ). IsOfClass b w 0 y (class_at w 0 y)) (sym f) (subst (λ (x : ℕ). IsOfClass b w 0 0 x) (sym class) each))
      ];
    }

pub started : (b : Basis) (v : ClassTable) (k m : ℕ) (numbers reaches lefts rights : List ℕ) → IsSoundBasis b → v.n ≡ b.n → k ≡ b.n * b.n → m ≡ b.n
    → numbers ≡ replicate k 0 → reaches ≡ replicate m 0 → lefts ≡ [] → rights ≡ []
    → IsListed b (record v { count = length (lefts ++ 0 ∷ []); numbers = numbers; reaches = set reaches 0 1; lefts = lefts ++ 0 ∷ []; rights = rights ++ 0 ∷ [] }) (sum_at b 0 0) 0
started b v k m numbers reaches lefts rights sound en ek em e1 e2 none_left none_right =
    subst (λ (ls : List ℕ). IsListed b (record v { count = length (ls ++ 0 ∷ []); numbers = numbers; reaches = set reaches 0 1; lefts = ls ++ 0 ∷ []; rights = rights ++ 0 ∷ [] }) (sum_at b 0 0) 0) (sym none_left)
    (subst (λ (rs : List ℕ). IsListed b (record v { count = 1; numbers = numbers; reaches = set reaches 0 1; lefts = 0 ∷ []; rights = rs ++ 0 ∷ [] }) (sum_at b 0 0) 0) (sym none_right)
    (started_one b v k m numbers reaches sound en ek em e1 e2))
