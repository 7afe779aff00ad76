-- Parts of the tables
use Rattle.std.proofs.Common.{◌≡◌, ℕ, ◌+◌, ◌*◌, ◌-◌, ◌<◌, ◌≤◌, List, ◌++◌, length, take, drop, sym, ◌∙◌, ap, subst, arith}
use Rattle.std.proofs.lemmas.List.{get_or_append_left, get_or-append_right, get_or-take, get_or-drop, length-take-le}
use Rattle.std.specs.Prelude.{slice_index, Option, Some, None}
use Rattle.gf_theory.specs.Field.{gf_mul}
use Rattle.field_theory.proofs.Sums.{sum-same}
use Rattle.linear_theory.proofs.Tables.{place_below}
use Rattle.vote_matrix.specs.Lines.{line_kept, AllAbove, AreLeads, IsLeft}

-- a list that was cut in two, of which the second part changed
pub low_part : (k : ℕ) (xs a b b2 : List ℕ) → xs ≡ a ++ b → length a ≡ k → (p : ℕ) → p < k → slice_index (a ++ b2) p ≡ slice_index xs p
low_part k xs a b b2 e l p u = get_or_append_left a b2 0 p (omega arith) ∙ sym (ap (λ (ys : List ℕ). slice_index ys p) e ∙ get_or_append_left a b 0 p (omega arith))

pub low_at : (k : ℕ) (xs a b : List ℕ) → xs ≡ a ++ b → length a ≡ k → (p : ℕ) → p < k → slice_index a p ≡ slice_index xs p
low_at k xs a b e l p u = sym (ap (λ (ys : List ℕ). slice_index ys p) e ∙ get_or_append_left a b 0 p (omega arith))

pub high_at : (k : ℕ) (a b : List ℕ) → length a ≡ k → (p : ℕ) → slice_index (a ++ b) (k + p) ≡ slice_index b p
high_at k a b l p = get_or-append_right a b k (k + p) 0 l (omega arith) ∙ ap (λ (q : ℕ). slice_index b q) (let e : k + p - k ≡ p = omega arith in e)

-- where the second part kept an entry, so did the list
pub high_same : (k : ℕ) (xs a b b2 : List ℕ) → xs ≡ a ++ b → length a ≡ k → (p : ℕ) → k ≤ p → slice_index b2 (p - k) ≡ slice_index b (p - k) → slice_index (a ++ b2) p ≡ slice_index xs p
high_same k xs a b b2 e l p u same =
    let is : k + (p - k) ≡ p = omega arith in
    subst (λ (q : ℕ). slice_index (a ++ b2) q ≡ slice_index xs q) is
    (high_at k a b2 l (p - k) ∙ same ∙ sym (ap (λ (ys : List ℕ). slice_index ys (k + (p - k))) e ∙ high_at k a b l (p - k)))

-- a part of a list
pub part_at : (a k t : ℕ) (xs : List ℕ) → t < k → slice_index (take k (drop a xs)) t ≡ slice_index xs (a + t)
part_at a k t xs l = get_or-take k (drop a xs) t 0 l ∙ get_or-drop a xs t 0

-- what is kept depends on the factors and on the first rows
pub kept_by : (bits modulus stride span j : ℕ) (own own2 : ℕ → ℕ) (above above2 : List ℕ) → ((t : ℕ) → t < span → own t ≡ own2 t) → ((t : ℕ) → t < span → slice_index above (t * stride + j) ≡ slice_index above2 (t * stride + j))
    → line_kept (gf_mul bits modulus) stride span own above j ≡ line_kept (gf_mul bits modulus) stride span own2 above2 j
kept_by bits modulus stride span j own own2 above above2 same rows =
    sum-same span (λ t. gf_mul bits modulus (own t) (slice_index above (t * stride + j))) (λ t. gf_mul bits modulus (own2 t) (slice_index above2 (t * stride + j)))
    (λ t l. ap (λ (x : ℕ). gf_mul bits modulus x (slice_index above (t * stride + j))) (same t l) ∙ ap (λ (x : ℕ). gf_mul bits modulus (own2 t) x) (rows t l))

-- the rows above a place stand in the first part
pub kept_cut : (bits modulus stride span count j : ℕ) (own own2 : ℕ → ℕ) (xs a b : List ℕ) → xs ≡ a ++ b → length a ≡ count * stride → span ≤ count → j < stride → ((t : ℕ) → t < span → own t ≡ own2 t)
    → line_kept (gf_mul bits modulus) stride span own a j ≡ line_kept (gf_mul bits modulus) stride span own2 xs j
kept_cut bits modulus stride span count j own own2 xs a b e l few lj same =
    kept_by bits modulus stride span j own own2 a xs same (λ t lt. low_at (count * stride) xs a b e l (t * stride + j) (place_below count stride t j (count * stride) (omega arith) lj (let z : count * stride ≡ count * stride = omega arith in z)))

pub leads_cut : (bits modulus n stride count : ℕ) (numbers inverses xs a b : List ℕ) → xs ≡ a ++ b → length a ≡ count * stride → count ≤ length inverses → n ≤ stride
    → AreLeads (gf_mul bits modulus) n stride count numbers inverses xs → AreLeads (gf_mul bits modulus) n stride (length (take count inverses)) numbers (take count inverses) a
leads_cut bits modulus n stride count numbers inverses xs a b e l fit wide h =
    let long : length (take count inverses) ≡ count = length-take-le count inverses fit in
    record {
      low = λ c lc u. let w : slice_index numbers c < count = h.low c lc u in omega arith;
      zeros = λ c j lc u lj. read c j lc u (omega arith) ∙ h.zeros c j lc u lj;
      lead = λ c lc u.
          ap (λ (x : ℕ). gf_mul bits modulus x (slice_index (take count inverses) (slice_index numbers c))) (read c c lc u (omega arith))
          ∙ ap (λ (x : ℕ). gf_mul bits modulus (slice_index xs (slice_index numbers c * stride + c)) x) (get_or-take count inverses (slice_index numbers c) 0 (h.low c lc u))
          ∙ h.lead c lc u;
    }
  where
    read : (c j : ℕ) → c < n → slice_index numbers c < n → j < stride → slice_index a (slice_index numbers c * stride + j) ≡ slice_index xs (slice_index numbers c * stride + j)
    read c j lc u lj =
        low_at (count * stride) xs a b e l (slice_index numbers c * stride + j)
        (place_below count stride (slice_index numbers c) j (count * stride) (h.low c lc u) lj (let z : count * stride ≡ count * stride = omega arith in z))

pub left_same : (n from to : ℕ) (numbers : List ℕ) (f g : ℕ → ℕ) (o : Option ℕ) → ((j : ℕ) → g j ≡ f j) → IsLeft n from to numbers f o → IsLeft n from to numbers g o
left_same n from to numbers f g (Some c) e h = record { after = h.after; inside = h.inside; free = h.free; some = λ z. h.some (sym (e c) ∙ z); zeros = λ j l. e j ∙ h.zeros j l }
left_same n from to numbers f g None e h = record { zeros = λ j l. e j ∙ h.zeros j l }

pub above_same : (rows : ℕ → ℕ) (i span : ℕ) (own own2 : ℕ → ℕ) → ((t : ℕ) → t < span → own2 t ≡ own t) → AllAbove rows i span own → AllAbove rows i span own2
above_same rows i span own own2 e h t l d = h t l (λ z. d (e t l ∙ z))
