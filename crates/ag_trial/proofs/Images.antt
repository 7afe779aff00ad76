-- The image of a file, damaged within the radius, is read as that file
use Rattle.std.proofs.Common.{◌≡◌, ℕ, zero, suc, ◌+◌, ◌/◌, ◌*◌, ◌<◌, ◌≤◌, ◌^◌, Bool, cond, true, false, not, eqb, List, [], ◌∷◌, length, filter, flat_map, get_or, refl, sym, ap, ◌∙◌, subst, arith, length-append, add-zero, zero-add}
use Rattle.std.specs.List.{All, range_with_len}
use Rattle.std.proofs.Math.Nat.{pow-le-pow_right}
use Rattle.std.proofs.lemmas.List.{length-map}
use Rattle.stored_form.specs.Form.{Form, distance}
use Rattle.stored_form.specs.Frame.{group_blocks, group_bytes, image}
use Rattle.stored_form.specs.Reading.{blocks, differences, block_changes, IsNearImage}
use Rattle.stored_form.proofs.ImageLemmas.{length-blocks, All-long-blocks}
use Rattle.stored_form.proofs.Theorems.{file_law, change_law}
use Rattle.ag_trial.specs.Damage.{damaged_words, total_distance, text_words, TrialLaw}
use Rattle.ag_trial.proofs.Counts.{total_distance-damaged, each_near}

-- ---- tests of numbers that start elsewhere
filter-shift : (f h : ℕ → Bool) (a b n : ℕ) → ((p : ℕ) → f (b + p) ≡ h (a + p)) → length (filter f (range_with_len b n)) ≡ length (filter h (range_with_len a n))
filter-shift f h a b zero same = refl
filter-shift f h a b (suc n) same = go (f b) (h a) (ap f (sym (add-zero b)) ∙ same 0 ∙ ap h (add-zero a)) (filter-shift f h (a + 1) (b + 1) n (λ p. ap f (let e : b + 1 + p ≡ b + (1 + p) = omega arith in e) ∙ same (1 + p) ∙ ap h (let e : a + (1 + p) ≡ a + 1 + p = omega arith in e)))
  where
    go : (x y : Bool) → x ≡ y → length (filter f (range_with_len (b + 1) n)) ≡ length (filter h (range_with_len (a + 1) n)) →
        length (cond x (b ∷ filter f (range_with_len (b + 1) n)) (filter f (range_with_len (b + 1) n))) ≡ length (cond y (a ∷ filter h (range_with_len (a + 1) n)) (filter h (range_with_len (a + 1) n)))
    go true true e rest = ap suc rest
    go false false e rest = rest
    go true false e rest = absurd (cc)
    go false true e rest = absurd (cc)

joined-shift : {X : Type 0} (f h : ℕ → List X) (a b n : ℕ) → ((p : ℕ) → length (f (b + p)) ≡ length (h (a + p))) → length (flat_map f (range_with_len b n)) ≡ length (flat_map h (range_with_len a n))
joined-shift f h a b zero same = refl
joined-shift f h a b (suc n) same =
    let here : length (f b) ≡ length (h a) = ap (λ k. length (f k)) (sym (add-zero b)) ∙ same 0 ∙ ap (λ k. length (h k)) (add-zero a) in
    let rest : length (flat_map f (range_with_len (b + 1) n)) ≡ length (flat_map h (range_with_len (a + 1) n)) =
    joined-shift f h (a + 1) (b + 1) n (λ p. ap (λ k. length (f k)) (let e : b + 1 + p ≡ b + (1 + p) = omega arith in e) ∙ same (1 + p) ∙ ap (λ k. length (h k)) (let e : a + (1 + p) ≡ a + 1 + p = omega arith in e)) in
    omega (arith, length-append (f b) (flat_map f (range_with_len (b + 1) n)), length-append (h a) (flat_map h (range_with_len (a + 1) n)))

-- ---- as many changes as the distance
differ_at : List ℕ → List ℕ → ℕ → Bool
differ_at y c p = not (eqb (get_or y p 0) (get_or c p 0))

count-differences : (y c : List ℕ) → length y ≡ length c → length (filter (differ_at y c) (range_with_len 0 (length y))) ≡ distance y c
unfolding differ_at
count-differences [] c e = refl
count-differences (y ∷ ys) [] e = absurd (omega arith)
count-differences (y ∷ ys) (c ∷ cs) e = go (eqb y c) (filter-shift (differ_at (y ∷ ys) (c ∷ cs)) (differ_at ys cs) 0 1 (length ys) (λ p. ap (differ_at (y ∷ ys) (c ∷ cs)) (let e : 1 + p ≡ suc p = omega arith in e) ∙ ap (differ_at ys cs) (sym (zero-add p))) ∙ count-differences ys cs (omega arith))
  where
    go : (b : Bool) → length (filter (differ_at (y ∷ ys) (c ∷ cs)) (range_with_len 1 (length ys))) ≡ distance ys cs →
        length (cond (not b) (0 ∷ filter (differ_at (y ∷ ys) (c ∷ cs)) (range_with_len 1 (length ys))) (filter (differ_at (y ∷ ys) (c ∷ cs)) (range_with_len 1 (length ys)))) ≡ cond b 0 1 + distance ys cs
    go true h = omega (arith, h)
    go false h = omega (arith, h)

count-block_changes : (F : Form) (i : ℕ) (y c : List ℕ) → length y ≡ F.n → length c ≡ F.n → length (block_changes F i y c) ≡ distance y c
unfolding differ_at
count-block_changes F i y c ey ec =
    length-map (filter (differ_at y c) (range_with_len 0 F.n)) _
    ∙ ap (λ n. length (filter (differ_at y c) (range_with_len 0 n))) (sym ey)
    ∙ count-differences y c (ey ∙ sym ec)

-- how many changes a block has does not depend on its number
block_changes-number : (F : Form) (i j : ℕ) (y c : List ℕ) → length (block_changes F i y c) ≡ length (block_changes F j y c)
block_changes-number F i j y c =
    length-map (filter (λ p. not (eqb (get_or y p 0) (get_or c p 0))) (range_with_len 0 F.n)) _
    ∙ sym (length-map (filter (λ p. not (eqb (get_or y p 0) (get_or c p 0))) (range_with_len 0 F.n)) _)

next_block : (F : Form) (ys cs : List (List ℕ)) (y c : List ℕ) (p : ℕ) →
    length (block_changes F (1 + p) (get_or (y ∷ ys) (1 + p) []) (get_or (c ∷ cs) (1 + p) [])) ≡ length (block_changes F (0 + p) (get_or ys (0 + p) []) (get_or cs (0 + p) []))
next_block F ys cs y c p =
    ap (λ (k : ℕ). length (block_changes F k (get_or (y ∷ ys) k []) (get_or (c ∷ cs) k []))) (let e : 1 + p ≡ suc p = omega arith in e)
    ∙ block_changes-number F (suc p) p (get_or ys p []) (get_or cs p [])
    ∙ ap (λ (k : ℕ). length (block_changes F k (get_or ys k []) (get_or cs k []))) (sym (zero-add p))

pub count-differences_all : (F : Form) (ys cs : List (List ℕ)) → length ys ≡ length cs → All (λ y. length y ≡ F.n) ys → All (λ c. length c ≡ F.n) cs →
    length (differences F ys cs) ≡ total_distance ys cs
count-differences_all F [] cs e long_y long_c = refl
count-differences_all F (y ∷ ys) [] e long_y long_c = absurd (omega arith)
count-differences_all F (y ∷ ys) (c ∷ cs) e long_y long_c =
    let here : length (block_changes F 0 y c) ≡ distance y c = count-block_changes F 0 y c (long_y 0 [] (omega arith)) (long_c 0 [] (omega arith)) in
    let rest : length (flat_map (λ i. block_changes F i (get_or (y ∷ ys) i []) (get_or (c ∷ cs) i [])) (range_with_len 1 (length ys))) ≡ total_distance ys cs =
    joined-shift (λ i. block_changes F i (get_or (y ∷ ys) i []) (get_or (c ∷ cs) i [])) (λ i. block_changes F i (get_or ys i []) (get_or cs i [])) 0 1 (length ys)
    (next_block F ys cs y c)
    ∙ count-differences_all F ys cs (omega arith) (λ k d l. long_y (suc k) d (omega arith)) (λ k d l. long_c (suc k) d (omega arith)) in
    length-append (block_changes F 0 y c) _ ∙ omega arith

-- ---- the theorem
-- the words of a text in the layout of a form are its blocks
pub words-blocks : (F : Form) (z : List ℕ) → text_words F.packed F.bits F.n F.depth z ≡ blocks F z
unfolding blocks group_blocks
words-blocks F z = refl

symbols_two : (bits : ℕ) → 0 < bits → 2 ≤ 2 ^ bits
symbols_two bits some = let h : 2 ^ 1 ≤ 2 ^ bits = pow-le-pow_right (omega arith) some in omega arith

long_enough : (F : Form) (t : ℕ) (z : List ℕ) → t ≤ F.n → All (λ w. t ≤ length w) (blocks F z)
long_enough F t z h = λ k d l. omega (arith, All-long-blocks F z k d l)

pub trial_law : TrialLaw
trial_law F t x z g sound file radius few long after =
    let size : ℕ = 2 ^ F.bits in
    let ws : List (List ℕ) = blocks F (image F x) in
    let count : length (blocks F z) ≡ length (blocks F (image F x)) =
    length-blocks F z ∙ ap (λ (n : ℕ). n / group_bytes F * F.depth) long ∙ sym (length-blocks F (image F x)) in
    let enough = long_enough F t (image F x) few in
    let two = symbols_two F.bits sound.bits_above_0 in
    let near : IsNearImage F x z = record {
      same_length = long;
      each_block = λ i below.
          let n : distance (get_or (damaged_words (2 ^ F.bits) t (blocks F (image F x)) g).0 i []) (get_or (blocks F (image F x)) i []) ≤ t =
          each_near (2 ^ F.bits) t (blocks F (image F x)) g two enough i (omega arith) in
          let here : distance (get_or (blocks F z) i []) (get_or (blocks F (image F x)) i []) ≤ t =
          subst (λ (vs : List (List ℕ)). distance (get_or vs i []) (get_or (blocks F (image F x)) i []) ≤ t) (sym after) n in
          omega arith;
    } in
    record {
      read_as = (file_law F x z sound).1 (file, near);
      counted =
          ap length (change_law F x z sound file near)
          ∙ count-differences_all F (blocks F z) (blocks F (image F x)) count (All-long-blocks F z) (All-long-blocks F (image F x))
          ∙ ap (λ (vs : List (List ℕ)). total_distance vs (blocks F (image F x))) after
          ∙ total_distance-damaged (2 ^ F.bits) t (blocks F (image F x)) g two enough;
    }
