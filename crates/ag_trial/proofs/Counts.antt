-- Damage changes exactly as many bytes as were drawn
use Rattle.std.proofs.Common.{◌≡◌, ◌≢◌, ℕ, zero, suc, ◌+◌, ◌-◌, ◌<◌, ◌≤◌, cond, eqb, List, [], ◌∷◌, length, get_or, refl, sym, ap, ◌∙◌, inl, inr, arith, bit_xor}
use Rattle.std.proofs.lemmas.Bool.{cases_lt, cond-true, cond-false, eq-eqb, ne_eqb}
use Rattle.std.specs.List.{All}
use Rattle.std.specs.Int.Bits.{xor_assoc, xor_self, xor_zero_l}
use Rattle.rand_pcg.specs.Lcg.{Lcg}
use Rattle.stored_form.specs.Form.{distance}
use Rattle.ag_trial.specs.Words.{drawn, after_draw}
use Rattle.ag_trial.specs.Damage.{damaged_from, damaged, damaged_words, changes_in, total_distance, DamageLaw}
use Rattle.ag_trial.proofs.Steps.{changed_byte, from_changed, from_same}

-- a byte that is changed is another
changed-other : (size x : ℕ) (g : Lcg) → changed_byte size x g ≢ x
changed-other size x g e =
    let m : ℕ = 1 + drawn (size - 1) g in
    let zero : m ≡ 0 = sym (xor_zero_l m) ∙ ap (λ (y : ℕ). bit_xor y m) (sym (xor_self x)) ∙ xor_assoc x x m ∙ ap (λ (y : ℕ). bit_xor x y) e ∙ xor_self x in
    omega arith

drawn_below : (bound : ℕ) (g : Lcg) → 0 < bound → drawn bound g < bound
unfolding drawn
drawn_below bound g pos = omega arith

distance-damaged_from : (size left : ℕ) (xs : List ℕ) (g : Lcg) → left ≤ length xs → distance (damaged_from size left xs g).0 xs ≡ left
distance-damaged_from size left [] g l = omega arith
distance-damaged_from size left (x ∷ xs) g l =
    elim (cases_lt (drawn (suc (length xs)) g) left) [
      | inl low ↦
          let v : ℕ = changed_byte size x (after_draw g) in
          let ih : distance (damaged_from size (left - 1) xs (after_draw (after_draw g))).0 xs ≡ left - 1 = distance-damaged_from size (left - 1) xs (after_draw (after_draw g)) (omega arith) in
          let here : cond {A = ℕ} (eqb v x) 0 1 ≡ 1 = cond-false (eqb v x) 0 1 (ne_eqb v x (changed-other size x (after_draw g))) in
          ap (λ (d : List ℕ × Lcg). distance d.0 (x ∷ xs)) (from_changed size left x xs g low) ∙ omega arith
      | inr high ↦
          let below : drawn (suc (length xs)) g < suc (length xs) = drawn_below (suc (length xs)) g (omega arith) in
          let ih : distance (damaged_from size left xs (after_draw g)).0 xs ≡ left = distance-damaged_from size left xs (after_draw g) (omega arith) in
          let here : cond {A = ℕ} (eqb x x) 0 1 ≡ 0 = cond-true (eqb x x) 0 1 (eq-eqb x x refl) in
          ap (λ (d : List ℕ × Lcg). distance d.0 (x ∷ xs)) (from_same size left x xs g high) ∙ omega arith
    ]

pub damage_law : DamageLaw
damage_law size t word g l m =
    let below : drawn (t + 1) g < t + 1 = drawn_below (t + 1) g (omega arith) in
    record { as_drawn = distance-damaged_from size (drawn (t + 1) g) word (after_draw g) (omega arith); at_most = omega arith }

all_tail : (t : ℕ) (w : List ℕ) (ws : List (List ℕ)) → All (λ v. t ≤ length v) (w ∷ ws) → All (λ v. t ≤ length v) ws
all_tail t w ws h = λ k d l. h (suc k) d (omega arith)

pub total_distance-damaged : (size t : ℕ) (ws : List (List ℕ)) (g : Lcg) → 2 ≤ size → All (λ w. t ≤ length w) ws →
    total_distance (damaged_words size t ws g).0 ws ≡ changes_in size t ws g
total_distance-damaged size t [] g l long = refl
total_distance-damaged size t (w ∷ ws) g l long =
    let here : distance (damaged size t w g).0 w ≡ drawn (t + 1) g = (damage_law size t w g l (long 0 [] (omega arith))).as_drawn in
    let rest : total_distance (damaged_words size t ws (damaged size t w g).1).0 ws ≡ changes_in size t ws (damaged size t w g).1 = total_distance-damaged size t ws (damaged size t w g).1 l (all_tail t w ws long) in
    omega arith

pub each_near : (size t : ℕ) (ws : List (List ℕ)) (g : Lcg) → 2 ≤ size → All (λ w. t ≤ length w) ws → (c : ℕ) → c < length ws →
    distance (get_or (damaged_words size t ws g).0 c []) (get_or ws c []) ≤ t
each_near size t [] g l long c lc = absurd (omega arith)
each_near size t (w ∷ ws) g l long zero lc =
    let law = damage_law size t w g l (long 0 [] (omega arith)) in
    let e : distance (damaged size t w g).0 w ≡ drawn (t + 1) g = law.as_drawn in
    omega (arith, law.at_most)
each_near size t (w ∷ ws) g l long (suc c) lc = each_near size t ws (damaged size t w g).1 l (all_tail t w ws long) c (omega arith)
