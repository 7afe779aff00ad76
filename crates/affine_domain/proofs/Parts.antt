-- What the calls of a space compute, over plain numbers
use Rattle.std.proofs.Common.{◌≡◌, ℕ, zero, suc, ◌+◌, ◌-◌, ◌^◌, ◌<◌, ◌≤◌, Option, Some, None, MatchOption, sym, ◌∙◌, ap, subst, inl, inr, arith}
use Rattle.std.proofs.lemmas.Bool.{cases_lt}
use Rattle.theory_affine.specs.Monomials.{Monomial, degree, times, top_degree, IsListed, below_degree, place, degree_at, rest_at, monomial_at, monomial_count}
use Rattle.theory_affine.specs.Order.{sum_of}
use Rattle.theory_affine.proofs.Places.{HasPlaces, has_places}
use Rattle.theory_affine.proofs.Order.{listed-used, listed_at, place_within, times_listed, sum_of-is, sum_of-none}
use Rattle.theory_affine.proofs.Nested.{degree_at-few, degree_at-low, nested, nested-second, rest_at-small, rest_at-second}
use Rattle.affine_domain.specs.Space.{IsSpace, IsIndex, exponents}

-- ---- the degree of a monomial, and its place among those of its degree
pub split_low : (vars i d b : ℕ) → vars ≤ 3 → d ≡ degree_at vars i → b ≡ below_degree vars d → b ≤ i
split_low vars i d b h e f =
    let g : below_degree vars d ≡ below_degree vars (degree_at vars i) = ap (below_degree vars) e in
    let l : below_degree vars (degree_at vars i) ≤ i = degree_at-low vars i h in
    omega arith

pub split_rest : (vars i d b : ℕ) → d ≡ degree_at vars i → b ≡ below_degree vars d → i - b ≡ rest_at vars i
unfolding rest_at
split_rest vars i d b e f = ap (λ (n : ℕ). i - n) (f ∙ ap (below_degree vars) e)

pub split_few : (vars i d : ℕ) → vars ≤ 3 → i < 142880 → (vars < 2 → i ≤ 1024) → d ≡ degree_at vars i → d ≤ 1024
split_few vars i d h l small e = let f : degree_at vars i ≤ 1024 = degree_at-few vars i h (omega arith) small in omega arith

-- ---- the exponents
pub record IsParts (vars i d s z : ℕ) : Type 0 where
  pub tail_most : s ≤ d
  pub z_most : z ≤ s
  pub is : exponents (d - s) (s - z) z ≡ monomial_at vars i

pub parts : (vars i d r s q k z : ℕ) → 1 ≤ vars → vars ≤ 3 → d ≡ degree_at vars i → r ≡ rest_at vars i → s ≡ degree_at (vars - 1) r → q ≡ rest_at (vars - 1) r →
    k ≡ vars - 2 → z ≡ degree_at k q → IsParts vars i d s z
unfolding monomial_at
parts vars i d r s q k z l h ed er es eq ek ez =
    let s_is : s ≡ degree_at (vars - 1) (rest_at vars i) = es ∙ ap (degree_at (vars - 1)) er in
    let q_is : q ≡ rest_at (vars - 1) (rest_at vars i) = eq ∙ ap (rest_at (vars - 1)) er in
    let z_is : z ≡ degree_at (vars - 2) (rest_at (vars - 1) (rest_at vars i)) = ez ∙ ap (λ (n : ℕ). degree_at n q) ek ∙ ap (degree_at (vars - 2)) q_is in
    let a : degree_at (vars - 1) (rest_at vars i) ≤ degree_at vars i = nested vars i l h in
    let b : degree_at (vars - 2) (rest_at (vars - 1) (rest_at vars i)) ≤ degree_at (vars - 1) (rest_at vars i) = nested-second vars i l h in
    record {
      tail_most = omega arith;
      z_most = omega arith;
      is =
          ap (λ (n : ℕ). exponents (n - s) (s - z) z) ed
          ∙ ap (λ (n : ℕ). exponents (degree_at vars i - n) (n - z) z) s_is
          ∙ ap (λ (n : ℕ). exponents (degree_at vars i - degree_at (vars - 1) (rest_at vars i)) (degree_at (vars - 1) (rest_at vars i) - n) n) z_is;
    }

pub tail_small : (vars i d r : ℕ) → 1 ≤ vars → d ≡ degree_at vars i → r ≡ rest_at vars i → d ≤ 1024 → vars - 1 < 2 → vars ≤ 3 → r ≤ 1024
tail_small vars i d r l ed er few low h = elim (cases_lt vars 3) [
  | inl m ↦ let a : rest_at vars i ≤ degree_at vars i = rest_at-small vars i l (omega arith) in omega arith
  | inr m ↦ absurd (omega arith)
]

pub second_small : (vars i r s q : ℕ) → 1 ≤ vars → vars ≤ 3 → r ≡ rest_at vars i → s ≡ degree_at (vars - 1) r → q ≡ rest_at (vars - 1) r → s ≤ 1024 → q ≤ 1024
second_small vars i r s q l h er es eq few =
    let s_is : s ≡ degree_at (vars - 1) (rest_at vars i) = es ∙ ap (degree_at (vars - 1)) er in
    let q_is : q ≡ rest_at (vars - 1) (rest_at vars i) = eq ∙ ap (rest_at (vars - 1)) er in
    let a : rest_at (vars - 1) (rest_at vars i) ≤ degree_at (vars - 1) (rest_at vars i) = rest_at-second vars i l h in
    omega arith

one_variable : (size vars i : ℕ) → 1 ≤ vars → vars < 2 → i < monomial_count size vars → i ≤ top_degree size vars
unfolding monomial_count below_degree
one_variable size zero i l h m = absurd (omega arith)
one_variable size (suc zero) i l h m = omega arith
one_variable size (suc (suc v)) i l h m = absurd (omega arith)

pub index_small : (size vars top i : ℕ) → 1 ≤ vars → i < monomial_count size vars → top ≡ top_degree size vars → top ≤ 510 → vars < 2 → i ≤ 1024
index_small size vars top i l m e t h = let a : i ≤ top_degree size vars = one_variable size vars i l h m in omega arith

pub listed_parts : (bits vars i : ℕ) (m : Monomial) → IsSpace bits vars → i < monomial_count (2 ^ bits) vars → m ≡ monomial_at vars i → IsListed (2 ^ bits) vars m
listed_parts bits vars i m space l e =
    subst (λ (n : Monomial). IsListed (2 ^ bits) vars n) (sym e) (listed_at (2 ^ bits) vars (has_places vars space.vars_least space.vars_most) i l)

-- ---- the index
pub indexed : (bits vars x y z a b c k : ℕ) → IsSpace bits vars → IsListed (2 ^ bits) vars (exponents x y z) →
    a ≡ below_degree vars (x + y + z) → b ≡ below_degree (vars - 1) (y + z) → k ≡ vars - 2 → c ≡ below_degree k z → IsIndex bits vars (a + (b + c)) (exponents x y z)
unfolding place
indexed bits vars x y z a b c k space h ea eb ek ec =
    let places : HasPlaces vars = has_places vars space.vars_least space.vars_most in
    let f : c ≡ below_degree (vars - 2) z = ec ∙ ap (λ (n : ℕ). below_degree n z) ek in
    let e : a + (b + c) ≡ place vars (exponents x y z) = omega arith in
    record {
      below = subst (λ (n : ℕ). n < monomial_count (2 ^ bits) vars) (sym e) (place_within (2 ^ bits) vars places (exponents x y z) h);
      is_place = e;
      is_monomial = ap (monomial_at vars) e ∙ places.at_place (exponents x y z) (listed-used (2 ^ bits) vars places (exponents x y z) h);
    }

pub index_few : (bits vars x y z a b c k : ℕ) → IsSpace bits vars → IsListed (2 ^ bits) vars (exponents x y z) → monomial_count (2 ^ bits) vars ≤ 142880 →
    a ≡ below_degree vars (x + y + z) → b ≡ below_degree (vars - 1) (y + z) → k ≡ vars - 2 → c ≡ below_degree k z → a + (b + c) < 142880
index_few bits vars x y z a b c k space h few ea eb ek ec =
    let l : a + (b + c) < monomial_count (2 ^ bits) vars = (indexed bits vars x y z a b c k space h ea eb ek ec).below in omega arith

-- ---- sums
abbrev pub IsAnswer : (bits vars : ℕ) → Monomial → Option ℕ → Type 0
IsAnswer bits vars m r = MatchOption r (IsListed (2 ^ bits) vars m → ⊥) (λ i. IsListed (2 ^ bits) vars m × IsIndex bits vars i m)

module _ (bits vars : ℕ) (space : IsSpace bits vars) where
  places : HasPlaces vars
  places = has_places vars space.vars_least space.vars_most

  summed_at : (i j : ℕ) (r : Option ℕ) → IsListed (2 ^ bits) vars (monomial_at vars i) → IsListed (2 ^ bits) vars (monomial_at vars j) →
      IsAnswer bits vars (times (monomial_at vars i) (monomial_at vars j)) r → r ≡ sum_of (2 ^ bits) vars i j
  summed_at i j None hi hj h = elim (cases_lt (top_degree (2 ^ bits) vars) (degree (times (monomial_at vars i) (monomial_at vars j)))) [
    | inl l ↦ sym (sum_of-none (2 ^ bits) vars places i j l)
    | inr l ↦ absurd (h (times_listed (2 ^ bits) vars places (monomial_at vars i) (monomial_at vars j) hi hj l))
  ]
  summed_at i j (Some k) hi hj h =
      ap (λ (n : ℕ). let o : Option ℕ = Some n in o) h.1.is_place ∙ sym (sum_of-is (2 ^ bits) vars places i j h.0.low)

  pub summed : (i j x y z u v w : ℕ) (r : Option ℕ) → exponents x y z ≡ monomial_at vars i → exponents u v w ≡ monomial_at vars j →
      IsListed (2 ^ bits) vars (exponents x y z) → IsListed (2 ^ bits) vars (exponents u v w) →
      IsAnswer bits vars (exponents (x + u) (y + v) (z + w)) r → r ≡ sum_of (2 ^ bits) vars i j
  summed i j x y z u v w r ei ej hi hj h =
      summed_at i j r (subst (λ (m : Monomial). IsListed (2 ^ bits) vars m) ei hi) (subst (λ (m : Monomial). IsListed (2 ^ bits) vars m) ej hj)
      (subst (λ (m : Monomial). IsAnswer bits vars (times (monomial_at vars i) m) r) ej
      (subst (λ (m : Monomial). IsAnswer bits vars (times m (exponents u v w)) r) ei h))
