-- The words that finish a front, one place after the other
use Rattle.std.proofs.Common.{◌≡◌, ◌≢◌, ℕ, suc, ◌+◌, ◌-◌, ◌<◌, ◌≤◌, Bool, true, false, cond, eqb, List, ◌∷◌, length, drop, get_or, refl, sym, ◌∙◌, ap, subst, inl, inr, arith, drop-cons, add-one}
use Rattle.std.specs.Prelude.{◌↔◌, IsTrue, MatchBool}
use Rattle.std.proofs.Math.ListN.{set}
use Rattle.std.proofs.lemmas.Bool.{cond-true, cond-false, eq-eqb, ne_eqb, cases_eq, both_ways}
use Rattle.std.proofs.lemmas.List.{drop_all, get_or-set_same, get_or-set_other, length-set}
use Rattle.std.proofs.lemmas.Grind.{same_number_lists}
use Rattle.field_theory.proofs.Sums.{eq_or_below}
use Rattle.order_theory.specs.Basis.{Basis, times}
use Rattle.order_theory.specs.Codes.{IsCodeword, distance}
use Rattle.search_decoder.specs.Words.{SameBefore, IsFinish}

-- 0 where two numbers are equal
abbrev cost_of : ℕ → ℕ → ℕ
cost_of a b = cond (eqb a b) 0 1

distance-drop : (xs ys : List ℕ) (p : ℕ) → p < length xs → p < length ys → distance (drop p xs) (drop p ys) ≡ cost_of (get_or xs p 0) (get_or ys p 0) + distance (drop (p + 1) xs) (drop (p + 1) ys)
distance-drop xs ys p lx ly = rw (add-one p) (ap (λ (zs : List ℕ). distance zs (drop p ys)) (drop-cons xs p 0 lx) ∙ ap (λ (zs : List ℕ). distance (get_or xs p 0 ∷ drop (suc p) xs) zs) (drop-cons ys p 0 ly))

pub same_before : (place : ℕ) (xs : List ℕ) → SameBefore place xs xs
same_before place xs = record { long = refl; same = λ p l. refl }

-- at the end there is nothing left to choose
pub finish_at_end : (b : Basis) (marks : List Bool) (got word : List ℕ) (place left : ℕ) → length got ≡ place → IsCodeword (times b) b marks word → IsFinish b marks got word place left word
finish_at_end b marks got word place left end c = record {
  is_codeword = c;
  front_same = same_before place word;
  close = let e : distance (drop place got) (drop place word) ≡ 0 = ap (λ (zs : List ℕ). distance zs (drop place word)) (drop_all place got (omega arith)) in omega arith;
}

pub only_at_end : (b : Basis) (marks : List Bool) (got word : List ℕ) (place left : ℕ) → length word ≡ place → (x : List ℕ) → IsFinish b marks got word place left x → IsCodeword (times b) b marks word
only_at_end b marks got word place left end x h =
    let e : x ≡ word = sym (same_number_lists word x h.front_same.long (λ p l. h.front_same.same p (omega arith))) in
    subst (λ (z : List ℕ). IsCodeword (times b) b marks z) e h.is_codeword

-- the cost of a symbol at a place
pub record IsCost (got : List ℕ) (place v cost : ℕ) : Type 0 where
  pub same : v ≡ get_or got place 0 → cost ≡ 0
  pub other : v ≢ get_or got place 0 → cost ≡ 1

cost_is : (got : List ℕ) (place v cost : ℕ) → IsCost got place v cost → cost_of (get_or got place 0) v ≡ cost
cost_is got place v cost h = elim (cases_eq (get_or got place 0) v) [
  | inl e ↦ cond-true (eqb (get_or got place 0) v) 0 1 (eq-eqb (get_or got place 0) v e) ∙ sym (h.same (sym e))
  | inr d ↦ cond-false (eqb (get_or got place 0) v) 0 1 (ne_eqb (get_or got place 0) v d) ∙ sym (h.other (λ e. d (sym e)))
]

-- what agrees with the longer front agrees with the shorter one
pub front_back : (place v : ℕ) (front word next : List ℕ) → SameBefore place front word → SameBefore (place + 1) (set word place v) next → SameBefore place front next
front_back place v front word next h n = record {
  long = h.long ∙ sym (length-set word place v) ∙ n.long;
  same = λ p l. h.same p l ∙ sym (get_or-set_other word place p v 0 (λ e. omega arith)) ∙ n.same p (omega arith);
}

-- a finish of the longer front is one of the shorter front
pub finish_back : (b : Basis) (marks : List Bool) (got front word next : List ℕ) (place left v cost : ℕ) → place < length got → length got ≡ length front → SameBefore place front word → IsCost got place v cost → cost ≤ left
    → IsFinish b marks got (set word place v) (place + 1) (left - cost) next → IsFinish b marks got front place left next
finish_back b marks got front word next place left v cost lp long h c few n =
    let at : get_or next place 0 ≡ v = sym (n.front_same.same place (omega arith)) ∙ get_or-set_same word place v 0 (omega (arith, h.long)) in
    let size : length next ≡ length word = sym n.front_same.long ∙ length-set word place v in
    let whole : distance (drop place got) (drop place next) ≡ cost_of (get_or got place 0) (get_or next place 0) + distance (drop (place + 1) got) (drop (place + 1) next) =
    distance-drop got next place lp (omega (arith, h.long)) in
    let here : cost_of (get_or got place 0) (get_or next place 0) ≡ cost = ap (λ (x : ℕ). cost_of (get_or got place 0) x) at ∙ cost_is got place v cost c in
    let rest : distance (drop (place + 1) got) (drop (place + 1) next) ≤ left - cost = n.close in
    record { is_codeword = n.is_codeword; front_same = front_back place v front word next h n.front_same; close = omega arith }

-- a finish of the shorter front, with the symbol v at the place, is one of the longer front, and the symbol is not too dear
pub finish_forth : (b : Basis) (marks : List Bool) (got front word x : List ℕ) (place left v cost : ℕ) → place < length got → length got ≡ length front → SameBefore place front word → IsCost got place v cost
    → IsFinish b marks got front place left x → get_or x place 0 ≡ v → (cost ≤ left) × IsFinish b marks got (set word place v) (place + 1) (left - cost) x
finish_forth b marks got front word x place left v cost lp long h c f at =
    let whole : distance (drop place got) (drop place x) ≡ cost_of (get_or got place 0) (get_or x place 0) + distance (drop (place + 1) got) (drop (place + 1) x) =
    distance-drop got x place lp (omega (arith, f.front_same.long)) in
    let here : cost_of (get_or got place 0) (get_or x place 0) ≡ cost = ap (λ (y : ℕ). cost_of (get_or got place 0) y) at ∙ cost_is got place v cost c in
    let close : distance (drop place got) (drop place x) ≤ left = f.close in (
      omega arith,
      record {
        is_codeword = f.is_codeword;
        front_same = record {
          long = length-set word place v ∙ sym h.long ∙ f.front_same.long;
          same = λ p l. elim (eq_or_below p place (let u : p < suc place = omega arith in u)) [
            | inl e ↦ subst (λ (q : ℕ). get_or (set word place v) q 0 ≡ get_or x q 0) (sym e) (get_or-set_same word place v 0 (omega (arith, h.long)) ∙ sym at)
            | inr m ↦ get_or-set_other word place p v 0 (λ e. omega arith) ∙ sym (h.same p m) ∙ f.front_same.same p m
          ];
        };
        close = (let rest : distance (drop (place + 1) got) (drop (place + 1) x) ≤ left - cost = omega arith in rest);
      },
    )

-- no word that finishes the front has one of the symbols below v at the place
pub record IsTriedBelow (b : Basis) (marks : List Bool) (got front : List ℕ) (place left v : ℕ) : Type 0 where
  pub none : (x : List ℕ) → IsFinish b marks got front place left x → get_or x place 0 < v → ⊥

pub tried_more : (b : Basis) (marks : List Bool) (got front word : List ℕ) (place left v cost : ℕ) → place < length got → length got ≡ length front → SameBefore place front word → IsCost got place v cost
    → IsTriedBelow b marks got front place left v → (cost ≤ left → (x : List ℕ) → IsFinish b marks got (set word place v) (place + 1) (left - cost) x → ⊥) → IsTriedBelow b marks got front place left (v + 1)
tried_more b marks got front word place left v cost lp long h c tried none = record {
  none = λ x f l. elim (eq_or_below (get_or x place 0) v (let u : get_or x place 0 < suc v = omega arith in u)) [
    | inl e ↦ let w : (cost ≤ left) × IsFinish b marks got (set word place v) (place + 1) (left - cost) x = finish_forth b marks got front word x place left v cost lp long h c f e in none w.0 x w.1
    | inr m ↦ tried.none x f m
  ];
}

pub end_found : (b : Basis) (marks : List Bool) (got word : List ℕ) (place left : ℕ) (r : Bool) → length got ≡ place → length word ≡ place → IsTrue r ↔ IsCodeword (times b) b marks word
    → MatchBool r (IsFinish b marks got word place left word) ((x : List ℕ) → IsFinish b marks got word place left x → ⊥)
end_found b marks got word place left true e1 e2 h = finish_at_end b marks got word place left e1 (h.0 refl)
end_found b marks got word place left false e1 e2 h = λ x f. both_ways false refl (h.1 (only_at_end b marks got word place left e2 x f))
