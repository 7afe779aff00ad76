-- The least number of pairs of the members without a mark, among the first members
use Rattle.std.proofs.Common.{◌≡◌, ℕ, ◌+◌, ◌<◌, ◌≤◌, Bool, true, false, Option, None, Some, List, min, arith, inl, inr, subst, sym, ◌∙◌, MatchOption, IfSome}
use Rattle.std.proofs.lemmas.Bool.{cases_eq}
use Rattle.std.specs.Option.{option_map_or}
use Rattle.order_theory.specs.Basis.{Basis, pairs_at, IsSoundBasis, times}
use Rattle.order_theory.specs.Codes.{marked, AreAllMarked, IsOrderBound}
use Rattle.order_theory.proofs.Theorems.{bound_law, near_law}
use Rattle.order_bound.specs.Distance.{HasDistance}

pub record AreMarkedBelow (b : Basis) (marks : List Bool) (m : ℕ) : Type 0 where
  pub each : (k : ℕ) → k < m → marked marks k ≡ true

pub record IsLeastBelow (b : Basis) (marks : List Bool) (m d : ℕ) : Type 0 where
  pub reached : (k : ℕ) × (k < m) × (marked marks k ≡ false) × (pairs_at b k ≡ d)
  pub least : (k : ℕ) → k < m → marked marks k ≡ false → d ≤ pairs_at b k

abbrev pub Leasts : Basis → List Bool → ℕ → Option ℕ → Type 0
Leasts b marks m least = MatchOption least (AreMarkedBelow b marks m) (IsLeastBelow b marks m)

-- a member with a mark changes nothing
pub leasts_marked : (b : Basis) (marks : List Bool) (m : ℕ) (least : Option ℕ) → Leasts b marks m least → marked marks m ≡ true → Leasts b marks (m + 1) least
leasts_marked b marks m None h e = record { each = λ k l. elim (cases_eq k m) [ inl q ↦ subst (λ (i : ℕ). marked marks i ≡ true) (sym q) e | inr d ↦ h.each k (omega arith) ] }
leasts_marked b marks m (Some d) h e = record {
  reached = (h.reached.0, omega (arith, h.reached.1), h.reached.2, h.reached.3);
  least = λ k l f. elim (cases_eq k m) [ inl q ↦ absurd (let t : marked marks k ≡ true = subst (λ (i : ℕ). marked marks i ≡ true) (sym q) e in let u : true ≡ false = sym t ∙ f in cc u) | inr n ↦ h.least k (omega arith) f ];
}

-- a member without a mark counts its pairs
pub leasts_free : (b : Basis) (marks : List Bool) (m : ℕ) (least : Option ℕ) → Leasts b marks m least → marked marks m ≡ false → Leasts b marks (m + 1) (Some (option_map_or (λ d. min (pairs_at b m) d) least (pairs_at b m)))
leasts_free b marks m None h e = record {
  reached = (m, omega arith, e, search (arith));
  least = λ k l f. elim (cases_eq k m) [ inl q ↦ subst (λ (i : ℕ). pairs_at b m ≤ pairs_at b i) (sym q) (omega arith) | inr n ↦ absurd (let t : marked marks k ≡ true = h.each k (omega arith) in let u : true ≡ false = sym t ∙ f in cc u) ];
}
leasts_free b marks m (Some d) h e = record {
  reached = elim (cases_eq (min (pairs_at b m) d) d) [
    | inl q ↦ (h.reached.0, omega (arith, h.reached.1), h.reached.2, omega (arith, h.reached.3))
    | inr l ↦ (m, omega arith, e, omega arith)
  ];
  least = λ k l f. elim (cases_eq k m) [ inl q ↦ subst (λ (i : ℕ). min (pairs_at b m) d ≤ pairs_at b i) (sym q) (omega arith) | inr n ↦ omega (arith, h.least k (omega arith) f) ];
}

pub leasts_all : (b : Basis) (marks : List Bool) (least : Option ℕ) → Leasts b marks b.n least → MatchOption least (AreAllMarked b marks) (IsOrderBound b marks)
leasts_all b marks None h = record { each = h.each }
leasts_all b marks (Some d) h = record { reached = h.reached; least = record { at_most = h.least } }

pub has_distance : (b : Basis) (marks : List Bool) (d : ℕ) → IsSoundBasis b → IsOrderBound b marks d → HasDistance b marks d
has_distance b marks d h o = record {
  weights = λ x c some. bound_law (times b) b marks d x h.sound o.least c some;
  near_once = λ t y x x' l long near near'. near_law (times b) b marks t d y x x' h.sound o.least l long near near';
}

pub leasts_distance : (b : Basis) (marks : List Bool) (least : Option ℕ) → IsSoundBasis b → Leasts b marks b.n least → IfSome least (HasDistance b marks)
leasts_distance b marks None h l = tt
leasts_distance b marks (Some d) h l = has_distance b marks d h (record { reached = l.reached; least = record { at_most = l.least } })
