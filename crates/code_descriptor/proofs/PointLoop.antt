-- What is known of the points before the first that is refused
use Rattle.std.proofs.Common.{◌≡◌, ◌≢◌, ℕ, ◌-◌, ◌<◌, ◌≤◌, ◌^◌, Bool, true, false, not, ◌&&◌, ◌||◌, leb, eqb, IsTrue, List, length, take, map, get_or, min, Option, Some, None, option_map, refl, sym, ap, ◌∙◌, inl, inr, arith, pos}
use Rattle.std.specs.List.{All, AllPairs, Contains}
use Rattle.std.proofs.Math.Seq.{take-length}
use Rattle.std.proofs.lemmas.List.{get_or-map, get_or-take, take-map, length-map, length-take, length-take-le}
use Rattle.std.proofs.lemmas.List.Folds.{list_any_at}
use Rattle.std.proofs.lemmas.Bool.{cases_lt, both_ways, or_parts, or_left, le-leb, not-false, and_parts, and_from, eq-eqb}
use Rattle.order_domain.specs.declared.Point.{Point}
use Rattle.cab_curve.specs.First.{least}
use Rattle.code_descriptor.specs.Parts.{Space, is_on_space, coordinates}
use Rattle.cab_curve.proofs.Least.{least-at, least-none}
use Rattle.code_descriptor.specs.declared.DescCause.TheVariants.{BadPoint}
use Rattle.code_descriptor.specs.Tree.{NamedPoint}
use Rattle.code_descriptor.specs.Tests.{plain_point, named_point_at, has_point, is_space_point, is_bad_point, point_refusal, is_from_to}

pub refused_at : (m p : ℕ) (s : Space) (ps : List NamedPoint) (k : ℕ) → least k (is_bad_point m p s ps) ≡ None → is_bad_point m p s ps k ≡ true → k < length ps
    → point_refusal m p s ps ≡ Some (BadPoint k)
unfolding point_refusal
refused_at m p s ps k none bad lt = rw (least-at (length ps) k (is_bad_point m p s ps) none bad lt) refl

-- no more than 1024 points come before a refusal
pub few_points : (m p : ℕ) (s : Space) (ps : List NamedPoint) (k : ℕ) → least k (is_bad_point m p s ps) ≡ None → k ≤ 1024
unfolding is_bad_point
few_points m p s ps k none =
    elim (cases_lt 1024 k) [
      | inl over ↦
          let bad : leb 1024 1024 || not (is_space_point m p s (named_point_at ps 1024)) ≡ true = or_left (leb 1024 1024) (not (is_space_point m p s (named_point_at ps 1024))) (le-leb 1024 1024 (omega arith)) in
          absurd (both_ways (is_bad_point m p s ps 1024) (least-none k (is_bad_point m p s ps) none 1024 over)
          (or_left (leb 1024 1024 || not (is_space_point m p s (named_point_at ps 1024))) (has_point (map plain_point (take 1024 ps)) (plain_point (named_point_at ps 1024))) bad))
      | inr few ↦ few
    ]

pub all_points : (m p : ℕ) (s : Space) (ps : List NamedPoint) (k : ℕ) (plain : List Point) → k ≡ length ps → least k (is_bad_point m p s ps) ≡ None → plain ≡ map plain_point (take k ps)
    → (point_refusal m p s ps ≡ None) × (plain ≡ map plain_point ps)
unfolding point_refusal
all_points m p s ps k plain e none items =
    let mine : least (length ps) (is_bad_point m p s ps) ≡ None = rw e at none in
    (rw mine refl, items ∙ ap (λ (n : ℕ). map plain_point (take n ps)) e ∙ ap (map plain_point) (take-length ps))

-- ---- what holds of points of which none is refused

-- the same point passes the test of a point
same_test : (r q : Point) → r ≡ q → ((eqb r.x q.x && eqb r.y q.y) && eqb r.z q.z) ≡ true
same_test r q e =
    and_from (eqb r.x q.x && eqb r.y q.y) (eqb r.z q.z)
    (and_from (eqb r.x q.x) (eqb r.y q.y) (eq-eqb r.x q.x (ap (λ (t : Point). t.x) e)) (eq-eqb r.y q.y (ap (λ (t : Point). t.y) e)))
    (eq-eqb r.z q.z (ap (λ (t : Point). t.z) e))

-- what is known of a point that is not refused
record IsGoodPoint (m p : ℕ) (s : Space) (ps : List NamedPoint) (k : ℕ) : Type 0 where
  on_space : is_on_space m p s (plain_point (named_point_at ps k)) ≡ true
  new : has_point (map plain_point (take k ps)) (plain_point (named_point_at ps k)) ≡ false

good_point : (m p : ℕ) (s : Space) (ps : List NamedPoint) (k : ℕ) → is_bad_point m p s ps k ≡ false → IsGoodPoint m p s ps k
unfolding is_bad_point is_space_point
good_point m p s ps k h =
    let q : NamedPoint = named_point_at ps k in
    let ranges : Bool = eqb q.count (coordinates s) && ((is_from_to 0 (2 ^ m - 1) q.x && is_from_to 0 (2 ^ m - 1) q.y) && is_from_to 0 (2 ^ m - 1) q.z) in
    let on : Bool = is_on_space m p s (plain_point q) in
    let parts = or_parts (leb 1024 k || not (ranges && on)) (has_point (map plain_point (take k ps)) (plain_point q)) h in
    let low = or_parts (leb 1024 k) (not (ranges && on)) parts.0 in
    record { on_space = (and_parts ranges on (not-false (ranges && on) low.1)).1; new = parts.1 }

none_bad : (m p : ℕ) (s : Space) (ps : List NamedPoint) (o : Option ℕ) → least (length ps) (is_bad_point m p s ps) ≡ o → option_map BadPoint o ≡ None → o ≡ None
none_bad m p s ps None e h = refl
none_bad m p s ps (Some k) e h = cc

module _ (m p : ℕ) (s : Space) (ps : List NamedPoint) (none : point_refusal m p s ps ≡ None) where
  first_none : least (length ps) (is_bad_point m p s ps) ≡ None
  unfolding point_refusal
  first_none = none_bad m p s ps (least (length ps) (is_bad_point m p s ps)) refl none

  good_at : (k : ℕ) → k < length ps → IsGoodPoint m p s ps k
  good_at k l = good_point m p s ps k (least-none (length ps) (is_bad_point m p s ps) first_none k l)

  at_map : (k : ℕ) (d : Point) → k < length ps → get_or (map plain_point ps) k d ≡ plain_point (named_point_at ps k)
  at_map k d l = get_or-map plain_point ps k (record { count = 0; x = pos 0; y = pos 0; z = pos 0 }) d l

  same_length : length (map plain_point ps) ≡ length ps
  same_length = simp length-map

  pub all_few : length (map plain_point ps) ≤ 1024
  all_few = let few = few_points m p s ps (length ps) first_none in omega (arith, same_length)

  pub all_on_space : All (λ q. IsTrue (is_on_space m p s q)) (map plain_point ps)
  all_on_space k d l =
      let within : k < length ps = omega (arith, same_length) in
      ap (is_on_space m p s) (at_map k d within) ∙ (good_at k within).on_space

  pub all_distinct : AllPairs (λ q r. q ≢ r) (map plain_point ps)
  all_distinct i j d l h e =
      let within : j < length ps = omega (arith, same_length) in
      let q : Point = plain_point (named_point_at ps j) in
      let same : get_or (map plain_point (take j ps)) i d ≡ q =
      ap (λ xs. get_or xs i d) (sym (take-map plain_point j ps)) ∙ get_or-take j (map plain_point ps) i d l ∙ e ∙ at_map j d within in
      let count : length (map plain_point (take j ps)) ≡ length (take j ps) = simp length-map in
      let front : i < length (map plain_point (take j ps)) = omega (arith, length-take-le j ps (omega arith)) in
      let test : Point → Bool = λ r. (eqb r.x q.x && eqb r.y q.y) && eqb r.z q.z in
      both_ways (has_point (map plain_point (take j ps)) q) (good_at j within).new
      (list_any_at test (map plain_point (take j ps)) i d front
      (same_test (get_or (map plain_point (take j ps)) i d) q same))

-- ---- a point that is not among those before it

pub is_fresh : (ps : List Point) (p : Point) → has_point ps p ≡ false → Contains ps p → ⊥
is_fresh ps p h w =
    let q : Point = get_or ps w.0 p in
    both_ways (has_point ps p) h
    (list_any_at (λ r. (eqb r.x p.x && eqb r.y p.y) && eqb r.z p.z) ps w.0 p w.1 (same_test q p w.2))

pub has_room : (ps : List NamedPoint) (k : ℕ) (plain : List Point) → plain ≡ map plain_point (take k ps) → k < 1024 → length plain < 1024
has_room ps k plain e l =
    let same : length plain ≡ length (take k ps) = ap length e ∙ simp length-map in
    let few : length (take k ps) ≡ min k (length ps) = length-take k ps in
    omega arith
