-- The scan of a reduced form for its pivots
use Rattle.std.proofs.lemmas.Bool.{cases_lt, cases_eq}
use Rattle.std.proofs.Common.{◌≡◌, ◌≢◌, ℕ, ◌+◌, ◌-◌, ◌<◌, ◌≤◌, sym, ◌∙◌, ap, subst, inl, inr, arith}
use Rattle.linear_theory.specs.Linear.{IsReduced}
use Rattle.linear_theory.proofs.Spans.{put-same}
use Rattle.linear_theory.proofs.Free.{IsFront}
use Rattle.solution_theory.specs.Solutions.{HasPivot}

-- Of the first j columns, t have a pivot, all from `start` on have one, and the one before `start` has none
pub record IsScan (k : ℕ) (pivots : ℕ → ℕ) (j t start : ℕ) : Type 0 where
  pub front : IsFront pivots k j t
  pub within : start ≤ j
  pub solid : (q : ℕ) → start ≤ q → q < j → HasPivot pivots k q
  pub gap : (q : ℕ) → start ≡ q + 1 → HasPivot pivots k q → ⊥

pub scan_start : {n : ℕ} {rows : ℕ → ℕ → ℕ} {r k : ℕ} (h : IsReduced n rows r k) → IsScan k h.pivots 0 0 0
scan_start h = record {
  front = record { few = omega arith; below = λ t l. absurd (omega arith); past = λ t a l. omega arith };
  within = omega arith;
  solid = λ q a l. absurd (omega arith);
  gap = λ q e. absurd (omega arith);
}

module _ {n : ℕ} {rows : ℕ → ℕ → ℕ} {r k : ℕ} (h : IsReduced n rows r k) (j t start : ℕ) (l : j < n) (s : IsScan k h.pivots j t start) where
  -- where row t is not 0 at column j, its pivot is there
  lead_is : t < r → rows t j ≢ 0 → (t < k) × (h.pivots t ≡ j)
  lead_is lt d = elim (cases_lt t k) [
    | inr a ↦ absurd (d (h.zeros t j a lt l))
    | inl a ↦
        let past : j ≤ h.pivots t = s.front.past t (omega arith) a in
        elim (cases_lt j (h.pivots t)) [
          | inl b ↦ absurd (d (h.before t j a b))
          | inr b ↦ (a, omega arith)
        ]
  ]

  -- where it is, no pivot is there
  no_lead : (t < r → rows t j ≡ 0) → HasPivot h.pivots k j → ⊥
  no_lead z (u, lu, at) =
      let few : k ≤ r = h.few in
      let high : t ≤ u = elim (cases_lt u t) [
        | inl a ↦ (let w : h.pivots u < j = s.front.below u a in absurd (omega arith))
        | inr a ↦ a
      ] in
      elim (cases_eq t u) [
        | inl e ↦
            let one : rows t j ≡ 1 = ap (λ q. rows t q) (sym at ∙ ap h.pivots (sym e)) ∙ h.columns t t (omega arith) (omega arith) ∙ put-same (λ i. 0) t 1 in
            let none : rows t j ≡ 0 = z (omega arith) in
            absurd (omega arith)
        | inr d ↦
            let a : h.pivots t < h.pivots u = h.rising t u (omega arith) lu in
            let b : j ≤ h.pivots t = s.front.past t (omega arith) (omega arith) in
            absurd (omega arith)
      ]

  pub scan_lead : (t < r) × (rows t j ≢ 0) → IsScan k h.pivots (j + 1) (t + 1) start
  scan_lead (lt, d) =
      let (lk, at) = lead_is lt d in
      record {
        front = record {
          few = omega arith;
          below = λ u lu. elim (cases_eq u t) [
            | inl e ↦ (let w : h.pivots u ≡ j = ap h.pivots e ∙ at in omega arith)
            | inr ne ↦ (let w : h.pivots u < j = s.front.below u (omega arith) in omega arith)
          ];
          past = λ u a b. (let w : h.pivots t < h.pivots u = h.rising t u (omega arith) b in omega arith);
        };
        within = (let w : start ≤ j = s.within in omega arith);
        solid = λ q a b. elim (cases_eq q j) [
          | inl e ↦ (t, lk, at ∙ sym e)
          | inr ne ↦ s.solid q a (omega arith)
        ];
        gap = s.gap;
      }

  pub scan_other : ((t < r) × (rows t j ≢ 0) → ⊥) → IsScan k h.pivots (j + 1) t (j + 1)
  scan_other none =
      let apart : HasPivot h.pivots k j → ⊥ = no_lead (λ lt. elim (cases_eq (rows t j) 0) [ inl e ↦ e | inr d ↦ absurd (none (lt, d)) ]) in
      record {
        front = record {
          few = s.front.few;
          below = λ u lu. (let w : h.pivots u < j = s.front.below u lu in omega arith);
          past = λ u a b. (let w : j ≤ h.pivots u = s.front.past u a b in
              elim (cases_eq (h.pivots u) j) [
                | inl e ↦ absurd (apart (u, b, e))
                | inr d ↦ omega arith
              ]);
        };
        within = omega arith;
        solid = λ q a b. absurd (omega arith);
        gap = λ q e has. apart (subst (λ (p : ℕ). HasPivot h.pivots k p) (let w : q ≡ j = omega arith in w) has);
      }

  pub scan_last : (t < r) × (rows t j ≢ 0) → HasPivot h.pivots k j
  scan_last (lt, d) = let (lk, at) = lead_is lt d in (t, lk, at)

  pub scan_no_last : ((t < r) × (rows t j ≢ 0) → ⊥) → HasPivot h.pivots k j → ⊥
  scan_no_last none = no_lead (λ lt. elim (cases_eq (rows t j) 0) [ inl e ↦ e | inr d ↦ absurd (none (lt, d)) ])

-- ---- the end of the scan, before the last of n columns; w stands for n
module _ {n : ℕ} {rows : ℕ → ℕ → ℕ} {r k : ℕ} (h : IsReduced n rows r k) (j t start w : ℕ) (some : 1 ≤ n) (is : w ≡ n) (low : j ≤ w - 1) (end : w - 1 ≤ j) (s : IsScan k h.pivots j t start) where
  scanned : IsScan k h.pivots (n - 1) t start
  scanned = subst (λ (q : ℕ). IsScan k h.pivots q t start) (let e : j ≡ n - 1 = omega arith in e) s

  last : w - 1 ≡ n - 1
  last = omega arith

  pub end_lead : (t < r) × (rows t (w - 1) ≢ 0) → HasPivot h.pivots k (n - 1)
  end_lead (lt, d) = scan_last h (n - 1) t start (omega arith) scanned (lt, λ e. d (ap (rows t) last ∙ e))

  pub end_no_lead : ((t < r) × (rows t (w - 1) ≢ 0) → ⊥) → HasPivot h.pivots k (n - 1) → ⊥
  end_no_lead none = scan_no_last h (n - 1) t start (omega arith) scanned (λ (lt, d). none (lt, λ e. d (ap (rows t) (sym last) ∙ e)))

  pub end_all : start ≡ 0 → (q : ℕ) → q < n - 1 → HasPivot h.pivots k q
  end_all e q l = scanned.solid q (omega arith) l

  pub end_gap : start ≢ 0 → (start - 1 < n - 1) × (HasPivot h.pivots k (start - 1) → ⊥) × ((q : ℕ) → start - 1 < q → q < n - 1 → HasPivot h.pivots k q)
  end_gap d =
      let within : start ≤ n - 1 = scanned.within in
      (omega arith, scanned.gap (start - 1) (omega arith), λ q a l. scanned.solid q (omega arith) l)
