-- Normal forms of monomials, step by step: of y^j, and of x^i times it
use Rattle.std.proofs.lemmas.Bool.{cases_lt, cond-true, cond-false, le-leb, lt-leb}
use Rattle.std.proofs.Common.{◌≡◌, ℕ, zero, suc, ◌+◌, ◌-◌, ◌*◌, ◌<◌, cond, leb, eqb, ◌&&◌, List, sym, ◌∙◌, ap, refl, inl, inr, arith}
use Rattle.field_theory.specs.Field.{IsField}
use Rattle.curve_theory.specs.Curve.{Term, IsEquation}
use Rattle.curve_theory.specs.Normal.{relation}
use Rattle.curve_theory.specs.Polynomial.{one, shift_x, shift_y, by_weights, IsNormalForm}
use Rattle.curve_theory.specs.Weights.{times_x_by_weights, times_y_by_weights}
use Rattle.curve_theory.proofs.Exists.{term, eqb_suc, same_change, shift_y-one, one-other_x}
use Rattle.curve_theory.proofs.Weights.{normal_form_change, normal_form-times_y, normal_form-times_x}

pub shift_x-one : (i j c k l : ℕ) → shift_x (one (term i j c)) k l ≡ one (term (suc i) j c) k l
shift_x-one i j c zero l = sym (one-other_x (term (suc i) j c) 0 l (λ e. absurd (omega arith)))
shift_x-one i j c (suc k) l = ap (λ q. cond (q && eqb j l) c 0) (sym (eqb_suc i k))

module _ (size : ℕ) (mul : ℕ → ℕ → ℕ) (field : IsField size mul) (a b : ℕ) (ts : List Term) (curve : IsEquation size a b ts) where
  normal_form_same : (p q : ℕ → ℕ → ℕ) (c : ℕ → ℕ) → ((i j : ℕ) → q i j ≡ p i j) → IsNormalForm size mul a b ts p c → IsNormalForm size mul a b ts q c
  normal_form_same p q c e h = record {
    symbol = h.symbol;
    members = h.members;
    bound = h.bound;
    beyond = h.beyond;
    same = same_change size mul field ts p (by_weights a b c) q (by_weights a b c) e (λ i j. refl) h.same;
  }

  -- from the power k of y to the next; c is 0 above n
  pub y_step : (k n : ℕ) (c : ℕ → ℕ) → ((w : ℕ) → n < w → c w ≡ 0) → IsNormalForm size mul a b ts (one (term 0 k 1)) c →
      IsNormalForm size mul a b ts (one (term 0 (suc k) 1)) (times_y_by_weights mul a b (relation size mul a ts) n c)
  y_step k n c z h =
      normal_form_same (shift_y (one (term 0 k 1))) (one (term 0 (suc k) 1)) (times_y_by_weights mul a b (relation size mul a ts) n c) (λ i j. shift_y-one 0 k 1 i j)
      (normal_form-times_y size mul field a b ts curve (one (term 0 k 1)) c
      (record { symbol = h.symbol; members = h.members; bound = n; beyond = z; same = h.same }))

  moved : (m : ℕ) (c : ℕ → ℕ) → ℕ → ℕ
  moved m c w = cond (leb (a * m) w) (c (w - a * m)) 0

  moved_none : (c : ℕ → ℕ) (w : ℕ) → moved 0 c w ≡ c w
  unfolding moved
  moved_none c w =
      let e : a * 0 ≡ 0 = omega arith in
      let n : w - a * 0 ≡ w = omega arith in
      cond-true (leb (a * 0) w) (c (w - a * 0)) 0 (le-leb (a * 0) w (omega arith)) ∙ ap c n

  moved_more : (m : ℕ) (c : ℕ → ℕ) (w : ℕ) → moved (suc m) c w ≡ times_x_by_weights a (moved m c) w
  unfolding moved
  moved_more m c w =
      let e : a * suc m ≡ a * m + a = omega arith in
      elim (cases_lt w a) [
        | inl l ↦
            cond-false (leb (a * suc m) w) (c (w - a * suc m)) 0 (lt-leb (a * suc m) w (omega arith))
            ∙ sym (cond-false (leb a w) (moved m c (w - a)) 0 (lt-leb a w l))
        | inr l ↦ elim (cases_lt (w - a) (a * m)) [
          | inl k ↦
              cond-false (leb (a * suc m) w) (c (w - a * suc m)) 0 (lt-leb (a * suc m) w (omega arith))
              ∙ sym (cond-true (leb a w) (moved m c (w - a)) 0 (le-leb a w l) ∙ cond-false (leb (a * m) (w - a)) (c (w - a - a * m)) 0 (lt-leb (a * m) (w - a) k))
          | inr k ↦
              let d : w - a * suc m ≡ w - a - a * m = omega arith in
              cond-true (leb (a * suc m) w) (c (w - a * suc m)) 0 (le-leb (a * suc m) w (omega arith)) ∙ ap c d
              ∙ sym (cond-true (leb a w) (moved m c (w - a)) 0 (le-leb a w l) ∙ cond-true (leb (a * m) (w - a)) (c (w - a - a * m)) 0 (le-leb (a * m) (w - a) k))
        ]
      ]

  -- x^m times a monomial
  x_steps_of : (m i j : ℕ) (c : ℕ → ℕ) → IsNormalForm size mul a b ts (one (term i j 1)) c → IsNormalForm size mul a b ts (one (term (m + i) j 1)) (moved m c)
  x_steps_of zero i j c h =
      let e : 0 + i ≡ i = omega arith in
      normal_form_change size mul field a b ts curve (one (term (0 + i) j 1)) c (moved 0 c) (moved_none c)
      (normal_form_same (one (term i j 1)) (one (term (0 + i) j 1)) c (λ k l. ap (λ (n : ℕ). one (term n j 1) k l) e) h)
  x_steps_of (suc m) i j c h =
      let e : suc m + i ≡ suc (m + i) = omega arith in
      let ih : IsNormalForm size mul a b ts (one (term (m + i) j 1)) (moved m c) = x_steps_of m i j c h in
      normal_form_change size mul field a b ts curve (one (term (suc m + i) j 1)) (times_x_by_weights a (moved m c)) (moved (suc m) c) (moved_more m c)
      (normal_form_same (shift_x (one (term (m + i) j 1))) (one (term (suc m + i) j 1)) (times_x_by_weights a (moved m c))
      (λ k l. ap (λ (n : ℕ). one (term n j 1) k l) e ∙ sym (shift_x-one (m + i) j 1 k l))
      (normal_form-times_x size mul field a b ts curve (one (term (m + i) j 1)) (moved m c) ih))

  pub x_steps : (m j : ℕ) (c : ℕ → ℕ) → IsNormalForm size mul a b ts (one (term 0 j 1)) c → IsNormalForm size mul a b ts (one (term m j 1)) (λ w. cond (leb (a * m) w) (c (w - a * m)) 0)
  unfolding moved
  x_steps m j c h =
      let e : m ≡ m + 0 = omega arith in
      normal_form_same (one (term (m + 0) j 1)) (one (term m j 1)) (moved m c) (λ k l. ap (λ (n : ℕ). one (term n j 1) k l) e) (x_steps_of m 0 j c h)
