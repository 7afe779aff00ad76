-- Sums by weight, one summand at a time
use Rattle.std.proofs.Common.{◌≡◌, ℕ, ◌+◌, ◌*◌, ◌<◌, ◌≤◌, cond, eqb, List, length, get_or, set, take, suc, sym, ◌∙◌, ap, arith, add-one, mul_comm, mul-add, bit_xor}
use Rattle.std.specs.Int.Bits.{xor_assoc, xor_zero_r}
use Rattle.field_theory.specs.Field.{IsField}
use Rattle.field_theory.specs.Sums.{xor_sum}
use Rattle.field_theory.proofs.Sums.{mul-zero, zero-mul}
use Rattle.curve_theory.specs.declared.Term.{Term}
use Rattle.curve_theory.specs.Semigroup.{x_exponent, y_exponent}
use Rattle.curve_theory.specs.Normal.{weight_coefficient, times_monomial}
use Rattle.curve_theory.specs.Weights.{y_times_monomial, y_times_function}
use Rattle.curve_theory.proofs.Weights.{get_or-set_xor, weight_coefficient-take_more, y_times_monomial-more}

-- where a term of the relation goes, if y is of the degree a less 1
pub term-room : (a b i j n : ℕ) (t : Term) → j < a → a ≤ j + 1 → a * i + b * (j + 1) < n → a * t.i + b * t.j ≤ a * b → a * (i + t.i) + b * t.j < n
term-room a b i j n t lj ge room weight =
    let top : j + 1 ≡ a = omega arith in
    let same : b * (j + 1) ≡ a * b = ap (λ (z : ℕ). b * z) top ∙ mul_comm b a in
    let split : a * (i + t.i) ≡ a * i + a * t.i = mul-add a i t.i in
    omega arith

module _ (size : ℕ) (mul : ℕ → ℕ → ℕ) (field : IsField size mul) (a b : ℕ) where
  pub nothing_added : (x c : ℕ) → x ≡ bit_xor x (mul c 0)
  nothing_added x c = sym (ap (λ z. bit_xor x z) (mul-zero size mul field c) ∙ xor_zero_r x)

  -- c times term k of r, each times x^i
  pub term_added : (i c k m w : ℕ) (r : List Term) (d : Term) (old sums : List ℕ) → k < length r →
      a * (i + (get_or r k d).i) + b * (get_or r k d).j < length sums → m ≡ mul c (get_or r k d).c →
      get_or sums w 0 ≡ bit_xor (get_or old w 0) (mul c (weight_coefficient a b (times_monomial mul i 0 1 (take k r)) w)) →
      get_or (set sums (a * (i + (get_or r k d).i) + b * (get_or r k d).j) (bit_xor (get_or sums (a * (i + (get_or r k d).i) + b * (get_or r k d).j) 0) m)) w 0
      ≡ bit_xor (get_or old w 0) (mul c (weight_coefficient a b (times_monomial mul i 0 1 (take (k + 1) r)) w))
  term_added i c k m w r d old sums l room e h =
      let p : ℕ = a * (i + (get_or r k d).i) + b * (get_or r k d).j in
      let W : ℕ = weight_coefficient a b (times_monomial mul i 0 1 (take k r)) w in
      get_or-set_xor sums p m w room
      ∙ ap (λ z. bit_xor z (cond (eqb p w) m 0)) h
      ∙ xor_assoc (get_or old w 0) (mul c W) (cond (eqb p w) m 0)
      ∙ ap (λ z. bit_xor (get_or old w 0) (bit_xor (mul c W) (cond (eqb p w) z 0))) e
      ∙ ap (λ z. bit_xor (get_or old w 0) z) (sym (weight_coefficient-take_more size mul field a b i c r k d w l))

  -- c·y times x^i·y^j, below y^a
  pub y_added : (i j c w : ℕ) (r : List Term) (sums : List ℕ) → c < size → j + 1 < a → a * i + b * (j + 1) < length sums →
      get_or (set sums (a * i + b * (j + 1)) (bit_xor (get_or sums (a * i + b * (j + 1)) 0) c)) w 0
      ≡ bit_xor (get_or sums w 0) (mul c (weight_coefficient a b (y_times_monomial mul a r i j) w))
  y_added i j c w r sums lc lj room =
      get_or-set_xor sums (a * i + b * (j + 1)) c w room
      ∙ ap (λ z. bit_xor (get_or sums w 0) z)
      (ap (λ (n : ℕ). cond (eqb (a * i + b * n) w) c 0) (add-one j) ∙ sym (y_times_monomial-more size mul field a b i j c w r lc (let k : suc j < a = omega arith in k)))

  -- the sum that y times a combination is, up to one weight
  module _ (r : List Term) (combination : List ℕ) (w : ℕ) where
    summand : ℕ → ℕ
    summand v = mul (get_or combination v 0) (weight_coefficient a b (y_times_function mul a b r v) w)

    pub one_added : (v i j old new : ℕ) → i ≡ x_exponent a b v → j ≡ y_exponent a b v →
        old ≡ xor_sum v (λ v. mul (get_or combination v 0) (weight_coefficient a b (y_times_function mul a b r v) w)) →
        new ≡ bit_xor old (mul (get_or combination v 0) (weight_coefficient a b (y_times_monomial mul a r i j) w)) →
        new ≡ xor_sum (v + 1) (λ v. mul (get_or combination v 0) (weight_coefficient a b (y_times_function mul a b r v) w))
    unfolding summand
    one_added v i j old new ei ej h step =
        step ∙ ap (λ z. bit_xor z (mul (get_or combination v 0) (weight_coefficient a b (y_times_monomial mul a r i j) w))) h
        ∙ ap (λ (z : ℕ). bit_xor (xor_sum v summand) (mul (get_or combination v 0) (weight_coefficient a b (y_times_monomial mul a r z j) w))) ei
        ∙ ap (λ (z : ℕ). bit_xor (xor_sum v summand) (mul (get_or combination v 0) (weight_coefficient a b (y_times_monomial mul a r (x_exponent a b v) z) w))) ej
        ∙ ap (λ (n : ℕ). xor_sum n summand) (sym (add-one v))

    pub none_added : (v old : ℕ) → get_or combination v 0 ≡ 0 →
        old ≡ xor_sum v (λ v. mul (get_or combination v 0) (weight_coefficient a b (y_times_function mul a b r v) w)) →
        old ≡ xor_sum (v + 1) (λ v. mul (get_or combination v 0) (weight_coefficient a b (y_times_function mul a b r v) w))
    unfolding summand
    none_added v old z h =
        h ∙ sym (ap (λ (n : ℕ). xor_sum n summand) (add-one v)
        ∙ ap (λ (x : ℕ). bit_xor (xor_sum v summand) (mul x (weight_coefficient a b (y_times_function mul a b r v) w))) z
        ∙ ap (λ (x : ℕ). bit_xor (xor_sum v summand) x) (zero-mul size mul field (weight_coefficient a b (y_times_function mul a b r v) w))
        ∙ xor_zero_r (xor_sum v summand))
