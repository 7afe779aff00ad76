-- When a list is the error of another
use Rattle.std.proofs.Common.{ℕ, ◌≡◌, ◌+◌, ◌*◌, ◌%◌, ◌^◌, ◌<◌, ◌≤◌, Bool, true, List, [], ◌∷◌, suc, refl, length, get_or, sym, ◌∙◌, ap, subst, inl, inr, arith, bit_xor}
use Rattle.std.specs.Int.Bits.{xor_self}
use Rattle.std.specs.Prelude.{replicate, All}
use Rattle.std.proofs.lemmas.Bool.{cases_lt}
use Rattle.std.proofs.lemmas.List.{get_or-map, length-map, get_or_default, get_or-replicate, get_or_past, length-replicate}
use Rattle.std.proofs.lemmas.Nat.{mod_below, pow_pos}
use Rattle.field_theory.proofs.Sums.{xor_below, xor_same, sum-zero, zero-mul}
use Rattle.order_theory.specs.Basis.{Basis, IsSoundBasis, IsWord, times, vector}
use Rattle.order_theory.specs.Errors.{syndrome, weight}
use Rattle.order_theory.specs.Codes.{IsBound, low_bits, marked, list_sum}
use Rattle.order_theory.specs.Course.{IsErrorOf}
use Rattle.order_theory.proofs.Shape.{word_below}
use Rattle.order_theory.proofs.Weights.{length-list_sum, get_or-list_sum}
use Rattle.order_theory.proofs.Theorems.{syndrome_sum, error_law}

-- the low bits of bytes are symbols
pub low_word : (bits n : ℕ) (bytes : List ℕ) → length bytes ≡ n → IsWord bits n (low_bits bits bytes)
low_word bits n bytes long = record {
  n_long = length-map bytes (λ (a : ℕ). a % 2 ^ bits) ∙ long;
  symbols = λ p d l.
      let low : p < length bytes = omega (arith, length-map bytes (λ (a : ℕ). a % 2 ^ bits)) in
      subst (λ (u : ℕ). u < 2 ^ bits) (sym (get_or-map (λ (a : ℕ). a % 2 ^ bits) bytes p 0 d low)) (mod_below (get_or bytes p 0) (2 ^ bits) (pow_pos bits));
}

-- a list of zeros
pub zero_at : (e : List ℕ) (n : ℕ) → e ≡ replicate n 0 → (p : ℕ) → get_or e p 0 ≡ 0
zero_at e n is p = ap (λ (xs : List ℕ). get_or xs p 0) is ∙ elim (cases_lt p n) [
  | inl l ↦ get_or-replicate n p 0 0 l
  | inr l ↦ get_or_past (replicate n 0) p 0 (omega (arith, length-replicate {A = ℕ} n 0))
]

pub zeros_of : (e : List ℕ) (n : ℕ) → e ≡ replicate n 0 → All (λ x. x ≡ 0) e
zeros_of e n is p d l = sym (get_or_default e p 0 d l) ∙ zero_at e n is p

-- a list of zeros has weight 0
pub weight_of_zeros : (e : List ℕ) → All (λ x. x ≡ 0) e → weight e ≡ 0
weight_of_zeros [] z = refl
weight_of_zeros (x ∷ xs) z =
    let here : x ≡ 0 = z 0 0 (omega arith) in
    let rest : weight xs ≡ 0 = weight_of_zeros xs (λ p d l. z (suc p) d (omega arith)) in
    subst (λ (y : ℕ). weight (y ∷ xs) ≡ 0) (sym here) rest

module _ (b : Basis) (marks : List Bool) (t : ℕ) (y : List ℕ) (h : IsSoundBasis b) (yw : IsWord b.bits b.n y) where
  -- a list with the right syndromes at the marked members is an error
  pub error_from : (err : List ℕ) → IsWord b.bits b.n err → weight err ≤ t
      → ((k : ℕ) → k < b.n → marked marks k ≡ true → syndrome (times b) b err k ≡ syndrome (times b) b y k) → IsErrorOf (times b) b marks t y err
  error_from err ew light same =
      let long : length y ≡ length err = yw.n_long ∙ sym ew.n_long in
      record {
        is_word = ew;
        light = light;
        corrects = record {
          is_word = record {
            n_long = length-list_sum y err long ∙ yw.n_long;
            symbols = λ p d l. subst (λ (x : ℕ). x < 2 ^ b.bits) (sym (get_or-list_sum y err p long) ∙ get_or_default (list_sum y err) p 0 d l)
                (xor_below (2 ^ b.bits) (times b) h.sound.field (get_or y p 0) (get_or err p 0) (word_below yw p) (word_below ew p));
          };
          orthogonal = λ k lk m.
              syndrome_sum (times b) b h.sound (λ p. get_or y p 0) (λ p. get_or err p 0) (λ p. get_or (list_sum y err) p 0) k (λ p l. get_or-list_sum y err p long)
              ∙ ap (λ (x : ℕ). bit_xor (syndrome (times b) b y k) x) (same k lk m) ∙ xor_self (syndrome (times b) b y k);
        };
      }

  -- an error has them
  pub error_agrees : (e : List ℕ) → IsErrorOf (times b) b marks t y e → (k : ℕ) → k < b.n → marked marks k ≡ true → syndrome (times b) b y k ≡ syndrome (times b) b e k
  error_agrees e x k lk m =
      xor_same (syndrome (times b) b y k) (syndrome (times b) b e k)
      (sym (syndrome_sum (times b) b h.sound (λ p. get_or y p 0) (λ p. get_or e p 0) (λ p. get_or (list_sum y e) p 0) k (λ p l. get_or-list_sum y e p (yw.n_long ∙ sym x.is_word.n_long)))
      ∙ x.corrects.orthogonal k lk m)

  -- it is the only one
  pub error_once : (e e' : List ℕ) → IsBound b marks (2 * t + 1) → IsErrorOf (times b) b marks t y e → IsErrorOf (times b) b marks t y e' → e ≡ e'
  error_once e e' bound x x' = error_law (times b) b marks t (2 * t + 1) y e e' h.sound bound (omega arith) yw x.is_word x'.is_word x.corrects x'.corrects x.light x'.light

  -- what is undamaged has the error of zeros
  pub error_of_none : (e : List ℕ) (n : ℕ) → e ≡ replicate n 0 → n ≡ b.n → ((k : ℕ) → k < b.n → marked marks k ≡ true → syndrome (times b) b y k ≡ 0) → IsErrorOf (times b) b marks t y e
  error_of_none e n is f zero =
      error_from e (word_of_zeros e n is f) (let w : weight e ≡ 0 = weight_of_zeros e (zeros_of e n is) in omega arith)
      (λ k lk m. syndrome_of_zeros e n is k ∙ sym (zero k lk m))
    where
      syndrome_of_zeros : (e : List ℕ) (n : ℕ) → e ≡ replicate n 0 → (k : ℕ) → syndrome (times b) b e k ≡ 0
      syndrome_of_zeros e n is k = sum-zero b.n (λ p. times b (get_or e p 0) (vector b k p)) (λ p l. ap (λ (x : ℕ). times b x (vector b k p)) (zero_at e n is p) ∙ zero-mul (2 ^ b.bits) (times b) h.sound.field (vector b k p))

      word_of_zeros : (e : List ℕ) (n : ℕ) → e ≡ replicate n 0 → n ≡ b.n → IsWord b.bits b.n e
      word_of_zeros e n is f = record {
        n_long = ap length is ∙ length-replicate n 0 ∙ f;
        symbols = λ p d l. subst (λ (x : ℕ). x < 2 ^ b.bits) (sym (zeros_of e n is p d l)) (pow_pos b.bits);
      }
