-- A block and a codeword together have the errors of the block
use Rattle.std.proofs.Common.{ℕ, ◌≡◌, ◌<◌, ◌^◌, Bool, true, List, length, get_or, sym, ◌∙◌, ap, subst, bit_xor}
use Rattle.std.proofs.lemmas.List.{get_or_default}
use Rattle.std.specs.Int.Bits.{xor_zero_r}
use Rattle.field_theory.proofs.Sums.{xor_below}
use Rattle.order_theory.specs.Basis.{Basis, IsSoundBasis, IsWord, times}
use Rattle.order_theory.specs.Errors.{syndrome}
use Rattle.order_theory.specs.Codes.{IsCodeword, marked, list_sum}
use Rattle.order_theory.specs.Course.{IsErrorOf}
use Rattle.order_theory.proofs.Shape.{word_below}
use Rattle.order_theory.proofs.Weights.{length-list_sum, get_or-list_sum}
use Rattle.order_theory.proofs.Theorems.{syndrome_sum}
use Rattle.order_theory.proofs.Errors.{error_from, error_agrees}
use Rattle.vote_core.specs.Found.{IsAnswer}
use Rattle.vote_core.specs.declared.voter.Found.{Found}
use Rattle.vote_core.specs.declared.voter.Found.TheVariants.{Error, Far}

-- lists with the same syndromes at the marked members have the same errors
same_errors : (b : Basis) (marks : List Bool) (t : ℕ) (y z : List ℕ) → IsSoundBasis b → IsWord b.bits b.n y → IsWord b.bits b.n z
    → ((k : ℕ) → k < b.n → marked marks k ≡ true → syndrome (times b) b z k ≡ syndrome (times b) b y k)
    → (e : List ℕ) → IsErrorOf (times b) b marks t z e → IsErrorOf (times b) b marks t y e
same_errors b marks t y z h yw zw same e x =
    error_from b marks t y h yw e x.is_word x.light (λ k lk m. sym (error_agrees b marks t z h zw e x k lk m) ∙ same k lk m)

module _ (b : Basis) (marks : List Bool) (t : ℕ) (y c : List ℕ) (h : IsSoundBasis b) (yw : IsWord b.bits b.n y) (cw : IsCodeword (times b) b marks c) where
  long : length y ≡ length c
  long = yw.n_long ∙ sym cw.is_word.n_long

  pub sum_word : IsWord b.bits b.n (list_sum y c)
  sum_word = record {
    n_long = length-list_sum y c long ∙ yw.n_long;
    symbols = λ p d l. subst (λ (x : ℕ). x < 2 ^ b.bits) (sym (get_or-list_sum y c p long) ∙ get_or_default (list_sum y c) p 0 d l)
        (xor_below (2 ^ b.bits) (times b) h.sound.field (get_or y p 0) (get_or c p 0) (word_below yw p) (word_below cw.is_word p));
  }

  same : (k : ℕ) → k < b.n → marked marks k ≡ true → syndrome (times b) b (list_sum y c) k ≡ syndrome (times b) b y k
  same k lk m =
      syndrome_sum (times b) b h.sound (λ p. get_or y p 0) (λ p. get_or c p 0) (λ p. get_or (list_sum y c) p 0) k (λ p l. get_or-list_sum y c p long)
      ∙ ap (λ (x : ℕ). bit_xor (syndrome (times b) b y k) x) (cw.orthogonal k lk m) ∙ xor_zero_r (syndrome (times b) b y k)

  forth : (e : List ℕ) → IsErrorOf (times b) b marks t (list_sum y c) e → IsErrorOf (times b) b marks t y e
  forth = same_errors b marks t y (list_sum y c) h yw sum_word same

  back : (e : List ℕ) → IsErrorOf (times b) b marks t y e → IsErrorOf (times b) b marks t (list_sum y c) e
  back = same_errors b marks t (list_sum y c) y h sum_word yw (λ k lk m. sym (same k lk m))

  -- so what is found of the sum is found of the block
  pub answer_of_sum : (err : List ℕ) (found : Found) → IsAnswer b marks t (list_sum y c) err found → IsAnswer b marks t y err found
  answer_of_sum err Error a = record { is_error = forth err a.is_error; only = λ e x. a.only e (back e x) }
  answer_of_sum err Far a = record { none = λ e x. a.none e (back e x); zeros = a.zeros }
