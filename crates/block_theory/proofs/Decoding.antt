-- What a decoder cites: from the error that it finds, or from none, to the near of a list of bytes, and what is kept and told.
use Rattle.std.proofs.Common.{◌≡◌, ◌⊎◌, ℕ, zero, suc, ◌+◌, ◌*◌, ◌<◌, ◌≤◌, Bool, true, false, List, length, Option, Some, None, sym, ◌∙◌, ap, inl, inr, arith}
use Rattle.std.proofs.lemmas.Bool.{cases_Bool}
use Rattle.field_theory.proofs.Sums.{eq_or_below}
use Rattle.std.specs.Option.{unwrap_or}
use Rattle.order_theory.specs.Basis.{Basis, IsSoundBasis, times}
use Rattle.order_theory.specs.Codes.{marked, AreAllMarked, IsBound, IsNear, low_bits, list_sum}
use Rattle.order_theory.specs.Course.{IsErrorOf}
use Rattle.order_theory.specs.Laws.{NearGives}
use Rattle.order_theory.proofs.Theorems.{near_error_law}
use Rattle.stored_form.specs.Form.{Form, distance}
use Rattle.stored_form.specs.Reading.{kept}
use Rattle.coded_block.specs.Codes.{verdict_of, verdict_by}
use Rattle.coded_block.specs.declared.Verdict.TheVariants.{Near, Beyond}
use Rattle.block_theory.specs.Marked.{checks_of}
use Rattle.block_theory.specs.Blocks.{near_of}
use Rattle.block_theory.proofs.Lists.{distance_same}
use Rattle.block_theory.proofs.Codewords.{near_of-none}
use Rattle.block_theory.proofs.Forms.{near_iff}

-- ---- what is kept of a block, and what is told of it

pub kept-some : (F : Form) (y x : List ℕ) → F.near y ≡ Some x → kept F y ≡ x
kept-some F y x e = ap (λ (o : Option (List ℕ)). unwrap_or o (low_bits F.bits y)) e

pub kept-none : (F : Form) (y : List ℕ) → F.near y ≡ None → kept F y ≡ low_bits F.bits y
kept-none F y e = ap (λ (o : Option (List ℕ)). unwrap_or o (low_bits F.bits y)) e

pub verdict-some : (F : Form) (y x : List ℕ) → F.near y ≡ Some x → verdict_of F y ≡ Near (distance y x)
verdict-some F y x e = ap (verdict_by y) e

pub verdict-none : (F : Form) (y : List ℕ) → F.near y ≡ None → verdict_of F y ≡ Beyond
verdict-none F y e = ap (verdict_by y) e

-- ---- the near of a list of bytes, from its error

module _ (b : Basis) (marks : List Bool) (sound : IsSoundBasis b) (same : length marks ≡ b.n) (t : ℕ) (bound : IsBound b marks (2 * t + 1)) (y : List ℕ) (long : length y ≡ b.n) where
  -- what a near codeword gives
  gives : (x : List ℕ) → near_of (checks_of b marks) t y ≡ Some x → NearGives (times b) b marks t y x
  gives x found = near_error_law (times b) b marks t y x sound.sound long ((near_iff b marks sound same t bound y x long).0 found)

  -- no error: none is near
  pub near-no_error : ((e : List ℕ) → IsErrorOf (times b) b marks t (low_bits b.bits y) e → ⊥) → near_of (checks_of b marks) t y ≡ None
  near-no_error none = near_of-none (checks_of b marks) t y (λ x found. none (list_sum (low_bits b.bits y) x) (gives x found).is_error)

  module _ (e : List ℕ) (h : IsErrorOf (times b) b marks t (low_bits b.bits y) e) where
    -- the codeword that the error leads to is near, where the bytes are close to it
    pub near-error : distance y (list_sum (low_bits b.bits y) e) ≤ t → near_of (checks_of b marks) t y ≡ Some (list_sum (low_bits b.bits y) e)
    near-error close = (near_iff b marks sound same t bound y (list_sum (low_bits b.bits y) e) long).1 (record { is_codeword = h.corrects; close = omega (arith, distance_same y (list_sum (low_bits b.bits y) e)) })

    -- and where it is the only error, nothing else is near
    module _ (only : (f : List ℕ) → IsErrorOf (times b) b marks t (low_bits b.bits y) f → f ≡ e) where
      pub near-only : (x : List ℕ) → near_of (checks_of b marks) t y ≡ Some x → x ≡ list_sum (low_bits b.bits y) e
      near-only x found = sym (gives x found).back ∙ ap (list_sum (low_bits b.bits y)) (only (list_sum (low_bits b.bits y) x) (gives x found).is_error)

      pub near-far : t < distance y (list_sum (low_bits b.bits y) e) → near_of (checks_of b marks) t y ≡ None
      near-far far = near_of-none (checks_of b marks) t y
          (λ x found.
          let n : IsNear (times b) b marks t y x = (near_iff b marks sound same t bound y x long).0 found in
          let is : distance y x ≡ distance y (list_sum (low_bits b.bits y) e) = ap (distance y) (near-only x found) in
          absurd (omega (arith, n.close, distance_same y x)))

-- ---- what a radius and a free member give

pub radius_bound : (b : Basis) (marks : List Bool) (d t : ℕ) → IsBound b marks d → 2 * t < d → IsBound b marks (2 * t + 1)
radius_bound b marks d t h l = record { at_most = λ k lk free. omega (arith, h.at_most k lk free) }

pub free-not_all : (b : Basis) (marks : List Bool) (k : ℕ) → k < b.n → marked marks k ≡ false → AreAllMarked b marks → ⊥
free-not_all b marks k l free all = let set : marked marks k ≡ true = all.each k l in absurd (cc)

cases_free : (marks : List Bool) (n : ℕ) → ((k : ℕ) × (k < n) × (marked marks k ≡ false)) ⊎ ((k : ℕ) → k < n → marked marks k ≡ true)
cases_free marks zero = inr (λ k l. absurd (omega arith))
cases_free marks (suc n) = elim (cases_Bool (marked marks n)) [
  | inr free ↦ inl (n, omega arith, free)
  | inl set ↦ elim (cases_free marks n) [
    | inl w ↦ inl (w.0, (let l : w.0 < n = w.1 in omega arith), w.2)
    | inr all ↦ inr (λ k l. elim (eq_or_below k n l) [ inl e ↦ ap (marked marks) e ∙ set | inr m ↦ all k m ])
  ]
]

pub not_all-free : (b : Basis) (marks : List Bool) → (AreAllMarked b marks → ⊥) → (k : ℕ) × (k < b.n) × (marked marks k ≡ false)
not_all-free b marks some = elim (cases_free marks b.n) [
  | inl w ↦ w
  | inr all ↦ absurd (some (record { each = all }))
]
