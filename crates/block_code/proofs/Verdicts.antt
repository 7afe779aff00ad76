-- From what a voter answers to what is said of a block, and what is told of it.
use Rattle.std.proofs.Common.{◌≡◌, ◌≢◌, ℕ, ◌<◌, ◌≤◌, ◌^◌, ◌%◌, Bool, true, List, length, All, refl, sym, ◌∙◌, ap, subst, arith}
use Rattle.std.proofs.lemmas.List.{length-map}
use Rattle.std.proofs.lemmas.List.Elements.{All-nil}
use Rattle.order_theory.specs.Basis.{Basis, times}
use Rattle.order_theory.specs.Codes.{IsCodeword, IsNear, low_bits, list_sum, distance}
use Rattle.order_theory.specs.Laws.{NearGives}
use Rattle.order_theory.proofs.Theorems.{near_error_law}
use Rattle.order_theory.proofs.Weights.{list_sum_back}
use Rattle.stored_form.specs.Reading.{kept}
use Rattle.coded_block.specs.Codes.{BenchNumbers, verdict_of}
use Rattle.coded_block.specs.declared.Verdict.{Verdict}
use Rattle.coded_block.specs.declared.Verdict.TheVariants.{Near, Beyond}
use Rattle.vote_core.specs.Found.{IsOnlyError, IsFar}
use Rattle.vote_core.specs.Ledgers.{ledger_of}
use Rattle.vote_core.specs.Voters.{VoterState}
use Rattle.block_theory.specs.Laws.{NearIs}
use Rattle.block_theory.proofs.Decoding.{kept-some, kept-none, verdict-some, verdict-none}
use Rattle.block_theory.proofs.Forms.{basis_near_law}
use Rattle.block_theory.proofs.Lists.{distance_same}
use Rattle.block_code.specs.Benches.{BenchState, state_of, is_near}
use Rattle.block_code.specs.Compiled.{Compiled, IsMade, numbers_of, form_in}
use Rattle.block_code.specs.Decoding.{IsFarWord, IsVerdict, ledger_after}
use Rattle.block_code.specs.Settling.{IsSettled}
use Rattle.block_code.proofs.Made.{within_bound}

-- what is said of a voter's data holds of the code's
pub fitted : (P : Basis → List Bool → ℕ → Type 0) (v : VoterState) (c : Compiled) (b : Basis) → b ≡ c.basis → (state_of v true).numbers ≡ numbers_of c → P b v.marks v.t → P c.basis c.marks c.radius
fitted P v c b same fits h =
    subst (λ (t : ℕ). P c.basis c.marks t) (ap (λ (n : BenchNumbers). n.radius) fits)
    (subst (λ (m : List Bool). P c.basis m v.t) (ap (λ (n : BenchNumbers). n.marks) fits)
    (subst (λ (x : Basis). P x v.marks v.t) same h))

-- what is settled by equal numbers and lists
pub settled_at : {bits radius bits' radius' : ℕ} {err err' : List ℕ} (got word : List ℕ) (v : Verdict) → bits ≡ bits' → radius ≡ radius' → err ≡ err' → IsSettled bits radius got err word v → IsSettled bits' radius' got err' word v
settled_at {bits} {radius} {bits'} {radius'} {err} {err'} got word v e f m h =
    subst (λ (b : ℕ). IsSettled b radius' got err' word v) e
    (subst (λ (t : ℕ). IsSettled bits t got err' word v) f
    (subst (λ (xs : List ℕ). IsSettled bits radius got xs word v) m h))

module _ (c : Compiled) (h : IsMade c) (got : List ℕ) (long : length got ≡ c.basis.n) where
  low : List ℕ
  low = low_bits c.basis.bits got

  gives : (x : List ℕ) → IsNear (times c.basis) c.basis c.marks c.radius got x → NearGives (times c.basis) c.basis c.marks c.radius got x
  gives x near = near_error_law (times c.basis) c.basis c.marks c.radius got x h.sound.sound long near

  pub far_word : (err word : List ℕ) → IsFar c.basis c.marks c.radius (low_bits c.basis.bits got) err → word ≡ low_bits c.basis.bits got → IsFarWord c got word
  far_word err word far is = record { none = λ x near. far.none (list_sum (low_bits c.basis.bits got) x) (gives x near).is_error; low = is }

  module _ (err : List ℕ) (e : IsOnlyError c.basis c.marks c.radius (low_bits c.basis.bits got) err) where
    pub error_verdict : (word : List ℕ) (v : Verdict) → IsSettled c.basis.bits c.radius got err word v → IsVerdict c got word v
    error_verdict word (Near changes) s = record {
      near = record {
        is_codeword = subst (IsCodeword (times c.basis) c.basis c.marks) (sym s.word_is) e.is_error.corrects;
        close = subst (λ (d : ℕ). d ≤ c.radius) s.changes_are s.within;
      };
      changes_are = s.changes_are;
    }
    error_verdict word Beyond s = record {
      none = λ x near. (let same : list_sum (low_bits c.basis.bits got) x ≡ err = e.only (list_sum (low_bits c.basis.bits got) x) (gives x near).is_error in
          let there : list_sum (low_bits c.basis.bits got) err ≡ x = ap (list_sum (low_bits c.basis.bits got)) (sym same) ∙ (gives x near).back in
          let close : distance got x ≤ c.radius = near.close in
          let far : c.radius < distance got x = subst (λ (z : List ℕ). c.radius < distance got z) there s.far in
          absurd (omega arith));
      low = s.low;
    }

    error_back : (word : List ℕ) → word ≡ list_sum (low_bits c.basis.bits got) err → list_sum (low_bits c.basis.bits got) word ≡ err
    error_back word is =
        ap (list_sum (low_bits c.basis.bits got)) is
        ∙ list_sum_back (low_bits c.basis.bits got) err (length-map got (λ a. a % 2 ^ c.basis.bits) ∙ long ∙ sym e.is_error.is_word.n_long)

    pub error_ledger : (word : List ℕ) (v : Verdict) → IsSettled c.basis.bits c.radius got err word v → v ≢ Beyond → ledger_of c.basis c.marks err ≡ ledger_after c got word v
    error_ledger word (Near changes) s some = ap (ledger_of c.basis c.marks) (sym (error_back word s.word_is))
    error_ledger word Beyond s some = absurd (some refl)

  -- ---- the same as coded files see it

  near_is : NearIs c.basis c.marks c.radius got
  near_is = basis_near_law c.basis c.marks c.radius got h.sound h.n_marks (within_bound c h) long

  pub kept_word : (word : List ℕ) (v : Verdict) → IsVerdict c got word v → word ≡ kept (form_in c) got
  kept_word word (Near changes) is = sym (kept-some (form_in c) got word ((near_is.some word).1 is.near))
  kept_word word Beyond is = is.low ∙ sym (kept-none (form_in c) got (near_is.none.1 is.none))

  pub told_verdict : (word : List ℕ) (v : Verdict) → IsVerdict c got word v → v ≡ verdict_of (form_in c) got
  told_verdict word (Near changes) is = ap Near (is.changes_are ∙ sym (distance_same got word)) ∙ sym (verdict-some (form_in c) got word ((near_is.some word).1 is.near))
  told_verdict word Beyond is = sym (verdict-none (form_in c) got (near_is.none.1 is.none))

-- ---- the bench

module _ (v w : VoterState) (told : Bool) (s : BenchState) (c : Compiled) (got word : List ℕ) (was : state_of v told ≡ s) (rest : w ≡ record v { ledger = w.ledger }) where
  numbers_kept : (state_of w true).numbers ≡ s.numbers
  numbers_kept = ap (λ (x : VoterState). (state_of x true).numbers) rest ∙ ap (λ (x : BenchState). x.numbers) was

  pub bench_after : (verdict : Verdict) → (verdict ≢ Beyond → w.ledger ≡ ledger_after c got word verdict) → state_of w (is_near verdict) ≡ record s { ledger = ledger_after c got word verdict }
  bench_after (Near changes) h = let one = numbers_kept in let two = h (λ e. cc) in cc
  bench_after Beyond h = let one = numbers_kept in cc

pub told_majority : (w : VoterState) (verdict : Verdict) → All (λ line. line.wrong < line.right) w.ledger → All (λ line. line.wrong < line.right) (state_of w (is_near verdict)).ledger
told_majority w (Near changes) h = h
told_majority w Beyond h = All-nil (λ line. line.wrong < line.right)
