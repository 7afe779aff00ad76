-- What a poll takes of a code and a block, and what it answers of them
use Rattle.std.proofs.Common.{ℕ, ◌≡◌, ◌≤◌, ◌+◌, ◌*◌, Bool, true, List, length, sym, ◌∙◌, ap, subst}
use Rattle.order_theory.specs.Basis.{Basis, IsWord, times}
use Rattle.order_theory.specs.Codes.{IsBound, IsCodeword, low_bits, list_sum, marked}
use Rattle.order_theory.proofs.Errors.{low_word}
use Rattle.coded_block.specs.Codes.{BenchNumbers}
use Rattle.product_classes.specs.Table.{ClassTable, AreClassesOf}
use Rattle.vote_core.specs.Found.{IsAnswer}
use Rattle.vote_core.specs.Polls.{PollState, CanPursue}
use Rattle.vote_core.specs.Voters.{VoterState, Fits}
use Rattle.vote_core.specs.declared.voter.Found.{Found}
use Rattle.block_code.specs.Benches.{state_of, values_of}
use Rattle.block_code.specs.Compiled.{Compiled, IsMade, numbers_of}
use Rattle.block_code.proofs.Made.{within_bound, some_free}
use Rattle.block_code.proofs.Differences.{sum_word, answer_of_sum}
use Rattle.block_code.proofs.Verdicts.{fitted}

module _ (c : Compiled) (h : IsMade c) (b : Basis) (same : b ≡ c.basis) where
  -- a poll of the code's numbers fits its basis
  voter_fits : (v : VoterState) → (state_of v true).numbers ≡ numbers_of c → Fits v c.basis
  voter_fits v fits =
      let marks : v.marks ≡ c.marks = ap (λ (n : BenchNumbers). n.marks) fits in
      let t : v.t ≡ c.radius = ap (λ (n : BenchNumbers). n.radius) fits in
      let (k, l, free) = some_free c h in
      record {
        bits = ap (λ (n : BenchNumbers). n.bits) fits;
        modulus = ap (λ (n : BenchNumbers). n.modulus) fits;
        n = ap (λ (n : BenchNumbers). n.n) fits;
        some_free = (k, l, ap (λ (m : List Bool). marked m k) marks ∙ free);
        radius = subst (λ (m : List Bool). IsBound c.basis m (2 * v.t + 1)) (sym marks)
            (subst (λ (x : ℕ). IsBound c.basis c.marks (2 * x + 1)) (sym t) (within_bound c h));
      }

  pub can_pursue : (p : PollState) (table : ClassTable) → (state_of p.voter true).numbers ≡ numbers_of c → length p.values ≡ values_of c.basis.n
      → AreClassesOf c.basis table → table.size ≤ values_of c.basis.n → CanPursue b table p
  can_pursue p table fits long classes few =
      subst (λ (x : Basis). CanPursue x table p) (sym same)
      (record { fits = voter_fits p.voter fits; classes = classes; room = subst (λ (m : ℕ). table.size ≤ m) (sym long) few })

  module _ (got : List ℕ) (long : length got ≡ c.basis.n) (word : List ℕ) (is : IsCodeword (times c.basis) c.basis c.marks word) (bits : ℕ) (list : List ℕ) (list_is : list ≡ list_sum (low_bits bits got) word) (bits_are : bits ≡ c.basis.bits) where
    sum_is : list ≡ list_sum (low_bits c.basis.bits got) word
    sum_is = list_is ∙ ap (λ (m : ℕ). list_sum (low_bits m got) word) bits_are

    -- the sum of a block and a codeword is a word ..
    pub differences_word : IsWord b.bits b.n list
    differences_word =
        subst (λ (x : Basis). IsWord x.bits x.n list) (sym same)
        (subst (λ (xs : List ℕ). IsWord c.basis.bits c.basis.n xs) (sym sum_is)
        (sum_word c.basis c.marks c.radius (low_bits c.basis.bits got) word h.sound (low_word c.basis.bits c.basis.n got long) is))

    -- .. and what is found of it is found of the block
    pub answer_is : (v : VoterState) → (state_of v true).numbers ≡ numbers_of c → (err : List ℕ) (found : Found) → IsAnswer b v.marks v.t list err found
        → IsAnswer c.basis c.marks c.radius (low_bits c.basis.bits got) err found
    answer_is v fits err found a =
        answer_of_sum c.basis c.marks c.radius (low_bits c.basis.bits got) word h.sound (low_word c.basis.bits c.basis.n got long) is err found
        (subst (λ (xs : List ℕ). IsAnswer c.basis c.marks c.radius xs err found) sum_is
        (fitted (λ x marks t. IsAnswer x marks t list err found) v c b same fits a))
