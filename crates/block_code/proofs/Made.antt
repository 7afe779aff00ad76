-- What follows of a code's plain data.
use Rattle.std.proofs.Common.{◌≡◌, ℕ, ◌+◌, ◌*◌, ◌<◌, ◌≤◌, false, List, length, count_by, arith}
use Rattle.order_theory.specs.Basis.{IsWord}
use Rattle.order_theory.specs.Codes.{marked, IsBound}
use Rattle.coded_block.specs.Codes.{IsCode}
use Rattle.block_theory.specs.Checks.{message_places, IsWordOf}
use Rattle.block_theory.specs.Blocks.{word_of}
use Rattle.block_theory.proofs.Codewords.{one_codeword}
use Rattle.block_theory.proofs.Decoding.{radius_bound, free-not_all}
use Rattle.block_theory.proofs.Forms.{checks_fit, members_law, form_law}
use Rattle.block_code.specs.Compiled.{Compiled, checks_in, IsMade, form_in}

module _ (c : Compiled) (h : IsMade c) where
  pub message_count : length (message_places (checks_in c)) + count_by (λ m. m) c.marks ≡ c.basis.n
  message_count = members_law c.basis c.marks h.sound h.n_marks

  pub few_places : length (message_places (checks_in c)) ≤ 1024
  few_places =
      let count : length (message_places (checks_in c)) + count_by (λ m. m) c.marks ≡ c.basis.n = message_count in
      let few : c.basis.n ≤ 1024 = h.sound.sound.shape.few_members in
      omega arith

  pub within_bound : IsBound c.basis c.marks (2 * c.radius + 1)
  within_bound = radius_bound c.basis c.marks c.bound c.radius h.bound.least h.radius.below

  pub some_free : (k : ℕ) × (k < c.basis.n) × (marked c.marks k ≡ false)
  some_free = let (k, l, free, pairs) = h.bound.reached in (k, l, free)

  pub form_is_code : IsCode (form_in c)
  form_is_code = let (k, l, free) = some_free in form_law c.basis c.marks c.radius h.sound h.n_marks (free-not_all c.basis c.marks k l free) within_bound

  pub word_is : (msg : List ℕ) → IsWord c.basis.bits (length (message_places (checks_in c))) msg → IsWordOf (checks_in c) msg (word_of (checks_in c) msg)
  word_is msg fits = (one_codeword (checks_in c) (checks_fit c.basis c.marks h.sound h.n_marks) msg fits).is_word
