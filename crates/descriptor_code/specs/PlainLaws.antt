-- IsPlain     a code that was built has the plain checks, bound, radius, form, labels, ledgers and table of a descriptor
-- PlainLaw    the theorem: so has the code that is built of a descriptor
use Rattle.std.specs.Prelude.{◌≡◌, ℕ, List, length, count_by, ◌↔◌}
use Rattle.block_theory.specs.Marked.{chosen}
use Rattle.order_bound.specs.TableText.{IsTableOf}
use Rattle.vote_core.specs.Ledgers.{ledger_of}
use Rattle.block_code.specs.Compiled.{Compiled, checks_in}
use Rattle.code_descriptor.specs.Parts.{Parts, IsDescriptor}
use Rattle.descriptor_code.specs.Plain.{IsFull, checks, checked, bound, radius, plain_form, labels, checked_labels}
use Rattle.descriptor_code.specs.Tables.{ledger, IsTable}
use Rattle.descriptor_code.specs.Codes.{IsCodeOf, form_of_parts}

pub record IsPlain (p : Parts) (c : Compiled) : Type 0 where
  pub bits_are : c.basis.bits ≡ p.bits
  pub modulus_is : c.basis.modulus ≡ p.modulus
  pub n_is : c.basis.n ≡ length p.points
  pub checks_are : checks_in c ≡ checks p
  pub size_is : count_by (λ m. m) c.marks ≡ length (checked p)
  pub bound_is : c.bound ≡ bound p
  pub radius_is : c.radius ≡ radius p
  pub form_is : form_of_parts p c ≡ plain_form p
  pub labels_are : c.basis.labels ≡ labels p
  pub checked_labels_are : chosen c.marks c.basis.labels ≡ checked_labels p
  -- of each list of symbols as an error
  pub ledger_is : (e : List ℕ) → ledger_of c.basis c.marks e ≡ ledger p e
  pub table_is : (text : List ℕ) → IsTableOf c.basis c.marks text ↔ IsTable p text
  pub not_full : IsFull p → ⊥

abbrev pub PlainLaw : Type 0
PlainLaw = (p : Parts) (c : Compiled) → IsDescriptor p → IsCodeOf p c → IsPlain p c
