-- Compiled      what contracts see of a code: its basis, the mark of each member, the order bound and the radius
-- checks_in     its checks: the vectors of the marked members
-- IsMade        what holds of every code: the basis is sound, and bound and radius are those of its marks, which leave a member free
-- IsKept        what the fields of a code keep
-- numbers_of    what a bench keeps of a code
-- form_in       a code as coded files see it
use Rattle.std.specs.Prelude.{◌≡◌, ℕ, Bool, List, length}
use Rattle.order_theory.specs.Basis.{Basis, IsSoundBasis}
use Rattle.order_theory.specs.Codes.{IsOrderBound, IsRadius}
use Rattle.stored_form.specs.Form.{Form}
use Rattle.coded_block.specs.Codes.{BenchNumbers}
use Rattle.block_theory.specs.Checks.{ParityChecks}
use Rattle.block_theory.specs.Marked.{checks_of}
use Rattle.block_theory.specs.Blocks.{form_of}
use Rattle.product_classes.specs.Table.{ClassTable, AreClassesOf, HasColumns}

pub record Compiled : Type 0 where
  pub basis : Basis
  pub marks : List Bool
  pub bound : ℕ
  pub radius : ℕ

abbrev pub checks_in : Compiled → ParityChecks
checks_in c = checks_of c.basis c.marks

pub record IsMade (c : Compiled) : Type 0 where
  pub sound : IsSoundBasis c.basis
  pub n_marks : length c.marks ≡ c.basis.n
  pub bound : IsOrderBound c.basis c.marks c.bound
  pub radius : IsRadius c.bound c.radius

pub record IsKept (parity : ParityChecks) (classes : ClassTable) (c : Compiled) : Type 0 where
  pub parity_is : parity ≡ checks_in c
  pub made : IsMade c
  pub classes_are : AreClassesOf c.basis classes
  pub columns : HasColumns c.basis classes

abbrev pub numbers_of : Compiled → BenchNumbers
numbers_of c = record { bits = c.basis.bits; modulus = c.basis.modulus; n = c.basis.n; marks = c.marks; radius = c.radius }

abbrev pub form_in : Compiled → Form
form_in c = form_of (checks_in c) c.radius
