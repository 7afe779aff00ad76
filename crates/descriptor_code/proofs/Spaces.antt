-- The domain of a space: what is named of it, its laws, and the points of a descriptor on it
use Rattle.std.proofs.Common.{◌≡◌, ℕ, ◌≤◌, ◌^◌, IsTrue, sym, subst, refl, arith}
use Rattle.field_theory.specs.Field.{IsField}
use Rattle.gf_theory.proofs.Fields.{field_of_modulus}
use Rattle.order_domain.specs.declared.Point.{Point}
use Rattle.order_domain.specs.Domain.{AreOn, ArePoints, IsOrderDomain}
use Rattle.order_domain.specs.Functions.{functions_of}
use Rattle.cab_curve.specs.Points.{is_on_curve}
use Rattle.cab_curve.specs.DomainLaws.{cab_domain-lawful}
use Rattle.affine_domain.specs.DomainLaws.{affine_domain-lawful}
use Rattle.code_descriptor.specs.Parts.{Parts, Space, Cab, Affine, IsDescriptor, IsSpace, is_on_space}
use Rattle.descriptor_code.specs.Plain.{functions_on, functions_in, times_in}
use Rattle.descriptor_code.specs.Codes.{domain_on, domain_of}

-- ---- one case for each kind of space

named_on : (s : Space) → functions_of (domain_on s) ≡ functions_on s
named_on (Cab e) = refl
named_on (Affine bits vars) = refl

bits_on : (bits : ℕ) (s : Space) → IsSpace bits s → (domain_on s).bits ≡ bits
bits_on bits (Cab e) h = h.1
bits_on bits (Affine own vars) h = h.1

lawful_on : (bits : ℕ) (s : Space) → IsSpace bits s → IsOrderDomain (domain_on s)
lawful_on bits (Cab e) h = cab_domain-lawful e h.0.equation
lawful_on bits (Affine own vars) h = affine_domain-lawful own vars h.0

point_on : (bits modulus : ℕ) (s : Space) (q : Point) → IsSpace bits s → IsTrue (is_on_space bits modulus s q) → IsTrue ((domain_on s).on modulus q)
point_on bits modulus (Cab e) q h on = subst (λ (m : ℕ). IsTrue (is_on_curve m modulus e.terms q)) (sym h.1) on
point_on bits modulus (Affine own vars) q h on = on

-- ---- of a descriptor

pub field_in : (p : Parts) → IsDescriptor p → IsField (2 ^ p.bits) (times_in p)
field_in p h = let two : 2 ≤ p.bits = h.field.at_least_two in field_of_modulus p.bits p.modulus (omega arith) h.field.irreducible

pub named_in : (p : Parts) → functions_of (domain_of p) ≡ functions_in p
named_in p = named_on p.space

pub bits_in : (p : Parts) → IsDescriptor p → (domain_of p).bits ≡ p.bits
bits_in p h = bits_on p.bits p.space h.space

pub lawful_in : (p : Parts) → IsDescriptor p → IsOrderDomain (domain_of p)
lawful_in p h = lawful_on p.bits p.space h.space

pub points_on : (p : Parts) → IsDescriptor p → AreOn (domain_of p) p.modulus p.points
points_on p h = λ k q l. point_on p.bits p.modulus p.space _ h.space (h.points_on k q l)

pub points_in : (p : Parts) → IsDescriptor p → ArePoints (domain_of p) p.modulus p.points
points_in p h = record { distinct = h.points.distinct; all_on = points_on p h }
