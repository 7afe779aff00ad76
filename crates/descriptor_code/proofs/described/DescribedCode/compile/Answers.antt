use Rattle.std.proofs.Common.{◌≡◌, ℕ, Err, sym, ◌∙◌, ap, subst, refl, rules, arith}
use Rattle.block_code.specs.declared.code.CompileFault.{CompileFault}
use Rattle.block_code.specs.declared.code.CompileFault.TheVariants.{NothingFree}
use Rattle.code_descriptor.specs.Parts.{IsDescriptor}
use Rattle.code_descriptor.specs.Inside.{of_pieces}
use Rattle.descriptor_code.specs.Plain.{IsFull}
use Rattle.descriptor_code.specs.SpaceDomains.{space_in}
use Rattle.descriptor_code.proofs.Making.{made_on, made_bits, made_full, made_parts, made_free, made_described}
use Rattle.descriptor_code.proofs.described.DescribedCode.compile.Goals as goal

pub compile-requires-clause-on : goal.compile-requires-clause-on
compile-requires-clause-on g c κs within =
    made_on (of_pieces c.into_pieces-space.result) (space_in c.in_ok-domain.domain) c.in_ok-tables.tables.modulus
    (subst IsDescriptor (sym c.into_pieces-space.ensures.pieces) c.into_pieces-space.ensures.sound)
    c.in_ok-domain.ensures c.in_ok-tables.ensures.modulus

pub compile-requires-clause-bits : goal.compile-requires-clause-bits
compile-requires-clause-bits g c κs within =
    c.in_ok-tables.ensures.bits
    ∙ sym (made_bits (of_pieces c.into_pieces-space.result) (space_in c.in_ok-domain.domain) c.in_ok-tables.tables.modulus
    (subst IsDescriptor (sym c.into_pieces-space.ensures.pieces) c.into_pieces-space.ensures.sound)
    c.in_ok-domain.ensures c.in_ok-tables.ensures.modulus)

pub returns-in_err-code-clause-nothing_free : goal.returns-in_err-code-clause-nothing_free
returns-in_err-code-clause-nothing_free g c =
    let full : c.compile.result ≡ Err NothingFree → IsFull c.args.descriptor =
    λ r.
    subst IsFull c.into_pieces-space.ensures.pieces
    (made_full (of_pieces c.into_pieces-space.result) (space_in c.in_ok-domain.domain) c.in_ok-tables.tables.modulus
    (subst IsDescriptor (sym c.into_pieces-space.ensures.pieces) c.into_pieces-space.ensures.sound)
    c.in_ok-domain.ensures c.in_ok-tables.ensures.modulus (c.compile.ensures.nothing_free r)) in
    λ r. full (grind (arith, r, c.in_err-code.was))

pub invariant_of-result : goal.invariant_of-result
invariant_of-result g c =
    made_described (of_pieces c.into_pieces-space.result) (space_in c.in_ok-domain.domain) c.in_ok-tables.tables.modulus
    (subst IsDescriptor (sym c.into_pieces-space.ensures.pieces) c.into_pieces-space.ensures.sound)
    c.in_ok-domain.ensures c.in_ok-tables.ensures.modulus c.in_ok-code.code c.in_ok-code.ensures.basis
    c.in_ok-code.ensures.marks c.in_ok-code.ensures.made c.in_ok-relation.relation c.in_ok-relation.ensures _
    (made_parts (of_pieces c.into_pieces-space.result) (space_in c.in_ok-domain.domain) c.in_ok-tables.tables.modulus
    (subst IsDescriptor (sym c.into_pieces-space.ensures.pieces) c.into_pieces-space.ensures.sound)
    c.in_ok-domain.ensures c.in_ok-tables.ensures.modulus c.in_ok-code.code c.in_ok-code.ensures.basis
    _ refl refl refl refl refl refl refl)

pub returns-clause-parts : goal.returns-clause-parts
returns-clause-parts g c =
    made_parts (of_pieces c.into_pieces-space.result) (space_in c.in_ok-domain.domain) c.in_ok-tables.tables.modulus
    (subst IsDescriptor (sym c.into_pieces-space.ensures.pieces) c.into_pieces-space.ensures.sound)
    c.in_ok-domain.ensures c.in_ok-tables.ensures.modulus c.in_ok-code.code c.in_ok-code.ensures.basis
    _ refl refl refl refl refl refl refl
    ∙ c.into_pieces-space.ensures.pieces

pub returns-clause-some_free : goal.returns-clause-some_free
returns-clause-some_free g c =
    λ full.
    made_free (of_pieces c.into_pieces-space.result) (space_in c.in_ok-domain.domain) c.in_ok-tables.tables.modulus
    (subst IsDescriptor (sym c.into_pieces-space.ensures.pieces) c.into_pieces-space.ensures.sound)
    c.in_ok-domain.ensures c.in_ok-tables.ensures.modulus c.in_ok-code.code c.in_ok-code.ensures.basis
    c.in_ok-code.ensures.marks c.in_ok-code.ensures.made (subst IsFull (sym c.into_pieces-space.ensures.pieces) full)
