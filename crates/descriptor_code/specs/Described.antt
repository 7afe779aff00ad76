-- parts_in       the parts of which a described code was made, from what it keeps
-- IsDescribed    a code is that of these parts, with the normal form of y^a on a curve beside it
use Rattle.std.specs.Prelude.{List, Option}
use Rattle.cab_curve.specs.declared.normal.NormTerm.{NormTerm}
use Rattle.block_code.specs.Compiled.{Compiled}
use Rattle.code_descriptor.specs.Parts.{Parts, IsDescriptor}
use Rattle.descriptor_code.specs.Plain.{IsRelation}
use Rattle.descriptor_code.specs.Codes.{IsCodeOf}
use Rattle.descriptor_code.specs.SpaceDomains.{space_in}
use Rattle.descriptor_code.specs.declared.described.DescribedCode.TheInside.{Inside}

abbrev pub parts_in : Inside → Parts
parts_in s = record {
  bits = s.code.basis.bits;
  modulus = s.code.basis.modulus;
  space = space_in s.domain;
  points = s.points;
  rule = s.rule;
  depth = s.depth;
  packed = s.packed;
}

pub record IsDescribed (p : Parts) (c : Compiled) (relation : Option (List NormTerm)) : Type 0 where
  pub descriptor : IsDescriptor p
  pub code : IsCodeOf p c
  pub relation_is : IsRelation p relation
