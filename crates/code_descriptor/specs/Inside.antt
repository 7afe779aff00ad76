-- parts_of      what a descriptor describes, from its fields
-- of_pieces     the same of its parts, each for itself
use Rattle.code_descriptor.specs.declared.descriptor.Descriptor.TheInside.{Inside}
use Rattle.code_descriptor.specs.declared.descriptor.Pieces.{Pieces}
use Rattle.code_descriptor.specs.Parts.{Parts}
use Rattle.code_descriptor.specs.Built.{space_of}

abbrev pub parts_of : Inside → Parts
parts_of d = record {
  bits = d.field.bits;
  modulus = d.field.modulus;
  space = space_of d.space;
  points = d.points;
  rule = d.rule;
  depth = d.depth;
  packed = d.packed;
}

abbrev pub of_pieces : Pieces → Parts
of_pieces d = record {
  bits = d.field.bits;
  modulus = d.field.modulus;
  space = space_of d.space;
  points = d.points;
  rule = d.rule;
  depth = d.depth;
  packed = d.packed;
}
