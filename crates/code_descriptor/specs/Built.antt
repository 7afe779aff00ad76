-- space_of       what a space of the code is, plainly
-- bits_of        the bits of its symbols
use Rattle.std.specs.Prelude.{ℕ}
use Rattle.code_descriptor.specs.declared.space.Space as built
use Rattle.code_descriptor.specs.declared.space.Space.TheVariants as kind
use Rattle.code_descriptor.specs.Parts.{Space, Cab, Affine}

abbrev pub space_of : built.Space → Space
space_of (kind.Cab e) = Cab e
space_of (kind.Affine d) = Affine d.bits d.vars

abbrev pub bits_of : Space → ℕ
bits_of (Cab e) = e.bits
bits_of (Affine bits vars) = bits
