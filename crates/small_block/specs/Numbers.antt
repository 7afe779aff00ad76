-- small_numbers   what the benches of the small code keep of it
use Rattle.std.specs.Prelude.{[]}
use Rattle.coded_block.specs.Codes.{BenchNumbers}

unfoldable pub small_numbers : BenchNumbers
small_numbers = record { bits = 2; modulus = 7; n = 8; marks = []; radius = 2 }
