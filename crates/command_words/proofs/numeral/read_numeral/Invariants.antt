use Rattle.std.proofs.Common.{◌≡◌, true, take, drop}
use Rattle.std.specs.List.{list_all}
use Rattle.command_words.specs.Numerals.{is_digit, value_from, value_of}
use Rattle.command_words.proofs.numeral.read_numeral.Given as goal

abbrev pub invariant-loop-digit : goal.invariant-loop-digit
invariant-loop-digit l = record {
  so_far : value_from l.value (drop l.digit-index l.text) ≡ value_of l.text;
  digits : list_all is_digit (take l.digit-index l.text) ≡ true;
}
