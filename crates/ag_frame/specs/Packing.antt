-- Packed symbols.
-- IsPackedGroup w n d       numbers of a group of packed symbols: d codewords of n symbols of w bits
-- symbol_in a w bits        the symbol that the w bits from place a write
-- with_symbol a w s bits    the bits with those of the symbol s in their place
-- with_pending b p h v      the bits of the first p bytes of b, and behind them the low h bits of v, which wait to be written
use Rattle.std.specs.Prelude.{ℕ, ◌+◌, ◌*◌, ◌≤◌, Bool, List, ◌++◌, take, drop}
use Rattle.stored_form.specs.Bits.{bits_of, number_of, bits_of_symbols}
use Rattle.ag_frame.specs.declared.frame.TheConstants.{MOST_DEPTH}

pub record IsPackedGroup (width n depth : ℕ) : Type 0 where
  pub width_least : 1 ≤ width
  pub width_most : width ≤ 8
  pub n_least : 1 ≤ n
  pub n_most : n ≤ 1024
  pub depth_least : 1 ≤ depth
  pub depth_most : depth ≤ MOST_DEPTH

abbrev pub symbol_in : (at width : ℕ) → List Bool → ℕ
symbol_in at width bits = number_of (take width (drop at bits))

abbrev pub with_symbol : (at width symbol : ℕ) → List Bool → List Bool
with_symbol at width symbol bits = take at bits ++ (bits_of width symbol ++ drop (at + width) bits)

abbrev pub with_pending : (bytes : List ℕ) → (place have pending : ℕ) → List Bool
with_pending bytes place have pending = take (place * 8) (bits_of_symbols 8 bytes) ++ bits_of have pending
