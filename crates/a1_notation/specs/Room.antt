-- Corners whose lines have a next one among the numbers of 32 bits, so that the end behind them is one.
use Rattle.std.specs.Prelude.{ℕ, ◌-◌, ◌^◌, ◌<◌}
use Rattle.a1_notation.specs.declared.corner.Corner.{Corner}
use Rattle.a1_notation.specs.declared.corner.Corner.TheVariants.{Cell, Column, Row}

abbrev pub HasNext : ℕ → Type 0
HasNext line = line < 2 ^ 32 - 1

abbrev pub HasRoom : Corner → Type 0
HasRoom (Cell row column) = HasNext row × HasNext column
HasRoom (Column column) = HasNext column
HasRoom (Row row) = HasNext row
