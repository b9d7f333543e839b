-- The bands that a text in A1 notation names have a line.
use Rattle.std.proofs.Common.{ℕ, List, subst, inl, inr, arith}
use Rattle.std.specs.Prelude.{Option, Some, None, IfSome}
use Rattle.grid_range.specs.Band.{IsNonEmpty}
use Rattle.grid_range.specs.declared.band.Band.{Band}
use Rattle.a1_notation.specs.Area.{area_between, IsArea}
use Rattle.a1_notation.specs.Range.{NamesPart}
use Rattle.a1_notation.specs.declared.a1.Part.{Part}
use Rattle.a1_notation.specs.declared.a1.Part.TheVariants.{Cells, WholeSheet, Word}
use Rattle.a1_notation.specs.declared.corner.Corner.{Corner}
use Rattle.a1_notation.specs.declared.corner.Corner.TheVariants.{Cell, Column, Row}
use Rattle.values_api.specs.Ranges.{HasLines}

abbrev AreNonEmpty : Band × Band → Type 0
AreNonEmpty bands = IsNonEmpty bands.0 × IsNonEmpty bands.1

between : (one other : Corner) → IfSome (area_between one other) AreNonEmpty
between (Cell row column) (Cell row' column') = (omega arith, omega arith)
between (Cell row column) (Column column') = (tt, omega arith)
between (Column column) (Column column') = (tt, omega arith)
between (Row row) (Row row') = (omega arith, tt)
between (Cell row column) (Row row') = tt
between (Column column) (Cell row column') = tt
between (Column column) (Row row) = tt
between (Row row) (Cell row' column) = tt
between (Row row) (Column column) = tt

area_lines : (most : ℕ) (text : List ℕ) (rows cols : Band) → IsArea most text rows cols
    → IsNonEmpty rows × IsNonEmpty cols
area_lines most text rows cols (inl one) =
    subst (λ area. IfSome area AreNonEmpty) one.area (between (Cell one.row one.column) (Cell one.row one.column))
area_lines most text rows cols (inr two) =
    subst (λ area. IfSome area AreNonEmpty) two.between.area (between two.between.one two.between.other)

pub part_lines : (most : ℕ) (text : List ℕ) (title : Option (List ℕ)) (part : Part) → NamesPart most text title part
    → HasLines part
part_lines most text None (Cells rows cols) names = area_lines most text rows cols names
part_lines most text (Some title) (Cells rows cols) names = area_lines most names.part rows cols names.area_is
part_lines most text title WholeSheet names = tt
part_lines most text title (Word word) names = tt
