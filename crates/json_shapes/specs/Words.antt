-- The words of enumerations that several shapes have (Google Sheets API v4 reference, Dimension,
-- ValueRenderOption and ValueInputOption).
use Rattle.std.specs.Prelude.{ℕ, List, codes, if◌then◌else◌, Option, None, Some}
use Rattle.std.specs.Str.{bytes_eq}
use Rattle.grid_range.specs.declared.axis.Axis.{Axis}
use Rattle.grid_range.specs.declared.axis.Axis.TheVariants.{Rows, Columns}
use Rattle.cell_value.specs.declared.entered.Mode.{Mode}
use Rattle.cell_value.specs.declared.entered.Mode.TheVariants.{Raw, UserEntered}
use Rattle.cell_value.specs.declared.cell.Render.{Render}
use Rattle.cell_value.specs.declared.cell.Render.TheVariants.{Formatted, Unformatted, Formula}

abbrev pub dimension_named : List ℕ → Option Axis
dimension_named name =
    if bytes_eq name (codes "ROWS") then Some Rows
    else if bytes_eq name (codes "COLUMNS") then Some Columns
    else None

abbrev pub render_named : List ℕ → Option Render
render_named name =
    if bytes_eq name (codes "FORMATTED_VALUE") then Some Formatted
    else if bytes_eq name (codes "UNFORMATTED_VALUE") then Some Unformatted
    else if bytes_eq name (codes "FORMULA") then Some Formula
    else None

abbrev pub mode_named : List ℕ → Option Mode
mode_named name =
    if bytes_eq name (codes "RAW") then Some Raw
    else if bytes_eq name (codes "USER_ENTERED") then Some UserEntered
    else None
