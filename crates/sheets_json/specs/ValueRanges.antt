-- ValueRange (Google Sheets API v4 reference), as the body of a call and as a member of a list.
use Rattle.std.specs.Prelude.{ℕ, List, codes, Option, None, Some, Ok}
use Rattle.grid_range.specs.declared.axis.Axis.{Axis}
use Rattle.cell_value.specs.declared.entered.Mode.{Mode}
use Rattle.cell_value.specs.declared.entered.Input.{Input}
use Rattle.sheets_json.specs.declared.call.ValueRange.{ValueRange}
use Rattle.sheets_json.specs.declared.call.RangeBlock.{RangeBlock}
use Rattle.json_shapes.specs.Reading.{Reading, both, made}
use Rattle.json_shapes.specs.Members.{Fields, optional, required, also, making}
use Rattle.json_shapes.specs.Shapes.{text, word, entered, kept, list_of}
use Rattle.json_shapes.specs.Words.{dimension_named}
use Rattle.json_requests.specs.Blocks.{block_of}

-- what was kept of a member that may be absent
abbrev pub in_turn : {A : Type 0} → Option (Reading A) → Reading (Option A)
in_turn None = Ok None
in_turn (Some reading) = made Some reading

-- ---- as a body

abbrev pub value_range_of : Option Axis → Option (List ℕ) × Option (List (List Input)) → ValueRange
value_range_of dimension parts = record { range = parts.0; block = block_of dimension parts.1 }

abbrev pub value_range_from : (Option (Reading (List ℕ)) × Option Axis) × Option (Reading (List (List Input)))
    → Reading ValueRange
value_range_from parts = made (value_range_of parts.0.1) (both (in_turn parts.0.0) (in_turn parts.1))

-- its dimension is judged with the body, and its range and values are judged in their turn
abbrev pub value_range : Mode → Fields (Reading ValueRange)
value_range mode =
    making value_range_from (also (also
    (optional (codes "range") (kept text))
    (optional (codes "majorDimension") (word dimension_named)))
    (optional (codes "values") (kept (list_of (list_of (entered mode))))))

-- ---- as a member of a list

abbrev pub range_block_of : (List ℕ × Option Axis) × Option (List (List Input)) → RangeBlock
range_block_of parts = record { range = parts.0.0; block = block_of parts.0.1 parts.1 }

abbrev pub range_block : Mode → Fields RangeBlock
range_block mode =
    making range_block_of (also (also
    (required (codes "range") text)
    (optional (codes "majorDimension") (word dimension_named)))
    (optional (codes "values") (list_of (list_of (entered mode)))))
