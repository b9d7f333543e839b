-- NamedRange (Google Sheets API v4 reference), and the requests for named ranges.
use Rattle.std.specs.Prelude.{ℕ, Bool, false, ◌&&◌, ◌||◌, ◌==◌, nat_lt, nat_le, length, List, codes, if◌then◌else◌, Option, None, Some, option_map, unwrap_or}
use Rattle.std.specs.Char.{is_ascii_alphanumeric}
use Rattle.std.specs.List.{list_all}
use Rattle.std.specs.Str.{bytes_eq}
use Rattle.serde_json.specs.Data.{Data}
use Rattle.serde_json.specs.Find.{as_str}
use Rattle.grid_range.specs.declared.area.Area.{Area}
use Rattle.json_requests.specs.declared.named_range.StatedRange.{StatedRange}
use Rattle.json_requests.specs.declared.request.NewNamedRange.{NewNamedRange}
use Rattle.json_requests.specs.declared.request.Request.{Request}
use Rattle.json_requests.specs.declared.request.Request.TheVariants as request
use Rattle.json_shapes.specs.Reading.{Shape}
use Rattle.json_shapes.specs.Members.{Fields, optional, required, also, making, object_of}
use Rattle.json_shapes.specs.Shapes.{text, such_that}
use Rattle.json_shapes.specs.Masks.{PathList, states, taken, masked}
use Rattle.json_requests.specs.Areas.{grid_range}

-- ---- ids

-- an ASCII letter or digit, _ or -
abbrev pub is_id_byte : ℕ → Bool
is_id_byte byte = is_ascii_alphanumeric byte || byte == 95 || byte == 45

-- 1 to 100 of them
abbrev pub is_range_id : List ℕ → Bool
is_range_id id = nat_lt 0 (length id) && nat_le (length id) 100 && list_all is_id_byte id

abbrev pub is_range_id_text : Data → Bool
is_range_id_text value = unwrap_or (option_map is_range_id (as_str value)) false

abbrev pub named_range_id : Shape (List ℕ)
named_range_id = such_that is_range_id_text text

-- ---- a new one

abbrev pub new_range_of : (Option (List ℕ) × List ℕ) × Area → NewNamedRange
new_range_of parts = record { named_range_id = parts.0.0; name = parts.0.1; range = parts.1 }

abbrev pub new_named_range : Fields NewNamedRange
new_named_range =
    making new_range_of (also (also
    (optional (codes "namedRangeId") named_range_id)
    (required (codes "name") text))
    (required (codes "range") (object_of grid_range)))

abbrev pub add_named_range : Fields Request
add_named_range = making request.AddNamedRange (required (codes "namedRange") (object_of new_named_range))

-- ---- one that is changed

abbrev pub changed_range : Fields ((List ℕ × Option (List ℕ)) × Option Area)
changed_range =
    also (also
    (required (codes "namedRangeId") named_range_id)
    (optional (codes "name") text))
    (optional (codes "range") (object_of grid_range))

-- what the named range of a request states
abbrev pub stated_range : Option Data → StatedRange
stated_range body = record { name = states (codes "name") body; range = states (codes "range") body }

abbrev pub range_paths : StatedRange → PathList
range_paths stated path =
    if bytes_eq path (codes "name") then Some stated.name
    else if bytes_eq path (codes "range") then Some stated.range
    else None

-- what the mask takes of it
abbrev pub update_of : ((List ℕ × Option (List ℕ)) × Option Area) × List ℕ → Request
update_of parts =
    request.UpdateNamedRange parts.0.0.0
    (taken parts.1 (codes "name") parts.0.0.1)
    (taken parts.1 (codes "range") parts.0.1)

abbrev pub update_named_range : Fields Request
update_named_range =
    making update_of (masked (codes "namedRange") (object_of changed_range) (λ body. range_paths (stated_range body)))

-- ---- one that goes

abbrev pub delete_named_range : Fields Request
delete_named_range = making request.DeleteNamedRange (required (codes "namedRangeId") named_range_id)
