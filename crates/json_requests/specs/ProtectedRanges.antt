-- ProtectedRange (Google Sheets API v4 reference), and the requests for protected ranges.
use Rattle.std.specs.Prelude.{ℕ, Bool, true, false, not, ◌&&◌, ◌||◌, List, [], codes, if◌then◌else◌, Option, None, Some, unwrap_or, ⊤}
use Rattle.std.specs.Option.{option_map_or}
use Rattle.std.specs.Str.{bytes_eq}
use Rattle.serde_json.specs.Data.{Data, null, boolean, number, string, array, object, no_items, item}
use Rattle.serde_json.specs.Find.{as_str}
use Rattle.grid_range.specs.declared.area.Area.{Area}
use Rattle.protection.specs.declared.range.ProtectionPatch.{ProtectionPatch}
use Rattle.json_requests.specs.declared.protected_range.StatedProtection.{StatedProtection}
use Rattle.json_requests.specs.declared.request.Request.{Request}
use Rattle.json_requests.specs.declared.request.Request.TheVariants as request
use Rattle.json_shapes.specs.Reading.{Shape}
use Rattle.json_shapes.specs.Members.{Fields, optional, required, also, making, object_of}
use Rattle.json_shapes.specs.Shapes.{text, anything, list_of, such_that}
use Rattle.json_shapes.specs.Scalars.{index, truth}
use Rattle.json_shapes.specs.Masks.{PathList, member_of, states, takes, taken, masked}
use Rattle.json_requests.specs.Areas.{grid_range}

-- ---- its members

-- Editors
abbrev pub or_no_users : Option (List (List ℕ)) → List (List ℕ)
or_no_users users = unwrap_or users []

abbrev pub editors : Fields (List (List ℕ))
editors = making or_no_users (optional (codes "users") (list_of text))

-- who may edit is passed over
abbrev pub protection_marks : Fields ((Option (List ℕ) × Option Bool) × Option ⊤)
protection_marks =
    also (also
    (optional (codes "description") text)
    (optional (codes "warningOnly") truth))
    (optional (codes "requestingUserCanEdit") anything)

abbrev pub protection_lists : Fields (Option (List Area) × Option (List (List ℕ)))
protection_lists =
    also
    (optional (codes "unprotectedRanges") (list_of (object_of grid_range)))
    (optional (codes "editors") (object_of editors))

abbrev pub Marks : Type 0
Marks = (Option (List ℕ) × Option Bool) × Option ⊤

abbrev pub Lists : Type 0
Lists = Option (List Area) × Option (List (List ℕ))

abbrev pub patch_of : Option Area → Marks → Lists → ProtectionPatch
patch_of area marks lists = record {
  area = area;
  description = marks.0.0;
  warning_only = marks.0.1;
  unprotected = lists.0;
  editors = lists.1;
}

-- ---- open ranges stand beside a whole sheet alone

-- an index is given
abbrev pub is_part : Option Data → Bool
is_part range =
    states (codes "startRowIndex") range || states (codes "endRowIndex") range
    || states (codes "startColumnIndex") range || states (codes "endColumnIndex") range

abbrev pub has_items : Data → Bool
has_items null = false
has_items (boolean _) = false
has_items (number n) = false
has_items (string bytes) = false
has_items (array no_items) = false
has_items (array (item value items)) = true
has_items (object _) = false

-- unprotected ranges are sent with a part of a sheet
abbrev pub opens_part : Option Data → Bool
opens_part protected =
    is_part (member_of (codes "range") protected)
    && option_map_or has_items (member_of (codes "unprotectedRanges") protected) false

abbrev pub keeps_parts : Data → Bool
keeps_parts protected = not (opens_part (Some protected))

-- ---- a new one

abbrev pub new_protection_of : ((Option ℕ × Area) × Marks) × Lists → Request
new_protection_of parts = request.AddProtectedRange parts.0.0.0 (patch_of (Some parts.0.0.1) parts.0.1 parts.1)

abbrev pub new_protected_range : Fields Request
new_protected_range =
    making new_protection_of (also (also (also
    (optional (codes "protectedRangeId") index)
    (required (codes "range") (object_of grid_range)))
    protection_marks)
    protection_lists)

abbrev pub add_protected_range : Fields Request
add_protected_range = required (codes "protectedRange") (such_that keeps_parts (object_of new_protected_range))

-- ---- one that is changed

abbrev pub changed_protection_of : ((ℕ × Option Area) × Marks) × Lists → ℕ × ProtectionPatch
changed_protection_of parts = (parts.0.0.0, patch_of parts.0.0.1 parts.0.1 parts.1)

abbrev pub changed_protected_range : Fields (ℕ × ProtectionPatch)
changed_protected_range =
    making changed_protection_of (also (also (also
    (required (codes "protectedRangeId") index)
    (optional (codes "range") (object_of grid_range)))
    protection_marks)
    protection_lists)

-- what the protected range of a request states
abbrev pub stated_protection : Option Data → StatedProtection
stated_protection body = record {
  range = states (codes "range") body;
  description = states (codes "description") body;
  warning_only = states (codes "warningOnly") body;
  unprotected_ranges = states (codes "unprotectedRanges") body;
  editors = states (codes "editors") body;
}

abbrev pub protection_paths : StatedProtection → PathList
protection_paths stated path =
    if bytes_eq path (codes "range") then Some stated.range
    else if bytes_eq path (codes "description") then Some stated.description
    else if bytes_eq path (codes "warningOnly") then Some stated.warning_only
    else if bytes_eq path (codes "unprotectedRanges") then Some stated.unprotected_ranges
    else if bytes_eq path (codes "editors") then Some stated.editors
    else None

-- what the mask takes of it
abbrev pub masked_patch : ProtectionPatch × List ℕ → ProtectionPatch
masked_patch parts = record {
  area = taken parts.1 (codes "range") parts.0.area;
  description = taken parts.1 (codes "description") parts.0.description;
  warning_only = taken parts.1 (codes "warningOnly") parts.0.warning_only;
  unprotected = taken parts.1 (codes "unprotectedRanges") parts.0.unprotected;
  editors = taken parts.1 (codes "editors") parts.0.editors;
}

abbrev pub update_of : (ℕ × ProtectionPatch) × List ℕ → Request
update_of parts = request.UpdateProtectedRange parts.0.0 (masked_patch (parts.0.1, parts.1))

abbrev pub update_protected_range : Fields Request
update_protected_range =
    making update_of
    (masked (codes "protectedRange") (object_of changed_protected_range)
    (λ body. protection_paths (stated_protection body)))

-- the mask of a request takes a path
abbrev pub takes_of : List ℕ → Data → Bool
takes_of path asked =
    option_map_or (λ mask. option_map_or (λ paths. takes paths path) (as_str mask) false)
    (member_of (codes "fields") (Some asked)) false

-- the mask doesn't take unprotected ranges beside a part of a sheet
abbrev pub keeps_taken_parts : Data → Bool
keeps_taken_parts asked =
    not (takes_of (codes "range") asked && takes_of (codes "unprotectedRanges") asked
    && opens_part (member_of (codes "protectedRange") (Some asked)))

abbrev pub update_shape : Shape Request
update_shape = such_that keeps_taken_parts (object_of update_protected_range)

-- ---- one that goes

abbrev pub delete_protected_range : Fields Request
delete_protected_range = making request.DeleteProtectedRange (required (codes "protectedRangeId") index)
