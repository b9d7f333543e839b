-- Field masks: the text `fields` of an update, paths with commas between (Google Sheets API v4 reference, `fields`
-- of UpdateCellsRequest and of UpdateSheetPropertiesRequest). `*` is every path of the kind's list that the body
-- states.
use Rattle.std.specs.Prelude.{ℕ, Bool, false, not, ◌||◌, ◌==◌, List, codes, if◌then◌else◌, Option, None, Some, option_and_then, Ok, Err}
use Rattle.std.specs.List.{list_any, slice_split}
use Rattle.std.specs.Option.{is_some}
use Rattle.std.specs.Str.{bytes_eq}
use Rattle.serde_json.specs.Data.{Data}
use Rattle.serde_json.specs.Find.{as_str, get}
use Rattle.json_shapes.specs.declared.fault.ShapeFault.TheVariants.{BadShape, Unsupported}
use Rattle.json_shapes.specs.Reading.{Reading, Shape, both}
use Rattle.json_shapes.specs.Members.{Fields, unless_null, given, without, demanded}

-- a kind's list of paths: whether the body states a path, if it is in the list
abbrev pub PathList : Type 0
PathList = List ℕ → Option Bool

-- a member of a body, if it has one that isn't null
abbrev pub member_of : List ℕ → Option Data → Option Data
member_of name body = option_and_then unless_null (option_and_then (get name) body)

abbrev pub states : List ℕ → Option Data → Bool
states name body = is_some (member_of name body)

-- ---- paths

-- 44 is a comma
abbrev pub paths_of : List ℕ → List (List ℕ)
paths_of mask = slice_split (λ byte. byte == 44) mask

abbrev pub is_every : List ℕ → Bool
is_every path = bytes_eq path (codes "*")

abbrev pub is_unstated : Option Bool → Bool
is_unstated None = false
is_unstated (Some stated) = not stated

abbrev pub is_unlisted : PathList → List ℕ → Bool
is_unlisted listed path = not (is_every path || is_some (listed path))

abbrev pub names_unstated : PathList → List ℕ → Bool
names_unstated listed mask = list_any (λ path. is_unstated (listed path)) (paths_of mask)

abbrev pub names_unlisted : PathList → List ℕ → Bool
names_unlisted listed mask = list_any (is_unlisted listed) (paths_of mask)

-- a path that the body doesn't state has a bad shape, and one that isn't listed is unsupported
abbrev pub judged : PathList → List ℕ → Reading (List ℕ)
judged listed mask =
    if names_unstated listed mask then Err BadShape
    else if names_unlisted listed mask then Err Unsupported
    else Ok mask

abbrev pub mask_of : PathList → Option (List ℕ) → Reading (List ℕ)
mask_of listed None = Err BadShape
mask_of listed (Some mask) = judged listed mask

abbrev pub mask : PathList → Shape (List ℕ)
mask listed value = mask_of listed (as_str value)

-- ---- what is taken

abbrev pub takes : List ℕ → List ℕ → Bool
takes mask path = list_any (λ other. bytes_eq other path || is_every other) (paths_of mask)

-- a member of the body, where the mask takes its path
abbrev pub taken : {A : Type 0} → List ℕ → List ℕ → Option A → Option A
taken mask path value = if takes mask path then value else None

-- a body under that name, and a mask of the paths that it states as it was sent
abbrev pub masked : {A : Type 0} → List ℕ → Shape A → (Option Data → PathList) → Fields (A × List ℕ)
masked name shape listed members = record {
  read = both
      (demanded shape (given name members))
      (demanded (mask (listed (given name members))) (given (codes "fields") (without name members)));
  left = without (codes "fields") (without name members);
}
