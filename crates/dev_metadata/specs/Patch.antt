-- What updateDeveloperMetadata of the Google Sheets API v4 makes of an item.
use Rattle.std.specs.Prelude.{ℕ, List, unwrap_or, map, if◌then◌else◌}
use Rattle.std.specs.Option.{option_map}
use Rattle.dev_metadata.specs.declared.types.Item.{Item}
use Rattle.dev_metadata.specs.declared.types.ItemPatch.{ItemPatch}
use Rattle.dev_metadata.specs.declared.types.Lookup.{Lookup}
use Rattle.dev_metadata.specs.VisibilityKind.{visibility_given}
use Rattle.dev_metadata.specs.Lookup.{finds_some}

-- the item with what is given in the place of what it has; its id stays
abbrev pub patched : List ℕ → ItemPatch → Item → Item
patched project patch item = record {
  id = item.id;
  key = unwrap_or patch.key item.key;
  value = unwrap_or patch.value item.value;
  spot = unwrap_or patch.spot item.spot;
  visibility = unwrap_or (option_map (visibility_given project) patch.visibility) item.visibility;
}

-- the list with those patched that one of the look-ups finds, each in its place
abbrev pub with_patched : List Lookup → List ℕ → ItemPatch → List Item → List Item
with_patched lookups project patch items =
    map (λ item. if finds_some lookups project item then patched project patch item else item) items
