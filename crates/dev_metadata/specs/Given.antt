-- What is kept of an update for one item.
use Rattle.std.specs.Prelude.{ℕ, List, Option, None, Some, unwrap_or, if◌then◌else◌}
use Rattle.std.specs.Option.{option_map}
use Rattle.dev_metadata.specs.declared.types.Item.{Item}
use Rattle.dev_metadata.specs.declared.types.ItemPatch.{ItemPatch}
use Rattle.dev_metadata.specs.declared.types.Lookup.{Lookup}
use Rattle.dev_metadata.specs.declared.updating.Given.{Given}
use Rattle.dev_metadata.specs.VisibilityKind.{visibility_given}
use Rattle.dev_metadata.specs.Lookup.{finds_some}

abbrev pub given_of : List ℕ → ItemPatch → Given
given_of project patch = record {
  key = patch.key;
  value = patch.value;
  spot = patch.spot;
  visibility = option_map (visibility_given project) patch.visibility;
}

-- the item with what is given in the place of what it has
abbrev pub with_given : Given → Item → Item
with_given given item = record {
  id = item.id;
  key = unwrap_or given.key item.key;
  value = unwrap_or given.value item.value;
  spot = unwrap_or given.spot item.spot;
  visibility = unwrap_or given.visibility item.visibility;
}

-- what an item gets: something where one of the look-ups finds it
abbrev pub given_to : List Lookup → List ℕ → ItemPatch → Item → Option Given
given_to lookups project patch item =
    if finds_some lookups project item then Some (given_of project patch) else None
