-- Which items a look-up finds: the `DeveloperMetadataLookup` of the Google Sheets API v4.
use Rattle.std.specs.Prelude.{ℕ, Bool, true, false, not, ◌&&◌, ◌||◌, ◌==◌, List, Option, is_none, is_some, if◌then◌else◌}
use Rattle.std.specs.List.{list_any}
use Rattle.std.specs.Option.{option_map_or}
use Rattle.std.specs.Str.{bytes_eq}
use Rattle.dev_metadata.specs.declared.types.Item.{Item}
use Rattle.dev_metadata.specs.declared.types.Lookup.{Lookup}
use Rattle.dev_metadata.specs.declared.types.Spot.{Spot}
use Rattle.dev_metadata.specs.Spot.{is_spreadsheet, is_same_spot, intersect}
use Rattle.dev_metadata.specs.Kind.{has_kind, is_spreadsheet_kind}
use Rattle.dev_metadata.specs.Visibility.{is_seen_under}
use Rattle.dev_metadata.specs.VisibilityKind.{has_visibility}

-- EXACT_LOCATION is given; INTERSECTING_LOCATION is given
abbrev pub is_exact : Lookup → Bool
is_exact lookup = lookup.strategy_given && not lookup.intersecting

abbrev pub is_intersecting : Lookup → Bool
is_intersecting lookup = lookup.strategy_given && lookup.intersecting

-- no member is given
abbrev pub asks_nothing : Lookup → Bool
asks_nothing lookup =
    is_none lookup.kind && is_none lookup.spot && not lookup.strategy_given && is_none lookup.id
    && is_none lookup.key && is_none lookup.value && is_none lookup.visibility

-- a strategy is given and no location
abbrev pub lacks_location : Lookup → Bool
lacks_location lookup = lookup.strategy_given && is_none lookup.spot

-- a kind of location is given beside EXACT_LOCATION
abbrev pub limits_exact : Lookup → Bool
limits_exact lookup = is_some lookup.kind && is_exact lookup

-- the kind SPREADSHEET is given beside INTERSECTING_LOCATION, or beside another location
abbrev pub asks_for_sheet_or_line : Lookup → Bool
asks_for_sheet_or_line lookup = option_map_or (λ spot. not (is_spreadsheet spot)) lookup.spot false

abbrev pub limits_to_spreadsheet : Lookup → Bool
limits_to_spreadsheet lookup =
    option_map_or is_spreadsheet_kind lookup.kind false
    && (is_intersecting lookup || asks_for_sheet_or_line lookup)

abbrev pub is_bad : Lookup → Bool
is_bad lookup =
    asks_nothing lookup || lacks_location lookup || limits_exact lookup
    || limits_to_spreadsheet lookup

-- one of the look-ups is bad
abbrev pub has_bad : List Lookup → Bool
has_bad lookups = list_any is_bad lookups

-- the text that is asked for, if one is, is that one
abbrev pub is_text_asked : Option (List ℕ) → List ℕ → Bool
is_text_asked asked text = option_map_or (λ asked. bytes_eq asked text) asked true

-- the location is the one that is asked for, or where EXACT_LOCATION isn't given intersects it
abbrev pub is_spot_asked : Lookup → Spot → Bool
is_spot_asked lookup spot =
    option_map_or
    (λ asked. if is_exact lookup then is_same_spot asked spot else intersect asked spot)
    lookup.spot true

-- all members hold that are given
abbrev pub meets : Lookup → Item → Bool
meets lookup item =
    option_map_or (λ kind. has_kind kind item.spot) lookup.kind true
    && is_spot_asked lookup item.spot
    && option_map_or (λ id. id == item.id) lookup.id true
    && is_text_asked lookup.key item.key
    && is_text_asked lookup.value item.value
    && option_map_or (λ visibility. has_visibility visibility item.visibility) lookup.visibility true

-- the project sees the item
abbrev pub sees : List ℕ → Item → Bool
sees project item = is_seen_under project item.visibility

-- it sees it, and the item meets the look-up
abbrev pub finds : Lookup → List ℕ → Item → Bool
finds lookup project item = sees project item && meets lookup item

-- it sees it, and the item meets one of the look-ups
abbrev pub finds_some : List Lookup → List ℕ → Item → Bool
finds_some lookups project item = sees project item && list_any (λ lookup. meets lookup item) lookups
