-- A change of the lines of a sheet by places, which is what a program does: items go with their lines, and the
-- references of formulas, the named ranges, the protected ranges, the metadata, the merges and the basic filter follow
-- by their numbers.
use Rattle.std.specs.Prelude.{◌≡◌, ◌≢◌, ℕ, map, option_and_then}
use Rattle.std.specs.List.{AllZip, filter_map}
use Rattle.std.specs.Option.{option_map}
use Rattle.grid_range.specs.declared.axis.Axis.{Axis}
use Rattle.grid_range.specs.declared.change.Change.{Change}
use Rattle.basic_filter.specs.Following.{filter_followed}
use Rattle.cell_store.specs.Moved.{GoesWithLines}
use Rattle.cell_store.specs.Table.{Table, item_at}
use Rattle.dev_metadata.specs.Following.{item_followed}
use Rattle.merge_ranges.specs.Calls.{ListsJust}
use Rattle.merge_ranges.specs.Following.{CameFrom, KeepsAll}
use Rattle.named_ranges.specs.Following.{range_followed}
use Rattle.protection.specs.Following.{protection_followed}
use Rattle.ref_rewrite.specs.Following.{piece_followed}
use Rattle.ref_rewrite.specs.declared.cell_content.Content.{Content}
use Rattle.ref_rewrite.specs.declared.cell_content.Content.TheVariants as content
use Rattle.world_model.specs.Book.{PlaceBook}
use Rattle.world_model.specs.Sheet.{PlaceSheet}

-- each reference of a formula to the sheet follows, where the sheet had `count` lines on the axis
abbrev pub content_followed : ℕ → Axis → ℕ → Change → Content → Content
content_followed sheet axis count change (content.Number number) = content.Number number
content_followed sheet axis count change (content.Text text) = content.Text text
content_followed sheet axis count change (content.Truth truth) = content.Truth truth
content_followed sheet axis count change (content.Formula formula) =
    content.Formula (record formula { pieces = map (piece_followed sheet axis count change) formula.pieces })

-- each place holds what it held, which follows
pub record FollowsInPlace (sheet : ℕ) (axis : Axis) (count : ℕ) (change : Change) (before after : Table Content) : Type
    0 where
  pub rows : after.rows ≡ before.rows
  pub cols : after.cols ≡ before.cols
  pub items : (row col : ℕ) → item_at after row col
      ≡ option_map (content_followed sheet axis count change) (item_at before row col)

-- the items of the sheet that is changed go with their lines, and then each item follows in its place; its merges,
-- each of which a move leaves whole, become those that they are followed to, and its filter follows or is lost; another
-- sheet keeps its own
pub record SheetChanged (changed : ℕ) (axis : Axis) (count : ℕ) (change : Change) (before after : PlaceSheet) :
    Type 0 where
  pub id : after.id ≡ before.id
  pub title : after.title ≡ before.title
  pub hidden : after.hidden ≡ before.hidden
  pub moved : Table Content
  pub goes : before.id ≡ changed → GoesWithLines axis change before.table moved
  pub stays : before.id ≢ changed → moved ≡ before.table
  pub followed : FollowsInPlace changed axis count change moved after.table
  pub whole : before.id ≡ changed → KeepsAll axis count change before.merges
  pub merges_follow : before.id ≡ changed → ListsJust (CameFrom axis count change before.merges) after.merges
  pub merges_stay : before.id ≢ changed → after.merges ≡ before.merges
  pub filter_follows : before.id ≡ changed
      → after.filter ≡ option_and_then (filter_followed axis count change) before.filter
  pub filter_stays : before.id ≢ changed → after.filter ≡ before.filter

-- the sheet with the id, which has `count` lines on the axis, is changed, and each sheet, each range, each protection
-- and each item of metadata follows
pub record BookChanged (changed : ℕ) (axis : Axis) (count : ℕ) (change : Change) (before after : PlaceBook) :
    Type 0 where
  pub id : after.id ≡ before.id
  pub title : after.title ≡ before.title
  pub owner : after.owner ≡ before.owner
  pub sheets : AllZip (SheetChanged changed axis count change) before.sheets after.sheets
  pub ranges : after.ranges ≡ filter_map (range_followed changed axis count change) before.ranges
  pub protections : after.protections ≡ filter_map (protection_followed changed axis count change) before.protections
  pub metadata : after.metadata ≡ filter_map (item_followed changed axis change) before.metadata
