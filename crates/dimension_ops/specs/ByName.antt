-- What calls of a spreadsheet do, in names of lines.
use Rattle.std.specs.Prelude.{◌≡◌, ◌≤◌, ℕ, List, Option, Some, slice_get}
use Rattle.std.specs.Option.{option_map}
use Rattle.grid_range.specs.declared.axis.Axis.TheVariants.{Rows, Columns}
use Rattle.ref_rewrite.specs.declared.cell_content.Content.{Content}
use Rattle.world_model.specs.Book.{NameBook, PlaceBook, orders_of}
use Rattle.world_model.specs.Content.{content_named}
use Rattle.world_model.specs.StandsFor.{BookStandsFor}
use Rattle.world_model.specs.World.{NameWorld, HasNamesBelow, WorldStandsFor, world_replaced}
use Rattle.world_model.specs.Writing.{book_written}

-- whatever its lines are called, the spreadsheet after stands for the one before in which the cell of the lines at
-- the place holds the content, its references by names, or nothing
pub record WritesByName (sheet row col : ℕ) (content : Option Content) (before after : PlaceBook) : Type 0 where
  pub written : (names : NameBook) (r c : ℕ) → BookStandsFor before names
      → slice_get (orders_of names.sheets sheet Rows) row ≡ Some r
      → slice_get (orders_of names.sheets sheet Columns) col ≡ Some c
      → BookStandsFor after
      (book_written sheet r c (option_map (content_named (orders_of names.sheets)) content) names)

-- whatever the lines are called, the spreadsheets after stand for the world before in which what the spreadsheet
-- stands for is in the place of the one that has its id
pub record ReplacesByName (book : PlaceBook) (before after : List PlaceBook) : Type 0 where
  pub replaced : (world : NameWorld) (names : NameBook) (next : ℕ) → WorldStandsFor before world
      → BookStandsFor book names → HasNamesBelow next names → world.next ≤ next
      → WorldStandsFor after (world_replaced names next world)
