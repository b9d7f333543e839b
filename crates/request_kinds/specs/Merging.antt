-- The merges of a sheet that a request changes (Google Sheets API v4 reference, MergeCellsRequest and
-- UnmergeCellsRequest). An area to be unmerged must not have a part of a merge (UnmergeCellsRequest); that one to be
-- merged must not either is this project's profile.
use Rattle.std.specs.Prelude.{◌≡◌, ◌↔◌, ℕ, Bool, List, ◌∷◌, Any, IsTrue, IsSomeAnd, Option, Result, Ok}
use Rattle.grid_range.specs.declared.area.Area.{Area}
use Rattle.merge_ranges.specs.Calls.{Cuts, ListsJust}
use Rattle.world_model.specs.Book.{PlaceBook}
use Rattle.world_model.specs.BookChange.{AreChanges, BookChange}
use Rattle.world_model.specs.Sheet.{PlaceSheet}
use Rattle.world_model.specs.Sound.{place_sheet_with}
use Rattle.dimension_ops.specs.Broken.{first_broken, unbroken}
use Rattle.dimension_ops.specs.declared.rule.Limit.{Limit}
use Rattle.dimension_ops.specs.declared.rule.Rule.{Rule}
use Rattle.sheets_json.specs.declared.spreadsheet.Reply.{Reply}
use Rattle.sheets_json.specs.declared.spreadsheet.Reply.TheVariants as reply
use Rattle.request_kinds.specs.Telling.{UnlessBroken}

-- `broken` is the first rule that the request breaks, if it breaks one: PastLimit where it would pass the limit `past`,
-- and MergeCut where the area cuts a merge of the sheet
pub record IsFirstBroken (area : Area) (sheet : PlaceSheet) (past : Option Limit) (broken : Option Rule) : Type 0 where
  pub cut : Bool
  pub is_cut : IsTrue cut ↔ Any (Cuts area) sheet.merges
  pub broken_is : broken ≡ first_broken (record unbroken { past_limit = past; merge_cut = cut })

-- the merges of the sheet, whose id that is, become just the areas that `IsMergeAfter` says of those that it has, and
-- then the changes `later` are made; the reply is empty
pub record AreMergesSet (id : ℕ) (IsMergeAfter : List Area → Area → Type 0) (later : List BookChange)
    (sheet : PlaceSheet) (told : Result (Reply × List BookChange) Rule) : Type 0 where
  pub merges : List Area
  pub just : ListsJust (IsMergeAfter sheet.merges) merges
  pub told_is : told ≡ Ok (reply.Empty, BookChange.MergesSet id merges ∷ later)

-- that is done on the area's sheet, unless the request breaks a rule
pub record AreMergesAsked (area : Area) (past : Option Limit) (IsMergeAfter : List Area → Area → Type 0)
    (later : List BookChange) (sheet : PlaceSheet) (told : Result (Reply × List BookChange) Rule) : Type 0 where
  pub broken : Option Rule
  pub is : IsFirstBroken area sheet past broken
  pub told_is : UnlessBroken broken (AreMergesSet area.sheet IsMergeAfter later sheet) told

-- ---- what the private functions hand to one another

-- the merges of the sheet with the id became just those areas, and then the changes `later` were made
pub record AreMergesMade (id : ℕ) (IsMergeAfter : List Area → Area → Type 0) (later : List BookChange)
    (before after : PlaceBook) : Type 0 where
  pub merges : List Area
  pub just : IsSomeAnd (place_sheet_with id before.sheets) (λ sheet. ListsJust (IsMergeAfter sheet.merges) merges)
  pub changes : AreChanges (BookChange.MergesSet id merges ∷ later) before after
