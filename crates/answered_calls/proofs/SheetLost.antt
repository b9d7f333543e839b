-- A sheet can be deleted unless no visible one would be left.
use Rattle.std.proofs.Common.{◌≡◌, ℕ, List, [], ◌∷◌, map, refl, sym, ap, subst, ◌∙◌, Bool, true, false, ◌&&◌, not}
use Rattle.std.specs.Prelude.{Option, Some, None, Result, Ok, Err}
use Rattle.std.specs.List.{AllZip, filter_map, list_all}
use Rattle.std.specs.Option.{option_map_or}
use Rattle.std.proofs.lemmas.Option.{none-some}
use Rattle.dev_metadata.specs.Following.{items_elsewhere}
use Rattle.named_ranges.specs.Following.{ranges_elsewhere}
use Rattle.protection.specs.Following.{protection_without_sheet}
use Rattle.world_model.specs.Book.{PlaceBook}
use Rattle.world_model.specs.BookChange.{BookChange}
use Rattle.world_model.specs.Sheet.{PlaceSheet}
use Rattle.world_model.specs.SheetChange.{LosesReferences, PlaceSheetDeleted, content_without, other_sheets}
use Rattle.world_model.specs.SheetLaws.{SheetsDeleted}
use Rattle.world_model.specs.Sound.{IsSound}
use Rattle.dimension_ops.specs.Broken.{first_broken, unbroken}
use Rattle.dimension_ops.specs.SheetRequests.{has_id, sheet_dropped_broken}
use Rattle.dimension_ops.specs.declared.rule.Rule.{Rule}
use Rattle.dimension_ops.specs.declared.rule.Rule.TheVariants as rule
use Rattle.sheets_json.specs.declared.spreadsheet.Reply.{Reply}
use Rattle.sheets_json.specs.declared.spreadsheet.Reply.TheVariants as reply
use Rattle.request_kinds.specs.DeleteSheet.{IsDeleteSheet}
use Rattle.batch_engine.specs.MadeLaws.{CanBeMade}
use Rattle.answered_calls.proofs.NamesKept.{CanBeMadeNamed, can_be_made, names_elsewhere}
use Rattle.answered_calls.proofs.Tables.{items_become, table_become}

module _ (id : ℕ) where
  -- another sheet without its references to the one that is deleted
  abbrev lost : PlaceSheet → PlaceSheet
  lost sheet = record sheet { table = table_become (content_without id) sheet.table }

  all_lose : (sheets : List PlaceSheet) → AllZip (LosesReferences id) sheets (map lost sheets)
  all_lose [] = tt
  all_lose (sheet ∷ sheets) = (
    record {
      id = refl;
      title = refl;
      hidden = refl;
      rows = refl;
      cols = refl;
      items = items_become (content_without id) sheet.table;
      merges = refl;
      filter = refl;
    },
    all_lose sheets,
  )

  still_hidden : (sheets : List PlaceSheet)
      → list_all (λ (sheet : PlaceSheet). sheet.hidden) (map lost sheets)
      ≡ list_all (λ (sheet : PlaceSheet). sheet.hidden) sheets
  still_hidden [] = refl
  still_hidden (sheet ∷ sheets) = ap (λ rest. sheet.hidden && rest) (still_hidden sheets)

  abbrev pub without_sheet : PlaceBook → PlaceBook
  without_sheet book = record book {
    sheets = map lost (other_sheets id book.sheets);
    ranges = ranges_elsewhere id book.ranges;
    protections = filter_map (protection_without_sheet id) book.protections;
    metadata = items_elsewhere id book.metadata;
  }

  pub sheet_deleted : (book : PlaceBook) → PlaceSheetDeleted id book (without_sheet book)
  sheet_deleted book = record {
    id = refl;
    title = refl;
    owner = refl;
    sheets = all_lose (other_sheets id book.sheets);
    ranges = refl;
    protections = refl;
    metadata = refl;
  }

  -- a visible sheet is left where no rule is broken
  not_last : (no_sheet last : Bool)
      → first_broken (record unbroken { no_sheet = no_sheet; last_sheet = last }) ≡ None → last ≡ false
  not_last true last is = absurd (none-some rule.NoSheet (sym is))
  not_last false true is = absurd (none-some rule.LastSheet (sym is))
  not_last false false is = refl

  pub delete_sheet_named : SheetsDeleted → (book : PlaceBook) → IsSound book
      → (told : Result (Reply × List BookChange) Rule) → IsDeleteSheet id book told → CanBeMadeNamed book told
  delete_sheet_named law book sound told is =
      subst (CanBeMadeNamed book) (sym is) (by_rule (first_broken (sheet_dropped_broken id book.sheets)) refl)
    where
      by_rule : (first : Option Rule) → first_broken (sheet_dropped_broken id book.sheets) ≡ first
          → CanBeMadeNamed book (option_map_or Err first (Ok (reply.Empty, BookChange.SheetDeleted id ∷ [])))
      by_rule (Some broken) first = tt
      by_rule None none =
          let visible = still_hidden (other_sheets id book.sheets) ∙ not_last (not (has_id book.sheets id))
          (list_all (λ (sheet : PlaceSheet). sheet.hidden) (other_sheets id book.sheets)) none in
          let placed = sheet_deleted book in (
            without_sheet book,
            law.changes book (without_sheet book) id
                (law.stays book (without_sheet book) id sound visible placed) placed,
            names_elsewhere id book.ranges,
          )

  pub can_delete_sheet : SheetsDeleted → (book : PlaceBook) → IsSound book
      → (told : Result (Reply × List BookChange) Rule) → IsDeleteSheet id book told → CanBeMade book told
  can_delete_sheet law book sound told is = can_be_made book told (delete_sheet_named law book sound told is)
