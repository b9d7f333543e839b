-- What writes values, appends or empties cells, or makes a spreadsheet, touches no named range.
use Rattle.std.proofs.Common.{◌≡◌, ℕ, Bool, refl, sym, subst, List, [], ◌∷◌, arith}
use Rattle.std.specs.Prelude.{None, Option, Some, Result, Ok, Err, MatchResult}
use Rattle.cell_value.specs.declared.cell.Block.{Block}
use Rattle.grid_range.specs.declared.area.Area.{Area}
use Rattle.grid_range.specs.declared.axis.Axis.TheVariants.{Rows, Columns}
use Rattle.world_model.specs.Book.{PlaceBook}
use Rattle.world_model.specs.BookChange.{BookChange}
use Rattle.world_model.specs.Making.{Placed, additions}
use Rattle.world_model.specs.Sheet.{PlaceSheet}
use Rattle.world_model.specs.Sound.{place_sheet_with}
use Rattle.dimension_ops.specs.declared.rule.Limit.{Limit}
use Rattle.dimension_ops.specs.declared.rule.Rule.{Rule}
use Rattle.values_api.specs.Appends.{IsAppend, IsAppendUnless, IsAppended as IsAppendedTo, changes_of, limit_passed, lines_added, start_of}
use Rattle.values_api.specs.Blocks.{contents_of}
use Rattle.values_api.specs.Ranges.{FoundArea, Resolves}
use Rattle.values_api.specs.declared.writing.WrittenCells.{WrittenCells}
use Rattle.json_shapes.specs.Reading.{Reading}
use Rattle.sheets_json.specs.declared.call.RangeBlock.{RangeBlock}
use Rattle.sheets_json.specs.declared.call.ValueRange.{ValueRange}
use Rattle.request_kinds.specs.Telling.{cells_updated}
use Rattle.batch_engine.specs.Values.{Appended, IsAppendOn, IsAppended, IsClear, IsCleared, IsUpdate, IsUpdated, IsWritten, OnRange, done, refused, Wrote, appended_of, clear, rule_of, update_of}
use Rattle.answered_calls.proofs.NamesInWorlds.{ChangesKeep}
use Rattle.answered_calls.proofs.NamesStay.{all_steps}
use Rattle.answered_calls.proofs.RangesTold.{SetsFew, SetsNone, added_none, as_told, both_none, matched, unless_denied_few}

-- ---- what touches no named range

on_range_none : {A : Type 0} (Found : Result FoundArea Rule → Type 0) (sheets : List PlaceSheet)
    (IsDone : FoundArea → PlaceSheet → Result (A × List BookChange) Rule → Type 0)
    → ((found : FoundArea) (sheet : PlaceSheet) (told : Result (A × List BookChange) Rule) → IsDone found sheet told
    → SetsFew 0 told)
    → (told : Result (A × List BookChange) Rule) → OnRange Found sheets IsDone told → SetsFew 0 told
on_range_none Found sheets IsDone each told (done found sheet is there holds) = each found sheet told holds
on_range_none Found sheets IsDone each told (refused broken is refuses) = as_told 0 told (Err broken) refuses tt

pub cleared_none : (user : List ℕ) (book : PlaceBook) (range : Reading (List ℕ))
    (told : Result (List ℕ × List BookChange) Rule) → IsCleared user book range told → SetsFew 0 told
cleared_none user book (Ok range) told is =
    on_range_none (Resolves range book) book.sheets (IsClear user book) (λ found sheet told by.
    as_told 0 told _ by.told_is
    (unless_denied_few 0 by.denied by.done (as_told 0 by.done (Ok (clear found sheet)) by.is (omega arith)))) told is
cleared_none user book (Err shape) told is = as_told 0 told (Err (rule_of shape)) is tt

update_none : (user : List ℕ) (book : PlaceBook) (block : Block) (found : FoundArea) (sheet : PlaceSheet)
    (told : Result (Wrote × List BookChange) Rule) → IsUpdate user book block found sheet told → SetsFew 0 told
update_none user book block found sheet told is =
    matched 0 is.wrote (λ counts. Ok (
      (update_of book sheet counts, counts),
      cells_updated found.0.sheet (contents_of is.writes.is.entries),
    )) (λ counts. omega arith) told is.tells

pub written_none : (user range : List ℕ) (book : PlaceBook) (values : Reading ValueRange)
    (told : Result (Wrote × List BookChange) Rule) → IsWritten user range book values told → SetsFew 0 told
written_none user range book (Ok values) told is =
    on_range_none _ book.sheets (IsUpdate user book values.block) (update_none user book values.block) told is
written_none user range book (Err shape) told is = as_told 0 told (Err (rule_of shape)) is tt

pub updated_none : (user : List ℕ) (book : PlaceBook) (values : Reading RangeBlock)
    (told : Result (Wrote × List BookChange) Rule) → IsUpdated user book values told → SetsFew 0 told
updated_none user book (Ok values) told is =
    on_range_none (Resolves values.range book) book.sheets (IsUpdate user book values.block)
    (update_none user book values.block) told is
updated_none user book (Err shape) told is = as_told 0 told (Err (rule_of shape)) is tt

module _ (user : List ℕ) (insert : Bool) (area : Area) (block : Block) (sheet : PlaceSheet)
    (before after : PlaceBook) (answer : Result (Option Area × WrittenCells) Rule)
    (appends : IsAppend user insert area block sheet before after answer) where
  append_none : SetsNone appends.changes
  append_none =
      let added = lines_added insert (start_of appends.table area) block sheet in
      unless (limit_passed added sheet before.sheets) appends.appended
    where
      unless : (limit : Option Limit)
          → IsAppendUnless limit (IsAppendedTo user area.sheet
          (lines_added insert (start_of appends.table area) block sheet) (start_of appends.table area) block
          appends.table appends.changes before after answer) appends.changes answer
          → SetsNone appends.changes
      unless (Some limit) is = subst SetsNone (sym is.0) refl
      unless None is =
          let added = lines_added insert (start_of appends.table area) block sheet in
          let cells = BookChange.CellsUpdated area.sheet (contents_of is.write.is.entries) ∷ [] in
          subst SetsNone (sym is.changes_are)
          (both_none (changes_of area.sheet added) cells
          (both_none _ _ (added_none area.sheet Rows added.row added.rows)
          (added_none area.sheet Columns added.col added.cols)) refl)

append_told_none : (after : PlaceBook) (id : ℕ) (changes : List BookChange) → SetsNone changes
    → (appended : Result (Option Area × WrittenCells) Rule) (told : Result (Appended × List BookChange) Rule)
    → MatchResult appended (λ made. (own : PlaceSheet) × (place_sheet_with id after.sheets ≡ Some own)
    × (told ≡ Ok (appended_of after own made, changes))) (λ broken. told ≡ Err broken)
    → SetsFew 0 told
append_told_none after id changes none (Ok made) told (own, there, is) =
    as_told 0 told (Ok (appended_of after own made, changes)) is (omega (arith, none))
append_told_none after id changes none (Err broken) told is = as_told 0 told (Err broken) is tt

pub appended_none : (user range : List ℕ) (insert : Bool) (book : PlaceBook) (values : Reading ValueRange)
    (told : Result (Appended × List BookChange) Rule) → IsAppended user range insert book values told → SetsFew 0 told
appended_none user range insert book (Ok values) told is =
    on_range_none _ book.sheets (λ found. IsAppendOn user book insert values.block found.0) (λ found sheet told on.
    append_told_none on.after found.0.sheet on.appends.changes
    (append_none user insert found.0 values.block sheet book on.after on.appended on.appends) on.appended told
    on.tells) told is
appended_none user range insert book (Err shape) told is = as_told 0 told (Err (rule_of shape)) is tt

pub additions_none : (placed : List Placed) → SetsNone (additions placed)
additions_none [] = refl
additions_none (one ∷ placed) = let others = additions_none placed in omega (arith, others)

-- changes that touch none leave them apart
pub none_keep : (book : PlaceBook) (changes : List BookChange) → SetsNone changes → ChangesKeep book changes
none_keep book changes none named stands apart = all_steps changes named none apart
