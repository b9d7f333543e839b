-- The text that tells all that a history made: spreadsheet by spreadsheet, what its owner is shown of it, and then what
-- was entered into each of its sheets (Google Sheets API v4 reference, spreadsheets.get and spreadsheets.values.get).
use Rattle.std.specs.Prelude.{◌≡◌, ℕ, List, [], ◌∷◌, ◌++◌, map, flat_map, None, Some, Result}
use Rattle.std.specs.List.{AllZip, concat}
use Rattle.grid_range.specs.declared.axis.Axis.TheVariants.{Rows}
use Rattle.cell_value.specs.declared.cell.Render.TheVariants.{Formula}
use Rattle.a1_notation.specs.Quoted.{quoted}
use Rattle.world_model.specs.Book.{PlaceBook}
use Rattle.world_model.specs.Sheet.{PlaceSheet}
use Rattle.sheets_json.specs.declared.answer.Answer.{Answer}
use Rattle.sheets_json.specs.declared.call.Call.{Call}
use Rattle.sheets_json.specs.declared.call.Call.TheVariants as call
use Rattle.batch_engine.specs.Effects.{Effect}
use Rattle.batch_engine.specs.declared.calls.Caller.{Caller}
use Rattle.desk.specs.declared.entry.Entry.{Entry}
use Rattle.sheet_engine.specs.Answers.{IsCalled, body_of}
use Rattle.sheet_engine.specs.Replay.{Stands}
use Rattle.sheet_engine.specs.declared.fault.Fault.{Fault}

-- ---- calls

-- the spreadsheet's owner makes the calls, under no project
abbrev pub owner_of : PlaceBook → Caller
owner_of book = record { user = book.owner; project = [] }

-- a look at the spreadsheet, without its rows
abbrev pub look_at : PlaceBook → Call
look_at book = call.Get book.id None

-- a read of the whole sheet, by rows, and of formulas as they are entered; a title in quotes (39) names the sheet,
-- whatever ranges have names
abbrev pub read_of : PlaceBook → PlaceSheet → Call
read_of book sheet = call.Read book.id (quoted 39 sheet.title) (Some Rows) (Some Formula)

-- the look, and a read of each of these sheets
abbrev pub calls_on : PlaceBook → List PlaceSheet → List (Caller × Call)
calls_on book sheets = map (λ call. (owner_of book, call)) (look_at book ∷ map (read_of book) sheets)

-- the calls of a dump, spreadsheet by spreadsheet
abbrev pub dump_calls : List PlaceBook → List (Caller × Call)
dump_calls books = flat_map (λ book. calls_on book book.sheets) books

-- ---- lines

-- the line of a call: the body of the response to it, and a line feed (10)
pub record IsLine (books : List PlaceBook) (made : Caller × Call) (line : List ℕ) : Type 0 where
  pub told : Result Answer Fault
  pub effect : Effect
  pub called : IsCalled made.0 books made.1 told effect
  pub line_is : line ≡ body_of told ++ 10 ∷ []

-- the text has a line for each of the calls, in their order
pub record AreLines (books : List PlaceBook) (calls : List (Caller × Call)) (text : List ℕ) : Type 0 where
  pub lines : List (List ℕ)
  pub each : AllZip (IsLine books) calls lines
  pub text_is : text ≡ concat lines

-- the text has the lines of the dump's calls on spreadsheets that stand for what the entries made
pub record Dump (entries : List Entry) (text : List ℕ) : Type 0 where
  pub books : List PlaceBook
  pub stands : Stands books entries
  pub are_lines : AreLines books (dump_calls books) text

-- ---- what the private functions hand to one another

-- the lines of these calls are put behind the text
pub record Grows (books : List PlaceBook) (calls : List (Caller × Call)) (before after : List ℕ) : Type 0 where
  pub more : List ℕ
  pub are_lines : AreLines books calls more
  pub after_is : after ≡ before ++ more
