-- spreadsheets.create (Google Sheets API v4 reference, spreadsheets.create and Spreadsheet): a spreadsheet is made for
-- its caller, behind all others, and is told as a look at it shows it. The title where none is given is this project's
-- profile.
use Rattle.std.specs.Prelude.{◌≡◌, ℕ, List, [], length, unwrap_or, codes, Result, Ok, Err}
use Rattle.world_model.specs.Book.{PlaceBook}
use Rattle.world_model.specs.Making.{Placed, additions, bare_book, bare_names, with_all_placed}
use Rattle.dimension_ops.specs.Broken.{judged_by}
use Rattle.dimension_ops.specs.Creating.{ArePlaced, asked_sheets, book_id, created_broken}
use Rattle.dimension_ops.specs.declared.rule.Rule.{Rule}
use Rattle.json_shapes.specs.Reading.{Reading}
use Rattle.sheets_json.specs.declared.answer.Answer.{Answer}
use Rattle.sheets_json.specs.declared.answer.Answer.TheVariants as answer
use Rattle.sheets_json.specs.declared.call.NewSpreadsheet.{NewSpreadsheet}
use Rattle.batch_engine.specs.Effects.{Effect}
use Rattle.batch_engine.specs.Effects.Effect.{Nothing, Makes}
use Rattle.batch_engine.specs.Looks.{spreadsheet_alone}
use Rattle.batch_engine.specs.Values.{rule_of}

abbrev pub title_or_untitled : NewSpreadsheet → List ℕ
title_or_untitled asked = unwrap_or asked.title (codes "Untitled spreadsheet")

-- the spreadsheet that is made with these sheets, as the one after so many others
abbrev pub book_made : List ℕ → NewSpreadsheet → ℕ → List Placed → PlaceBook
book_made owner asked others placed =
    with_all_placed (bare_book (book_id others) (title_or_untitled asked) owner) placed

-- the same by the names of lines
abbrev pub makes_book : List ℕ → NewSpreadsheet → ℕ → List Placed → Effect
makes_book owner asked others placed =
    Makes (bare_names (book_id others) (title_or_untitled asked) owner) (additions placed)

-- what is made, unless a rule is broken
abbrev pub unless_broken : Result Answer Rule → Effect → Effect
unless_broken (Ok told) effect = effect
unless_broken (Err broken) effect = Nothing

-- a spreadsheet with the sheets that are asked for is made for its owner
pub record IsMadeFor (owner : List ℕ) (asked : NewSpreadsheet) (books : List PlaceBook) (told : Result Answer Rule)
    (effect : Effect) : Type 0 where
  pub placed : List Placed
  pub are : ArePlaced (asked_sheets asked.sheets) [] placed
  pub told_is : told ≡ judged_by (created_broken (length books) (asked_sheets asked.sheets) placed)
      (answer.Create (spreadsheet_alone owner (book_made owner asked (length books) placed)))
  pub effect_is : effect ≡ unless_broken told (makes_book owner asked (length books) placed)

-- one whose shape is broken is refused
abbrev pub IsCreateOf : List ℕ → Reading NewSpreadsheet → List PlaceBook → Result Answer Rule → Effect → Type 0
IsCreateOf owner (Ok asked) books = IsMadeFor owner asked books
IsCreateOf owner (Err shape) books = λ told effect. (told ≡ Err (rule_of shape)) × (effect ≡ Nothing)
