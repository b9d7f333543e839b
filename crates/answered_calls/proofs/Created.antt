-- spreadsheets.create has an answer where few enough sheets are asked for.
use Rattle.std.proofs.Common.{◌<◌, ◌^◌, ℕ, refl, List, [], length, arith}
use Rattle.std.specs.Prelude.{IfOk, Ok, Err}
use Rattle.world_model.specs.Book.{PlaceBook}
use Rattle.dimension_ops.specs.Broken.{judged_by}
use Rattle.dimension_ops.specs.Creating.{asked_sheets, created_broken}
use Rattle.json_shapes.specs.Reading.{Reading}
use Rattle.sheets_json.specs.declared.answer.Answer.TheVariants as answer
use Rattle.sheets_json.specs.declared.call.NewSpreadsheet.{NewSpreadsheet}
use Rattle.batch_engine.specs.Answered.{HasNoAnswer}
use Rattle.batch_engine.specs.Create.{IsCreateOf, book_made, makes_book, unless_broken}
use Rattle.batch_engine.specs.Effects.Effect.{Nothing}
use Rattle.batch_engine.specs.Looks.{spreadsheet_alone}
use Rattle.batch_engine.specs.Values.{rule_of}
use Rattle.answered_calls.proofs.SheetsPlaced.{some_placed}

abbrev pub AsksForFewSheets : Reading NewSpreadsheet → Type 0
AsksForFewSheets given = IfOk given (λ asked. length (asked_sheets asked.sheets) < 2 ^ 64)

pub create_answered : (owner : List ℕ) (given : Reading NewSpreadsheet) (books : List PlaceBook)
    → AsksForFewSheets given → ¬ (HasNoAnswer (IsCreateOf owner given books))
create_answered owner (Err shape) books few none = none (Err (rule_of shape)) Nothing (refl, refl)
create_answered owner (Ok asked) books few none =
    let (placed, are) = some_placed (asked_sheets asked.sheets) [] (omega (arith, few)) in
    let told = judged_by (created_broken (length books) (asked_sheets asked.sheets) placed)
    (answer.Create (spreadsheet_alone owner (book_made owner asked (length books) placed))) in
    none told (unless_broken told (makes_book owner asked (length books) placed))
    (record { placed = placed; are = are; told_is = refl; effect_is = refl })
