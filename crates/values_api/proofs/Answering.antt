-- Each range text has an answer, and a read shows something of each area.
use Rattle.std.proofs.Common.{ℕ, Bool, List, refl}
use Rattle.std.specs.Prelude.{Option, Some, None, IsSomeAnd, Result, Err}
use Rattle.std.specs.Option.{IsSome}
use Rattle.cell_value.specs.declared.cell.Cell.{Cell}
use Rattle.cell_value.specs.declared.cell.Render.{Render}
use Rattle.cell_value.specs.declared.cell.Render.TheVariants.{Formatted, Unformatted, Formula}
use Rattle.cell_value.specs.declared.cell.Value.{Value}
use Rattle.cell_value.specs.declared.cell.Value.TheVariants.{Blank}
use Rattle.grid_range.specs.declared.area.Area.{Area}
use Rattle.cell_calc.specs.Book.{Place}
use Rattle.cell_calc.specs.Calculated.{HasValues, IsValueIn}
use Rattle.world_model.specs.Book.{PlaceBook}
use Rattle.world_model.specs.Laws.{IdsFind}
use Rattle.world_model.specs.Sheet.{PlaceSheet}
use Rattle.world_model.specs.Sound.{IsSound, place_sheet_with}
use Rattle.dimension_ops.specs.declared.rule.Rule.{Rule}
use Rattle.dimension_ops.specs.declared.rule.Rule.TheVariants.{BadRange}
use Rattle.values_api.specs.Answered.{ReadsAnswered}
use Rattle.values_api.specs.RangeLaws.{LiesOn, named_lies}
use Rattle.values_api.specs.Ranges.{FoundArea, Resolves, named, unnamed, part_of}
use Rattle.values_api.specs.Sheets.{formula_sheets, stored_in}
use Rattle.values_api.specs.Shown.{IsAreaShown, area_shown}
use Rattle.values_api.proofs.Readable.{cells_sound}

-- ---- range texts

resolves : (text : List ℕ) (book : PlaceBook) → ¬ ((answer : Result FoundArea Rule) → ¬ (Resolves text book answer))
resolves text book none =
    none (Err BadRange)
    (unnamed (λ range names. none (part_of book range.sheet range.part) (named range names refl)) refl)

some_there : {A : Type 0} (P : A → Type 0) (found : Option A) → IsSomeAnd found P → IsSome found
some_there P None holds = absurd holds
some_there P (Some x) holds = refl

-- ---- what a read shows

module _ (has_values : HasValues) (book : PlaceBook) (sound : IsSound book) where
  valued : ¬ ((values : Place → Value) → ¬ ((place : Place) → IsValueIn (stored_in book) place (values place)))
  valued = has_values (stored_in book) (cells_sound book sound)

  module _ (area : Area) (columns_first : Bool) (sheet : PlaceSheet) where
    -- the values of the area's rows and columns
    abbrev values_on : (Place → Value) → ℕ → ℕ → Value
    values_on values row col = values (record { sheet = area.sheet; row = row; column = col })

    -- what is shown by them
    abbrev lines_of_values : Render → (ℕ → ℕ → Value) → List (List Cell)
    lines_of_values render values =
        area_shown (formula_sheets book.sheets) area columns_first render sheet values

    shown : (render : Render)
        → ¬ ((lines : List (List Cell)) → ¬ (IsAreaShown book area columns_first render sheet lines))
    shown Formatted none = valued (λ values are.
        none (lines_of_values Formatted (values_on values)) (record {
          values = values_on values;
          values_are = λ row col holds. are (record { sheet = area.sheet; row = row; column = col });
          lines_are = refl;
        }))
    shown Unformatted none = valued (λ values are.
        none (lines_of_values Unformatted (values_on values)) (record {
          values = values_on values;
          values_are = λ row col holds. are (record { sheet = area.sheet; row = row; column = col });
          lines_are = refl;
        }))
    shown Formula none =
        none (lines_of_values Formula (λ row col. Blank))
        (record { values = λ row col. Blank; values_are = tt; lines_are = refl })

pub reads_answered : HasValues → IdsFind → ReadsAnswered
reads_answered has_values ids = record {
  resolves = resolves;
  there = λ text book found sound names.
      some_there (LiesOn found.0) (place_sheet_with found.0.sheet book.sheets)
      (named_lies ids book sound text found names);
  valued = valued has_values;
  shown = λ book area columns_first render sheet sound. shown has_values book sound area columns_first sheet render;
}
