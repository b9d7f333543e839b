-- updateSheetProperties: where no rule is broken a title, a mark and a size can be set one after another, if lines of a
-- sheet can be deleted and inserted.
use Rattle.std.proofs.Common.{◌≡◌, ℕ, refl, ap, ◌∙◌, List, [], ◌++◌, Bool, true, false, arith, ◌&&◌}
use Rattle.std.specs.Prelude.{Option, None, Some, is_some, unwrap_or, ◌==◌}
use Rattle.std.specs.List.{list_all}
use Rattle.std.specs.Option.{IsSome, option_map, option_map_or}
use Rattle.std.proofs.lemmas.Bool.{ltb-false, or_parts, true≢false}
use Rattle.cell_value.specs.Ids.{is_taken}
use Rattle.cell_value.specs.declared.cell.SheetProperties.{SheetProperties}
use Rattle.world_model.specs.declared.limits.TheConstants.{MOST_COLUMNS, MOST_ROWS}
use Rattle.world_model.specs.Book.{PlaceBook}
use Rattle.world_model.specs.BookChange.{AreChanges, BookChange}
use Rattle.world_model.specs.ChangingLaws.{ChangesInTurn}
use Rattle.world_model.specs.Laws.{size_of}
use Rattle.world_model.specs.Sheet.{PlaceSheet}
use Rattle.world_model.specs.SheetChange.{on_place_sheet, other_sheets, place_marked_hidden, place_titled}
use Rattle.world_model.specs.SheetLaws.{SheetsHidden, SheetsTitled}
use Rattle.world_model.specs.Sound.{IsSound, most_places, place_sheet_with}
use Rattle.dimension_ops.specs.Broken.{Broken, first_broken, unbroken}
use Rattle.dimension_ops.specs.JudgingLaws.{breaks_none, passes_none}
use Rattle.dimension_ops.specs.Lines.{passes_size}
use Rattle.dimension_ops.specs.NewSheetLaws.{above_zero, has_bytes}
use Rattle.dimension_ops.specs.PropertyLaws.{all_kept, mark_still, one_visible, others_free, size_kept}
use Rattle.dimension_ops.specs.SetProperties.{IsMarkFor, IsSized, KeepsSize, all_set, mark_set, places_with, properties_broken, properties_set, size_given, size_set, size_set_broken, title_set}
use Rattle.dimension_ops.specs.SheetRequests.{has_title, is_bad_title}
use Rattle.dimension_ops.specs.SizeLaws.{places_given}
use Rattle.sheets_json.specs.declared.spreadsheet.Reply.TheVariants as reply
use Rattle.request_kinds.specs.UpdateSheetProperties.{sheet_properties_updated}
use Rattle.answered_calls.proofs.Telling.{IsMadeSome, judged_made_some}
use Rattle.answered_calls.proofs.SizesSet.{Makes, SizesChange, none_made, size_made, then_made}

both_kept : (id : ℕ) (before between after : List PlaceSheet) → KeepsSize id before between
    → KeepsSize id between after → KeepsSize id before after
both_kept id before between after kept kept' = record {
  others = kept'.others ∙ kept.others;
  size = kept'.size ∙ kept.size;
  places = kept'.places ∙ kept.places;
}

module _ (turns : ChangesInTurn) where
  title_made : SheetsTitled → (id : ℕ) (given : Option (List ℕ)) (book : PlaceBook) → IsSound book
      → is_bad_title given ≡ false → is_taken (has_title (other_sheets id book.sheets)) given ≡ false
      → Makes (title_set id given) book (KeepsSize id book.sheets)
  title_made law id None book sound good free =
      none_made turns book (KeepsSize id book.sheets) sound (all_kept id book.sheets)
  title_made law id (Some title) book sound good free =
      let still = law.stays book id title sound (has_bytes title good) (others_free id title book.sheets free) in (
        on_place_sheet id (place_titled title) book,
        law.changes book id title still,
        still,
        size_kept id (place_titled title) (λ sheet. refl) (λ sheet. refl) book.sheets,
      )

  mark_made : SheetsHidden → (id : ℕ) (given : Option Bool) (book : PlaceBook) → IsSound book
      → IsMarkFor id given book.sheets → Makes (mark_set id given) book (KeepsSize id book.sheets)
  mark_made law id None book sound is =
      none_made turns book (KeepsSize id book.sheets) sound (all_kept id book.sheets)
  mark_made law id (Some hidden) book sound is =
      let still = law.stays book id hidden sound (one_visible id hidden book is) in (
        on_place_sheet id (place_marked_hidden hidden) book,
        law.changes book id hidden still,
        still,
        size_kept id (place_marked_hidden hidden) (λ sheet. refl) (λ sheet. refl) book.sheets,
      )

-- ---- the request

module _ (turns : ChangesInTurn) (titled : SheetsTitled) (hides : SheetsHidden) (lines : SizesChange) (id : ℕ)
    (properties : SheetProperties) (book : PlaceBook) (sound : IsSound book) where
  abbrev IsAllSet : List BookChange → Type 0
  IsAllSet changes = (after : PlaceBook) × AreChanges changes book after

  abbrev broken_of : PlaceSheet → Broken
  broken_of sheet = record (size_set_broken id (size_given properties (size_of sheet)) book.sheets) {
    bad_name = is_bad_title properties.title;
    name_taken = is_taken (has_title (other_sheets id book.sheets)) properties.title;
    last_sheet = unwrap_or properties.hidden false && list_all (λ other. other.hidden) (other_sheets id book.sheets);
  }

  set_on : (sheet : PlaceSheet) → place_sheet_with id book.sheets ≡ Some sheet → first_broken (broken_of sheet) ≡ None
      → IsAllSet (all_set id properties (size_of sheet))
  set_on sheet at none =
      let good = breaks_none (broken_of sheet) none in
      let size = size_of sheet in
      let given = size_given properties size in
      let passed = passes_none (passes_size given (places_with id given book.sheets)) good.past_limit in
      let both = or_parts (given.0 == 0) (given.1 == 0) good.last_line in
      let all = places_given id given book.sheets sheet sound.distinct at in
      let others = places_with id (0, 0) book.sheets in
      let rest = places_given id (0, 0) book.sheets sheet sound.distinct at in
      let few = ltb-false most_places (places_with id given book.sheets) passed.cells in
      let there : IsSome (place_sheet_with id book.sheets) = ap is_some at in
      let sized : IsSized id size others book.sheets =
      record { held = ap (option_map size_of) at; places = omega (arith, rest) } in
      let mark : IsMarkFor id properties.hidden book.sheets = record { there = there; visible = good.last_sheet } in
      let named = title_set id properties.title in
      let marked = mark_set id properties.hidden in
      let (after, changed, still, holds) =
      then_made turns (named ++ marked) (size_set id size given) book (KeepsSize id book.sheets)
      (IsSized id given others)
      (then_made turns named marked book (KeepsSize id book.sheets) (KeepsSize id book.sheets)
      (title_made turns titled id properties.title book sound good.bad_name good.name_taken) (λ one sound_one kept.
      let (two, changed, sound_two, kept') = mark_made turns hides id properties.hidden one sound_one
      (mark_still id properties.hidden book.sheets one.sheets kept mark) in
      (two, changed, sound_two, both_kept id book.sheets one.sheets two.sheets kept kept')))
      (λ two sound_two kept.
      size_made turns lines id others size given two sound_two
      (record { held = kept.size ∙ sized.held; places = kept.places ∙ sized.places })
      (above_zero given.0 both.0, ltb-false MOST_ROWS given.0 passed.rows)
      (above_zero given.1 both.1, ltb-false MOST_COLUMNS given.1 passed.cols) (omega (arith, all, rest, few))) in
      (after, changed)

  all_judged : (found : Option PlaceSheet) → place_sheet_with id book.sheets ≡ found
      → first_broken (option_map_or broken_of found (record unbroken { no_sheet = true })) ≡ None
      → IsAllSet (option_map_or (λ sheet. all_set id properties (size_of sheet)) found [])
  all_judged None at none = absurd (true≢false (breaks_none (record unbroken { no_sheet = true }) none).no_sheet)
  all_judged (Some sheet) at none = set_on sheet at none

  pub set_properties_made : IsMadeSome book (λ told. told ≡ sheet_properties_updated id properties book.sheets)
  set_properties_made =
      judged_made_some book (properties_broken id properties book.sheets)
      (reply.Empty, properties_set id properties book.sheets)
      (all_judged (place_sheet_with id book.sheets) refl)
