-- A request that changes merges has one reply and makes one list of changes.
use Rattle.std.proofs.Common.{◌≡◌, Bool, true, false, refl, sym, ap, subst, ◌∙◌, List, [], ◌∷◌}
use Rattle.std.specs.Prelude.{◌↔◌, IsTrue, Option, None, Some, IsSomeAnd, Result, Ok}
use Rattle.std.proofs.lemmas.Bool.{false≢true}
use Rattle.grid_range.specs.declared.area.Area.{Area}
use Rattle.merge_ranges.specs.Calls.{IsLeft, ListsAreSame, ListsJust}
use Rattle.world_model.specs.Book.{PlaceBook}
use Rattle.world_model.specs.BookChange.{BookChange}
use Rattle.world_model.specs.Sheet.{PlaceSheet}
use Rattle.world_model.specs.Sound.{place_sheet_with}
use Rattle.dimension_ops.specs.Broken.{first_broken, unbroken}
use Rattle.dimension_ops.specs.declared.rule.Limit.{Limit}
use Rattle.dimension_ops.specs.declared.rule.Rule.{Rule}
use Rattle.json_requests.specs.declared.request.MergeType.{MergeType}
use Rattle.sheets_json.specs.declared.spreadsheet.Reply.{Reply}
use Rattle.sheets_json.specs.declared.spreadsheet.Reply.TheVariants as reply
use Rattle.request_kinds.specs.MergeCells.{AreCellsMerged, AreMergedOn, IsMergeAfter, IsMergeCells, covered_emptied, merges_passed, rectangle_on}
use Rattle.request_kinds.specs.Merging.{AreMergesAsked, AreMergesSet, IsFirstBroken}
use Rattle.request_kinds.specs.Rows.{area_or_broken}
use Rattle.request_kinds.specs.Telling.{Tells, UnlessBroken}
use Rattle.request_kinds.specs.UnmergeCells.{AreUnmergedOn, IsUnmergeCells}
use Rattle.request_kinds.proofs.RowsOnce.{on_area_once}

-- ---- merges

just_once : ListsAreSame → (Is : Area → Type 0) (one other : List Area) → ListsJust Is one → ListsJust Is other
    → one ≡ other
just_once lists Is one other just just' = lists one other
    record {
      in_order = just.in_order;
      exactly = λ area. (
        (λ has. (just'.exactly area).1 ((just.exactly area).0 has)),
        (λ has. (just.exactly area).1 ((just'.exactly area).0 has)),
      );
    }
    record {
      in_order = just'.in_order;
      exactly = λ area. (
        (λ has. (just.exactly area).1 ((just'.exactly area).0 has)),
        (λ has. (just'.exactly area).1 ((just.exactly area).0 has)),
      );
    }

-- ---- what is told

abbrev IsOne : Tells → Type 0
IsOne Is = (told told' : Result (Reply × List BookChange) Rule) → Is told → Is told' → told ≡ told'

cut_once : (one other : Bool) (Cut : Type 0) → IsTrue one ↔ Cut → IsTrue other ↔ Cut → one ≡ other
cut_once true true Cut is is' = refl
cut_once false false Cut is is' = refl
cut_once true false Cut is is' = absurd (false≢true (is'.1 (is.0 refl)))
cut_once false true Cut is is' = absurd (false≢true (is.1 (is'.0 refl)))

abbrev broken_with : Option Limit → Bool → Option Rule
broken_with past cut = first_broken (record unbroken { past_limit = past; merge_cut = cut })

module _ (lists : ListsAreSame) (area : Area) (past : Option Limit) (IsAfter : List Area → Area → Type 0)
    (later : List BookChange) (sheet : PlaceSheet) where
  broken_once : (one other : Option Rule) → IsFirstBroken area sheet past one → IsFirstBroken area sheet past other
      → one ≡ other
  broken_once one other is is' =
      is.broken_is ∙ ap (broken_with past) (cut_once is.cut is'.cut _ is.is_cut is'.is_cut) ∙ sym is'.broken_is

  abbrev as_set : List Area → Result (Reply × List BookChange) Rule
  as_set merges = Ok (reply.Empty, BookChange.MergesSet area.sheet merges ∷ later)

  set_once : IsOne (AreMergesSet area.sheet IsAfter later sheet)
  set_once told told' is is' =
      is.told_is ∙ ap as_set (just_once lists (IsAfter sheet.merges) is.merges is'.merges is.just is'.just)
      ∙ sym is'.told_is

  unless_once : (broken : Option Rule) → IsOne (UnlessBroken broken (AreMergesSet area.sheet IsAfter later sheet))
  unless_once None told told' is is' = set_once told told' is is'
  unless_once (Some first) told told' is is' = is ∙ sym is'

  asked_once : IsOne (AreMergesAsked area past IsAfter later sheet)
  asked_once told told' is is' =
      unless_once is'.broken told told'
      (subst (λ broken. UnlessBroken broken (AreMergesSet area.sheet IsAfter later sheet) told)
      (broken_once is.broken is'.broken is.is is'.is) is.told_is)
      is'.told_is

found_once : (Is : PlaceSheet → Tells) → ((sheet : PlaceSheet) → IsOne (Is sheet)) → (found : Option PlaceSheet)
    → IsOne (λ told. IsSomeAnd found (λ sheet. Is sheet told))
found_once Is once None told told' is is' = absurd is
found_once Is once (Some sheet) told told' is is' = once sheet told told' is is'

pub merge_cells_once : ListsAreSame → (book : PlaceBook) (range : Area) (type : MergeType)
    → IsOne (IsMergeCells range type book)
merge_cells_once lists book range type =
    on_area_once (AreMergedOn type book)
    (λ area. found_once (λ sheet. AreCellsMerged type (rectangle_on sheet area) sheet)
    (λ sheet.
    let own = rectangle_on sheet area in
    asked_once lists own (merges_passed type own sheet) (IsMergeAfter type own) (covered_emptied type own) sheet)
    (place_sheet_with area.sheet book.sheets))
    (area_or_broken book.sheets range)

pub unmerge_cells_once : ListsAreSame → (book : PlaceBook) (range : Area) → IsOne (IsUnmergeCells range book)
unmerge_cells_once lists book range =
    on_area_once (AreUnmergedOn book)
    (λ area. found_once (λ sheet. AreMergesAsked area None (IsLeft area) [] sheet)
    (λ sheet. asked_once lists area None (IsLeft area) [] sheet)
    (place_sheet_with area.sheet book.sheets))
    (area_or_broken book.sheets range)
