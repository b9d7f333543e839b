-- mergeCells and unmergeCells: where no rule is broken merges can be listed that the sheet can have.
use Rattle.std.proofs.Common.{◌≡◌, ℕ, inl, inr, refl, sym, subst, Bool, true, false, List, [], ◌∷◌}
use Rattle.std.specs.Prelude.{◌↔◌, ◌⊎◌, Any, IsSomeAnd, IsTrue, Option, None, Some, Ok}
use Rattle.std.proofs.lemmas.Bool.{false≢true}
use Rattle.std.proofs.lemmas.Option.{none-some}
use Rattle.grid_range.specs.Area.{AreaWithin}
use Rattle.grid_range.specs.declared.area.Area.{Area}
use Rattle.merge_ranges.specs.Calls.{Cuts, IsLeft}
use Rattle.merge_ranges.specs.FirstCells.{by_first_total}
use Rattle.merge_ranges.specs.Merges.{HoldsAll}
use Rattle.world_model.specs.Book.{PlaceBook}
use Rattle.world_model.specs.BookChange.{AreChanges, BookChange}
use Rattle.world_model.specs.MergeLaws.{MergesAreSet}
use Rattle.world_model.specs.Sheet.{PlaceSheet}
use Rattle.world_model.specs.SheetChange.{place_merges_set}
use Rattle.world_model.specs.Sound.{AreMergesOf, IsOnSheet, IsSound, place_sheet_with}
use Rattle.dimension_ops.specs.Broken.{first_broken, unbroken}
use Rattle.dimension_ops.specs.declared.rule.Limit.{Limit}
use Rattle.dimension_ops.specs.declared.rule.Rule.TheVariants as rule
use Rattle.sheets_json.specs.declared.spreadsheet.Reply.TheVariants as reply
use Rattle.values_api.specs.FoundLaws.{some_and, sound_sheet}
use Rattle.request_kinds.specs.Merging.{AreMergesAsked, AreMergesSet}
use Rattle.request_kinds.specs.Rows.{area_or_broken}
use Rattle.request_kinds.specs.Telling.{Tells}
use Rattle.request_kinds.specs.UnmergeCells.{AreUnmergedOn, IsUnmergeCells}
use Rattle.answered_calls.proofs.AreasWithin.{judged_within}
use Rattle.answered_calls.proofs.ListsInOrder.{left, undecided}
use Rattle.answered_calls.proofs.MergesListed.{apart_listed, have_apart}
use Rattle.answered_calls.proofs.Telling.{IsMadeSome, on_area_made, unless_broken_made}

-- ---- unless the area cuts a merge

cut_broken : (past : Option Limit) → first_broken (record unbroken { past_limit = past; merge_cut = true }) ≡ None → ⊥
cut_broken None none = none-some rule.MergeCut (sym none)
cut_broken (Some limit) none = none-some (rule.PastLimit limit) (sym none)

module _ (book : PlaceBook) (area : Area) (past : Option Limit) (IsAfter : List Area → Area → Type 0)
    (later : List BookChange) (sheet : PlaceSheet) where
  abbrev Sets : Tells
  Sets = AreMergesSet area.sheet IsAfter later sheet

  asked_as : (cut : Bool) → IsTrue cut ↔ Any (Cuts area) sheet.merges
      → (first_broken (record unbroken { past_limit = past; merge_cut = cut }) ≡ None → IsMadeSome book Sets)
      → IsMadeSome book (AreMergesAsked area past IsAfter later sheet)
  asked_as cut is_cut sets none =
      let broken = first_broken (record unbroken { past_limit = past; merge_cut = cut }) in
      unless_broken_made book broken Sets sets (λ told tells.
      none told (record {
        broken = broken;
        is = record { cut = cut; is_cut = is_cut; broken_is = refl };
        told_is = tells;
      }))

  pub asked_made : (¬ (Any (Cuts area) sheet.merges) → IsMadeSome book Sets)
      → IsMadeSome book (AreMergesAsked area past IsAfter later sheet)
  asked_made sets none = undecided (λ either. by_cut either none)
    where
      by_cut : Any (Cuts area) sheet.merges ⊎ ¬ (Any (Cuts area) sheet.merges)
          → IsMadeSome book (AreMergesAsked area past IsAfter later sheet)
      by_cut (inl cuts) = asked_as true (λ _. cuts, λ _. refl) (λ unbroken. absurd (cut_broken past unbroken))
      by_cut (inr whole) =
          asked_as false (λ is. absurd (false≢true is), λ cuts. absurd (whole cuts)) (λ unbroken. sets whole)

-- ---- on the sheet that is found

pub on_sheet_made : (book : PlaceBook) (area : Area) (Is : PlaceSheet → Tells) → IsOnSheet book.sheets area
    → ((sheet : PlaceSheet) → place_sheet_with area.sheet book.sheets ≡ Some sheet
    → AreaWithin area sheet.table.rows sheet.table.cols → IsMadeSome book (Is sheet))
    → IsMadeSome book (λ told. IsSomeAnd (place_sheet_with area.sheet book.sheets) (λ sheet. Is sheet told))
on_sheet_made book area Is on each =
    let (sheet, is, within) = some_and (λ (sheet : PlaceSheet). AreaWithin area sheet.table.rows sheet.table.cols)
    (place_sheet_with area.sheet book.sheets) on in
    subst (λ found. IsMadeSome book (λ told. IsSomeAnd found (λ sheet. Is sheet told))) (sym is) (each sheet is within)

module _ (sets : MergesAreSet) (book : PlaceBook) (id : ℕ) (sheet : PlaceSheet)
    (is : place_sheet_with id book.sheets ≡ Some sheet) where
  can_have : (merges : List Area) → AreMergesOf sheet merges
      → IsSomeAnd (place_sheet_with id book.sheets) (λ one. AreMergesOf one merges)
  can_have merges of = subst (λ found. IsSomeAnd found (λ one. AreMergesOf one merges)) (sym is) of

  pub set_made : (merges : List Area) → AreMergesOf sheet merges
      → AreChanges (BookChange.MergesSet id merges ∷ []) book (place_merges_set id merges book)
  set_made merges of = sets.changes book id merges (can_have merges of)

  pub set_sound : (merges : List Area) → AreMergesOf sheet merges → IsSound book
      → IsSound (place_merges_set id merges book)
  set_sound merges of sound = sets.stays book id merges sound (can_have merges of)

-- ---- unmergeCells

pub unmerge_made : MergesAreSet → (book : PlaceBook) → IsSound book → (range : Area)
    → IsMadeSome book (IsUnmergeCells range book)
unmerge_made sets book sound range =
    on_area_made book (area_or_broken book.sheets range) (AreUnmergedOn book) (λ area is.
    on_sheet_made book area (λ sheet. AreMergesAsked area None (IsLeft area) [] sheet)
    (judged_within book.sheets range area is) (λ sheet at within.
    let merges = (sound_sheet book sound area.sheet sheet at).merges in
    asked_made book area None (IsLeft area) [] sheet (λ whole none.
    left by_first_total (HoldsAll area) sheet.merges merges.0.in_order (λ (kept, sorted, just).
    none (Ok (reply.Empty, BookChange.MergesSet area.sheet kept ∷ []))
    (record { merges = kept; just = record { in_order = sorted; exactly = just }; told_is = refl }) (
      place_merges_set area.sheet kept book,
      set_made sets book area.sheet sheet at kept (apart_listed sheet sheet.merges kept
          (have_apart sheet sheet.merges merges) sorted (λ one has. ((just one).0 has).0)),
    )))))
