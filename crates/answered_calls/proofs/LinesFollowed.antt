-- A spreadsheet after a change of the lines of one of its sheets, place by place.
use Rattle.std.proofs.Common.{◌≡◌, ◌≢◌, ℕ, List, [], ◌∷◌, get_or, map, refl, sym, ap, subst, ◌∙◌, cond, false, inl, inr}
use Rattle.std.specs.Prelude.{Some, ◌==◌, option_and_then}
use Rattle.std.specs.List.{All, AllByRecursion, AllZip, filter_map, list_any}
use Rattle.std.proofs.lemmas.Bool.{cases_Bool, cond-true, cond-false, eqb-true, eq-eqb, false≢true}
use Rattle.std.proofs.lemmas.List.Elements.{recursion_from_All}
use Rattle.std.proofs.lemmas.Option.{same_Some}
use Rattle.basic_filter.specs.Following.{filter_followed}
use Rattle.grid_range.specs.Change.{Fits}
use Rattle.grid_range.specs.TrackingLaws.{PlacesStayApart, SpansStayApart, TearsWhereTorn, TornOrWhole, TracksStayWithin}
use Rattle.grid_range.specs.declared.axis.Axis.{Axis}
use Rattle.grid_range.specs.declared.change.Change.{Change}
use Rattle.dev_metadata.specs.Following.{item_followed}
use Rattle.merge_ranges.specs.Following.{AreWithin}
use Rattle.merge_ranges.specs.Tests.{tears_merge}
use Rattle.named_ranges.specs.Following.{range_followed}
use Rattle.protection.specs.Following.{protection_followed}
use Rattle.ref_rewrite.specs.declared.cell_content.Content.{Content}
use Rattle.world_model.specs.Book.{PlaceBook}
use Rattle.world_model.specs.Laws.{IdsFind}
use Rattle.world_model.specs.PlaceChange.{BookChanged, SheetChanged, content_followed}
use Rattle.world_model.specs.Sheet.{PlaceSheet}
use Rattle.world_model.specs.Sound.{IsSheetSound, IsSound, place_sheet_with}
use Rattle.dimension_ops.specs.FollowLaws.{another_changed, merges_within}
use Rattle.dimension_ops.specs.Lines.{lines_of_sheet}
use Rattle.answered_calls.proofs.MergesFollowed.{followed, merges_follow}
use Rattle.answered_calls.proofs.Tables.{goes_with_lines, items_become, table_become, table_moved}

-- the laws of lines that count
pub record LineLaws : Type 0 where
  pub places : PlacesStayApart
  pub within : TracksStayWithin
  pub spans : SpansStayApart
  pub torn : TearsWhereTorn
  pub whole : TornOrWhole

-- ---- each of a list

pub zip_map : {A B : Type 0} (P : A → Type 0) (R : A → B → Type 0) (f : A → B) → ((x : A) → P x → R x (f x))
    → (xs : List A) → AllByRecursion P xs → AllZip R xs (map f xs)
zip_map P R f each [] all = tt
zip_map P R f each (x ∷ xs) all = (each x all.0, zip_map P R f each xs all.1)

-- ---- sheets

module _ (id : ℕ) (axis : Axis) (count : ℕ) (change : Change) where
  abbrev follows : Content → Content
  follows = content_followed id axis count change

  -- the sheet whose lines are changed, and another one
  abbrev own_after : PlaceSheet → PlaceSheet
  own_after sheet = record sheet {
    table = table_become follows (table_moved axis change sheet.table);
    merges = followed axis count change sheet.merges;
    filter = option_and_then (filter_followed axis count change) sheet.filter;
  }

  abbrev other_after : PlaceSheet → PlaceSheet
  other_after sheet = record sheet { table = table_become follows sheet.table }

  abbrev sheet_after : PlaceSheet → PlaceSheet
  sheet_after sheet = cond (sheet.id == id) (own_after sheet) (other_after sheet)

  abbrev Goes : PlaceSheet → PlaceSheet → Type 0
  Goes = SheetChanged id axis count change

  other_changed : (sheet : PlaceSheet) → sheet.id ≢ id → Goes sheet (other_after sheet)
  other_changed sheet other =
      another_changed id axis count change sheet (other_after sheet) other (record {
        id = refl;
        title = refl;
        hidden = refl;
        followed = record { rows = refl; cols = refl; items = items_become follows sheet.table };
        merges = refl;
        filter = refl;
      })

  -- what the sheet is whose lines can be changed
  record CanChange (sheets : List PlaceSheet) (sheet : PlaceSheet) : Type 0 where
    sound : IsSheetSound sheets sheet
    own : sheet.id ≡ id → (lines_of_sheet axis sheet ≡ count)
        × (list_any (tears_merge axis count change) sheet.merges ≡ false)

  module _ (laws : LineLaws) (fits : Fits change count) (sheets : List PlaceSheet) where
    own_changed : (sheet : PlaceSheet) → sheet.id ≡ id → CanChange sheets sheet → Goes sheet (own_after sheet)
    own_changed sheet own can =
        let long = (can.own own).0 in
        let within = merges_within axis sheets sheet can.sound in
        let follow = merges_follow laws.within laws.spans laws.torn laws.whole axis count change sheet.merges fits
        can.sound.merges.0 (subst (λ n. AreWithin axis n sheet.merges) long within) (can.own own).1 in
        record {
          id = refl;
          title = refl;
          hidden = refl;
          moved = table_moved axis change sheet.table;
          goes = λ _. goes_with_lines laws.places axis change sheet.table can.sound.inside
              (subst (Fits change) (sym long) fits);
          stays = λ other. absurd (other own);
          followed = record {
            rows = refl;
            cols = refl;
            items = items_become follows (table_moved axis change sheet.table);
          };
          whole = λ _. follow.whole;
          merges_follow = λ _. follow.just;
          merges_stay = λ other. absurd (other own);
          filter_follows = λ _. refl;
          filter_stays = λ other. absurd (other own);
        }

    sheet_changed : (sheet : PlaceSheet) → CanChange sheets sheet → Goes sheet (sheet_after sheet)
    sheet_changed sheet can = elim (cases_Bool (sheet.id == id)) [
      | inl own ↦ subst (Goes sheet) (sym (cond-true (sheet.id == id) (own_after sheet) (other_after sheet) own))
          (own_changed sheet (eqb-true sheet.id id own) can)
      | inr other ↦ subst (Goes sheet) (sym (cond-false (sheet.id == id) (own_after sheet) (other_after sheet) other))
          (other_changed sheet (λ own. false≢true (sym other ∙ eq-eqb sheet.id id own)))
    ]

  -- ---- the spreadsheet

  abbrev pub book_after : PlaceBook → PlaceBook
  book_after book = record book {
    sheets = map sheet_after book.sheets;
    ranges = filter_map (range_followed id axis count change) book.ranges;
    protections = filter_map (protection_followed id axis count change) book.protections;
    metadata = filter_map (item_followed id axis change) book.metadata;
  }

  -- each sheet is found by its id, so that only the one that is found is changed
  all_can : IdsFind → (book : PlaceBook) → IsSound book → (found : PlaceSheet)
      → place_sheet_with id book.sheets ≡ Some found → lines_of_sheet axis found ≡ count
      → list_any (tears_merge axis count change) found.merges ≡ false
      → All (CanChange book.sheets) book.sheets
  all_can ids book sound found is long untorn k d there = record {
    sound = sound.sheets k d there;
    own = λ own.
        let one : PlaceSheet = get_or book.sheets k d in
        let same : found ≡ one =
        same_Some found one (sym is ∙ ap (λ n. place_sheet_with n book.sheets) (sym own)
        ∙ ids.finds book sound k d there) in (
          subst (λ sheet. lines_of_sheet axis sheet ≡ count) same long,
          subst (λ (sheet : PlaceSheet). list_any (tears_merge axis count change) sheet.merges ≡ false) same untorn,
        );
  }

  pub book_changed : LineLaws → IdsFind → Fits change count → (book : PlaceBook) → IsSound book → (found : PlaceSheet)
      → place_sheet_with id book.sheets ≡ Some found → lines_of_sheet axis found ≡ count
      → list_any (tears_merge axis count change) found.merges ≡ false
      → BookChanged id axis count change book (book_after book)
  book_changed laws ids fits book sound found is long untorn = record {
    id = refl;
    title = refl;
    owner = refl;
    sheets = zip_map (CanChange book.sheets) Goes sheet_after (sheet_changed laws fits book.sheets) book.sheets
        (recursion_from_All (CanChange book.sheets) book.sheets (all_can ids book sound found is long untorn));
    ranges = refl;
    protections = refl;
    metadata = refl;
  }
