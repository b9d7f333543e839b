-- What always holds of a spreadsheet holds after a write.
use Rattle.std.proofs.Common.{◌≡◌, ℕ, refl, sym, ap, subst, ◌∙◌, ◌+◌, ◌*◌, ◌<◌, ◌≤◌, List, [], ◌∷◌, cond, Bool, true, false, length, get_or}
use Rattle.std.specs.Prelude.{Option, None, Some, IfSome, is_some, map, ◌==◌, ◌&&◌}
use Rattle.std.specs.List.{AllZip}
use Rattle.std.proofs.lemmas.Bool.{eqb-true, and_parts}
use Rattle.std.proofs.lemmas.List.Elements.{AllZip-get_or}
use Rattle.std.proofs.lemmas.List.Sums.{sum_by-cons}
use Rattle.grid_range.specs.Area.{AreaWithin}
use Rattle.grid_range.specs.Band.{Within}
use Rattle.grid_range.specs.declared.area.Area.{Area}
use Rattle.grid_range.specs.declared.axis.Axis.TheVariants.{Rows, Columns}
use Rattle.cell_store.specs.Table.{HasPlace, item_at}
use Rattle.ref_rewrite.specs.declared.cell_content.Content.{Content}
use Rattle.ref_rewrite.specs.declared.cell_content.Content.TheVariants as content
use Rattle.ref_rewrite.specs.declared.pieces.Piece.{Piece}
use Rattle.ref_rewrite.specs.declared.pieces.Piece.TheVariants as piece
use Rattle.world_model.specs.Book.{PlaceBook}
use Rattle.world_model.specs.Counts.{grid_places}
use Rattle.world_model.specs.Sheet.{PlaceSheet}
use Rattle.world_model.specs.Sound.{IsSheetSound, IsSound, IsLineCount, IsContentWithin, IsOnSheet, IsPieceWithin, most_places, most_sheets, place_sheet_with}
use Rattle.world_model.specs.Writing.{table_written, sheet_put, book_put}
use Rattle.world_model.proofs.Kept.{KeepsTitle, filter_kept, merges_kept, still_found, only_one, visible_stays, distinct_stay, titles_stay, there_before, same_length}
use Rattle.world_model.proofs.MetadataNamed.{items_stay}
use Rattle.world_model.proofs.ProtectionsNamed.{protections_stay}
use Rattle.world_model.proofs.Puts.{SameSheet, put_is_same, item_written, item_chosen, same_place}

-- what is within some sheets is within others if each area is
module _ (befores afters : List PlaceSheet)
    (areas : (area : Area) → IsOnSheet befores area → IsOnSheet afters area) where
  pub piece_within : (one : Piece) → IsPieceWithin befores one → IsPieceWithin afters one
  piece_within (piece.Text text) within = tt
  piece_within (piece.Word word) within = tt
  piece_within (piece.Ref reference) within = (areas reference.area within.0, within.1)
  piece_within piece.Lost within = tt

  pub content_within : (one : Content) → IsContentWithin befores one → IsContentWithin afters one
  content_within (content.Number number) within = tt
  content_within (content.Text text) within = tt
  content_within (content.Truth truth) within = tt
  content_within (content.Formula formula) within =
      λ k d there. piece_within (get_or formula.pieces k d) (within k d there)

  pub held_within : (held : Option Content) → IfSome held (IsContentWithin befores)
      → IfSome held (IsContentWithin afters)
  held_within None within = tt
  held_within (Some one) within = content_within one within

-- what holds of both holds of either
holds_of_either : {T : Type 0} (P : T → Type 0) (b is : Bool) (item held : Option T) → IfSome item P → IfSome held P
    → IfSome (cond b (cond is item held) held) P
holds_of_either P true true item held one other = one
holds_of_either P true false item held one other = other
holds_of_either P false is item held one other = other

-- there is an item where one was written or was before
stands_there : {T : Type 0} (P : Type 0) (b is : Bool) (item held : Option T) → (b ≡ true → is ≡ true → P)
    → (is_some held ≡ true → P) → is_some (cond b (cond is item held) held) ≡ true → P
stands_there P true true item held written before some = written refl refl
stands_there P true false item held written before some = before some
stands_there P false is item held written before some = before some

module _ (id row col : ℕ) (item : Option Content) where
  abbrev put : PlaceSheet → PlaceSheet
  put = sheet_put id row col item

  pub put_same : (sheet : PlaceSheet) → SameSheet (put sheet) sheet
  put_same sheet = put_is_same (sheet.id == id) row col item sheet

  abbrev IsPut : PlaceSheet → PlaceSheet → Type 0
  IsPut before after = after ≡ put before

  put_keeps : (one other : PlaceSheet) → IsPut one other → KeepsTitle one other
  put_keeps one other is =
      subst (KeepsTitle one) (sym is)
      (record { id = (put_same one).id; title = (put_same one).title; hidden = (put_same one).hidden })

  all_put : (some : List PlaceSheet) → AllZip IsPut some (map put some)
  all_put [] = tt
  all_put (s ∷ ss) = (refl, all_put ss)

  -- what stands at a place of the sheet afterwards
  pub item_put : (sheet : PlaceSheet) (row' col' : ℕ) → item_at (put sheet).table row' col'
      ≡ cond (sheet.id == id) (cond (row' == row && col' == col) item (item_at sheet.table row' col'))
      (item_at sheet.table row' col')
  item_put sheet row' col' =
      item_chosen (sheet.id == id) sheet (table_written row col item sheet.table) row' col'
      ∙ ap (λ held. cond (sheet.id == id) held (item_at sheet.table row' col'))
      (item_written row col item sheet.table row' col')
      ∙ ap (λ b. cond (sheet.id == id) (cond b item (item_at sheet.table row' col')) (item_at sheet.table row' col'))
      (same_place row col row' col')

  -- no sheet gets another size
  places_stay : (sheets : List PlaceSheet) → grid_places (map put sheets) ≡ grid_places sheets
  places_stay [] = refl
  places_stay (s ∷ ss) =
      sum_by-cons (λ sheet. sheet.table.rows * sheet.table.cols) (put s) (map put ss)
      ∙ ap (λ n. n * (put s).table.cols + grid_places (map put ss)) (put_same s).rows
      ∙ ap (λ n. s.table.rows * n + grid_places (map put ss)) (put_same s).cols
      ∙ ap (λ n. s.table.rows * s.table.cols + n) (places_stay ss)
      ∙ sym (sum_by-cons (λ sheet. sheet.table.rows * sheet.table.cols) s ss)

  module _ (sheets : List PlaceSheet) where
    area_stays : (area : Area) → IsOnSheet sheets area → IsOnSheet (map put sheets) area
    area_stays area on =
        still_found IsPut put_keeps area.sheet (λ sheet. AreaWithin area sheet.table.rows sheet.table.cols)
        (λ sheet. AreaWithin area sheet.table.rows sheet.table.cols)
        (λ one other is same held.
        subst (λ sheet. AreaWithin area sheet.table.rows sheet.table.cols) (sym is) (
          subst (Within area.rows) (sym (put_same one).rows) held.0,
          subst (Within area.cols) (sym (put_same one).cols) held.1,
        ))
        sheets (map put sheets) (all_put sheets) on

    module _ (within : IfSome item (IsContentWithin sheets)) (sheet : PlaceSheet) (sound : IsSheetSound sheets sheet)
        (there : sheet.id ≡ id → HasPlace sheet.table row col) where
      place_there : (row' col' : ℕ) → is_some (item_at (put sheet).table row' col') ≡ true
          → HasPlace sheet.table row' col'
      place_there row' col' some =
          stands_there (HasPlace sheet.table row' col') (sheet.id == id) (row' == row && col' == col) item
          (item_at sheet.table row' col')
          (λ own same.
          let parts = and_parts (row' == row) (col' == col) same in
          let place = there (eqb-true sheet.id id own) in (
            subst (λ n. n < sheet.table.rows) (sym (eqb-true row' row parts.0)) place.0,
            subst (λ n. n < sheet.table.cols) (sym (eqb-true col' col parts.1)) place.1,
          ))
          (sound.inside row' col') (ap is_some (sym (item_put sheet row' col')) ∙ some)

      sheet_stays : IsSheetSound (map put sheets) (put sheet)
      sheet_stays = record {
        titled = subst (λ title. 0 < length title) (sym (put_same sheet).title) sound.titled;
        rows = subst (IsLineCount Rows) (sym (put_same sheet).rows) sound.rows;
        cols = subst (IsLineCount Columns) (sym (put_same sheet).cols) sound.cols;
        inside = λ row' col' some.
            let place = place_there row' col' some in (
              subst (λ n. row' < n) (sym (put_same sheet).rows) place.0,
              subst (λ n. col' < n) (sym (put_same sheet).cols) place.1,
            );
        within = λ row' col'.
            held_within sheets (map put sheets) area_stays (item_at (put sheet).table row' col')
            (subst (λ held. IfSome held (IsContentWithin sheets)) (sym (item_put sheet row' col'))
            (holds_of_either (IsContentWithin sheets) (sheet.id == id) (row' == row && col' == col) item
            (item_at sheet.table row' col') within (sound.within row' col')));
        merges = merges_kept sheet (put sheet) (put_same sheet).id (put_same sheet).rows (put_same sheet).cols
            (put_same sheet).merges sound.merges;
        filter = filter_kept sheet (put sheet) (put_same sheet).id (put_same sheet).rows (put_same sheet).cols
            (put_same sheet).filter sound.filter;
      }

  -- the law
  module _ (book : PlaceBook) (sound : IsSound book) (within : IfSome item (IsContentWithin book.sheets))
      (there : IfSome (place_sheet_with id book.sheets) (λ sheet. HasPlace sheet.table row col)) where
    abbrev after : List PlaceSheet
    after = map put book.sheets

    all : AllZip IsPut book.sheets after
    all = all_put book.sheets

    stays : (k : ℕ) (d : PlaceSheet) → k < length book.sheets → IsSheetSound after (get_or after k d)
    stays k d inside =
        subst (IsSheetSound after) (sym (AllZip-get_or IsPut book.sheets after k d d all inside))
        (sheet_stays book.sheets within (get_or book.sheets k d) (sound.sheets k d inside)
        (only_one id (λ sheet. HasPlace sheet.table row col) book.sheets sound.distinct there k d inside))

    pub stays_sound : IsSound (book_put id row col item book)
    stays_sound = record {
      distinct = distinct_stay IsPut put_keeps book.sheets after all sound.distinct;
      titles = titles_stay IsPut put_keeps book.sheets after all sound.titles;
      visible = visible_stays IsPut put_keeps book.sheets after all ∙ sound.visible;
      sheets = λ k d below. stays k d (there_before IsPut put_keeps book.sheets after all k below);
      few_sheets = subst (λ n. n ≤ most_sheets) (same_length IsPut put_keeps book.sheets after all) sound.few_sheets;
      few_places = subst (λ n. n ≤ most_places) (sym (places_stay book.sheets)) sound.few_places;
      ranges = λ k d below. area_stays book.sheets (get_or book.ranges k d).area (sound.ranges k d below);
      protections = protections_stay book.sheets after (area_stays book.sheets) book.protections sound.protections;
      metadata = items_stay book.sheets after (area_stays book.sheets) book.metadata sound.metadata;
    }
