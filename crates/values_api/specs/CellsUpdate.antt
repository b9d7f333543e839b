-- Law that cells of a sheet can be updated, place by place, where what they are to hold refers to what is there; so can
-- such as are emptied.
use Rattle.std.proofs.Common.{◌≡◌, ◌⊎◌, inl, inr, ℕ, ◌<◌, Bool, true, false, ◌&&◌, List, [], ◌∷◌, Contains, get_or, refl, ap, sym, subst, ◌∙◌, arith}
use Rattle.std.specs.Prelude.{◌==◌, Option, Some, None, unwrap_or, IfSome, IsSomeAnd, if◌then◌else◌}
use Rattle.std.specs.Option.{IsSome, option_map}
use Rattle.std.proofs.lemmas.Bool.{and_parts, eqb-true, false≢true}
use Rattle.std.proofs.lemmas.Bool.Decides.{nat_tests}
use Rattle.cell_store.specs.Table.{HasPlace, item_at}
use Rattle.cell_value.specs.Elements.{nothing_in, Contains-head, Contains-cons, Contains-cons_cases}
use Rattle.grid_range.specs.Area.{AreaWithin}
use Rattle.ref_rewrite.specs.declared.cell_content.Content.{Content}
use Rattle.ref_rewrite.specs.declared.cell_content.Content.TheVariants as content
use Rattle.ref_rewrite.specs.declared.pieces.Piece.{Piece}
use Rattle.ref_rewrite.specs.declared.pieces.Piece.TheVariants as piece
use Rattle.world_model.specs.Book.{PlaceBook}
use Rattle.world_model.specs.Laws.{UpdatesAreWrites, UpdatesFollow, WritesStaySound, size_of}
use Rattle.world_model.specs.Sheet.{PlaceSheet}
use Rattle.world_model.specs.Sound.{IsContentWithin, IsPieceWithin, IsSound, place_sheet_with}
use Rattle.world_model.specs.Updating.{BookUpdated, Updates, no_updates, with_update}
use Rattle.world_model.specs.Writing.{book_put}
use Rattle.values_api.specs.AllPlaces.{all_places, in_places, places_have}
use Rattle.values_api.specs.FoundLaws.{sound_sheet}
use Rattle.values_api.specs.Updates.{AreUpdated}

-- ---- places that are written one after another

module _ (held : ℕ → ℕ → Option Content) where
  -- each of the places is to hold that
  abbrev held_at : List (ℕ × ℕ) → Updates
  held_at [] = no_updates
  held_at (place ∷ places) = with_update place.0 place.1 (held place.0 place.1) (held_at places)

  module _ (row col : ℕ) where
    -- what one of the places is to hold, and any other
    abbrev IsHeld : List (ℕ × ℕ) → Option (Option Content) → Type 0
    IsHeld places update = (update ≡ Some (held row col)) ⊎ ((update ≡ None) × ¬ (Contains places (row, col)))

    held_here : (place : ℕ × ℕ) → (row == place.0 && col == place.1) ≡ true → held place.0 place.1 ≡ held row col
    held_here place here =
        let parts = and_parts (row == place.0) (col == place.1) here in
        ap (λ r. held r place.1) (sym (eqb-true row place.0 parts.0))
        ∙ ap (held row) (sym (eqb-true col place.1 parts.1))

    itself : (row == row && col == col) ≡ true
    itself = grind (arith, nat_tests)

    elsewhere : (place : ℕ × ℕ) (places : List (ℕ × ℕ)) → (row == place.0 && col == place.1) ≡ false
        → ¬ (Contains places (row, col)) → ¬ (Contains (place ∷ places) (row, col))
    elsewhere place places apart none has = elim (Contains-cons_cases place (row, col) places has) [
      | inl same ↦ false≢true
          (sym apart ∙ ap (λ (p : ℕ × ℕ). row == p.0 && col == p.1) same ∙ itself)
      | inr later ↦ none later
    ]

    are_held : (places : List (ℕ × ℕ)) → IsHeld places (held_at places row col)
    are_held [] = inr (refl, nothing_in (row, col))
    are_held (place ∷ places) = by_test (row == place.0 && col == place.1) refl (are_held places)
      where
        by_test : (here : Bool) → (row == place.0 && col == place.1) ≡ here → IsHeld places (held_at places row col)
            → IsHeld (place ∷ places) (if here then Some (held place.0 place.1) else held_at places row col)
        by_test true is others = inl (ap (λ one. Some one) (held_here place is))
        by_test false is (inl same) = inl same
        by_test false is (inr none) = inr (none.0, elsewhere place places is none.1)

-- ---- the spreadsheet then

size_same : (one other : ℕ × ℕ) → Some one ≡ Some other → one ≡ other
size_same one other e = cc

-- what holds of the size of a sheet that is found, where another has the same
pub sized_same : (P : ℕ × ℕ → Type 0) (one other : Option PlaceSheet)
    → option_map size_of other ≡ option_map size_of one
    → IsSomeAnd one (λ sheet. P (size_of sheet)) → IsSomeAnd other (λ sheet. P (size_of sheet))
sized_same P None other same holds = absurd holds
sized_same P (Some one) None same holds = let no : ⊥ = cc in absurd no
sized_same P (Some one) (Some other) same holds =
    subst P (sym (size_same (size_of other) (size_of one) same)) holds

-- a content stays within where sheets keep their sizes
module _ (sheets others : List PlaceSheet)
    (same : (sheet : ℕ) → option_map size_of (place_sheet_with sheet others)
    ≡ option_map size_of (place_sheet_with sheet sheets)) where
  piece_stays : (one : Piece) → IsPieceWithin sheets one → IsPieceWithin others one
  piece_stays (piece.Text text) within = tt
  piece_stays (piece.Word word) within = tt
  piece_stays piece.Lost within = tt
  piece_stays (piece.Ref reference) within = (
    sized_same (λ size. AreaWithin reference.area size.0 size.1) (place_sheet_with reference.area.sheet sheets)
        (place_sheet_with reference.area.sheet others) (same reference.area.sheet) within.0,
    within.1,
  )

  content_stays : (one : Option Content) → IfSome one (IsContentWithin sheets) → IfSome one (IsContentWithin others)
  content_stays None within = tt
  content_stays (Some (content.Number number)) within = tt
  content_stays (Some (content.Text text)) within = tt
  content_stays (Some (content.Truth truth)) within = tt
  content_stays (Some (content.Formula formula)) within =
      λ k d there. piece_stays (get_or formula.pieces k d) (within k d there)

module _ (writes : UpdatesAreWrites) (stay : WritesStaySound) (follow : UpdatesFollow) (book : PlaceBook)
    (sound : IsSound book) (id : ℕ) (sheet : PlaceSheet) (there : place_sheet_with id book.sheets ≡ Some sheet)
    (updates : Updates)
    (within : (row col : ℕ) → IfSome (updates row col) (λ held. IfSome held (IsContentWithin book.sheets)))
    (beside : (row col : ℕ) → ¬ ((row < sheet.table.rows) × (col < sheet.table.cols))
    → unwrap_or (updates row col) None ≡ None) where
  -- what a place holds then
  abbrev held : ℕ → ℕ → Option Content
  held row col = unwrap_or (updates row col) (item_at sheet.table row col)

  held_within : (row col : ℕ) → IfSome (held row col) (IsContentWithin book.sheets)
  held_within row col =
      by_update (updates row col) (within row col) ((sound_sheet book sound id sheet there).within row col)
    where
      by_update : (update : Option (Option Content)) → IfSome update (λ held. IfSome held (IsContentWithin book.sheets))
          → IfSome (item_at sheet.table row col) (IsContentWithin book.sheets)
          → IfSome (unwrap_or update (item_at sheet.table row col)) (IsContentWithin book.sheets)
      by_update None given own = own
      by_update (Some content) given own = given

  -- the places are written that the sheet has
  record AreWritten (places : List (ℕ × ℕ)) : Type 0 where
    after : PlaceBook
    updated : BookUpdated id (held_at held places) book after
    still : IsSound after

  abbrev IsOfSheet : ℕ × ℕ → Type 0
  IsOfSheet place = (place.0 < sheet.table.rows) × (place.1 < sheet.table.cols)

  has_place : (place : ℕ × ℕ) → IsOfSheet place → (found : Option PlaceSheet)
      → option_map size_of found ≡ Some (size_of sheet) → IfSome found (λ one. HasPlace one.table place.0 place.1)
  has_place place is_in None same = tt
  has_place place is_in (Some one) same =
      subst (λ (n : ℕ × ℕ). (place.0 < n.0) × (place.1 < n.1))
      (sym (size_same (size_of one) (size_of sheet) same)) is_in

  all_written : (places : List (ℕ × ℕ)) → ((place : ℕ × ℕ) → Contains places place → IsOfSheet place)
      → AreWritten places
  all_written [] are_in = record { after = book; updated = writes.none book id; still = sound }
  all_written (place ∷ places) are_in =
      let so_far = all_written places (λ other has. are_in other (Contains-cons place other places has)) in
      let content = held place.0 place.1 in
      let sizes = λ (other : ℕ). writes.sizes book so_far.after id other (held_at held places) so_far.updated in
      record {
        after = book_put id place.0 place.1 content so_far.after;
        updated = writes.put book so_far.after id place.0 place.1 content (held_at held places) so_far.updated;
        still = stay.stays so_far.after id place.0 place.1 content so_far.still
            (content_stays book.sheets so_far.after.sheets sizes content (held_within place.0 place.1))
            (has_place place (are_in place (Contains-head place places)) (place_sheet_with id so_far.after.sheets)
            (sizes id ∙ ap (option_map size_of) there));
      }

  abbrev places : List (ℕ × ℕ)
  places = all_places sheet.table.rows sheet.table.cols

  -- a place that the sheet doesn't have holds nothing
  nothing_past : (row col : ℕ) → ¬ (Contains places (row, col)) → (item : Option Content)
      → item_at sheet.table row col ≡ item → item ≡ None
  nothing_past row col past None is = refl
  nothing_past row col past (Some item) is =
      let (below, beyond) = (sound_sheet book sound id sheet there).inside row col (subst IsSome (sym is) refl) in
      absurd (past (places_have sheet.table.rows sheet.table.cols row col below beyond))

  same_at : (row col : ℕ) → unwrap_or (held_at held places row col) (item_at sheet.table row col) ≡ held row col
  same_at row col = elim (are_held held row col places) [
    | inl same ↦ ap (λ update. unwrap_or update (item_at sheet.table row col)) same
    | inr none ↦
        let past = nothing_past row col none.1 (item_at sheet.table row col) refl in
        ap (λ update. unwrap_or update (item_at sheet.table row col)) none.0 ∙ past
        ∙ sym (ap (unwrap_or (updates row col)) past
        ∙ beside row col (λ is_in. none.1 (places_have sheet.table.rows sheet.table.cols row col is_in.0 is_in.1)))
  ]

  is_made : (after : PlaceBook) × AreUpdated id updates book after
  is_made =
      let by = all_written places (in_places sheet.table.rows sheet.table.cols) in
      let updated = writes.same book by.after id (held_at held places) updates sound by.updated
      (subst (λ found. IfSome found (λ (one : PlaceSheet). (row col : ℕ)
      → unwrap_or (held_at held places row col) (item_at one.table row col)
      ≡ unwrap_or (updates row col) (item_at one.table row col))) (sym there) same_at) in (
        by.after,
        record {
          places = updated;
          names = λ model stands. follow.follows book by.after model id updates stands by.still updated;
        },
      )

-- ---- the law

-- cells of a sheet that is there can be updated, where what they are to hold refers to what is there, and nothing is to
-- be held beside the sheet
abbrev pub CellsUpdate : Type 0
CellsUpdate = (book : PlaceBook) → IsSound book → (id : ℕ) (sheet : PlaceSheet)
    → place_sheet_with id book.sheets ≡ Some sheet → (updates : Updates)
    → ((row col : ℕ) → IfSome (updates row col) (λ held. IfSome held (IsContentWithin book.sheets)))
    → ((row col : ℕ) → ¬ ((row < sheet.table.rows) × (col < sheet.table.cols))
    → unwrap_or (updates row col) None ≡ None)
    → (after : PlaceBook) × AreUpdated id updates book after

pub cells_update : UpdatesAreWrites → WritesStaySound → UpdatesFollow → CellsUpdate
cells_update writes stay follow book sound id sheet there updates within beside =
    is_made writes stay follow book sound id sheet there updates within beside

-- ---- cells that are emptied

-- nothing is held where that is so
abbrev pub empty_if : Bool → Option (Option Content)
empty_if has = if has then Some None else None

-- what is held then refers to nothing
pub empty_within : (sheets : List PlaceSheet) (has : Bool)
    → IfSome (empty_if has) (λ held. IfSome held (IsContentWithin sheets))
empty_within sheets true = tt
empty_within sheets false = tt

-- and beside the sheet nothing is held
pub empty_beside : (has : Bool) → unwrap_or (empty_if has) None ≡ None
empty_beside true = refl
empty_beside false = refl
