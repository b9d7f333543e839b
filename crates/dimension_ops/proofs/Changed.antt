-- Sheets after a change of the lines of one of them, and when the change can be made on each.
use Rattle.std.proofs.Common.{◌≡◌, ◌≢◌, ℕ, zero, suc, ◌<◌, refl, sym, ap, subst, ◌∙◌, List, [], ◌∷◌, ◌++◌, cond, Bool, true, false, length, get_or, arith}
use Rattle.std.specs.Prelude.{Option, None, Some, IfSome, IsSomeAnd, map, ◌==◌}
use Rattle.std.specs.List.{All, AllPairs, AllZip}
use Rattle.std.proofs.lemmas.Bool.{and_parts, eqb-true, eq-eqb, false≢true}
use Rattle.basic_filter.specs.declared.types.Filter.{Filter}
use Rattle.grid_range.specs.Area.{AreaWithin, IsWithinOn, band_on}
use Rattle.grid_range.specs.Band.{Within}
use Rattle.grid_range.specs.Change.{count_after}
use Rattle.grid_range.specs.declared.area.Area.{Area}
use Rattle.grid_range.specs.declared.axis.Axis.{Axis}
use Rattle.grid_range.specs.declared.axis.Axis.TheVariants.{Rows, Columns}
use Rattle.grid_range.specs.declared.change.Change.{Change}
use Rattle.cell_store.specs.Moved.{IsRoomAfter, lines_on}
use Rattle.cell_store.specs.Table.{item_at}
use Rattle.dev_metadata.specs.Following.{IsBelow, IsSpotBelow}
use Rattle.dev_metadata.specs.Spot.{is_same_axis}
use Rattle.dev_metadata.specs.declared.types.Item.{Item}
use Rattle.dev_metadata.specs.declared.types.Spot.{Spot}
use Rattle.dev_metadata.specs.declared.types.Spot.TheVariants as spot
use Rattle.merge_ranges.specs.Following.{AreWithin}
use Rattle.named_ranges.specs.Following.{IsRangeWithinOn}
use Rattle.named_ranges.specs.declared.range.NamedRange.{NamedRange}
use Rattle.protection.specs.Following.{IsKeptWithin}
use Rattle.protection.specs.declared.range.Protection.{Protection}
use Rattle.ref_rewrite.specs.Following.{IsPieceWithinOn}
use Rattle.ref_rewrite.specs.declared.cell_content.Content.{Content}
use Rattle.ref_rewrite.specs.declared.cell_content.Content.TheVariants as content
use Rattle.ref_rewrite.specs.declared.pieces.Piece.{Piece}
use Rattle.ref_rewrite.specs.declared.pieces.Piece.TheVariants as piece
use Rattle.world_model.specs.Book.{PlaceBook}
use Rattle.world_model.specs.PlaceChange.{BookChanged, SheetChanged}
use Rattle.world_model.specs.Sheet.{PlaceSheet}
use Rattle.world_model.specs.Sound.{IsSheetSound, IsContentWithin, IsFilterOf, IsItemWithin, IsLineCount, IsOnSheet, IsPieceWithin, IsProtectionWithin, IsSpotWithin, place_sheet_with}
use Rattle.dimension_ops.specs.FollowLaws.{merges_within, on_axis}
use Rattle.dimension_ops.specs.Lines.{lines_of_sheet}
use Rattle.dimension_ops.specs.References.{CanChange, CanFollow, IsContentWithinOn, TearsNone}

-- ---- what holds of the sheet that is found holds of the one with its id

module _ (id : ℕ) (P : PlaceSheet → Type 0) where
  first_holds : (b : Bool) (first : PlaceSheet) (rest : Option PlaceSheet) → (first.id == id) ≡ b
      → IsSomeAnd (cond b (Some first) rest) P → first.id ≡ id → P first
  first_holds true first rest is found same = found
  first_holds false first rest is found same = absurd (false≢true (sym is ∙ eq-eqb first.id id same))

  rest_holds : (b : Bool) (first : PlaceSheet) (rest : Option PlaceSheet) → (first.id == id) ≡ b → first.id ≢ id
      → IsSomeAnd (cond b (Some first) rest) P → IsSomeAnd rest P
  rest_holds true first rest is other found = absurd (other (eqb-true first.id id is))
  rest_holds false first rest is other found = found

  only_one : (sheets : List PlaceSheet) → AllPairs (λ one other. one.id ≢ other.id) sheets
      → IsSomeAnd (place_sheet_with id sheets) P
      → (k : ℕ) (d : PlaceSheet) → k < length sheets → (get_or sheets k d).id ≡ id → P (get_or sheets k d)
  only_one [] distinct found k d there same = absurd (omega arith)
  only_one (s ∷ ss) distinct found zero d there same =
      first_holds (s.id == id) s (place_sheet_with id ss) refl found same
  only_one (s ∷ ss) distinct found (suc k) d there same =
      only_one ss (λ i j e below inside. distinct (suc i) (suc j) e (omega arith) (omega arith))
      (rest_holds (s.id == id) s (place_sheet_with id ss) refl
      (λ is. distinct 0 (suc k) d (omega arith) there (is ∙ sym same)) found)
      k d (omega arith) same

-- ---- its filter can follow

filter_ready : (axis : Axis) (sheet : PlaceSheet) (found : Option Filter) → IfSome found (IsFilterOf sheet)
    → IfSome found (CanFollow axis (lines_of_sheet axis sheet))
filter_ready axis sheet None is = tt
filter_ready Rows sheet (Some filter) is = record { area = is.within.0; columns = tt }
filter_ready Columns sheet (Some filter) is = record { area = is.within.1; columns = is.columns }

-- ---- a line of the axis that has `count` lines

lines_below : (axis its : Axis) (place count : ℕ) (found : Option PlaceSheet) → is_same_axis its axis ≡ true
    → IsSomeAnd found (λ sheet. lines_of_sheet axis sheet ≡ count)
    → IsSomeAnd found (λ sheet. place < lines_on its sheet.table.rows sheet.table.cols) → place < count
lines_below axis its place count None same long there = absurd there
lines_below Rows Rows place count (Some sheet) same long there = omega (arith, long, there)
lines_below Columns Columns place count (Some sheet) same long there = omega (arith, long, there)
lines_below Rows Columns place count (Some sheet) same long there = absurd (false≢true same)
lines_below Columns Rows place count (Some sheet) same long there = absurd (false≢true same)

module _ (id : ℕ) (axis : Axis) (count : ℕ) (change : Change) where
  abbrev Goes : PlaceSheet → PlaceSheet → Type 0
  Goes = SheetChanged id axis count change

  pub same_ids : (ones others : List PlaceSheet) → AllZip Goes ones others
      → map (λ sheet. sheet.id) ones ≡ map (λ sheet. sheet.id) others
  same_ids [] [] all = refl
  same_ids [] (o ∷ os) all = absurd all
  same_ids (s ∷ ss) [] all = absurd all
  same_ids (s ∷ ss) (o ∷ os) all =
      ap (λ n. n ∷ map (λ sheet. sheet.id) ss) (sym all.0.id) ∙ ap (λ rest. o.id ∷ rest) (same_ids ss os all.1)

  -- ---- the change can be made on each

  module _ (sheets : List PlaceSheet)
      (long : IsSomeAnd (place_sheet_with id sheets) (λ sheet. lines_of_sheet axis sheet ≡ count)) where
    both_found : (area : Area) (found : Option PlaceSheet)
        → IsSomeAnd found (λ sheet. lines_of_sheet axis sheet ≡ count)
        → IsSomeAnd found (λ sheet. AreaWithin area sheet.table.rows sheet.table.cols)
        → Within (band_on axis area) count
    both_found area None is within = absurd within
    both_found area (Some sheet) is within = subst (Within (band_on axis area)) is (on_axis axis area sheet within)

    -- an area on one of the sheets has lines that are among `count`
    area_within : (area : Area) → IsOnSheet sheets area → IsWithinOn id axis count area
    area_within area on same =
        both_found area (place_sheet_with id sheets) long
        (subst (λ n. IsSomeAnd (place_sheet_with n sheets) (λ sheet. AreaWithin area sheet.table.rows sheet.table.cols))
        same on)

    piece_within : (one : Piece) → IsPieceWithin sheets one → IsPieceWithinOn id axis count one
    piece_within (piece.Text text) within = tt
    piece_within (piece.Word word) within = tt
    piece_within (piece.Ref reference) within = area_within reference.area within.0
    piece_within piece.Lost within = tt

    -- so is each range
    pub ranges_within : (ranges : List NamedRange) → All (λ range. IsOnSheet sheets range.area) ranges
        → All (IsRangeWithinOn id axis count) ranges
    ranges_within ranges on k d there = area_within (get_or ranges k d).area (on k d there)

    -- and so is each protection
    pub protections_within : (protections : List Protection) → All (IsProtectionWithin sheets) protections
        → All (IsKeptWithin id axis count) protections
    protections_within protections within k d there = (
      area_within (get_or protections k d).area (within k d there).0,
      λ i e inside. area_within (get_or (get_or protections k d).unprotected i e) ((within k d there).1 i e inside),
    )

    -- and each item of metadata lies on a line among them, if it lies on one
    spot_below : (one : Spot) → IsSpotWithin sheets one → IsSpotBelow id axis count one
    spot_below spot.Spreadsheet within = tt
    spot_below (spot.Sheet sheet) within = tt
    spot_below (spot.Line sheet its place) within = λ is.
        let parts = and_parts (sheet == id) (is_same_axis its axis) is in
        lines_below axis its place count (place_sheet_with id sheets) parts.1 long
        (subst (λ n. IsSomeAnd (place_sheet_with n sheets)
        (λ one. place < lines_on its one.table.rows one.table.cols)) (eqb-true sheet id parts.0) within)

    pub items_below : (items : List Item) → All (IsItemWithin sheets) items → All (IsBelow id axis count) items
    items_below items within k d there = spot_below (get_or items k d).spot (within k d there)

    content_within : (item : Content) → IsContentWithin sheets item → IsContentWithinOn id axis count item
    content_within (content.Number number) within = tt
    content_within (content.Text text) within = tt
    content_within (content.Truth truth) within = tt
    content_within (content.Formula formula) within = λ k d there.
        piece_within (get_or formula.pieces k d) (within k d there)

    held_within : (held : Option Content) → IfSome held (IsContentWithin sheets)
        → IfSome held (IsContentWithinOn id axis count)
    held_within None within = tt
    held_within (Some item) within = content_within item within

    room_on : (axis' : Axis) (sheet : PlaceSheet) → IsSheetSound sheets sheet
        → IsLineCount axis' (count_after change (lines_of_sheet axis' sheet)) → IsRoomAfter axis' change sheet.table
    room_on Rows sheet sound room = omega (arith, room.1, sound.cols.1)
    room_on Columns sheet sound room = omega (arith, room.1, sound.rows.1)

    can_change : (sheet : PlaceSheet) → IsSheetSound sheets sheet → IsLineCount axis (count_after change count)
        → (sheet.id ≡ id → (lines_of_sheet axis sheet ≡ count) × TearsNone axis count change sheet.merges)
        → CanChange id axis count change sheet
    can_change sheet sound room own = record {
      own = λ same. record {
        long = (own same).0;
        room = room_on axis sheet sound
            (subst (λ n. IsLineCount axis (count_after change n)) (sym (own same).0) room);
        merges = subst (λ n. AreWithin axis n sheet.merges) (own same).0 (merges_within axis sheets sheet sound);
        untorn = (own same).1;
        filter = subst (λ n. IfSome sheet.filter (CanFollow axis n)) (own same).0
            (filter_ready axis sheet sheet.filter sound.filter);
      };
      within = λ row col. held_within (item_at sheet.table row col) (sound.within row col);
    }

    both_some : (found : Option PlaceSheet) → IsSomeAnd found (λ sheet. lines_of_sheet axis sheet ≡ count)
        → IfSome found (λ sheet. TearsNone axis count change sheet.merges)
        → IsSomeAnd found (λ sheet. (lines_of_sheet axis sheet ≡ count) × TearsNone axis count change sheet.merges)
    both_some None is untorn = absurd is
    both_some (Some sheet) is untorn = (is, untorn)

    pub all_can : All (IsSheetSound sheets) sheets → AllPairs (λ one other. one.id ≢ other.id) sheets
        → IsLineCount axis (count_after change count)
        → IfSome (place_sheet_with id sheets) (λ sheet. TearsNone axis count change sheet.merges)
        → All (CanChange id axis count change) sheets
    all_can sound distinct room untorn k d there =
        can_change (get_or sheets k d) (sound k d there) room
        (only_one id (λ sheet. (lines_of_sheet axis sheet ≡ count) × TearsNone axis count change sheet.merges) sheets
        distinct (both_some (place_sheet_with id sheets) long untorn) k d there)

-- ---- a list, seen as others see it, and one more of it

pub zip_more : {X Y : Type 0} (R : Y → Y → Type 0) (f : X → Y) (ones others : List X) (one other : X)
    → AllZip R (map f ones) (map f others) → R (f one) (f other)
    → AllZip R (map f (ones ++ one ∷ [])) (map f (others ++ other ∷ []))
zip_more R f [] [] one other all more = (more, tt)
zip_more R f [] (o ∷ os) one other all more = absurd all
zip_more R f (x ∷ xs) [] one other all more = absurd all
zip_more R f (x ∷ xs) (o ∷ os) one other all more = (all.0, zip_more R f xs os one other all.1 more)

-- the change by the number of lines that the sheet has
pub by_its_lines : (id : ℕ) (axis : Axis) (count : ℕ) (change : Change) (before after : PlaceBook)
    (found : Option PlaceSheet) → IsSomeAnd found (λ sheet. lines_of_sheet axis sheet ≡ count)
    → BookChanged id axis count change before after
    → IsSomeAnd found (λ sheet. BookChanged id axis (lines_of_sheet axis sheet) change before after)
by_its_lines id axis count change before after None is changed = absurd is
by_its_lines id axis count change before after (Some sheet) is changed =
    subst (λ n. BookChanged id axis n change before after) (sym is) changed
