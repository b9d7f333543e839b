-- A change that leaves each line where it is changes no reference.
use Rattle.std.proofs.Common.{◌≡◌, ℕ, suc, ◌+◌, ◌<◌, ◌≤◌, refl, sym, ap, ◌∙◌, List, [], ◌∷◌, cond, true, ◌&&◌, map, arith, inl, inr}
use Rattle.std.specs.Prelude.{Option, None, Some, IfSome, is_some, ◌==◌, nat_le, nat_lt}
use Rattle.std.specs.List.{All}
use Rattle.std.specs.Option.{IsSome, option_map, option_map_or, unwrap_or}
use Rattle.std.proofs.lemmas.Bool.{cases_Bool, eqb-true, false≢true, le-ltb, lt-leb}
use Rattle.grid_range.specs.Area.{band_on, with_band, IsWithinOn}
use Rattle.grid_range.specs.Band.{Within}
use Rattle.grid_range.specs.Tracking.{area_followed, place_of, span_moved, track_of}
use Rattle.grid_range.specs.declared.area.Area.{Area}
use Rattle.grid_range.specs.declared.axis.Axis.{Axis}
use Rattle.grid_range.specs.declared.axis.Axis.TheVariants.{Rows, Columns}
use Rattle.grid_range.specs.declared.band.Band.{Band}
use Rattle.grid_range.specs.declared.band.Band.TheVariants.{Whole, From, Span}
use Rattle.grid_range.specs.declared.change.Change.{Change}
use Rattle.grid_range.specs.declared.change.Change.TheVariants.{Insert, Delete, Move}
use Rattle.cell_store.specs.Laws.{TablesByItems}
use Rattle.cell_store.specs.Moved.{GoesWithLines, lines_on, place_after}
use Rattle.cell_store.specs.Table.{HasItemsInside, Table, item_at}
use Rattle.ref_rewrite.specs.Following.{IsPieceWithinOn, piece_followed}
use Rattle.ref_rewrite.specs.declared.cell_content.Content.{Content}
use Rattle.ref_rewrite.specs.declared.cell_content.Content.TheVariants as content
use Rattle.ref_rewrite.specs.declared.pieces.Piece.{Piece}
use Rattle.ref_rewrite.specs.declared.pieces.Piece.TheVariants as piece
use Rattle.world_model.specs.Counts.{formulas_in}
use Rattle.world_model.specs.PlaceChange.{FollowsInPlace, content_followed}
use Rattle.dimension_ops.specs.Lines.{keeps_places}
use Rattle.dimension_ops.specs.References.{AreWithinOn, IsContentWithinOn}

-- ---- the lines of a reference stay

start_stays : (count inserted start : ℕ) → start < count → cond (nat_le count start) (start + inserted) start ≡ start
start_stays count inserted start there = ap (λ b. cond b (start + inserted) start) (lt-leb count start there)

end_stays : (count inserted end : ℕ) → end ≤ count → cond (nat_lt count end) (end + inserted) end ≡ end
end_stays count inserted end there = ap (λ b. cond b (end + inserted) end) (le-ltb count end there)

move_stays : (first past start end to : ℕ) → (nat_le start to && nat_le to end) ≡ true
    → span_moved first past start end to ≡ (first, past)
move_stays first past start end to is = rw is refl

band_stays : (change : Change) (count : ℕ) (band : Band) → keeps_places change count ≡ true → Within band count
    → track_of band count change ≡ Some band
band_stays change count Whole is within = refl
band_stays (Insert at inserted) count (From start) is within =
    ap (λ n. Some (From (cond (nat_le n start) (start + inserted) start))) (eqb-true at count is)
    ∙ ap (λ n. Some (From n)) (start_stays count inserted start within)
band_stays (Insert at inserted) count (Span start end) is within =
    ap (λ n. Some (Span (cond (nat_le n start) (start + inserted) start) (cond (nat_lt n end) (end + inserted) end)))
    (eqb-true at count is)
    ∙ ap (λ n. Some (Span n (cond (nat_lt count end) (end + inserted) end)))
    (start_stays count inserted start (omega (arith, within.0, within.1)))
    ∙ ap (λ n. Some (Span start n)) (end_stays count inserted end within.1)
band_stays (Delete first past) count (From start) is within = absurd (false≢true is)
band_stays (Delete first past) count (Span start end) is within = absurd (false≢true is)
band_stays (Move first past to) count (From start) is within =
    ap (λ (span : ℕ × ℕ). Some (From span.0)) (move_stays start count first past to is)
band_stays (Move first past to) count (Span start end) is within =
    ap (λ (span : ℕ × ℕ). Some (Span span.0 span.1)) (move_stays start end first past to is)

same_area : (axis : Axis) (area : Area) → with_band axis area (band_on axis area) ≡ area
same_area Rows area = refl
same_area Columns area = refl

module _ (sheet : ℕ) (axis : Axis) (count : ℕ) (change : Change) (is : keeps_places change count ≡ true) where
  area_stays : (area : Area) → IsWithinOn sheet axis count area → area_followed sheet axis count change area ≡ Some area
  area_stays area within = elim (cases_Bool (area.sheet == sheet)) [
    | inl on ↦
        ap (λ b. cond b (option_map (with_band axis area) (track_of (band_on axis area) count change)) (Some area)) on
        ∙ ap (option_map (with_band axis area))
        (band_stays change count (band_on axis area) is (within (eqb-true area.sheet sheet on)))
        ∙ ap Some (same_area axis area)
    | inr off ↦
        ap (λ b. cond b (option_map (with_band axis area) (track_of (band_on axis area) count change)) (Some area)) off
  ]

  piece_stays : (one : Piece) → IsPieceWithinOn sheet axis count one → piece_followed sheet axis count change one ≡ one
  piece_stays (piece.Text text) within = refl
  piece_stays (piece.Word word) within = refl
  piece_stays (piece.Ref reference) within =
      ap (λ held. option_map_or (λ area. piece.Ref (record reference { area = area })) held piece.Lost)
      (area_stays reference.area within)
  piece_stays piece.Lost within = refl

  pieces_stay : (pieces : List Piece) → All (IsPieceWithinOn sheet axis count) pieces
      → map (piece_followed sheet axis count change) pieces ≡ pieces
  pieces_stay [] within = refl
  pieces_stay (one ∷ pieces) within =
      ap (λ first. first ∷ map (piece_followed sheet axis count change) pieces)
      (piece_stays one (within 0 one (omega arith)))
      ∙ ap (λ rest. one ∷ rest) (pieces_stay pieces (λ k d there. within (suc k) d (omega (arith, there))))

  content_stays : (item : Content) → IsContentWithinOn sheet axis count item
      → content_followed sheet axis count change item ≡ item
  content_stays (content.Number number) within = refl
  content_stays (content.Text text) within = refl
  content_stays (content.Truth truth) within = refl
  content_stays (content.Formula formula) within =
      ap (λ pieces. content.Formula (record formula { pieces = pieces })) (pieces_stay formula.pieces within)

  held_stays : (held : Option Content) → IfSome held (IsContentWithinOn sheet axis count)
      → option_map (content_followed sheet axis count change) held ≡ held
  held_stays None within = refl
  held_stays (Some item) within = ap Some (content_stays item within)

  pub nothing_follows : (table : Table Content) → AreWithinOn sheet axis count table
      → FollowsInPlace sheet axis count change table table
  nothing_follows table within = record {
    rows = refl;
    cols = refl;
    items = λ row col. sym (held_stays (item_at table row col) (within row col));
  }

-- ---- nor does it bring an item to another place

place_stays : (change : Change) (count line : ℕ) → keeps_places change count ≡ true → line < count
    → place_of change line ≡ Some line
place_stays (Insert at inserted) count line is there =
    ap (λ n. Some (cond (nat_le n line) (line + inserted) line)) (eqb-true at count is)
    ∙ ap Some (start_stays count inserted line there)
place_stays (Delete first past) count line is there = absurd (false≢true is)
place_stays (Move first past to) count line is there =
    ap (λ (span : ℕ × ℕ). Some span.0) (move_stays line (line + 1) first past to is)

spot_stays : (axis : Axis) (change : Change) (rows cols row col : ℕ)
    → keeps_places change (lines_on axis rows cols) ≡ true
    → row < rows → col < cols → place_after axis change row col ≡ Some (row, col)
spot_stays Rows change rows cols row col is row_there col_there =
    ap (option_map (λ (line : ℕ). (line, col))) (place_stays change rows row is row_there)
spot_stays Columns change rows cols row col is row_there col_there =
    ap (option_map (λ (line : ℕ). (row, line))) (place_stays change cols col is col_there)

module _ (axis : Axis) (change : Change) (before moved : Table Content) (goes : GoesWithLines axis change before moved)
    (inside : HasItemsInside before) (is : keeps_places change (lines_on axis before.rows before.cols) ≡ true) where
  spot : (row col : ℕ) → IsSome (item_at before row col) → place_after axis change row col ≡ Some (row, col)
  spot row col some =
      let there = inside row col some in
      spot_stays axis change before.rows before.cols row col is there.0 there.1

  none_came : (row col : ℕ) (held : Option Content) → item_at before row col ≡ held → item_at moved row col ≡ None
      → held ≡ None
  none_came row col None held none = refl
  none_came row col (Some item) held none =
      let went = (goes.items row col item).1
      (record { old_row = row; old_col = col; goes = spot row col (ap is_some held); held = held }) in
      absurd (false≢true (ap is_some (sym none ∙ went)))

  item_stays : (row col : ℕ) (held : Option Content) → item_at moved row col ≡ held
      → item_at moved row col ≡ item_at before row col
  item_stays row col None held = held ∙ sym (none_came row col (item_at before row col) refl held)
  item_stays row col (Some item) held =
      let from = (goes.items row col item).0 held in
      let stood = spot from.old_row from.old_col (ap is_some from.held) in
      let same : (from.old_row, from.old_col) ≡ (row, col) =
      ap (λ (o : Option (ℕ × ℕ)). unwrap_or o (row, col)) (sym stood ∙ from.goes) in
      held ∙ sym from.held ∙ ap (λ (p : ℕ × ℕ). item_at before p.0 p.1) same

  -- so there are as many formulas
  pub count_stays : TablesByItems Content → formulas_in moved ≡ formulas_in before
  count_stays tables = ap formulas_in (tables.same
      (record { rows = before.rows; cols = before.cols; cells = moved.cells }) before refl refl
      (λ row col. item_stays row col (item_at moved row col) refl))
