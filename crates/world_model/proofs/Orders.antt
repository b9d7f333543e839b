-- The lines of each sheet after a change of the lines of one.
use Rattle.std.proofs.Common.{◌≡◌, ℕ, refl, sym, ap, ◌∙◌, List, [], ◌∷◌, cond, Bool, true, false}
use Rattle.std.specs.Prelude.{Option, None, Some, map, option_and_then, ◌==◌, ◌&&◌}
use Rattle.std.specs.List.{filter_map}
use Rattle.std.specs.Option.{option_map, option_map_or}
use Rattle.std.proofs.lemmas.Bool.{eqb-true}
use Rattle.std.proofs.lemmas.Option.{none-some, same_Some}
use Rattle.grid_range.specs.Order.{is_among}
use Rattle.grid_range.specs.declared.axis.Axis.{Axis}
use Rattle.grid_range.specs.declared.axis.Axis.TheVariants.{Rows, Columns}
use Rattle.world_model.specs.Book.{orders_of, sheet_with}
use Rattle.world_model.specs.LineChange.{LineChange, sheet_followed, name_content_followed, with_lines, with_all_followed, name_filter_followed, name_merge_followed}
use Rattle.world_model.specs.Sheet.{NameSheet, lines_of}
use Rattle.world_model.proofs.Areas.{other_axis}
use Rattle.world_model.proofs.Lines.{sheet_with-map}

-- a sheet whose lines on the axis may be replaced: its other lines, and all else, are as they were
record MayHaveLines (b : Bool) (axis : Axis) (order : List ℕ) (one other : NameSheet) : Type 0 where
  pub id : one.id ≡ other.id
  pub title : one.title ≡ other.title
  pub hidden : one.hidden ≡ other.hidden
  pub on : lines_of one axis ≡ cond b order (lines_of other axis)
  pub across : lines_of one (other_axis axis) ≡ lines_of other (other_axis axis)
  pub cells : (r c : ℕ) → one.cells r c ≡ other.cells r c
  pub merges : one.merges ≡ other.merges
  pub filter : one.filter ≡ other.filter

lines_replaced : (b : Bool) (axis : Axis) (order : List ℕ) (sheet : NameSheet)
    → MayHaveLines b axis order (cond b (with_lines axis order sheet) sheet) sheet
lines_replaced true Rows order sheet = record {
  id = refl;
  title = refl;
  hidden = refl;
  on = refl;
  across = refl;
  cells = λ r c. refl;
  merges = refl;
  filter = refl;
}
lines_replaced true Columns order sheet = record {
  id = refl;
  title = refl;
  hidden = refl;
  on = refl;
  across = refl;
  cells = λ r c. refl;
  merges = refl;
  filter = refl;
}
lines_replaced false axis order sheet = record {
  id = refl;
  title = refl;
  hidden = refl;
  on = refl;
  across = refl;
  cells = λ r c. refl;
  merges = refl;
  filter = refl;
}

-- the sheet with an id has it
first_has_id : (b : Bool) (id : ℕ) (first sheet : NameSheet) (rest : Option NameSheet) → (first.id == id) ≡ b
    → (rest ≡ Some sheet → (sheet.id == id) ≡ true) → cond b (Some first) rest ≡ Some sheet → (sheet.id == id) ≡ true
first_has_id true id first sheet rest same behind found =
    ap (λ s. s.id == id) (sym (same_Some first sheet found)) ∙ same
first_has_id false id first sheet rest same behind found = behind found

pub sheet_has_id : (id : ℕ) (sheets : List NameSheet) (sheet : NameSheet) → sheet_with id sheets ≡ Some sheet
    → (sheet.id == id) ≡ true
sheet_has_id id [] sheet found = absurd (none-some sheet found)
sheet_has_id id (first ∷ sheets) sheet found =
    first_has_id (first.id == id) id first sheet (sheet_with id sheets) refl (sheet_has_id id sheets sheet) found

-- cells, merges and a filter don't matter for lines
lines_with_all : (to : LineChange) (sheet : NameSheet) (axis : Axis)
    → lines_of (with_all_followed to sheet) axis ≡ lines_of sheet axis
lines_with_all to sheet Rows = refl
lines_with_all to sheet Columns = refl

-- what holds on an axis and on the other holds on both
pub on_both : (P : Axis → Type 0) (axis on : Axis) → P axis → P (other_axis axis) → P on
on_both P Rows Rows here there = here
on_both P Rows Columns here there = there
on_both P Columns Rows here there = there
on_both P Columns Columns here there = here

module _ (to : LineChange) where
  replaced : (sheet : NameSheet) → MayHaveLines (sheet.id == to.sheet) to.axis to.order
      (cond (sheet.id == to.sheet) (with_lines to.axis to.order sheet) sheet) sheet
  replaced sheet = lines_replaced (sheet.id == to.sheet) to.axis to.order sheet

  pub followed_id : (sheet : NameSheet) → (sheet_followed to sheet).id ≡ sheet.id
  followed_id sheet = (replaced sheet).id

  pub followed_title : (sheet : NameSheet) → (sheet_followed to sheet).title ≡ sheet.title
  followed_title sheet = (replaced sheet).title

  pub followed_hidden : (sheet : NameSheet) → (sheet_followed to sheet).hidden ≡ sheet.hidden
  followed_hidden sheet = (replaced sheet).hidden

  pub followed_on : (sheet : NameSheet)
      → lines_of (sheet_followed to sheet) to.axis ≡ cond (sheet.id == to.sheet) to.order (lines_of sheet to.axis)
  followed_on sheet =
      lines_with_all to (cond (sheet.id == to.sheet) (with_lines to.axis to.order sheet) sheet) to.axis
      ∙ (replaced sheet).on

  pub followed_across : (sheet : NameSheet)
      → lines_of (sheet_followed to sheet) (other_axis to.axis) ≡ lines_of sheet (other_axis to.axis)
  followed_across sheet =
      lines_with_all to (cond (sheet.id == to.sheet) (with_lines to.axis to.order sheet) sheet) (other_axis to.axis)
      ∙ (replaced sheet).across

  -- another sheet keeps all its lines
  pub followed_elsewhere : (sheet : NameSheet) → (sheet.id == to.sheet) ≡ false → (axis : Axis)
      → lines_of (sheet_followed to sheet) axis ≡ lines_of sheet axis
  followed_elsewhere sheet is axis =
      on_both (λ on. lines_of (sheet_followed to sheet) on ≡ lines_of sheet on) to.axis axis
      (followed_on sheet ∙ ap (λ b. cond b to.order (lines_of sheet to.axis)) is) (followed_across sheet)

  pub followed_here : (sheet : NameSheet) → (sheet.id == to.sheet) ≡ true
      → lines_of (sheet_followed to sheet) to.axis ≡ to.order
  followed_here sheet is = followed_on sheet ∙ ap (λ b. cond b to.order (lines_of sheet to.axis)) is

  -- a cell of its lines keeps what it holds, which follows
  pub followed_cells : (sheet : NameSheet) (r c : ℕ) → (sheet_followed to sheet).cells r c
      ≡ cond (is_among (sheet_followed to sheet).rows r && is_among (sheet_followed to sheet).cols c)
      (option_map (name_content_followed to) (sheet.cells r c)) None
  followed_cells sheet r c =
      ap (λ held. cond (is_among (sheet_followed to sheet).rows r && is_among (sheet_followed to sheet).cols c)
      (option_map (name_content_followed to) held) None) ((replaced sheet).cells r c)

  -- and each merge follows
  pub followed_merges : (sheet : NameSheet)
      → (sheet_followed to sheet).merges ≡ filter_map (name_merge_followed to) sheet.merges
  followed_merges sheet = ap (filter_map (name_merge_followed to)) (replaced sheet).merges

  -- and so does its filter
  pub followed_filter : (sheet : NameSheet)
      → (sheet_followed to sheet).filter ≡ option_and_then (name_filter_followed to) sheet.filter
  followed_filter sheet = ap (option_and_then (name_filter_followed to)) (replaced sheet).filter

  lines_found : (found : Option NameSheet) (axis : Axis)
      → option_map_or (λ sheet. lines_of sheet axis) (option_map (sheet_followed to) found) []
      ≡ option_map_or (λ sheet. lines_of (sheet_followed to sheet) axis) found []
  lines_found None axis = refl
  lines_found (Some sheet) axis = refl

  module _ (sheets : List NameSheet) where
    orders_followed : (id : ℕ) (axis : Axis) → orders_of (map (sheet_followed to) sheets) id axis
        ≡ option_map_or (λ sheet. lines_of (sheet_followed to sheet) axis) (sheet_with id sheets) []
    orders_followed id axis =
        ap (λ found. option_map_or (λ sheet. lines_of sheet axis) found [])
        (sheet_with-map (sheet_followed to) followed_id id sheets)
        ∙ lines_found (sheet_with id sheets) axis

    same_found : (axis : Axis) (found : Option NameSheet)
        → ((sheet : NameSheet) → found ≡ Some sheet → lines_of (sheet_followed to sheet) axis ≡ lines_of sheet axis)
        → option_map_or (λ sheet. lines_of (sheet_followed to sheet) axis) found []
        ≡ option_map_or (λ sheet. lines_of sheet axis) found []
    same_found axis None same = refl
    same_found axis (Some sheet) same = same sheet refl

    -- the sheet that is changed has the new order, if it is there
    pub order_here : (id : ℕ) (sheet : NameSheet) → sheet_with id sheets ≡ Some sheet → (id == to.sheet) ≡ true
        → orders_of (map (sheet_followed to) sheets) id to.axis ≡ to.order
    order_here id sheet found is =
        orders_followed id to.axis
        ∙ ap (λ found. option_map_or (λ sheet. lines_of (sheet_followed to sheet) to.axis) found []) found
        ∙ followed_here sheet (ap (λ n. n == to.sheet) (eqb-true sheet.id id (sheet_has_id id sheets sheet found)) ∙ is)

    -- each sheet keeps its lines on the other axis
    pub orders_across : (id : ℕ)
        → orders_of (map (sheet_followed to) sheets) id (other_axis to.axis) ≡ orders_of sheets id (other_axis to.axis)
    orders_across id = orders_followed id (other_axis to.axis)
        ∙ same_found (other_axis to.axis) (sheet_with id sheets) (λ sheet _. followed_across sheet)

    -- another sheet keeps all
    pub orders_elsewhere : (id : ℕ) → (id == to.sheet) ≡ false → (axis : Axis)
        → orders_of (map (sheet_followed to) sheets) id axis ≡ orders_of sheets id axis
    orders_elsewhere id is axis = orders_followed id axis
        ∙ same_found axis (sheet_with id sheets) (λ sheet found. followed_elsewhere sheet
        (ap (λ n. n == to.sheet) (eqb-true sheet.id id (sheet_has_id id sheets sheet found)) ∙ is) axis)
