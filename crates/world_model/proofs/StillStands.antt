-- A sheet stands for the same one among other sheets, as long as its references, merges and filter are of the same
-- lines.
use Rattle.std.proofs.Common.{◌≡◌, ℕ, suc, refl, sym, ap, subst, ◌∙◌, List, [], ◌∷◌, get_or, arith}
use Rattle.std.specs.Prelude.{◌↔◌, Contains, IfSome, None, Option, Some, map}
use Rattle.std.specs.List.{All}
use Rattle.std.specs.Option.{option_map}
use Rattle.basic_filter.specs.declared.types.Filter.{Filter}
use Rattle.grid_range.specs.declared.area.Area.{Area}
use Rattle.grid_range.specs.declared.axis.Axis.{Axis}
use Rattle.grid_range.specs.declared.axis.Axis.TheVariants.{Rows, Columns}
use Rattle.cell_store.specs.Table.{item_at}
use Rattle.ref_rewrite.specs.declared.cell_content.Content.{Content}
use Rattle.ref_rewrite.specs.declared.cell_content.Content.TheVariants as content
use Rattle.ref_rewrite.specs.declared.pieces.Piece.{Piece}
use Rattle.ref_rewrite.specs.declared.pieces.Piece.TheVariants as piece
use Rattle.world_model.specs.Area.{NameArea, Orders, area_named, band_named}
use Rattle.world_model.specs.Book.{orders_of}
use Rattle.world_model.specs.Content.{NameContent, NamePiece, content_named, piece_named}
use Rattle.world_model.specs.Filters.{NameFilter, criterion_named, filter_named}
use Rattle.world_model.specs.Sheet.{NameSheet, PlaceSheet}
use Rattle.world_model.specs.Sound.{AreMergesOf, IsContentWithin, IsFilterOf, IsOnSheet, IsPieceWithin}
use Rattle.world_model.specs.StandsFor.{SheetStandsFor}

pub map_same : {A B : Type 0} (f g : A → B) (xs : List A) → All (λ x. f x ≡ g x) xs → map f xs ≡ map g xs
map_same f g [] same = refl
map_same f g (x ∷ xs) same =
    ap (λ y. y ∷ map f xs) (same 0 x (omega arith))
    ∙ ap (λ ys. g x ∷ ys) (map_same f g xs (λ k d there. same (suc k) d (omega arith)))

-- an area names the same lines where its sheet has them
pub lines_same : (orders orders' : Orders) (area : Area) → orders area.sheet ≡ orders' area.sheet
    → area_named orders area ≡ area_named orders' area
lines_same orders orders' area same =
    ap (λ lines. record {
      sheet = area.sheet;
      rows = band_named (lines Rows) area.rows;
      cols = band_named (lines Columns) area.cols;
    }) same

-- and so do the merges of a sheet
pub merges_same : (orders orders' : Orders) (sheet : PlaceSheet) → orders sheet.id ≡ orders' sheet.id
    → AreMergesOf sheet sheet.merges → map (area_named orders) sheet.merges ≡ map (area_named orders') sheet.merges
merges_same orders orders' sheet same are =
    map_same (area_named orders) (area_named orders') sheet.merges
    (λ k d there. lines_same orders orders' (get_or sheet.merges k d)
    (ap orders (are.1 k d there).0 ∙ same ∙ ap orders' (sym (are.1 k d there).0)))

-- and so does its filter
abbrev filter_by : Filter → (Axis → List ℕ) → NameFilter
filter_by filter lines = record {
  area = record {
    sheet = filter.area.sheet;
    rows = band_named (lines Rows) filter.area.rows;
    cols = band_named (lines Columns) filter.area.cols;
  };
  criteria = map (criterion_named (lines Columns)) filter.criteria;
}

pub filter_same : (orders orders' : Orders) (sheet : PlaceSheet) → orders sheet.id ≡ orders' sheet.id
    → (found : Option Filter) → IfSome found (IsFilterOf sheet)
    → option_map (filter_named orders) found ≡ option_map (filter_named orders') found
filter_same orders orders' sheet same None is = refl
filter_same orders orders' sheet same (Some filter) is =
    ap (λ lines. Some (filter_by filter lines)) (ap orders is.own ∙ same ∙ ap orders' (sym is.own))

-- merges that name the same lines stand for the same ones
pub merges_stand : (orders orders' : Orders) (before after : List Area) (names names' : List NameArea) → names' ≡ names
    → map (area_named orders) before ≡ map (area_named orders') after
    → ((area : NameArea) → Contains names area ↔ Contains (map (area_named orders) before) area)
    → (area : NameArea) → Contains names' area ↔ Contains (map (area_named orders') after) area
merges_stand orders orders' before after names names' same lines stands area =
    subst (λ all. Contains names' area ↔ Contains all area) lines
    (subst (λ all. Contains all area ↔ Contains (map (area_named orders) before) area) (sym same) (stands area))

module _ (sheets : List PlaceSheet) (orders orders' : Orders)
    (same : (area : Area) → IsOnSheet sheets area → orders area.sheet ≡ orders' area.sheet) where
  pub area_same : (area : Area) → IsOnSheet sheets area → area_named orders area ≡ area_named orders' area
  area_same area on = lines_same orders orders' area (same area on)

  piece_same : (one : Piece) → IsPieceWithin sheets one → piece_named orders one ≡ piece_named orders' one
  piece_same (piece.Text text) within = refl
  piece_same (piece.Word word) within = refl
  piece_same (piece.Ref reference) within =
      ap (λ (area : NameArea). NamePiece.Ref (record { named = reference.named; area = area; marks = reference.marks }))
      (area_same reference.area within.0)
  piece_same piece.Lost within = refl

  pieces_same : (pieces : List Piece) → All (IsPieceWithin sheets) pieces
      → map (piece_named orders) pieces ≡ map (piece_named orders') pieces
  pieces_same pieces within =
      map_same (piece_named orders) (piece_named orders') pieces
      (λ k d there. piece_same (get_or pieces k d) (within k d there))

  pub content_same : (one : Content) → IsContentWithin sheets one → content_named orders one ≡ content_named orders' one
  content_same (content.Number number) within = refl
  content_same (content.Text text) within = refl
  content_same (content.Truth truth) within = refl
  content_same (content.Formula formula) within = ap NameContent.Formula (pieces_same formula.pieces within)

  pub held_same : (held : Option Content) → IfSome held (IsContentWithin sheets)
      → option_map (content_named orders) held ≡ option_map (content_named orders') held
  held_same None within = refl
  held_same (Some one) within = ap Some (content_same one within)

-- what a sheet stands for depends on the others by what its contents, merges and filter are by names alone
pub still_stands : (sheets sheets' : List NameSheet) (sheet : PlaceSheet) (names : NameSheet)
    → ((row col : ℕ) → option_map (content_named (orders_of sheets)) (item_at sheet.table row col)
    ≡ option_map (content_named (orders_of sheets')) (item_at sheet.table row col))
    → map (area_named (orders_of sheets)) sheet.merges ≡ map (area_named (orders_of sheets')) sheet.merges
    → option_map (filter_named (orders_of sheets)) sheet.filter
    ≡ option_map (filter_named (orders_of sheets')) sheet.filter
    → SheetStandsFor sheets sheet names → SheetStandsFor sheets' sheet names
still_stands sheets sheets' sheet names same merges filter stands = record {
  id = stands.id;
  title = stands.title;
  hidden = stands.hidden;
  distinct_rows = stands.distinct_rows;
  distinct_cols = stands.distinct_cols;
  rows = stands.rows;
  cols = stands.cols;
  cells = λ row col r c at_row at_col. stands.cells row col r c at_row at_col ∙ same row col;
  nowhere_else = stands.nowhere_else;
  merges = merges_stand (orders_of sheets) (orders_of sheets') sheet.merges sheet.merges names.merges names.merges refl
      merges stands.merges;
  filter = stands.filter ∙ filter;
}
