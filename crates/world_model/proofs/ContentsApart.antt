-- A content within a spreadsheet is known by its names.
use Rattle.std.proofs.Common.{◌≡◌, ℕ, ℤ, Bool, List, [], ◌∷◌, length, suc, refl, sym, ap, subst, ◌∙◌, arith}
use Rattle.std.specs.Prelude.{Option, None, Some, IfSome, map}
use Rattle.std.specs.List.{All, AllZip}
use Rattle.std.specs.Option.{option_map}
use Rattle.std.proofs.lemmas.Option.{none-some, same_Some}
use Rattle.grid_range.specs.Area.{AreaWithin}
use Rattle.grid_range.specs.Band.{Within}
use Rattle.grid_range.specs.Order.{IsOrder}
use Rattle.grid_range.specs.declared.area.Area.{Area}
use Rattle.grid_range.specs.declared.axis.Axis.TheVariants.{Rows, Columns}
use Rattle.ref_rewrite.specs.declared.cell_content.Content.{Content}
use Rattle.ref_rewrite.specs.declared.cell_content.Content.TheVariants as content
use Rattle.ref_rewrite.specs.declared.pieces.Piece.{Piece}
use Rattle.ref_rewrite.specs.declared.pieces.Piece.TheVariants as piece
use Rattle.ref_rewrite.specs.declared.reference.Ref.{Ref as Reference}
use Rattle.world_model.specs.Area.{NameArea, Orders, band_named, area_named}
use Rattle.world_model.specs.Book.{orders_of}
use Rattle.world_model.specs.Content.{NameRef, NamePiece, NameContent, reference_named, piece_named, content_named}
use Rattle.world_model.specs.Sheet.{NameSheet, PlaceSheet}
use Rattle.world_model.specs.Sound.{IsAreaWithin, IsOnSheet, IsPieceWithin, IsContentWithin}
use Rattle.world_model.specs.StandsFor.{SheetStandsFor}
use Rattle.world_model.proofs.BandsApart.{same_band}
use Rattle.world_model.proofs.Found.{found_by_name}
use Rattle.world_model.proofs.Lines.{lines_there}

-- the bands of the area are within orders of lines that are distinct
pub record IsInOrders (orders : Orders) (area : Area) : Type 0 where
  pub distinct_rows : IsOrder (orders area.sheet Rows)
  pub distinct_cols : IsOrder (orders area.sheet Columns)
  pub rows : Within area.rows (length (orders area.sheet Rows))
  pub cols : Within area.cols (length (orders area.sheet Columns))

pub in_orders : (sheets : List NameSheet) (placed : List PlaceSheet) (area : Area)
    → AllZip (SheetStandsFor sheets) placed sheets → IsOnSheet placed area → IsInOrders (orders_of sheets) area
in_orders sheets placed area all on =
    let found =
    found_by_name sheets (λ sheet. AreaWithin area sheet.table.rows sheet.table.cols) area.sheet placed sheets
    all on in
    let rows = lines_there sheets area.sheet Rows found.names found.is in
    let cols = lines_there sheets area.sheet Columns found.names found.is in
    record {
      distinct_rows = subst IsOrder (sym rows) found.stands.distinct_rows;
      distinct_cols = subst IsOrder (sym cols) found.stands.distinct_cols;
      rows = subst (Within area.rows) (found.stands.rows ∙ ap length (sym rows)) found.holds.0;
      cols = subst (Within area.cols) (found.stands.cols ∙ ap length (sym cols)) found.holds.1;
    }

area_of_same : (one other : Area) → one.sheet ≡ other.sheet → one.rows ≡ other.rows → one.cols ≡ other.cols
    → one ≡ other
area_of_same one other sheet rows cols =
    ap (λ n. record one { sheet = n }) sheet
    ∙ ap (λ band. record one { sheet = other.sheet; rows = band }) rows
    ∙ ap (λ band. record other { cols = band }) cols

pub same_area : (orders : Orders) (one other : Area) → IsInOrders orders one → IsInOrders orders other
    → area_named orders one ≡ area_named orders other → one ≡ other
same_area orders one other within within' same =
    let sheet : other.sheet ≡ one.sheet = sym (ap (λ (area : NameArea). area.sheet) same) in
    area_of_same one other (sym sheet)
    (same_band (orders one.sheet Rows) within.distinct_rows one.rows other.rows within.rows
    (subst (λ n. Within other.rows (length (orders n Rows))) sheet within'.rows)
    (ap (λ (area : NameArea). area.rows) same ∙ ap (λ n. band_named (orders n Rows) other.rows) sheet))
    (same_band (orders one.sheet Columns) within.distinct_cols one.cols other.cols within.cols
    (subst (λ n. Within other.cols (length (orders n Columns))) sheet within'.cols)
    (ap (λ (area : NameArea). area.cols) same ∙ ap (λ n. band_named (orders n Columns) other.cols) sheet))

reference_of_same : (one other : Reference) → one.named ≡ other.named → one.area ≡ other.area → one.marks ≡ other.marks
    → one ≡ other
reference_of_same one other named area marks =
    ap (λ b. record one { named = b }) named
    ∙ ap (λ found. record one { named = other.named; area = found }) area
    ∙ ap (λ found. record other { marks = found }) marks

-- what a piece of that form holds
abbrev text_in : NamePiece → Option (List ℕ)
text_in (NamePiece.Text text) = Some text
text_in (NamePiece.Word word) = None
text_in (NamePiece.Ref reference) = None
text_in NamePiece.Lost = None

abbrev word_in : NamePiece → Option (List ℕ)
word_in (NamePiece.Text text) = None
word_in (NamePiece.Word word) = Some word
word_in (NamePiece.Ref reference) = None
word_in NamePiece.Lost = None

abbrev reference_in : NamePiece → Option NameRef
reference_in (NamePiece.Text text) = None
reference_in (NamePiece.Word word) = None
reference_in (NamePiece.Ref reference) = Some reference
reference_in NamePiece.Lost = None

-- what a content of that form holds
abbrev number_of : NameContent → Option ℤ
number_of (NameContent.Number number) = Some number
number_of (NameContent.Text text) = None
number_of (NameContent.Truth truth) = None
number_of (NameContent.Formula pieces) = None

abbrev text_of : NameContent → Option (List ℕ)
text_of (NameContent.Number number) = None
text_of (NameContent.Text text) = Some text
text_of (NameContent.Truth truth) = None
text_of (NameContent.Formula pieces) = None

abbrev truth_of : NameContent → Option Bool
truth_of (NameContent.Number number) = None
truth_of (NameContent.Text text) = None
truth_of (NameContent.Truth truth) = Some truth
truth_of (NameContent.Formula pieces) = None

abbrev pieces_of : NameContent → Option (List NamePiece)
pieces_of (NameContent.Number number) = None
pieces_of (NameContent.Text text) = None
pieces_of (NameContent.Truth truth) = None
pieces_of (NameContent.Formula pieces) = Some pieces

-- lists are known by the names of their elements where each element is known by its name
module _ {A B : Type 0} (named : A → B) (P Q : A → Type 0)
    (apart : (one other : A) → P one → Q other → named one ≡ named other → one ≡ other) where
  abbrev first_in : List B → Option B
  first_in [] = None
  first_in (y ∷ ys) = Some y

  abbrev rest_of : List B → List B
  rest_of [] = []
  rest_of (y ∷ ys) = ys

  pub map_apart : (xs ys : List A) → All P xs → All Q ys → map named xs ≡ map named ys → xs ≡ ys
  map_apart [] [] are are' same = refl
  map_apart [] (y ∷ ys) are are' same = absurd (none-some (named y) (ap first_in same))
  map_apart (x ∷ xs) [] are are' same = absurd (none-some (named x) (sym (ap first_in same)))
  map_apart (x ∷ xs) (y ∷ ys) are are' same =
      ap (λ one. one ∷ xs) (apart x y (are 0 x (omega arith)) (are' 0 y (omega arith))
      (same_Some (named x) (named y) (ap first_in same)))
      ∙ ap (λ rest. y ∷ rest) (map_apart xs ys (λ k d there. are (suc k) d (omega arith))
      (λ k d there. are' (suc k) d (omega arith)) (ap rest_of same))

module _ (sheets : List NameSheet) (ones others : List PlaceSheet) (stand : AllZip (SheetStandsFor sheets) ones sheets)
    (stand' : AllZip (SheetStandsFor sheets) others sheets) where
  abbrev orders : Orders
  orders = orders_of sheets

  abbrev named : Piece → NamePiece
  named = piece_named orders

  same_reference : (one other : Reference) → IsAreaWithin ones one.area → IsAreaWithin others other.area
      → reference_named orders one ≡ reference_named orders other → one ≡ other
  same_reference one other within within' same =
      reference_of_same one other (ap (λ (found : NameRef). found.named) same)
      (same_area orders one.area other.area (in_orders sheets ones one.area stand within.0)
      (in_orders sheets others other.area stand' within'.0) (ap (λ (found : NameRef). found.area) same))
      (ap (λ (found : NameRef). found.marks) same)

  same_piece : (one other : Piece) → IsPieceWithin ones one → IsPieceWithin others other → named one ≡ named other
      → one ≡ other
  same_piece (piece.Text text) (piece.Text other) within within' same =
      ap piece.Text (same_Some text other (ap text_in same))
  same_piece (piece.Text text) (piece.Word word) within within' same = absurd (none-some word (ap word_in same))
  same_piece (piece.Text text) (piece.Ref reference) within within' same =
      absurd (none-some (reference_named orders reference) (ap reference_in same))
  same_piece (piece.Text text) piece.Lost within within' same = absurd (none-some text (sym (ap text_in same)))
  same_piece (piece.Word word) (piece.Text text) within within' same = absurd (none-some text (ap text_in same))
  same_piece (piece.Word word) (piece.Word other) within within' same =
      ap piece.Word (same_Some word other (ap word_in same))
  same_piece (piece.Word word) (piece.Ref reference) within within' same =
      absurd (none-some (reference_named orders reference) (ap reference_in same))
  same_piece (piece.Word word) piece.Lost within within' same = absurd (none-some word (sym (ap word_in same)))
  same_piece (piece.Ref reference) (piece.Text text) within within' same = absurd (none-some text (ap text_in same))
  same_piece (piece.Ref reference) (piece.Word word) within within' same = absurd (none-some word (ap word_in same))
  same_piece (piece.Ref reference) (piece.Ref other) within within' same =
      ap piece.Ref (same_reference reference other within within'
      (same_Some (reference_named orders reference) (reference_named orders other) (ap reference_in same)))
  same_piece (piece.Ref reference) piece.Lost within within' same =
      absurd (none-some (reference_named orders reference) (sym (ap reference_in same)))
  same_piece piece.Lost (piece.Text text) within within' same = absurd (none-some text (ap text_in same))
  same_piece piece.Lost (piece.Word word) within within' same = absurd (none-some word (ap word_in same))
  same_piece piece.Lost (piece.Ref reference) within within' same =
      absurd (none-some (reference_named orders reference) (ap reference_in same))
  same_piece piece.Lost piece.Lost within within' same = refl

  same_content : (one other : Content) → IsContentWithin ones one → IsContentWithin others other
      → content_named orders one ≡ content_named orders other → one ≡ other
  same_content (content.Number number) (content.Number other) within within' same =
      ap content.Number (same_Some number other (ap number_of same))
  same_content (content.Number number) (content.Text text) within within' same =
      absurd (none-some text (ap text_of same))
  same_content (content.Number number) (content.Truth truth) within within' same =
      absurd (none-some truth (ap truth_of same))
  same_content (content.Number number) (content.Formula formula) within within' same =
      absurd (none-some (map named formula.pieces) (ap pieces_of same))
  same_content (content.Text text) (content.Number number) within within' same =
      absurd (none-some number (ap number_of same))
  same_content (content.Text text) (content.Text other) within within' same =
      ap content.Text (same_Some text other (ap text_of same))
  same_content (content.Text text) (content.Truth truth) within within' same =
      absurd (none-some truth (ap truth_of same))
  same_content (content.Text text) (content.Formula formula) within within' same =
      absurd (none-some (map named formula.pieces) (ap pieces_of same))
  same_content (content.Truth truth) (content.Number number) within within' same =
      absurd (none-some number (ap number_of same))
  same_content (content.Truth truth) (content.Text text) within within' same =
      absurd (none-some text (ap text_of same))
  same_content (content.Truth truth) (content.Truth other) within within' same =
      ap content.Truth (same_Some truth other (ap truth_of same))
  same_content (content.Truth truth) (content.Formula formula) within within' same =
      absurd (none-some (map named formula.pieces) (ap pieces_of same))
  same_content (content.Formula formula) (content.Number number) within within' same =
      absurd (none-some number (ap number_of same))
  same_content (content.Formula formula) (content.Text text) within within' same =
      absurd (none-some text (ap text_of same))
  same_content (content.Formula formula) (content.Truth truth) within within' same =
      absurd (none-some truth (ap truth_of same))
  same_content (content.Formula formula) (content.Formula other) within within' same =
      ap (λ pieces. content.Formula (record formula { pieces = pieces }))
      (map_apart named (IsPieceWithin ones) (IsPieceWithin others) same_piece formula.pieces other.pieces within within'
      (same_Some (map named formula.pieces) (map named other.pieces) (ap pieces_of same)))

  -- or nothing
  pub same_held : (one other : Option Content) → IfSome one (IsContentWithin ones)
      → IfSome other (IsContentWithin others)
      → option_map (content_named orders) one ≡ option_map (content_named orders) other → one ≡ other
  same_held None None within within' same = refl
  same_held None (Some other) within within' same = absurd (none-some (content_named orders other) same)
  same_held (Some one) None within within' same = absurd (none-some (content_named orders one) (sym same))
  same_held (Some one) (Some other) within within' same =
      ap Some (same_content one other within within'
      (same_Some (content_named orders one) (content_named orders other) same))
