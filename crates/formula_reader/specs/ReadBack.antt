-- What a formula becomes that is printed and read again.
use Rattle.std.specs.Prelude.{◌≡◌, ℕ, ⊤, ◌<◌, Bool, true, false, not, ◌&&◌, List, [], ◌∷◌, Some, None, Ok, length, map}
use Rattle.std.specs.List.{All}
use Rattle.grid_range.specs.declared.band.Band.{Band}
use Rattle.grid_range.specs.declared.band.Band.TheVariants.{Whole, From, Span}
use Rattle.ref_rewrite.specs.declared.reference.Marks.{Marks}
use Rattle.ref_rewrite.specs.declared.reference.Ref.{Ref}
use Rattle.ref_rewrite.specs.declared.pieces.Formula.{Formula}
use Rattle.ref_rewrite.specs.declared.pieces.Piece.{Piece}
use Rattle.ref_rewrite.specs.declared.pieces.Piece.TheVariants as piece
use Rattle.formula_reader.specs.declared.tokens.token.Token.TheVariants as token
use Rattle.formula_reader.specs.declared.tokens.token.Placed.{Placed}
use Rattle.formula_reader.specs.Tokens.{FitsFirst, forms}
use Rattle.formula_reader.specs.Sheets.{Sheets, HasTitle, sheet_named}
use Rattle.formula_reader.specs.ReferenceText.{is_one_cell}
use Rattle.formula_reader.specs.Limits.{passed_by_symbols}
use Rattle.formula_reader.specs.Pieces.{clipped, AreTokensOf, formula_of}
use Rattle.formula_reader.specs.Symbols.{IsTreeOf}
use Rattle.formula_reader.specs.Tree.{Expression}

-- whether a band has a first line that is written, and a last one
abbrev pub has_first : Band → Bool
has_first Whole = false
has_first (From start) = true
has_first (Span start end) = true

abbrev pub has_last : Band → Bool
has_last Whole = false
has_last (From start) = false
has_last (Span start end) = true

-- the marks that are printed: a cell prints one corner, and a corner the coordinates that it has
abbrev pub printed_marks : Band → Band → Marks → Marks
printed_marks rows cols marks = record {
  row1 = has_first rows && marks.row1;
  col1 = has_first cols && marks.col1;
  row2 = not (is_one_cell rows cols) && has_last rows && marks.row2;
  col2 = not (is_one_cell rows cols) && has_last cols && marks.col2;
}

-- the piece with the marks that are printed
abbrev pub piece_as_printed : Piece → Piece
piece_as_printed (piece.Text text) = piece.Text text
piece_as_printed (piece.Word word) = piece.Word word
piece_as_printed (piece.Ref reference) =
    piece.Ref (record reference { marks = printed_marks reference.area.rows reference.area.cols reference.marks })
piece_as_printed piece.Lost = piece.Lost

-- the formula with them
abbrev pub as_printed : Formula → Formula
as_printed formula = record { pieces = map piece_as_printed formula.pieces }

-- a word alone is that word: it is no reference and no truth value
abbrev pub IsOwnWord : List ℕ → Type 0
IsOwnWord word = FitsFirst forms word (token.Word word) []

-- a piece as reading leaves it
abbrev pub IsWellFormed : Piece → Type 0
IsWellFormed (piece.Text text) = 0 < length text
IsWellFormed (piece.Word word) = IsOwnWord word
IsWellFormed (piece.Ref reference) = ⊤
IsWellFormed piece.Lost = ⊤

-- no text stands right before another
abbrev pub NoTextFirst : List Piece → Type 0
NoTextFirst (piece.Text text ∷ later) = ⊥
NoTextFirst _ = ⊤

abbrev pub AreApart : List Piece → Type 0
AreApart [] = ⊤
AreApart (piece.Text text ∷ later) = NoTextFirst later × AreApart later
AreApart (piece.Word word ∷ later) = AreApart later
AreApart (piece.Ref reference ∷ later) = AreApart later
AreApart (piece.Lost ∷ later) = AreApart later

pub record AreWellFormed (pieces : List Piece) : Type 0 where
  pub apart : AreApart pieces
  pub each : All IsWellFormed pieces

-- a sheet has a title, which names it
pub record IsKnown (sheets : Sheets) (sheet : ℕ) : Type 0 where
  pub titled : HasTitle sheets sheet
  pub names : sheet_named sheets titled.title ≡ Some sheet

-- the sheet `here` has a title, and each sheet that a title names has one that names it
pub record AreKnown (sheets : Sheets) (here : ℕ) : Type 0 where
  pub own : HasTitle sheets here
  pub others : (title : List ℕ) (sheet : ℕ) → sheet_named sheets title ≡ Some sheet → IsKnown sheets sheet

-- the sheet of a reference in a formula of the sheet `here`: one that its title names, if it is written
-- with one
abbrev pub IsSheetOf : Sheets → ℕ → Bool → ℕ → Type 0
IsSheetOf sheets here true sheet = IsKnown sheets sheet
IsSheetOf sheets here false sheet = sheet ≡ here

-- the reference's sheet can be told, and its cells are in the grid
pub record IsPresentReference (sheets : Sheets) (here : ℕ) (reference : Ref) : Type 0 where
  pub sheet : IsSheetOf sheets here reference.named reference.area.sheet
  pub inside : clipped reference.area (sheets.size reference.area.sheet) ≡ Some reference.area

-- so is each reference among the pieces
abbrev pub IsPresent : Sheets → ℕ → Piece → Type 0
IsPresent sheets here (piece.Text text) = ⊤
IsPresent sheets here (piece.Word word) = ⊤
IsPresent sheets here (piece.Ref reference) = IsPresentReference sheets here reference
IsPresent sheets here piece.Lost = ⊤

-- a formula that is read again as it is printed, on the sheet `here`: it has a tree and keeps the limits,
-- its pieces are as reading leaves them, and the cells of its references are in the grid
pub record IsReadable (sheets : Sheets) (here : ℕ) (formula : Formula) : Type 0 where
  pub tree : Expression
  pub tree_is : IsTreeOf formula tree
  pub limits : passed_by_symbols tree_is.0 ≡ None
  pub form : AreWellFormed formula.pieces
  pub references : All (IsPresent sheets here) formula.pieces

-- the text is read as this formula, on the sheet `here`
pub record IsReadAs (sheets : Sheets) (here : ℕ) (text : List ℕ) (formula : Formula) : Type 0 where
  pub tokens : List Placed
  pub are : AreTokensOf text tokens
  pub formula_is : formula_of sheets here text tokens ≡ Ok formula
