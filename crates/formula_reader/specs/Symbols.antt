-- The symbols of a formula, and its tree.
use Rattle.std.specs.Prelude.{◌≡◌, ◌↔◌, ℕ, List, [], ◌∷◌, ◌++◌, Option, Some, None, option_map, option_and_then, map}
use Rattle.formula_reader.specs.declared.tokens.token.Placed.{Placed}
use Rattle.formula_reader.specs.declared.tokens.token.Token.{Token}
use Rattle.formula_reader.specs.declared.tokens.token.Token.TheVariants as token
use Rattle.formula_reader.specs.Tokens.{AreTokens}
use Rattle.ref_rewrite.specs.declared.pieces.Formula.{Formula}
use Rattle.ref_rewrite.specs.declared.pieces.Piece.{Piece}
use Rattle.ref_rewrite.specs.declared.pieces.Piece.TheVariants as piece
use Rattle.formula_reader.specs.declared.symbols.Symbol.{Symbol}
use Rattle.formula_reader.specs.declared.symbols.Symbol.TheVariants as symbol
use Rattle.grid_range.specs.declared.area.Area.{Area}
use Rattle.formula_reader.specs.Pieces.{area_on}
use Rattle.formula_reader.specs.Sheets.{Sheets, sheet_named}
use Rattle.formula_reader.specs.Tree.{Expression}
use Rattle.formula_reader.specs.Grammar.{HasTree}
use Rattle.formula_reader.specs.Limits.{passed_by_symbols}

-- the symbol of a token; references, words and #REF! are pieces of their own
abbrev pub symbol_of : Token → Option Symbol
symbol_of (token.Number n) = Some (symbol.Number n)
symbol_of (token.Text text) = Some (symbol.Text text)
symbol_of (token.Truth b) = Some (symbol.Truth b)
symbol_of (token.Function name) = Some (symbol.Function name)
symbol_of (token.Operator op) = Some (symbol.Operator op)
symbol_of token.Open = Some symbol.Open
symbol_of token.Close = Some symbol.Close
symbol_of token.Comma = Some symbol.Comma
symbol_of (token.Reference written) = None
symbol_of (token.TitledReference title written) = None
symbol_of (token.Word word) = None
symbol_of token.Lost = None

-- the symbols of tokens, None where one of them has none
abbrev pub symbols_of : List Placed → Option (List Symbol)
symbols_of [] = Some []
symbols_of (placed ∷ later) =
    option_and_then (λ first. option_map (λ others. first ∷ others) (symbols_of later)) (symbol_of placed.token)

-- the symbol of a reference to these cells, or of a lost one
abbrev pub cells_or_lost : Option Area → Symbol
cells_or_lost (Some area) = symbol.Ref area
cells_or_lost None = symbol.Lost

-- the symbol of a token that is read in a formula of the sheet `here`: a reference is the cells that it names
-- there, or it is lost
abbrev pub symbol_read : Sheets → ℕ → Token → Symbol
symbol_read sheets here (token.Reference written) = cells_or_lost (area_on sheets here written)
symbol_read sheets here (token.TitledReference title written) =
    cells_or_lost (option_and_then (λ sheet. area_on sheets sheet written) (sheet_named sheets title))
symbol_read sheets here (token.Word word) = symbol.Word word
symbol_read sheets here (token.Number n) = symbol.Number n
symbol_read sheets here (token.Text text) = symbol.Text text
symbol_read sheets here (token.Truth b) = symbol.Truth b
symbol_read sheets here (token.Function name) = symbol.Function name
symbol_read sheets here (token.Operator op) = symbol.Operator op
symbol_read sheets here token.Lost = symbol.Lost
symbol_read sheets here token.Open = symbol.Open
symbol_read sheets here token.Close = symbol.Close
symbol_read sheets here token.Comma = symbol.Comma

abbrev pub symbols_read : Sheets → ℕ → List Placed → List Symbol
symbols_read sheets here tokens = map (symbol_read sheets here) (map (λ placed. placed.token) tokens)

-- the symbols of a piece: a text has those of its tokens, and each other piece is one
abbrev pub AreOfPiece : Piece → List Symbol → Type 0
AreOfPiece (piece.Text text) symbols =
    (tokens : List Placed) × AreTokens text 0 tokens × (symbols_of tokens ≡ Some symbols)
AreOfPiece (piece.Word word) symbols = symbols ≡ symbol.Word word ∷ []
AreOfPiece (piece.Ref reference) symbols = symbols ≡ symbol.Ref reference.area ∷ []
AreOfPiece piece.Lost symbols = symbols ≡ symbol.Lost ∷ []

-- the symbols of pieces, of one behind those of another
abbrev pub AreOfPieces : List Piece → List Symbol → Type 0
AreOfPieces [] symbols = symbols ≡ []
AreOfPieces (first ∷ later) symbols =
    (front back : List Symbol) × AreOfPiece first front × AreOfPieces later back × (symbols ≡ front ++ back)

-- the symbols of a formula: its text begins with `=` (61), and they are what is behind it
abbrev pub AreSymbolsOf : List Piece → List Symbol → Type 0
AreSymbolsOf (piece.Text text ∷ later) symbols =
    (behind : List ℕ) × (text ≡ 61 ∷ behind) × AreOfPieces (piece.Text behind ∷ later) symbols
AreSymbolsOf _ symbols = ⊥

-- the formula has that tree
abbrev pub IsTreeOf : Formula → Expression → Type 0
IsTreeOf formula tree = (symbols : List Symbol) × AreSymbolsOf formula.pieces symbols × HasTree symbols tree

-- the formula's trees are those of the tokens that were read
abbrev pub HasTreeOfTokens : Sheets → ℕ → List Placed → Formula → Type 0
HasTreeOfTokens sheets here tokens formula =
    (tree : Expression) → IsTreeOf formula tree ↔ HasTree (symbols_read sheets here tokens) tree

-- the formula's symbols pass no limit
abbrev pub KeepsLimits : Formula → Type 0
KeepsLimits formula =
    (symbols : List Symbol) → AreSymbolsOf formula.pieces symbols → passed_by_symbols symbols ≡ None
