-- What holds of each token of a text: it stands between characters, and a reference has cells.
use Rattle.std.specs.Prelude.{ℕ, ⊤, List}
use Rattle.std.specs.Str.{IsCharBoundary}
use Rattle.grid_range.specs.Band.{IsNonEmpty}
use Rattle.formula_reader.specs.declared.tokens.token.Placed.{Placed}
use Rattle.formula_reader.specs.declared.tokens.token.Token.{Token}
use Rattle.formula_reader.specs.declared.tokens.token.Token.TheVariants.{Reference, TitledReference, Function, Word, Truth, Number, Text, Lost, Operator, Open, Close, Comma}
use Rattle.formula_reader.specs.declared.tokens.token.MarkedArea.{MarkedArea}

-- the text can be cut before and behind the token
pub record HasBoundaries (text : List ℕ) (placed : Placed) : Type 0 where
  pub front : IsCharBoundary text placed.start
  pub back : IsCharBoundary text placed.end

-- a row and a column are named
abbrev pub NamesCells : MarkedArea → Type 0
NamesCells written = IsNonEmpty written.rows × IsNonEmpty written.cols

-- a reference names a row and a column
abbrev pub HasCells : Token → Type 0
HasCells (Reference written) = NamesCells written
HasCells (TitledReference title written) = NamesCells written
HasCells (Function name) = ⊤
HasCells (Word word) = ⊤
HasCells (Truth truth) = ⊤
HasCells (Number number) = ⊤
HasCells (Text text) = ⊤
HasCells Lost = ⊤
HasCells (Operator operator) = ⊤
HasCells Open = ⊤
HasCells Close = ⊤
HasCells Comma = ⊤
