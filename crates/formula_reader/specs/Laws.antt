-- Laws of formulas, in the words of a reader of their texts.
use Rattle.std.specs.Prelude.{◌≡◌, ℕ, false, List, Option}
use Rattle.std.specs.List.{AllZip}
use Rattle.grid_range.specs.declared.band.Band.TheVariants.{Span}
use Rattle.ref_rewrite.specs.declared.pieces.Formula.{Formula}
use Rattle.ref_rewrite.specs.declared.reference.Marks.{Marks}
use Rattle.a1_notation.specs.declared.column.TheConstants.{NAMED_COLUMNS}
use Rattle.a1_notation.specs.declared.row.TheConstants.{NUMBERED_ROWS}
use Rattle.a1_notation.specs.Canonical.{IsStretch, area_text}
use Rattle.formula_reader.specs.declared.symbols.Symbol.{Symbol}
use Rattle.formula_reader.specs.declared.tokens.token.Placed.{Placed}
use Rattle.formula_reader.specs.declared.fault.FormulaFault.{FormulaFault}
use Rattle.formula_reader.specs.Changed.{MayBecome}
use Rattle.formula_reader.specs.Pieces.{IsRead}
use Rattle.formula_reader.specs.Sheets.{Sheets}
use Rattle.formula_reader.specs.ReferenceText.{reference_text}
use Rattle.formula_reader.specs.Symbols.{AreSymbolsOf, IsTreeOf, KeepsLimits}
use Rattle.formula_reader.specs.Tokens.{AreTokens}
use Rattle.formula_reader.specs.Tree.{Expression}

-- a text has one list of tokens at most
abbrev pub HasOneTokens : Type 0
HasOneTokens = (text : List ℕ) (one other : List Placed) → AreTokens text 0 one → AreTokens text 0 other → one ≡ other

-- a text is read as one formula, and passes one limit first, if any
abbrev pub IsReadOnce : Type 0
IsReadOnce = (sheets : Sheets) (here : ℕ) (text : List ℕ) (one other : Formula) (limit limit' : Option FormulaFault)
    → IsRead sheets here text one limit → IsRead sheets here text other limit' → (one ≡ other) × (limit ≡ limit')

-- a formula has one list of symbols at most
abbrev pub HasOneSymbols : Type 0
HasOneSymbols = (formula : Formula) (one other : List Symbol) → AreSymbolsOf formula.pieces one
    → AreSymbolsOf formula.pieces other → one ≡ other

-- a formula has one tree at most
abbrev pub HasOneTree : Type 0
HasOneTree = (formula : Formula) (one other : Expression) → IsTreeOf formula one → IsTreeOf formula other → one ≡ other

-- a formula that keeps the limits becomes one that keeps them, as its pieces may become
abbrev pub LimitsStay : Type 0
LimitsStay = (one other : Formula) → AllZip MayBecome one.pieces other.pieces → KeepsLimits one → KeepsLimits other

-- no coordinate is marked
abbrev pub no_marks : Marks
no_marks = record { row1 = false; col1 = false; row2 = false; col2 = false }

-- a reference without marks and without a title is printed as the canonical text of its area
abbrev pub PrintsCanonically : Type 0
PrintsCanonically = (rows columns : ℕ × ℕ) → IsStretch rows NUMBERED_ROWS → IsStretch columns NAMED_COLUMNS
    → reference_text (Span rows.0 rows.1) (Span columns.0 columns.1) no_marks ≡ area_text rows columns
