-- What is read can be printed and read again if it has a tree.
use Rattle.a1_notation.specs.Laws.{A1Laws}
use Rattle.std.proofs.Common.{◌≡◌, ℕ, List, ◌∷◌, Result, Err, sym, ◌∙◌, subst}
use Rattle.std.specs.Prelude.{◌⊎◌, None, IfOk, All}
use Rattle.ref_rewrite.specs.declared.pieces.Formula.{Formula}
use Rattle.ref_rewrite.specs.declared.pieces.Piece.{Piece}
use Rattle.formula_reader.specs.declared.tokens.token.Placed.{Placed}
use Rattle.formula_reader.specs.Tokens.{AreTokens}
use Rattle.formula_reader.specs.declared.fault.FormulaFault.{FormulaFault}
use Rattle.formula_reader.specs.declared.fault.FormulaFault.TheVariants as fault
use Rattle.formula_reader.specs.Sheets.{Sheets}
use Rattle.formula_reader.specs.Limits.{passed, passed_by_symbols}
use Rattle.formula_reader.specs.Pieces.{one_text, pieces_from, formula_of, AreTokensOf}
use Rattle.formula_reader.specs.Printed.{ArePrintable}
use Rattle.formula_reader.specs.declared.symbols.Symbol.{Symbol}
use Rattle.formula_reader.specs.Symbols.{symbols_read, AreSymbolsOf, IsTreeOf, HasTreeOfTokens, KeepsLimits}
use Rattle.formula_reader.specs.Tree.{Expression}
use Rattle.formula_reader.specs.ReadBack.{AreKnown, IsPresent, IsReadable}
use Rattle.formula_reader.specs.Grammar.{HasTree}
use Rattle.formula_reader.proofs.OneToken.{tokens_once}
use Rattle.formula_reader.proofs.OneTree.{formula_once}
use Rattle.formula_reader.proofs.SymbolsRead.{read_symbols, symbols_within}
use Rattle.formula_reader.proofs.ReadReferences.{pieces_seen}
use Rattle.formula_reader.proofs.WellFormed.{pieces_formed}
use Rattle.formula_reader.proofs.Within.{read_has}

-- the references of the formula can be printed, and are to cells in the grid
abbrev pub HasReferences : Sheets → ℕ → Formula → Type 0
HasReferences sheets here formula =
    AreKnown sheets here → ArePrintable sheets formula.pieces × All (IsPresent sheets here) formula.pieces

-- if it has a tree, it is read again as it is printed
abbrev pub CanBeReadAgain : Sheets → ℕ → Formula → Type 0
CanBeReadAgain sheets here formula =
    AreKnown sheets here → (tree : Expression) → IsTreeOf formula tree → IsReadable sheets here formula

-- the pieces of a text with tokens behind its =, whatever limits these pass
pub pieces_referring : (a1 : A1Laws) (sheets : Sheets) (here : ℕ) (behind : List ℕ) (tokens : List Placed)
    → AreTokens behind 0 tokens
    → HasReferences sheets here (record { pieces = pieces_from sheets here (61 ∷ behind) 0 tokens })
pieces_referring a1 sheets here behind tokens are known =
    let seen = pieces_seen sheets here a1 known behind tokens are in
    (λ k d less. (seen k d less).0, λ k d less. (seen k d less).1)

-- what is read of a text with tokens behind its =
module _ (a1 : A1Laws) (sheets : Sheets) (here : ℕ) (text behind : List ℕ) (tokens : List Placed)
    (result : Result Formula FormulaFault)
    (begins : text ≡ 61 ∷ behind) (are : AreTokens behind 0 tokens)
    (is : (result ≡ formula_of sheets here text tokens) ⊎ (result ≡ Err fault.NoMemory)) where
  abbrev pieces : List Piece
  pieces = pieces_from sheets here (61 ∷ behind) 0 tokens

  pub read_references : IfOk result (HasReferences sheets here)
  read_references =
      read_has (HasReferences sheets here) sheets here text tokens result
      (λ within. rw begins (pieces_referring a1 sheets here behind tokens are)) is

  abbrev symbols : List Symbol
  symbols = symbols_read sheets here tokens

  -- its symbols are those of the tokens, and pass no limit
  symbols_are : AreSymbolsOf pieces symbols
  symbols_are = read_symbols sheets here a1.quotes_end behind tokens are

  only_these : (all : List Symbol) → AreSymbolsOf pieces all → symbols ≡ all
  only_these all are_all = formula_once a1.quotes_end pieces symbols all symbols_are are_all

  pieces_within : passed tokens ≡ None → KeepsLimits (record { pieces = pieces })
  pieces_within within all are_all =
      subst (λ all. passed_by_symbols all ≡ None) (only_these all are_all)
      (symbols_within sheets here a1.quotes_end behind tokens are within)

  pub read_within : IfOk result KeepsLimits
  read_within = read_has KeepsLimits sheets here text tokens result (λ within. rw begins (pieces_within within)) is

  pieces_tree : HasTreeOfTokens sheets here tokens (record { pieces = pieces })
  pieces_tree tree = (
    λ has. subst (λ all. HasTree all tree) (sym (only_these has.0 has.1)) has.2,
    λ has. (symbols, symbols_are, has),
  )

  pub read_tree : (all : List Placed) → AreTokensOf text all → IfOk result (HasTreeOfTokens sheets here all)
  read_tree all are_all =
      let whole : 61 ∷ are_all.0 ≡ 61 ∷ behind = sym are_all.1 ∙ begins in
      let same_behind : are_all.0 ≡ behind = cc in
      let same : all ≡ tokens =
      tokens_once a1.quotes_end behind 0 all tokens
      (subst (λ (b : List ℕ). AreTokens b 0 all) same_behind are_all.2) are
      in
      rw same
      (read_has (HasTreeOfTokens sheets here tokens) sheets here text tokens result
      (λ within. rw begins pieces_tree) is)

  pieces_readable : passed tokens ≡ None → CanBeReadAgain sheets here (record { pieces = pieces })
  pieces_readable within known tree has = record {
    tree = tree;
    tree_is = has;
    limits = pieces_within within has.0 has.1;
    form = pieces_formed sheets here behind tokens are tree has;
    references = (pieces_referring a1 sheets here behind tokens are known).1;
  }

  pub read_readable : IfOk result (CanBeReadAgain sheets here)
  read_readable =
      read_has (CanBeReadAgain sheets here) sheets here text tokens result
      (λ within. rw begins (pieces_readable within)) is

-- what is read of a text without tokens has no tree
module _ (text : List ℕ) (formula : Formula) (is : formula ≡ one_text text)
    (none : (tokens : List Placed) → ¬ (AreTokensOf text tokens)) where
  no_symbols : (symbols : List Symbol) → AreSymbolsOf formula.pieces symbols → ⊥
  no_symbols symbols has =
      let (behind, begins, of) : AreSymbolsOf (one_text text).pieces symbols = rw is at has in
      let (front, back, piece, rest, same) = of in
      none piece.0 (behind, begins, piece.1)

  pub text_within : KeepsLimits formula
  text_within symbols has = absurd (no_symbols symbols has)

  pub text_readable : (sheets : Sheets) (here : ℕ) → CanBeReadAgain sheets here formula
  text_readable sheets here known tree has = absurd (no_symbols has.0 has.1)
