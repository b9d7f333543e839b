-- In a formula with a tree no word goes on behind its piece.
use Rattle.std.proofs.Common.{◌≡◌, true, Bool, ℕ, false, List, [], ◌∷◌, map, refl, sym, ap, ◌∙◌, subst}
use Rattle.std.specs.Prelude.{⊤, Some}
use Rattle.std.proofs.lemmas.List.{map-append}
use Rattle.std.proofs.lemmas.Option.{none-some}
use Rattle.a1_notation.specs.Run.{begins}
use Rattle.formula_reader.proofs.Lexemes.{goes_on}
use Rattle.ref_rewrite.specs.declared.pieces.Piece.{Piece}
use Rattle.ref_rewrite.specs.declared.pieces.Piece.TheVariants as piece
use Rattle.formula_reader.specs.declared.symbols.Symbol.{Symbol}
use Rattle.formula_reader.specs.declared.symbols.Symbol.TheVariants as symbol
use Rattle.formula_reader.specs.Symbols.{AreOfPiece, AreOfPieces, AreSymbolsOf}
use Rattle.formula_reader.specs.Tree.{Expression}
use Rattle.formula_reader.specs.Grammar.{HasTree}
use Rattle.formula_reader.proofs.Neighbours.{operand, kind_of_symbol, State, before_operand, behind_operand, step, Leads, leads_behind, leads_apart, tree_leads}
use Rattle.formula_reader.proofs.Apart.{items_stand}
use Rattle.formula_reader.proofs.TextItems.{text_items}

-- an operand ends before these pieces: none, or first a text that ends it
abbrev pub EndsOperand : List Piece → Type 0
EndsOperand [] = ⊤
EndsOperand (piece.Text text ∷ later) = begins goes_on text ≡ false
EndsOperand _ = ⊥

-- each word among the pieces ends so
abbrev EndsBefore : Piece → List Piece → Type 0
EndsBefore (piece.Word word) later = EndsOperand later
EndsBefore _ later = ⊤

abbrev pub WordsEnd : List Piece → Type 0
WordsEnd [] = ⊤
WordsEnd (first ∷ later) = EndsBefore first later × WordsEnd later

-- the symbols of the pieces lead from one state to another
record PiecesLead (a : State) (pieces : List Piece) (b : State) : Type 0 where
  pub symbols : List Symbol
  pub are : AreOfPieces pieces symbols
  pub leads : Leads a (map kind_of_symbol symbols) b

-- those of the first piece and those of the others
record FirstLeads (a : State) (first : Piece) (later : List Piece) (b : State) : Type 0 where
  pub front : List Symbol
  pub state : State
  pub is : AreOfPiece first front
  pub leads : Leads a (map kind_of_symbol front) state
  pub rest : PiecesLead state later b

first_leads : (a : State) (first : Piece) (later : List Piece) (b : State) → PiecesLead a (first ∷ later) b
    → FirstLeads a first later b
first_leads a first later b all =
    let front = all.are.0 in
    let back = all.are.1 in
    let parts =
    leads_apart a (map kind_of_symbol front) (map kind_of_symbol back) b
    (rw (all.are.4, map-append kind_of_symbol front back) at all.leads) in
    record {
      front = front;
      state = parts.0;
      is = all.are.2;
      leads = parts.1;
      rest = record { symbols = back; are = all.are.3; leads = parts.2 };
    }

-- a piece of one operand is one step
operand_steps : (a b : State) (front : List Symbol) (own : Symbol) (names : Bool) → front ≡ own ∷ []
    → kind_of_symbol own ≡ operand names
    → Leads a (map kind_of_symbol front) b → step a (operand names) ≡ Some b
operand_steps a b front own names is kind leads =
    let one : Leads a (kind_of_symbol own ∷ []) b = rw is at leads in
    let goes : step a (operand names) ≡ Some one.0 = rw kind at one.1 in
    goes ∙ ap (λ c. Some c) one.2

-- no operand stands behind one
no_operand_behind : (b : State) (front : List Symbol) (own : Symbol) (names : Bool) → front ≡ own ∷ []
    → kind_of_symbol own ≡ operand names
    → Leads behind_operand (map kind_of_symbol front) b → ⊥
no_operand_behind b front own names is kind leads =
    none-some b (operand_steps behind_operand b front own names is kind leads)

-- a text behind an operand ends it
text_ends : (text : List ℕ) (front : List Symbol) (b : State) → AreOfPiece (piece.Text text) front
    → Leads behind_operand (map kind_of_symbol front) b → begins goes_on text ≡ false
text_ends text front b is leads =
    let own = text_items text front is in
    rw own.1.of.spells
    at (items_stand own.0 behind_operand b own.1.of.are (subst (λ kinds. Leads behind_operand kinds b)
    (sym own.1.of.kinds_are) leads))

-- no other piece stands there
operand_ends : (pieces : List Piece) (b : State) → PiecesLead behind_operand pieces b → EndsOperand pieces
operand_ends [] b lead = tt
operand_ends (first ∷ later) b lead = ends first (first_leads behind_operand first later b lead)
  where
    ends : (first : Piece) → FirstLeads behind_operand first later b → EndsOperand (first ∷ later)
    ends (piece.Text text) lead = text_ends text lead.front lead.state lead.is lead.leads
    ends (piece.Word word) lead =
        no_operand_behind lead.state lead.front (symbol.Word word) true lead.is refl lead.leads
    ends (piece.Ref reference) lead =
        no_operand_behind lead.state lead.front (symbol.Ref reference.area) true lead.is refl lead.leads
    ends piece.Lost lead = no_operand_behind lead.state lead.front symbol.Lost false lead.is refl lead.leads

-- so each word ends before what stands behind it
word_ends : (a : State) (first : Piece) (later : List Piece) (b : State) → FirstLeads a first later b
    → EndsBefore first later
word_ends a (piece.Word word) later b lead =
    let behind : lead.state ≡ behind_operand =
    leads_behind a lead.state true
    (operand_steps a lead.state lead.front (symbol.Word word) true lead.is refl lead.leads) in
    operand_ends later b (subst (λ c. PiecesLead c later b) behind lead.rest)
word_ends a _ later b lead = tt

words_end : (a : State) (pieces : List Piece) (b : State) → PiecesLead a pieces b → WordsEnd pieces
words_end a [] b lead = tt
words_end a (first ∷ later) b lead =
    let parts = first_leads a first later b lead in
    (word_ends a first later b parts, words_end parts.state later b parts.rest)

-- as the symbols of a formula lead on behind its =, where it has a tree
pub tree_words_end : (pieces : List Piece) (symbols : List Symbol) (tree : Expression) → AreSymbolsOf pieces symbols
    → HasTree symbols tree → WordsEnd pieces
tree_words_end [] symbols tree are has = absurd are
tree_words_end (piece.Word word ∷ later) symbols tree are has = absurd are
tree_words_end (piece.Ref reference ∷ later) symbols tree are has = absurd are
tree_words_end (piece.Lost ∷ later) symbols tree are has = absurd are
tree_words_end (piece.Text text ∷ later) symbols tree are has =
    words_end before_operand (piece.Text are.0 ∷ later) behind_operand
    (record { symbols = symbols; are = are.2; leads = tree_leads symbols tree has })
