-- Cutting a formula text into its pieces.
use Rattle.std.proofs.Common.{◌≡◌, ℕ, suc, ◌+◌, ◌≤◌, List, [], ◌∷◌, Option, None, refl, sym, ◌∙◌, arith, subst}
use Rattle.std.specs.Prelude.{All, IfOk, IfSome, Some, Result, Ok, Err}
use Rattle.std.specs.Str.{IsCharBoundary}
use Rattle.std.proofs.lemmas.List.Elements.{All-head, All-tail}
use Rattle.formula_reader.specs.Boundaries.{HasBoundaries, HasCells}
use Rattle.formula_reader.specs.Tokens.{AreTokens}
use Rattle.ref_rewrite.specs.declared.pieces.Piece.{Piece}
use Rattle.formula_reader.specs.declared.tokens.token.Placed.{Placed}
use Rattle.formula_reader.specs.Sheets.{Sheets}
use Rattle.formula_reader.specs.Pieces.{piece_of, pieces_from}
use Rattle.formula_reader.specs.Cuts.{Cuts}

pub cuts_earlier : (text : List ℕ) (from later : ℕ) (tokens : List Placed) → from ≤ later → Cuts text later tokens
    → Cuts text from tokens
cuts_earlier text from later [] less cuts = tt
cuts_earlier text from later (placed ∷ rest) less cuts = (
  record {
    after = omega (arith, less, cuts.0.after);
    ordered = cuts.0.ordered;
    front = cuts.0.front;
    back = cuts.0.back;
    cells = cuts.0.cells;
  },
  cuts.1,
)

-- a token without a piece is skipped
pub cuts_skipped : (text : List ℕ) (from : ℕ) (tokens rest : List Placed) (placed : Placed) → tokens ≡ placed ∷ rest
    → Cuts text from tokens → Cuts text from rest
cuts_skipped text from tokens rest placed is cuts =
    let first : Cuts text from (placed ∷ rest) = subst (Cuts text from) is cuts in
    cuts_earlier text from (placed.end + 1) rest (omega (arith, first.0.after, first.0.ordered)) first.1

pub pieces_skipped : (sheets : Sheets) (here : ℕ) (text : List ℕ) (from : ℕ) (tokens rest : List Placed)
    (placed : Placed) (found : Option Piece)
    → tokens ≡ placed ∷ rest → found ≡ piece_of sheets here placed.token → found ≡ None
    → pieces_from sheets here text from rest ≡ pieces_from sheets here text from tokens
pieces_skipped sheets here text from tokens rest placed found is of none =
    rw (is, sym of ∙ none) refl

-- a place between two characters behind the =
boundary_behind : (rest : List ℕ) (place : ℕ) → IsCharBoundary rest place → IsCharBoundary (61 ∷ rest) (place + 1)
boundary_behind rest place is =
    let next : place + 1 ≡ suc place = omega arith in
    (omega (arith, is.0), λ less. rw next (is.1 (omega (arith, less))))

-- a text can be cut at the tokens behind its =
pub cuts_of : (rest : List ℕ) (from before : ℕ) (tokens : List Placed) → before ≤ from + 1 → AreTokens rest from tokens
    → All (HasBoundaries rest) tokens → All (λ placed. HasCells placed.token) tokens → Cuts (61 ∷ rest) before tokens
cuts_of rest from before [] less are all cells = tt
cuts_of rest from before (placed ∷ later) less are all cells =
    let own = All-head (HasBoundaries rest) placed later all in (
      record {
        after = omega (arith, less, are.0.before);
        ordered = are.0.ordered;
        front = boundary_behind rest placed.start own.front;
        back = boundary_behind rest placed.end own.back;
        cells = All-head (λ p. HasCells p.token) placed later cells;
      },
      cuts_of rest placed.end (placed.end + 1) later (omega arith) are.1
          (All-tail (HasBoundaries rest) placed later all)
          (All-tail (λ p. HasCells p.token) placed later cells),
    )

-- and so it can, where its tokens are told
pub found_cuts : {E : Type 0} (text behind : List ℕ) (told : Result (Option (List Placed)) E) → text ≡ 61 ∷ behind
    → IfOk told (λ found. IfSome found (AreTokens behind 0))
    → IfOk told (λ found. IfSome found (All (HasBoundaries behind)))
    → IfOk told (λ found. IfSome found (All (λ placed. HasCells placed.token)))
    → IfOk told (λ found. IfSome found (Cuts text 0))
found_cuts text behind (Err error) begins are all cells = tt
found_cuts text behind (Ok None) begins are all cells = tt
found_cuts text behind (Ok (Some tokens)) begins are all cells =
    subst (λ whole. Cuts whole 0 tokens) (sym begins) (cuts_of behind 0 0 tokens (omega arith) are all cells)
