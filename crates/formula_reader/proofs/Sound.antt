-- A token of a text stands between characters, and a reference has a row and a column.
use Rattle.std.proofs.Common.{rules, ◌≡◌, ℕ, ◌+◌, ◌≤◌, List, [], ◌∷◌, ◌++◌, length, drop, Option, Some, None, inl, inr, refl, sym, ap, ◌∙◌, arith, subst}
use Rattle.std.specs.Prelude.{⊤, All, slice_range}
use Rattle.std.specs.Str.{IsUtf8, IsCharBoundary}
use Rattle.std.proofs.lemmas.List.{drop_at, drop-drop, length-append}
use Rattle.std.proofs.lemmas.List.Elements.{All-cons, All-push}
use Rattle.std.proofs.lemmas.Str.{IsCharBoundary-from_drop}
use Rattle.grid_range.specs.declared.band.Band.{Band}
use Rattle.grid_range.specs.Band.{IsNonEmpty}
use Rattle.a1_notation.specs.declared.corner.Corner.{Corner}
use Rattle.a1_notation.specs.declared.corner.Corner.TheVariants.{Cell, Column, Row}
use Rattle.a1_notation.specs.Area.{area_between, lines_between}
use Rattle.formula_reader.specs.declared.tokens.token.Token.{Token}
use Rattle.formula_reader.specs.declared.tokens.token.MarkedArea.{MarkedArea}
use Rattle.formula_reader.specs.declared.tokens.token.Placed.{Placed}
use Rattle.formula_reader.specs.Corner.{unmarked}
use Rattle.formula_reader.specs.Reference.{IsPart, IsReference}
use Rattle.formula_reader.specs.Form.{Form, Fits, Titled, FunctionName, OwnReference, AnyWord, Digits, Quoted, Sign, word_token}
use Rattle.formula_reader.specs.Tokens.{FitsFirst, forms, AreTokens}
use Rattle.formula_reader.specs.Reading.{Reads}
use Rattle.formula_reader.specs.Boundaries.{HasBoundaries, NamesCells, HasCells}
use Rattle.formula_reader.proofs.Scans.{start_of_rest, Scanned}

between_has_lines : (a b : ℕ) → IsNonEmpty (lines_between a b)
between_has_lines a b = omega arith

abbrev IsArea : Option (Band × Band) → Type 0
IsArea None = ⊤
IsArea (Some area) = IsNonEmpty area.0 × IsNonEmpty area.1

corners_have_lines : (one other : Corner) → IsArea (area_between one other)
corners_have_lines (Cell row column) (Cell row' column') =
    (between_has_lines row row', between_has_lines column column')
corners_have_lines (Cell row column) (Column column') = (tt, between_has_lines column column')
corners_have_lines (Column column) (Column column') = (tt, between_has_lines column column')
corners_have_lines (Row row) (Row row') = (between_has_lines row row', tt)
corners_have_lines (Cell row column) (Row row') = tt
corners_have_lines (Column column) (Cell row column') = tt
corners_have_lines (Column column) (Row row) = tt
corners_have_lines (Row row) (Cell row' column) = tt
corners_have_lines (Row row) (Column column) = tt

part_names_cells : (part : List ℕ) (written : MarkedArea) → IsPart part written → NamesCells written
part_names_cells part written (inl cell) =
    let corner = Cell cell.row.line cell.column.line in
    subst IsArea cell.named.area (corners_have_lines corner corner)
part_names_cells part written (inr two) =
    subst IsArea two.named.area (corners_have_lines (unmarked two.one) (unmarked two.other))

reference_names_cells : (part : List ℕ) (written : MarkedArea) (rest : List ℕ) → IsReference part written rest
    → NamesCells written
reference_names_cells part written rest is = part_names_cells part written is.stands.part_is

word_has_cells : (word : List ℕ) → HasCells (word_token word)
word_has_cells word = search rules

-- the token of a sign has no cells to speak of
abbrev IsPlain : Form → Type 0
IsPlain Titled = ⊤
IsPlain FunctionName = ⊤
IsPlain OwnReference = ⊤
IsPlain AnyWord = ⊤
IsPlain Digits = ⊤
IsPlain Quoted = ⊤
IsPlain (Sign spelling token) = HasCells token

fits_has_cells : (form : Form) (lexeme : List ℕ) (token : Token) (rest : List ℕ) → IsPlain form
    → Fits form lexeme token rest → HasCells token
fits_has_cells Titled lexeme token rest plain fits =
    rw fits.token_is (reference_names_cells fits.reference.part fits.written rest fits.reference.reference)
fits_has_cells FunctionName lexeme token rest plain fits = rw fits.token_is tt
fits_has_cells OwnReference lexeme token rest plain fits =
    rw fits.token_is (reference_names_cells lexeme fits.written rest fits.reference)
fits_has_cells AnyWord lexeme token rest plain fits = rw fits.token_is (word_has_cells lexeme)
fits_has_cells Digits lexeme token rest plain fits = rw fits.token_is tt
fits_has_cells Quoted lexeme token rest plain fits = rw fits.token_is tt
fits_has_cells (Sign spelling sign) lexeme token rest plain fits = rw fits.1 plain

abbrev ArePlain : List Form → Type 0
ArePlain [] = ⊤
ArePlain (form ∷ later) = IsPlain form × ArePlain later

first_has_cells : (tried : List Form) (lexeme : List ℕ) (token : Token) (rest : List ℕ) → ArePlain tried
    → FitsFirst tried lexeme token rest → HasCells token
first_has_cells [] lexeme token rest plain fits = absurd fits
first_has_cells (form ∷ later) lexeme token rest plain (inl fits) = fits_has_cells form lexeme token rest plain.0 fits
first_has_cells (form ∷ later) lexeme token rest plain (inr fits) =
    first_has_cells later lexeme token rest plain.1 fits.1

pub token_has_cells : (lexeme : List ℕ) (token : Token) (rest : List ℕ) → FitsFirst forms lexeme token rest
    → HasCells token
token_has_cells lexeme token rest fits =
    first_has_cells forms lexeme token rest (
      tt,
      (
        tt,
        (
          tt,
          (
            tt,
            (
              tt,
              (tt, (tt, (tt, (tt, (tt, (tt, (tt, (tt, (tt, (tt, (tt, (tt, (tt, (tt, (tt, (tt, tt)))))))))))))))),
            ),
          ),
        ),
      ),
    )
    fits

-- and so has each token of a text
pub tokens_have_cells : (text : List ℕ) (from : ℕ) (tokens : List Placed) → AreTokens text from tokens
    → All (λ placed. HasCells placed.token) tokens
tokens_have_cells text from [] are = λ k d less. absurd (omega (arith, less))
tokens_have_cells text from (placed ∷ later) are =
    All-cons (λ p. HasCells p.token) placed later
    (token_has_cells (slice_range text placed.start placed.end) placed.token (drop placed.end text) are.0.fits)
    (tokens_have_cells text placed.end later are.1)

-- the text can be cut before a rest that is a text
pub boundary_at : (text rest : List ℕ) → length rest ≤ length text → rest ≡ drop (start_of_rest text rest) text
    → IsUtf8 rest → IsCharBoundary text (start_of_rest text rest)
boundary_at text rest within is utf8 =
    IsCharBoundary-from_drop text (start_of_rest text rest) (omega arith) (subst IsUtf8 is utf8)

-- and behind the token that the rest begins with
pub boundary_behind : (text rest behind lexeme : List ℕ) → length rest ≤ length text
    → rest ≡ drop (start_of_rest text rest) text → rest ≡ lexeme ++ behind
    → IsUtf8 behind → IsCharBoundary text (start_of_rest text behind)
boundary_behind text rest behind lexeme within is split utf8 =
    let long : length rest ≡ length lexeme + length behind = ap length split ∙ length-append lexeme behind in
    let place : start_of_rest text rest + length lexeme ≡ start_of_rest text behind = omega (arith, long, within) in
    let there : behind ≡ drop (start_of_rest text behind) text =
    sym (drop_at lexeme behind (length lexeme) refl) ∙ ap (drop (length lexeme)) (sym split ∙ is)
    ∙ drop-drop (length lexeme) (start_of_rest text rest) text ∙ ap (λ n. drop n text) place in
    boundary_at text behind (omega (arith, long, within)) there utf8

pub boundaries_next : (text rest : List ℕ) (tokens : List Placed) → Scanned text rest tokens
    → (token : Token) (behind : List ℕ) (start end : ℕ)
    → start ≡ start_of_rest text rest → end ≡ start_of_rest text behind → Reads (FitsFirst forms) rest
    (Some (token, behind))
    → IsUtf8 rest → IsUtf8 behind → All (HasBoundaries text) tokens
    → (pushed : List Placed) → pushed ≡ tokens ++ record { start = start; end = end; token = token } ∷ []
    → All (HasBoundaries text) pushed
boundaries_next text rest tokens scanned token behind start end start_is end_is reads rest_utf8 behind_utf8 all
    pushed is =
    let own : HasBoundaries text (record { start = start; end = end; token = token }) = record {
      front = rw start_is (boundary_at text rest scanned.within scanned.rest_is rest_utf8);
      back =
          rw end_is
          (boundary_behind text rest behind reads.found.lexeme scanned.within scanned.rest_is reads.found.spelled
          behind_utf8);
    } in
    subst (All (HasBoundaries text)) (sym is)
    (All-push (HasBoundaries text) tokens (record { start = start; end = end; token = token }) all own)
