-- The formulas of a table whose words are renamed.
use Rattle.std.proofs.Common.{◌≡◌, ℕ, refl, sym, ap, ◌∙◌, List, [], ◌∷◌, cond, true, false}
use Rattle.std.specs.Prelude.{Result, Ok, Err, OnErr, OnOk, map}
use Rattle.std.specs.List.{AllZip, list_any}
use Rattle.std.proofs.lemmas.Bool.{or_parts}
use Rattle.ref_rewrite.specs.Renaming.{is_word, piece_renamed}
use Rattle.ref_rewrite.specs.declared.cell_content.Content.{Content}
use Rattle.ref_rewrite.specs.declared.cell_content.Content.TheVariants as content
use Rattle.ref_rewrite.specs.declared.pieces.Piece.{Piece}
use Rattle.ref_rewrite.specs.declared.pieces.Piece.TheVariants as piece
use Rattle.world_model.specs.Counts.{is_formula}
use Rattle.world_model.specs.RangeChange.{WordsRenamedIn, content_renamed}
use Rattle.world_model.specs.Sheet.{PlaceSheet}
use Rattle.dimension_ops.specs.Renaming.{AreNaming, has_word}
use Rattle.dimension_ops.proofs.Becoming.{items_become}

module _ (old new : List ℕ) where
  piece_stays : (one : Piece) → is_word old one ≡ false → piece_renamed old new one ≡ one
  piece_stays one is = ap (λ b. cond b (piece.Word new) one) is

  pieces_stay : (pieces : List Piece) → list_any (is_word old) pieces ≡ false
      → map (piece_renamed old new) pieces ≡ pieces
  pieces_stay [] is = refl
  pieces_stay (one ∷ pieces) is =
      let both = or_parts (is_word old one) (list_any (is_word old) pieces) is in
      ap (λ first. first ∷ map (piece_renamed old new) pieces) (piece_stays one both.0)
      ∙ ap (λ rest. one ∷ rest) (pieces_stay pieces both.1)

  -- what hasn't the word stays
  pub content_stays : (item : Content) → has_word old item ≡ false → content_renamed old new item ≡ item
  content_stays (content.Number number) is = refl
  content_stays (content.Text text) is = refl
  content_stays (content.Truth truth) is = refl
  content_stays (content.Formula formula) is =
      ap (λ pieces. content.Formula (record formula { pieces = pieces })) (pieces_stay formula.pieces is)

  -- where it isn't, nothing is renamed
  pub none_renamed : (one : PlaceSheet) → AreNaming old one.table [] → WordsRenamedIn old new one one
  none_renamed one none = record {
    id = refl;
    title = refl;
    hidden = refl;
    rows = refl;
    cols = refl;
    items = items_become (content_renamed old new) (has_word old) content_stays one.table [] none;
    merges = refl;
    filter = refl;
  }

  pub formula_stays : (item : Content) → is_formula (content_renamed old new item) ≡ is_formula item
  formula_stays (content.Number number) = refl
  formula_stays (content.Text text) = refl
  formula_stays (content.Truth truth) = refl
  formula_stays (content.Formula formula) = refl

  -- whether it was renamed or not, it is a formula if it was one
  pub still_formula : {E : Type 0} (answer : Result (Unit {0}) E) (before after : Content)
      → OnOk answer (after ≡ content_renamed old new before) → OnErr answer (after ≡ before)
      → is_formula after ≡ is_formula before
  still_formula (Ok done) before after renamed kept = ap is_formula renamed ∙ formula_stays before
  still_formula (Err error) before after renamed kept = ap is_formula kept

  pub ids_stay : (ones others : List PlaceSheet) → AllZip (WordsRenamedIn old new) ones others
      → map (λ (sheet : PlaceSheet). sheet.id) ones ≡ map (λ (sheet : PlaceSheet). sheet.id) others
  ids_stay [] [] all = refl
  ids_stay [] (o ∷ os) all = absurd all
  ids_stay (s ∷ ss) [] all = absurd all
  ids_stay (s ∷ ss) (o ∷ os) all =
      ap (λ n. n ∷ map (λ (sheet : PlaceSheet). sheet.id) ss) (sym all.0.id)
      ∙ ap (λ ns. o.id ∷ ns) (ids_stay ss os all.1)

-- what has a word is a formula
pub formula_then : (word : List ℕ) (item : Content) → has_word word item ≡ true → is_formula item ≡ true
formula_then word (content.Formula formula) has = refl
formula_then word (content.Number number) has = has
formula_then word (content.Text text) has = has
formula_then word (content.Truth truth) has = has
