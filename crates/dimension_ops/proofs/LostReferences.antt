-- The formulas of a table that lose their references to a sheet.
use Rattle.std.proofs.Common.{◌≡◌, ℕ, refl, sym, ap, subst, ◌∙◌, List, [], ◌∷◌, ◌++◌, cond, Bool, true, false, not, ◌||◌, ◌&&◌}
use Rattle.std.specs.Prelude.{map, filter, ◌==◌}
use Rattle.std.specs.List.{AllZip, fold, list_all, list_any}
use Rattle.std.specs.Option.{option_map}
use Rattle.std.proofs.lemmas.Bool.{or_parts}
use Rattle.std.proofs.lemmas.List.{append-nil, map-append}
use Rattle.cell_store.specs.Table.{Table, item_at}
use Rattle.ref_rewrite.specs.Following.{piece_without_sheet}
use Rattle.ref_rewrite.specs.declared.cell_content.Content.{Content}
use Rattle.ref_rewrite.specs.declared.cell_content.Content.TheVariants as content
use Rattle.ref_rewrite.specs.declared.pieces.Piece.{Piece}
use Rattle.ref_rewrite.specs.declared.pieces.Piece.TheVariants as piece
use Rattle.world_model.specs.Counts.{is_formula}
use Rattle.world_model.specs.Sheet.{PlaceSheet}
use Rattle.world_model.specs.SheetChange.{LosesReferences, content_without, other_sheets}
use Rattle.dimension_ops.specs.References.{AreReferring, is_reference_to, refers_to}
use Rattle.dimension_ops.specs.Losing.{lost_at}
use Rattle.dimension_ops.proofs.Becoming.{items_become, rows_stay as size_rows, cols_stay as size_cols}

module _ (sheet : ℕ) where
  piece_stays : (one : Piece) → is_reference_to sheet one ≡ false → piece_without_sheet sheet one ≡ one
  piece_stays (piece.Text text) is = refl
  piece_stays (piece.Word word) is = refl
  piece_stays (piece.Ref reference) is = rw is refl
  piece_stays piece.Lost is = refl

  pieces_stay : (pieces : List Piece) → list_any (is_reference_to sheet) pieces ≡ false
      → map (piece_without_sheet sheet) pieces ≡ pieces
  pieces_stay [] is = refl
  pieces_stay (one ∷ pieces) is =
      let both = or_parts (is_reference_to sheet one) (list_any (is_reference_to sheet) pieces) is in
      ap (λ first. first ∷ map (piece_without_sheet sheet) pieces) (piece_stays one both.0)
      ∙ ap (λ rest. one ∷ rest) (pieces_stay pieces both.1)

  content_stays : (item : Content) → refers_to sheet item ≡ false → content_without sheet item ≡ item
  content_stays (content.Number number) is = refl
  content_stays (content.Text text) is = refl
  content_stays (content.Truth truth) is = refl
  content_stays (content.Formula formula) is =
      ap (λ pieces. content.Formula (record formula { pieces = pieces })) (pieces_stay formula.pieces is)

  -- all formulas with a reference to it lose it
  module _ (table : Table Content) (places : List (ℕ × ℕ)) (are : AreReferring sheet table places) where
    pub items_lost : (row col : ℕ) → item_at (fold (lost_at sheet) table places) row col
        ≡ option_map (content_without sheet) (item_at table row col)
    items_lost = items_become (content_without sheet) (refers_to sheet) content_stays table places are

    pub rows_stay : (fold (lost_at sheet) table places).rows ≡ table.rows
    rows_stay = size_rows (content_without sheet) (refers_to sheet) content_stays table places are

    pub cols_stay : (fold (lost_at sheet) table places).cols ≡ table.cols
    cols_stay = size_cols (content_without sheet) (refers_to sheet) content_stays table places are

  -- where there is none, nothing is lost
  pub none_lost : (one : PlaceSheet) → AreReferring sheet one.table [] → LosesReferences sheet one one
  none_lost one none = record {
    id = refl;
    title = refl;
    hidden = refl;
    rows = refl;
    cols = refl;
    items = items_lost one.table [] none;
    merges = refl;
    filter = refl;
  }

  pub formula_stays : (item : Content) → is_formula (content_without sheet item) ≡ is_formula item
  formula_stays (content.Number number) = refl
  formula_stays (content.Text text) = refl
  formula_stays (content.Truth truth) = refl
  formula_stays (content.Formula formula) = refl

-- ---- the other sheets, one behind another

module _ {X : Type 0} (value : X → PlaceSheet) (deleted : ℕ) where
  one_more : (b b' : Bool) (s : PlaceSheet) (rest : List PlaceSheet) (more : List PlaceSheet)
      → cond b (s ∷ rest ++ more) (rest ++ more) ≡ cond b (s ∷ rest) rest ++ more
  one_more true b' s rest more = refl
  one_more false b' s rest more = refl

  others_more : (xs : List X) (x : X) → other_sheets deleted (map value (xs ++ x ∷ []))
      ≡ other_sheets deleted (map value xs) ++ other_sheets deleted (value x ∷ [])
  others_more [] x = refl
  others_more (y ∷ ys) x =
      ap (λ rest. cond (not ((value y).id == deleted)) (value y ∷ rest) rest) (others_more ys x)
      ∙ one_more (not ((value y).id == deleted)) true (value y) (other_sheets deleted (map value ys))
      (other_sheets deleted (value x ∷ []))

  pub others_with : (xs : List X) (x : X) → ((value x).id == deleted) ≡ false
      → other_sheets deleted (map value (xs ++ x ∷ [])) ≡ other_sheets deleted (map value xs) ++ (value x ∷ [])
  others_with xs x is =
      others_more xs x
      ∙ ap (λ b. other_sheets deleted (map value xs) ++ cond (not b) (value x ∷ []) []) is

  pub others_without : (xs : List X) (x : X) → ((value x).id == deleted) ≡ true
      → other_sheets deleted (map value (xs ++ x ∷ [])) ≡ other_sheets deleted (map value xs)
  others_without xs x is =
      others_more xs x
      ∙ ap (λ b. other_sheets deleted (map value xs) ++ cond (not b) (value x ∷ []) []) is
      ∙ append-nil (other_sheets deleted (map value xs))

  -- one more that has lost its references
  pub lost_more : (xs ys : List X) (x y : X) → ((value x).id == deleted) ≡ false
      → AllZip (LosesReferences deleted) (other_sheets deleted (map value xs)) (map value ys)
      → LosesReferences deleted (value x) (value y)
      → AllZip (LosesReferences deleted) (other_sheets deleted (map value (xs ++ x ∷ []))) (map value (ys ++ y ∷ []))
  lost_more xs ys x y is all one =
      subst (λ sheets. AllZip (LosesReferences deleted) sheets (map value (ys ++ y ∷ []))) (sym (others_with xs x is))
      (subst (AllZip (LosesReferences deleted) (other_sheets deleted (map value xs) ++ (value x ∷ [])))
      (sym (map-append value ys (y ∷ [])))
      (both (other_sheets deleted (map value xs)) (map value ys) all))
    where
      both : (ones others : List PlaceSheet) → AllZip (LosesReferences deleted) ones others
          → AllZip (LosesReferences deleted) (ones ++ (value x ∷ [])) (others ++ (value y ∷ []))
      both [] [] all = (one, tt)
      both [] (b ∷ others) all = absurd all
      both (a ∷ ones) [] all = absurd all
      both (a ∷ ones) (b ∷ others) all = (all.0, both ones others all.1)

  pub lost_same : (xs : List X) (ys : List PlaceSheet) (x : X) → ((value x).id == deleted) ≡ true
      → AllZip (LosesReferences deleted) (other_sheets deleted (map value xs)) ys
      → AllZip (LosesReferences deleted) (other_sheets deleted (map value (xs ++ x ∷ []))) ys
  lost_same xs ys x is all =
      subst (λ sheets. AllZip (LosesReferences deleted) sheets ys) (sym (others_without xs x is)) all

-- ---- what is left keeps its ids and marks

pub marks_left : (deleted : ℕ) (ones others : List PlaceSheet) → AllZip (LosesReferences deleted) ones others
    → list_all (λ sheet. sheet.hidden) others ≡ list_all (λ sheet. sheet.hidden) ones
marks_left deleted [] [] all = refl
marks_left deleted [] (o ∷ os) all = absurd all
marks_left deleted (s ∷ ss) [] all = absurd all
marks_left deleted (s ∷ ss) (o ∷ os) all =
    ap (λ b. b && list_all (λ (sheet : PlaceSheet). sheet.hidden) os) all.0.hidden
    ∙ ap (λ b. s.hidden && b) (marks_left deleted ss os all.1)

pub ids_left : (deleted : ℕ) (ones others : List PlaceSheet) → AllZip (LosesReferences deleted) ones others
    → map (λ (sheet : PlaceSheet). sheet.id) others ≡ map (λ (sheet : PlaceSheet). sheet.id) ones
ids_left deleted [] [] all = refl
ids_left deleted [] (o ∷ os) all = absurd all
ids_left deleted (s ∷ ss) [] all = absurd all
ids_left deleted (s ∷ ss) (o ∷ os) all =
    ap (λ n. n ∷ map (λ (sheet : PlaceSheet). sheet.id) os) all.0.id
    ∙ ap (λ ns. s.id ∷ ns) (ids_left deleted ss os all.1)

pub other_ids : (deleted : ℕ) (sheets : List PlaceSheet)
    → filter (λ id. not (id == deleted)) (map (λ (sheet : PlaceSheet). sheet.id) sheets)
    ≡ map (λ (sheet : PlaceSheet). sheet.id) (other_sheets deleted sheets)
other_ids deleted [] = refl
other_ids deleted (s ∷ ss) =
    ap (λ ns. cond (not (s.id == deleted)) (s.id ∷ ns) ns) (other_ids deleted ss)
    ∙ either (not (s.id == deleted))
  where
    either : (b : Bool)
        → cond b (s.id ∷ map (λ (sheet : PlaceSheet). sheet.id) (other_sheets deleted ss))
        (map (λ (sheet : PlaceSheet). sheet.id) (other_sheets deleted ss))
        ≡ map (λ (sheet : PlaceSheet). sheet.id) (cond b (s ∷ other_sheets deleted ss) (other_sheets deleted ss))
    either true = refl
    either false = refl

-- all others are hidden just where each sheet is that one or hidden
pub others_are_hidden : {X : Type 0} (value : X → PlaceSheet) (id : ℕ) (xs : List X)
    → list_all (λ x. (value x).id == id || (value x).hidden) xs
    ≡ list_all (λ sheet. sheet.hidden) (other_sheets id (map value xs))
others_are_hidden value id [] = refl
others_are_hidden value id (x ∷ xs) =
    ap (λ b. ((value x).id == id || (value x).hidden) && b) (others_are_hidden value id xs)
    ∙ either ((value x).id == id)
  where
    either : (b : Bool)
        → ((b || (value x).hidden) && list_all (λ sheet. sheet.hidden) (other_sheets id (map value xs)))
        ≡ list_all (λ sheet. sheet.hidden) (cond (not b) (value x ∷ other_sheets id (map value xs))
        (other_sheets id (map value xs)))
    either true = refl
    either false = refl
