-- Words of formulas that become another one, by places and by names.
use Rattle.std.proofs.Common.{◌≡◌, ℕ, ◌<◌, refl, sym, ap, ◌∙◌, List, [], ◌∷◌, get_or, Bool, true, false, cond, inl, inr}
use Rattle.std.specs.Prelude.{map, ◌⊎◌}
use Rattle.std.specs.Option.{option_map}
use Rattle.std.specs.List.{All, AllZip}
use Rattle.std.specs.Str.{str_eq_ignore_ascii_case}
use Rattle.std.proofs.lemmas.List.Elements.{All-map}
use Rattle.grid_range.specs.declared.area.Area.{Area}
use Rattle.grid_range.specs.declared.axis.Axis.{Axis}
use Rattle.grid_range.specs.declared.axis.Axis.TheVariants.{Rows, Columns}
use Rattle.ref_rewrite.specs.Renaming.{is_word, piece_renamed}
use Rattle.ref_rewrite.specs.declared.cell_content.Content.{Content}
use Rattle.ref_rewrite.specs.declared.cell_content.Content.TheVariants as content
use Rattle.ref_rewrite.specs.declared.pieces.Piece.{Piece}
use Rattle.ref_rewrite.specs.declared.pieces.Piece.TheVariants as piece
use Rattle.world_model.specs.Area.{Orders, area_named}
use Rattle.world_model.specs.Book.{PlaceBook, orders_of}
use Rattle.world_model.specs.BookChange.{AreChanges, BookChange, Named, NamedStandsFor, name_content_renamed, name_piece_renamed, sheet_renamed, words_renamed}
use Rattle.world_model.specs.Content.{NameContent, NamePiece, content_named, piece_named}
use Rattle.world_model.specs.RangeChange.{PlaceWordsRenamed, SomeWordsRenamed, WordsRenamedIn, content_renamed}
use Rattle.world_model.specs.Filters.{filter_named}
use Rattle.world_model.specs.Metadata.{item_named}
use Rattle.world_model.specs.Protections.{protection_named}
use Rattle.world_model.specs.Ranges.{range_named}
use Rattle.world_model.specs.Sheet.{NameSheet, PlaceSheet, lines_of}
use Rattle.world_model.specs.Sound.{IsContentWithin, IsOnSheet, IsPieceWithin, IsSound}
use Rattle.world_model.specs.StandsFor.{SheetStandsFor}
use Rattle.world_model.proofs.Becoming.{EachBecomes, becomes_stands, some_sound}
use Rattle.world_model.proofs.Lines.{KeepsLines, orders_stay_same}
use Rattle.world_model.proofs.WrittenSound.{piece_within}

module _ (old new : List ℕ) where
  renamed_is : (one other : PlaceSheet) → WordsRenamedIn old new one other
      → EachBecomes (content_renamed old new) one other
  renamed_is one other renamed = record {
    id = renamed.id;
    title = renamed.title;
    hidden = renamed.hidden;
    rows = renamed.rows;
    cols = renamed.cols;
    items = renamed.items;
    merges = renamed.merges;
    filter = renamed.filter;
  }

  -- ---- the spreadsheet is sound: no reference is another one

  module _ (befores afters : List PlaceSheet)
      (areas : (area : Area) → IsOnSheet befores area → IsOnSheet afters area) where
    word_or_within : (b : Bool) (one : Piece) → IsPieceWithin befores one
        → IsPieceWithin afters (cond b (piece.Word new) one)
    word_or_within true one within = tt
    word_or_within false one within = piece_within befores afters areas one within

    renamed_within : (one : Content) → IsContentWithin befores one
        → IsContentWithin afters (content_renamed old new one)
    renamed_within (content.Number number) within = tt
    renamed_within (content.Text text) within = tt
    renamed_within (content.Truth truth) within = tt
    renamed_within (content.Formula formula) within =
        All-map (IsPieceWithin afters) (piece_renamed old new) formula.pieces
        (λ k d there. word_or_within (is_word old (get_or formula.pieces k d)) (get_or formula.pieces k d)
        (within k d there))

  may : (one other : PlaceSheet) → (other ≡ one) ⊎ WordsRenamedIn old new one other
      → (other ≡ one) ⊎ EachBecomes (content_renamed old new) one other
  may one other (inl same) = inl same
  may one other (inr renamed) = inr (renamed_is one other renamed)

  each_may : (ones others : List PlaceSheet)
      → AllZip (λ one other. (other ≡ one) ⊎ WordsRenamedIn old new one other) ones others
      → AllZip (λ one other. (other ≡ one) ⊎ EachBecomes (content_renamed old new) one other) ones others
  each_may [] [] all = tt
  each_may [] (o ∷ os) all = absurd all
  each_may (s ∷ ss) [] all = absurd all
  each_may (s ∷ ss) (o ∷ os) all = (may s o all.0, each_may ss os all.1)

  pub some_renamed_sound : (before after : PlaceBook) → IsSound before → SomeWordsRenamed old new before after
      → IsSound after
  some_renamed_sound before after sound renamed =
      some_sound (content_renamed old new) before after (each_may before.sheets after.sheets renamed.sheets)
      renamed.ranges
      renamed.protections renamed.metadata
      (renamed_within before.sheets after.sheets) sound

  all_are_some : (ones others : List PlaceSheet) → AllZip (WordsRenamedIn old new) ones others
      → AllZip (λ one other. (other ≡ one) ⊎ WordsRenamedIn old new one other) ones others
  all_are_some [] [] all = tt
  all_are_some [] (o ∷ os) all = absurd all
  all_are_some (s ∷ ss) [] all = absurd all
  all_are_some (s ∷ ss) (o ∷ os) all = (inr all.0, all_are_some ss os all.1)

  pub renamed_sound : (before after : PlaceBook) → IsSound before → PlaceWordsRenamed old new before after
      → IsSound after
  renamed_sound before after sound renamed =
      some_renamed_sound before after sound (record {
        id = renamed.id;
        title = renamed.title;
        owner = renamed.owner;
        sheets = all_are_some before.sheets after.sheets renamed.sheets;
        ranges = renamed.ranges;
        protections = renamed.protections;
        metadata = renamed.metadata;
      })

  -- ---- and stands for the one by names

  module _ (orders : Orders) where
    word_renames : (b : Bool) (word : List ℕ)
        → NamePiece.Word (cond b new word) ≡ piece_named orders (cond b (piece.Word new) (piece.Word word))
    word_renames true word = refl
    word_renames false word = refl

    piece_renames : (one : Piece)
        → name_piece_renamed old new (piece_named orders one) ≡ piece_named orders (piece_renamed old new one)
    piece_renames (piece.Text text) = refl
    piece_renames (piece.Word word) = word_renames (str_eq_ignore_ascii_case word old) word
    piece_renames (piece.Ref reference) = refl
    piece_renames piece.Lost = refl

    pieces_rename : (pieces : List Piece)
        → map (name_piece_renamed old new) (map (piece_named orders) pieces)
        ≡ map (piece_named orders) (map (piece_renamed old new) pieces)
    pieces_rename [] = refl
    pieces_rename (p ∷ ps) =
        ap (λ q. q ∷ map (name_piece_renamed old new) (map (piece_named orders) ps)) (piece_renames p)
        ∙ ap (λ qs. piece_named orders (piece_renamed old new p) ∷ qs) (pieces_rename ps)

    content_renames : (one : Content)
        → name_content_renamed old new (content_named orders one) ≡ content_named orders (content_renamed old new one)
    content_renames (content.Number number) = refl
    content_renames (content.Text text) = refl
    content_renames (content.Truth truth) = refl
    content_renames (content.Formula formula) = ap NameContent.Formula (pieces_rename formula.pieces)

  renamed_keeps : KeepsLines (sheet_renamed old new)
  renamed_keeps = record { id = λ one. refl; lines = lines_kept }
    where
      lines_kept : (one : NameSheet) (axis : Axis) → lines_of (sheet_renamed old new one) axis ≡ lines_of one axis
      lines_kept one Rows = refl
      lines_kept one Columns = refl

  module _ (sheets : List NameSheet) where
    abbrev renamed_sheets : List NameSheet
    renamed_sheets = map (sheet_renamed old new) sheets

    same_orders : orders_of renamed_sheets ≡ orders_of sheets
    same_orders = orders_stay_same (sheet_renamed old new) renamed_keeps sheets

    content_stands : (one : Content) → name_content_renamed old new (content_named (orders_of sheets) one)
        ≡ content_named (orders_of renamed_sheets) (content_renamed old new one)
    content_stands one = content_renames (orders_of sheets) one
        ∙ ap (λ orders. content_named orders (content_renamed old new one)) (sym same_orders)

    all_stand : (ones afters : List PlaceSheet) (names : List NameSheet) → AllZip (SheetStandsFor sheets) ones names
        → AllZip (WordsRenamedIn old new) ones afters
        → AllZip (SheetStandsFor renamed_sheets) afters (map (sheet_renamed old new) names)
    all_stand [] [] [] all renamed = tt
    all_stand [] [] (n ∷ ns) all renamed = absurd all
    all_stand [] (a ∷ more) names all renamed = absurd renamed
    all_stand (s ∷ ss) [] names all renamed = absurd renamed
    all_stand (s ∷ ss) (a ∷ more) [] all renamed = absurd all
    all_stand (s ∷ ss) (a ∷ more) (n ∷ ns) all renamed = (
      becomes_stands (content_renamed old new) (name_content_renamed old new) sheets renamed_sheets content_stands s a n
          all.0 (renamed_is s a renamed.0) (ap (λ orders. map (area_named orders) s.merges) (sym same_orders))
          (ap (λ orders. option_map (filter_named orders) s.filter) (sym same_orders)),
      all_stand ss more ns all.1 renamed.1,
    )

  renamed_stands : (before after : PlaceBook) → PlaceWordsRenamed old new before after → (named : Named)
      → NamedStandsFor before named
      → NamedStandsFor after (record named { book = words_renamed old new named.book })
  renamed_stands before after renamed named is = record {
    stands = record {
      sound = renamed_sound before after is.stands.sound renamed;
      id = renamed.id ∙ is.stands.id;
      title = renamed.title ∙ is.stands.title;
      owner = renamed.owner ∙ is.stands.owner;
      sheets = all_stand named.book.sheets before.sheets after.sheets named.book.sheets is.stands.sheets renamed.sheets;
      ranges = is.stands.ranges ∙ ap (map (range_named (orders_of named.book.sheets))) (sym renamed.ranges)
          ∙ ap (λ orders. map (range_named orders) after.ranges) (sym (same_orders named.book.sheets));
      protections = is.stands.protections
          ∙ ap (map (protection_named (orders_of named.book.sheets))) (sym renamed.protections)
          ∙ ap (λ orders. map (protection_named orders) after.protections) (sym (same_orders named.book.sheets));
      metadata = is.stands.metadata ∙ ap (map (item_named (orders_of named.book.sheets))) (sym renamed.metadata)
          ∙ ap (λ orders. map (item_named orders) after.metadata) (sym (same_orders named.book.sheets));
    };
    called = All-map
        (λ (one : NameSheet). All (λ name. name < named.next) one.rows × All (λ name. name < named.next) one.cols)
        (sheet_renamed old new) named.book.sheets is.called;
  }

-- the law
pub renamed_changes : (before after : PlaceBook) (old new : List ℕ) → PlaceWordsRenamed old new before after
    → AreChanges (BookChange.WordsRenamed old new ∷ []) before after
renamed_changes before after old new renamed = record {
  id = renamed.id;
  names = renamed_stands old new before after renamed;
}
