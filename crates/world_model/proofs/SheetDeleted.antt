-- A sheet that is deleted with all references to it, by places and by names.
use Rattle.std.proofs.Common.{◌≡◌, ◌≢◌, ℕ, suc, ◌+◌, ◌*◌, ◌<◌, ◌≤◌, refl, sym, ap, subst, ◌∙◌, List, [], ◌∷◌, length, get_or, Bool, true, false, cond, not, arith, inl, inr}
use Rattle.std.specs.Prelude.{IfSome, IsSomeAnd, Option, Some, filter, map, ◌⊎◌, ◌==◌}
use Rattle.std.specs.List.{All, AllZip, filter_map, find, list_all}
use Rattle.std.specs.Option.{option_map_or}
use Rattle.std.specs.Str.{str_eq_ignore_ascii_case}
use Rattle.std.proofs.Math.Path.{fun_ext}
use Rattle.std.proofs.lemmas.Bool.{cond-false, eq-eqb, eqb-true, false_from_ne_true, false≢true, not-true}
use Rattle.std.proofs.lemmas.List.Elements.{All-filter, All-map, length_all_zip}
use Rattle.std.proofs.lemmas.List.Kept.{AllPairs-filter}
use Rattle.std.proofs.lemmas.List.Sums.{sum_by-cons}
use Rattle.grid_range.specs.Area.{AreaWithin}
use Rattle.grid_range.specs.declared.area.Area.{Area}
use Rattle.grid_range.specs.declared.axis.Axis.{Axis}
use Rattle.grid_range.specs.declared.axis.Axis.TheVariants.{Rows, Columns}
use Rattle.named_ranges.specs.Following.{ranges_elsewhere}
use Rattle.named_ranges.specs.declared.range.NamedRange.{NamedRange}
use Rattle.ref_rewrite.specs.Following.{piece_without_sheet}
use Rattle.ref_rewrite.specs.declared.cell_content.Content.{Content}
use Rattle.ref_rewrite.specs.declared.cell_content.Content.TheVariants as content
use Rattle.ref_rewrite.specs.declared.pieces.Piece.{Piece}
use Rattle.ref_rewrite.specs.declared.pieces.Piece.TheVariants as piece
use Rattle.ref_rewrite.specs.declared.reference.Ref.{Ref as Reference}
use Rattle.world_model.specs.Area.{NameArea, Orders, area_named}
use Rattle.world_model.specs.Book.{PlaceBook, orders_of}
use Rattle.world_model.specs.BookChange.{AreChanges, BookChange, name_content_without, name_piece_without, without_references}
use Rattle.world_model.specs.Content.{NameContent, NamePiece, content_named, piece_named}
use Rattle.world_model.specs.Counts.{grid_places}
use Rattle.world_model.specs.Metadata.{item_named, name_items_elsewhere}
use Rattle.world_model.specs.Protections.{name_protection_without, protection_named}
use Rattle.world_model.specs.Ranges.{name_ranges_elsewhere, range_named}
use Rattle.world_model.specs.Sheet.{NameSheet, PlaceSheet, lines_of}
use Rattle.world_model.specs.SheetChange.{LosesReferences, PlaceSheetDeleted, SomeLoseReferences, content_without, other_sheets}
use Rattle.world_model.specs.Sound.{AreMergesOf, IsAreaWithin, IsContentWithin, IsFilterOf, IsOnSheet, IsPieceWithin, IsSheetSound, IsSound}
use Rattle.world_model.specs.StandsFor.{SheetStandsFor}
use Rattle.world_model.proofs.Becoming.{EachBecomes, all_sound, becomes_keeps, becomes_stands, same_places, sheet_becomes, some_sound}
use Rattle.world_model.proofs.Kept.{KeepsTitle, distinct_stay, size_within, still_found, titles_stay}
use Rattle.world_model.proofs.Lines.{KeepsLines, orders_stay_same}
use Rattle.world_model.proofs.MetadataNamed.{AreWithin as AreItemsWithin, all_left_within as all_items_left_within, items_left}
use Rattle.world_model.proofs.ProtectionsNamed.{AreWithin, all_left_within, protections_left}
use Rattle.world_model.proofs.RangesNamed.{All-left, AreOnSheets, filter-named, range_same}
use Rattle.world_model.proofs.StillStands.{filter_same, lines_same, merges_same}

-- ---- another sheet is found as before

module _ {X : Type 0} (id_of : X → ℕ) (deleted other : ℕ) (apart : (other == deleted) ≡ false) where
  first_left : (b b' : Bool) (x : X) (rest : List X) (held : Option X) → (b ≡ true → b' ≡ false)
      → find (λ one. id_of one == other) rest ≡ held → (id_of x == other) ≡ b'
      → find (λ one. id_of one == other) (cond (not b) (x ∷ rest) rest) ≡ cond b' (Some x) held
  first_left true b' x rest held one same is = same ∙ sym (cond-false b' (Some x) held (one refl))
  first_left false b' x rest held one same is =
      ap (λ b. cond b (Some x) (find (λ one. id_of one == other) rest)) is
      ∙ ap (cond b' (Some x)) same

  pub find-others : (xs : List X)
      → find (λ one. id_of one == other) (filter (λ one. not (id_of one == deleted)) xs)
      ≡ find (λ one. id_of one == other) xs
  find-others [] = refl
  find-others (x ∷ xs) =
      first_left (id_of x == deleted) (id_of x == other) x (filter (λ one. not (id_of one == deleted)) xs)
      (find (λ one. id_of one == other) xs)
      (λ is. false_from_ne_true (id_of x == other) (λ too.
      false≢true (sym apart ∙ eq-eqb other deleted
      (sym (eqb-true (id_of x) other too) ∙ eqb-true (id_of x) deleted is))))
      (find-others xs) refl

-- ---- the spreadsheet is sound

loses_is : (sheet : ℕ) (one other : PlaceSheet) → LosesReferences sheet one other
    → EachBecomes (content_without sheet) one other
loses_is sheet one other loses = record {
  id = loses.id;
  title = loses.title;
  hidden = loses.hidden;
  rows = loses.rows;
  cols = loses.cols;
  items = loses.items;
  merges = loses.merges;
  filter = loses.filter;
}

loses_keeps : (sheet : ℕ) (one other : PlaceSheet) → LosesReferences sheet one other → KeepsTitle one other
loses_keeps sheet one other loses = becomes_keeps (content_without sheet) one other (loses_is sheet one other loses)

module _ (deleted : ℕ) (befores afters : List PlaceSheet)
    (areas : (area : Area) → (area.sheet == deleted) ≡ false → IsOnSheet befores area → IsOnSheet afters area) where
  reference_within : (b : Bool) (reference : Reference) → (reference.area.sheet == deleted) ≡ b
      → IsAreaWithin befores reference.area
      → IsPieceWithin afters (cond b piece.Lost (piece.Ref reference))
  reference_within true reference is within = tt
  reference_within false reference is within = (areas reference.area is within.0, within.1)

  piece_left : (one : Piece) → IsPieceWithin befores one → IsPieceWithin afters (piece_without_sheet deleted one)
  piece_left (piece.Text text) within = tt
  piece_left (piece.Word word) within = tt
  piece_left (piece.Ref reference) within =
      reference_within (reference.area.sheet == deleted) reference refl within
  piece_left piece.Lost within = tt

  pieces_left : (pieces : List Piece) → All (IsPieceWithin befores) pieces
      → All (IsPieceWithin afters) (map (piece_without_sheet deleted) pieces)
  pieces_left pieces within =
      All-map (IsPieceWithin afters) (piece_without_sheet deleted) pieces
      (λ k d there. piece_left (get_or pieces k d) (within k d there))

  pub content_left : (one : Content) → IsContentWithin befores one
      → IsContentWithin afters (content_without deleted one)
  content_left (content.Number number) within = tt
  content_left (content.Text text) within = tt
  content_left (content.Truth truth) within = tt
  content_left (content.Formula formula) within = pieces_left formula.pieces within

-- fewer sheets are left
module _ (test : PlaceSheet → Bool) where
  fewer_one : (b : Bool) (s : PlaceSheet) (rest : List PlaceSheet) (count places : ℕ) → length rest ≤ count
      → grid_places rest ≤ places
      → (length (cond b (s ∷ rest) rest) ≤ suc count)
      × (grid_places (cond b (s ∷ rest) rest) ≤ s.table.rows * s.table.cols + places)
  fewer_one true s rest count places few least =
      let sum = sum_by-cons (λ (sheet : PlaceSheet). sheet.table.rows * sheet.table.cols) s rest in
      (omega (arith, few), omega (arith, least, sum))
  fewer_one false s rest count places few least = (omega (arith, few), omega (arith, least))

  fewer : (sheets : List PlaceSheet) → (length (filter test sheets) ≤ length sheets)
      × (grid_places (filter test sheets) ≤ grid_places sheets)
  fewer [] = (omega arith, omega arith)
  fewer (s ∷ ss) =
      let behind = fewer ss in
      let one = fewer_one (test s) s (filter test ss) (length ss) (grid_places ss) behind.0 behind.1 in
      let sum = sum_by-cons (λ (sheet : PlaceSheet). sheet.table.rows * sheet.table.cols) s ss in
      (one.0, let most = one.1 in omega (arith, most, sum))

pub deleted_sound : (before after : PlaceBook) (sheet : ℕ) → IsSound before
    → list_all (λ other. other.hidden) after.sheets ≡ false → PlaceSheetDeleted sheet before after → IsSound after
deleted_sound before after sheet sound visible gone =
    let left = other_sheets sheet before.sheets in
    let Goes : PlaceSheet → PlaceSheet → Type 0 = LosesReferences sheet in
    let few = fewer (λ one. not (one.id == sheet)) before.sheets in
    let long = length_all_zip Goes left after.sheets gone.sheets in
    let places = same_places Goes (λ one other loses. (loses.rows, loses.cols)) left after.sheets gone.sheets in
    let few_sheets = sound.few_sheets in
    let few_places = sound.few_places in
    let areas : (area : Area) → (area.sheet == sheet) ≡ false → IsOnSheet before.sheets area
    → IsOnSheet after.sheets area =
    λ area apart on.
    still_found Goes (loses_keeps sheet) area.sheet (λ one. AreaWithin area one.table.rows one.table.cols)
    (λ one. AreaWithin area one.table.rows one.table.cols)
    (λ one other loses is held. size_within area one other loses.rows loses.cols held) left after.sheets gone.sheets
    (subst (λ found. IsSomeAnd found (λ one. AreaWithin area one.table.rows one.table.cols))
    (sym (find-others (λ (one : PlaceSheet). one.id) sheet area.sheet apart before.sheets)) on) in
    record {
      distinct = distinct_stay Goes (loses_keeps sheet) left after.sheets gone.sheets
          (AllPairs-filter (λ (one other : PlaceSheet). one.id ≢ other.id) (λ one. not (one.id == sheet)) before.sheets
          sound.distinct);
      titles = titles_stay Goes (loses_keeps sheet) left after.sheets gone.sheets
          (AllPairs-filter (λ (one other : PlaceSheet). str_eq_ignore_ascii_case one.title other.title ≡ false)
          (λ one. not (one.id == sheet)) before.sheets sound.titles);
      visible = visible;
      sheets = all_sound (IsSheetSound before.sheets) (IsSheetSound after.sheets) Goes
          (λ one other loses.
          sheet_becomes (content_without sheet) before.sheets after.sheets
          (content_left sheet before.sheets after.sheets areas) one other (loses_is sheet one other loses))
          left after.sheets gone.sheets
          (All-filter (λ one. not (one.id == sheet)) (IsSheetSound before.sheets) before.sheets sound.sheets);
      few_sheets = let most = few.0 in omega (arith, most, long, few_sheets);
      few_places = let most = few.1 in omega (arith, most, places, few_places);
      ranges = subst (AreOnSheets after.sheets) (sym gone.ranges)
          (All-left (λ (range : NamedRange). not (range.area.sheet == sheet))
          (λ range. IsOnSheet before.sheets range.area) (λ range. IsOnSheet after.sheets range.area)
          (λ range elsewhere on. areas range.area (not-true (range.area.sheet == sheet) elsewhere) on) before.ranges
          sound.ranges);
      protections = subst (AreWithin after.sheets) (sym gone.protections)
          (all_left_within sheet before.sheets after.sheets areas before.protections sound.protections);
      metadata = subst (AreItemsWithin after.sheets) (sym gone.metadata)
          (all_items_left_within sheet before.sheets after.sheets areas before.metadata sound.metadata);
    }

-- some are without their references already
pub lost_sound : (before after : PlaceBook) (sheet : ℕ) → IsSound before → SomeLoseReferences sheet before after
    → IsSound after
lost_sound before after sheet sound lost =
    some_sound (content_without sheet) before after (each_may before.sheets after.sheets lost.sheets) lost.ranges
    lost.protections lost.metadata
    (λ areas. content_left sheet before.sheets after.sheets (λ area apart. areas area)) sound
  where
    may : (one other : PlaceSheet) → (other ≡ one) ⊎ LosesReferences sheet one other
        → (other ≡ one) ⊎ EachBecomes (content_without sheet) one other
    may one other (inl same) = inl same
    may one other (inr loses) = inr (loses_is sheet one other loses)

    each_may : (ones others : List PlaceSheet)
        → AllZip (λ one other. (other ≡ one) ⊎ LosesReferences sheet one other) ones others
        → AllZip (λ one other. (other ≡ one) ⊎ EachBecomes (content_without sheet) one other) ones others
    each_may [] [] all = tt
    each_may [] (o ∷ os) all = absurd all
    each_may (s ∷ ss) [] all = absurd all
    each_may (s ∷ ss) (o ∷ os) all = (may s o all.0, each_may ss os all.1)

-- ---- and stands for the one without the sheet

without_keeps : (sheet : ℕ) → KeepsLines (without_references sheet)
without_keeps sheet = record { id = λ one. refl; lines = lines_kept }
  where
    lines_kept : (one : NameSheet) (axis : Axis) → lines_of (without_references sheet one) axis ≡ lines_of one axis
    lines_kept one Rows = refl
    lines_kept one Columns = refl

module _ (deleted : ℕ) (orders orders' : Orders)
    (same : (other : ℕ) → (other == deleted) ≡ false → orders' other ≡ orders other) where
  pub area_same : (area : Area) → (area.sheet == deleted) ≡ false → area_named orders area ≡ area_named orders' area
  area_same area apart = lines_same orders orders' area (sym (same area.sheet apart))

  reference_without : (b : Bool) (reference : Reference) → (reference.area.sheet == deleted) ≡ b
      → cond b NamePiece.Lost (piece_named orders (piece.Ref reference))
      ≡ piece_named orders' (cond b piece.Lost (piece.Ref reference))
  reference_without true reference is = refl
  reference_without false reference is =
      ap (λ (area : NameArea). NamePiece.Ref (record { named = reference.named; area = area; marks = reference.marks }))
      (area_same reference.area is)

  piece_without : (one : Piece)
      → name_piece_without deleted (piece_named orders one) ≡ piece_named orders' (piece_without_sheet deleted one)
  piece_without (piece.Text text) = refl
  piece_without (piece.Word word) = refl
  piece_without (piece.Ref reference) = reference_without (reference.area.sheet == deleted) reference refl
  piece_without piece.Lost = refl

  pieces_without : (pieces : List Piece)
      → map (name_piece_without deleted) (map (piece_named orders) pieces)
      ≡ map (piece_named orders') (map (piece_without_sheet deleted) pieces)
  pieces_without [] = refl
  pieces_without (p ∷ ps) =
      ap (λ q. q ∷ map (name_piece_without deleted) (map (piece_named orders) ps)) (piece_without p)
      ∙ ap (λ qs. piece_named orders' (piece_without_sheet deleted p) ∷ qs) (pieces_without ps)

  pub content_named_without : (one : Content)
      → name_content_without deleted (content_named orders one) ≡ content_named orders' (content_without deleted one)
  content_named_without (content.Number number) = refl
  content_named_without (content.Text text) = refl
  content_named_without (content.Truth truth) = refl
  content_named_without (content.Formula formula) = ap NameContent.Formula (pieces_without formula.pieces)

module _ (deleted : ℕ) (sheets : List NameSheet) where
  abbrev left : List NameSheet
  left = map (without_references deleted) (filter (λ one. not (one.id == deleted)) sheets)

  pub same_lines : (other : ℕ) → (other == deleted) ≡ false → orders_of left other ≡ orders_of sheets other
  same_lines other apart =
      ap (λ (orders : Orders). orders other)
      (orders_stay_same (without_references deleted) (without_keeps deleted)
      (filter (λ one. not (one.id == deleted)) sheets))
      ∙ fun_ext (λ axis. ap (λ (found : Option NameSheet). option_map_or (λ one. lines_of one axis) found [])
      (find-others (λ (one : NameSheet). one.id) deleted other apart sheets))

  -- a sheet that isn't deleted, its merges and its filter
  abbrev IsLeft : PlaceSheet → Type 0
  IsLeft one =
      ((one.id == deleted) ≡ false) × (AreMergesOf one one.merges × IfSome one.filter (IsFilterOf one))

  left_stands : (one after : PlaceSheet) (names : NameSheet) → IsLeft one → SheetStandsFor sheets one names
      → LosesReferences deleted one after → SheetStandsFor left after (without_references deleted names)
  left_stands one after names is stands loses =
      becomes_stands (content_without deleted) (name_content_without deleted) sheets left
      (content_named_without deleted (orders_of sheets) (orders_of left) same_lines) one after names stands
      (loses_is deleted one after loses)
      (merges_same (orders_of sheets) (orders_of left) one (sym (same_lines one.id is.0)) is.1.0)
      (filter_same (orders_of sheets) (orders_of left) one (sym (same_lines one.id is.0)) one.filter is.1.1)

  -- the ranges that are left name the lines that they named
  pub ranges_left : (ranges : List NamedRange)
      → name_ranges_elsewhere deleted (map (range_named (orders_of sheets)) ranges)
      ≡ map (range_named (orders_of left)) (ranges_elsewhere deleted ranges)
  ranges_left ranges =
      filter-named (range_named (orders_of sheets)) (range_named (orders_of left))
      (λ range. not (range.area.sheet == deleted)) (λ range. not (range.area.sheet == deleted)) (λ range. refl) ranges
      (λ k d there elsewhere. range_same (orders_of sheets) (orders_of left) (get_or ranges k d)
      (area_same deleted (orders_of sheets) (orders_of left) same_lines (get_or ranges k d).area
      (not-true ((get_or ranges k d).area.sheet == deleted) elsewhere)))

  both_left : (b b' : Bool) (one : PlaceSheet) (names : NameSheet) (ones : List PlaceSheet) (others : List NameSheet)
      → b ≡ b' → SheetStandsFor sheets one names → AllZip (SheetStandsFor sheets) ones others
      → AllZip (SheetStandsFor sheets) (cond (not b) (one ∷ ones) ones) (cond (not b') (names ∷ others) others)
  both_left true true one names ones others same first rest = rest
  both_left true false one names ones others same first rest = absurd (false≢true (sym same))
  both_left false true one names ones others same first rest = absurd (false≢true same)
  both_left false false one names ones others same first rest = (first, rest)

  filtered : (ones : List PlaceSheet) (others : List NameSheet) → AllZip (SheetStandsFor sheets) ones others
      → AllZip (SheetStandsFor sheets) (other_sheets deleted ones) (filter (λ one. not (one.id == deleted)) others)
  filtered [] [] all = tt
  filtered [] (n ∷ ns) all = absurd all
  filtered (s ∷ ss) [] all = absurd all
  filtered (s ∷ ss) (n ∷ ns) all =
      both_left (s.id == deleted) (n.id == deleted) s n (other_sheets deleted ss)
      (filter (λ one. not (one.id == deleted)) ns) (ap (λ m. m == deleted) all.0.id) all.0 (filtered ss ns all.1)

  all_left : (ones afters : List PlaceSheet) (others : List NameSheet) → All IsLeft ones
      → AllZip (SheetStandsFor sheets) ones others → AllZip (LosesReferences deleted) ones afters
      → AllZip (SheetStandsFor left) afters (map (without_references deleted) others)
  all_left [] [] [] are all loses = tt
  all_left [] [] (n ∷ ns) are all loses = absurd all
  all_left [] (a ∷ more) others are all loses = absurd loses
  all_left (s ∷ ss) [] others are all loses = absurd loses
  all_left (s ∷ ss) (a ∷ more) [] are all loses = absurd all
  all_left (s ∷ ss) (a ∷ more) (n ∷ ns) are all loses = (
    left_stands s a n (are 0 s (omega arith)) all.0 loses.0,
    all_left ss more ns (λ k d there. are (suc k) d (omega arith)) all.1 loses.1,
  )

  -- the sheets that are left
  pub are_left : (ones : List PlaceSheet) → All (IsSheetSound ones) ones → All IsLeft (other_sheets deleted ones)
  are_left ones sound =
      All-left (λ one. not (one.id == deleted)) (IsSheetSound ones) IsLeft
      (λ one elsewhere is. (not-true (one.id == deleted) elsewhere, (is.merges, is.filter))) ones sound

pub deleted_changes : (before after : PlaceBook) (sheet : ℕ) → IsSound after → PlaceSheetDeleted sheet before after
    → AreChanges (BookChange.SheetDeleted sheet ∷ []) before after
deleted_changes before after sheet sound gone = record {
  id = gone.id;
  names = λ named is. record {
    stands = record {
      sound = sound;
      id = gone.id ∙ is.stands.id;
      title = gone.title ∙ is.stands.title;
      owner = gone.owner ∙ is.stands.owner;
      sheets = all_left sheet named.book.sheets (other_sheets sheet before.sheets) after.sheets
          (filter (λ one. not (one.id == sheet)) named.book.sheets)
          (are_left sheet named.book.sheets before.sheets is.stands.sound.sheets)
          (filtered sheet named.book.sheets before.sheets named.book.sheets is.stands.sheets) gone.sheets;
      ranges = ap (name_ranges_elsewhere sheet) is.stands.ranges ∙ ranges_left sheet named.book.sheets before.ranges
          ∙ ap (map (range_named (orders_of (left sheet named.book.sheets)))) (sym gone.ranges);
      protections = ap (filter_map (name_protection_without sheet)) is.stands.protections
          ∙ protections_left sheet (orders_of named.book.sheets) (orders_of (left sheet named.book.sheets))
          (area_same sheet (orders_of named.book.sheets) (orders_of (left sheet named.book.sheets))
          (same_lines sheet named.book.sheets)) before.protections
          ∙ ap (map (protection_named (orders_of (left sheet named.book.sheets)))) (sym gone.protections);
      metadata = ap (name_items_elsewhere sheet) is.stands.metadata
          ∙ items_left sheet (orders_of named.book.sheets) (orders_of (left sheet named.book.sheets))
          (same_lines sheet named.book.sheets) before.metadata
          ∙ ap (map (item_named (orders_of (left sheet named.book.sheets)))) (sym gone.metadata);
    };
    called = All-map
        (λ (one : NameSheet). All (λ name. name < named.next) one.rows × All (λ name. name < named.next) one.cols)
        (without_references sheet) (filter (λ one. not (one.id == sheet)) named.book.sheets)
        (All-filter (λ one. not (one.id == sheet))
        (λ (one : NameSheet). All (λ name. name < named.next) one.rows × All (λ name. name < named.next) one.cols)
        named.book.sheets is.called);
  };
}
