-- No two spreadsheets stand for the same one.
use Rattle.std.proofs.Common.{◌≡◌, ℕ, ◌<◌, true, List, [], ◌∷◌, length, suc, refl, sym, ap, subst, ◌∙◌, arith, inl, inr}
use Rattle.std.specs.Prelude.{IfSome, Option, None, Some, is_some}
use Rattle.std.specs.List.{All, AllZip}
use Rattle.std.proofs.lemmas.Option.{slice_get_cases}
use Rattle.cell_store.specs.Laws.{TablesByItems}
use Rattle.cell_store.specs.Table.{HasPlace, item_at}
use Rattle.merge_ranges.specs.Calls.{ListsAreSame}
use Rattle.ref_rewrite.specs.declared.cell_content.Content.{Content}
use Rattle.world_model.specs.Book.{NameBook, PlaceBook}
use Rattle.world_model.specs.Sheet.{NameSheet, PlaceSheet}
use Rattle.world_model.specs.Sound.{IsOnSheet, IsSheetSound}
use Rattle.world_model.specs.StandsFor.{SheetStandsFor, BookStandsFor}
use Rattle.world_model.proofs.ContentsApart.{same_held}
use Rattle.world_model.proofs.FiltersNamed.{filters_apart}
use Rattle.world_model.proofs.Found.{IsFilterOn, filters_on, merges_on}
use Rattle.world_model.proofs.MetadataNamed.{items_apart}
use Rattle.world_model.proofs.MergesApart.{merges_apart}
use Rattle.world_model.proofs.ProtectionsNamed.{protections_apart}
use Rattle.world_model.proofs.RangesNamed.{ranges_apart}

nothing_there : {T : Type 0} (P : Type 0) (held : Option T) → (is_some held ≡ true → P) → ¬ P → held ≡ None
nothing_there P None there out = refl
nothing_there P (Some item) there out = absurd (out (there refl))

module _ (tables : TablesByItems Content) (lists : ListsAreSame) (sheets : List NameSheet)
    (ones others : List PlaceSheet)
    (stand : AllZip (SheetStandsFor sheets) ones sheets) (stand' : AllZip (SheetStandsFor sheets) others sheets) where
  module _ (one other : PlaceSheet) (names : NameSheet) (stands : SheetStandsFor sheets one names)
      (stands' : SheetStandsFor sheets other names) (sound : IsSheetSound ones one) (sound' : IsSheetSound others other)
      (on : All (IsOnSheet ones) one.merges) (on' : All (IsOnSheet others) other.merges)
      (filters : IfSome one.filter (IsFilterOn ones)) (filters' : IfSome other.filter (IsFilterOn others)) where
    -- past the last line there is nothing
    nothing_past : (row col : ℕ) → ¬ ((row < length names.rows) × (col < length names.cols))
        → item_at one.table row col ≡ item_at other.table row col
    nothing_past row col out =
        nothing_there (HasPlace one.table row col) (item_at one.table row col) (sound.inside row col)
        (λ there. out (subst (λ n. row < n) stands.rows there.0, subst (λ n. col < n) stands.cols there.1))
        ∙ sym (nothing_there (HasPlace other.table row col) (item_at other.table row col) (sound'.inside row col)
        (λ there. out (subst (λ n. row < n) stands'.rows there.0, subst (λ n. col < n) stands'.cols there.1)))

    same_item : (row col : ℕ) → item_at one.table row col ≡ item_at other.table row col
    same_item row col = elim (slice_get_cases names.rows row).1 [
      | inl (r, there, at_row, is) ↦ elim (slice_get_cases names.cols col).1 [
        | inl (c, there', at_col, is') ↦
            same_held sheets ones others stand stand' (item_at one.table row col) (item_at other.table row col)
            (sound.within row col) (sound'.within row col)
            (sym (stands.cells row col r c at_row at_col) ∙ stands'.cells row col r c at_row at_col)
        | inr (past, none) ↦ nothing_past row col (λ both. absurd (omega (arith, both.1, past)))
      ]
      | inr (past, none) ↦ nothing_past row col (λ both. absurd (omega (arith, both.0, past)))
    ]

    same_sheet : one ≡ other
    same_sheet =
        sheet_of_same one other (stands.id ∙ sym stands'.id) (stands.title ∙ sym stands'.title)
        (stands.hidden ∙ sym stands'.hidden)
        (tables.same one.table other.table (stands.rows ∙ sym stands'.rows) (stands.cols ∙ sym stands'.cols) same_item)
        (merges_apart lists sheets ones others stand stand' one.merges other.merges on on' sound.merges.0.in_order
        sound'.merges.0.in_order (λ area listed. (stands'.merges area).0 ((stands.merges area).1 listed))
        (λ area listed. (stands.merges area).0 ((stands'.merges area).1 listed)))
        (filters_apart sheets ones others stand stand' one.filter other.filter filters filters'
        (sym stands.filter ∙ stands'.filter))
      where
        sheet_of_same : (one other : PlaceSheet) → one.id ≡ other.id → one.title ≡ other.title
            → one.hidden ≡ other.hidden → one.table ≡ other.table → one.merges ≡ other.merges
            → one.filter ≡ other.filter → one ≡ other
        sheet_of_same one other id title hidden table merges filter =
            ap (λ n. record one { id = n }) id
            ∙ ap (λ text. record one { id = other.id; title = text }) title
            ∙ ap (λ b. record other { hidden = b; table = one.table; merges = one.merges; filter = one.filter }) hidden
            ∙ ap (λ found. record other { table = found; merges = one.merges; filter = one.filter }) table
            ∙ ap (λ areas. record other { merges = areas; filter = one.filter }) merges
            ∙ ap (λ found. record other { filter = found }) filter

  same_sheets : (some more : List PlaceSheet) (names : List NameSheet) → AllZip (SheetStandsFor sheets) some names
      → AllZip (SheetStandsFor sheets) more names → All (IsSheetSound ones) some → All (IsSheetSound others) more
      → All (λ sheet. All (IsOnSheet ones) sheet.merges) some → All (λ sheet. All (IsOnSheet others) sheet.merges) more
      → All (λ sheet. IfSome sheet.filter (IsFilterOn ones)) some
      → All (λ sheet. IfSome sheet.filter (IsFilterOn others)) more → some ≡ more
  same_sheets [] [] names all all' sound sound' on on' filters filters' = refl
  same_sheets [] (o ∷ os) [] all all' sound sound' on on' filters filters' = absurd all'
  same_sheets [] (o ∷ os) (n ∷ ns) all all' sound sound' on on' filters filters' = absurd all
  same_sheets (s ∷ ss) [] [] all all' sound sound' on on' filters filters' = absurd all
  same_sheets (s ∷ ss) [] (n ∷ ns) all all' sound sound' on on' filters filters' = absurd all'
  same_sheets (s ∷ ss) (o ∷ os) [] all all' sound sound' on on' filters filters' = absurd all
  same_sheets (s ∷ ss) (o ∷ os) (n ∷ ns) all all' sound sound' on on' filters filters' =
      ap (λ sheet. sheet ∷ ss) (same_sheet s o n all.0 all'.0 (sound 0 s (omega arith)) (sound' 0 o (omega arith))
      (on 0 s (omega arith)) (on' 0 o (omega arith)) (filters 0 s (omega arith)) (filters' 0 o (omega arith)))
      ∙ ap (λ rest. o ∷ rest) (same_sheets ss os ns all.1 all'.1 (λ k d there. sound (suc k) d (omega arith))
      (λ k d there. sound' (suc k) d (omega arith)) (λ k d there. on (suc k) d (omega arith))
      (λ k d there. on' (suc k) d (omega arith)) (λ k d there. filters (suc k) d (omega arith))
      (λ k d there. filters' (suc k) d (omega arith)))

-- the law
pub stands_for_apart : TablesByItems Content → ListsAreSame → (one other : PlaceBook) (names : NameBook)
    → BookStandsFor one names
    → BookStandsFor other names → one ≡ other
stands_for_apart tables lists one other names stands stands' =
    ap (λ text. record one { id = text }) (stands.id ∙ sym stands'.id)
    ∙ ap (λ text. record one { id = other.id; title = text }) (stands.title ∙ sym stands'.title)
    ∙ ap (λ text. record one { id = other.id; title = other.title; owner = text }) (stands.owner ∙ sym stands'.owner)
    ∙ ap (λ sheets. record other {
      sheets = sheets;
      ranges = one.ranges;
      protections = one.protections;
      metadata = one.metadata;
    })
    (same_sheets tables lists names.sheets one.sheets other.sheets stands.sheets stands'.sheets one.sheets other.sheets
    names.sheets stands.sheets stands'.sheets stands.sound.sheets stands'.sound.sheets
    (merges_on one.sheets one.sheets stands.sound.distinct stands.sound.sheets)
    (merges_on other.sheets other.sheets stands'.sound.distinct stands'.sound.sheets)
    (filters_on one.sheets one.sheets stands.sound.distinct stands.sound.sheets)
    (filters_on other.sheets other.sheets stands'.sound.distinct stands'.sound.sheets))
    ∙ ap (λ ranges. record other { ranges = ranges; protections = one.protections; metadata = one.metadata })
    (ranges_apart names.sheets one.sheets other.sheets stands.sheets stands'.sheets one.ranges other.ranges
    stands.sound.ranges stands'.sound.ranges (sym stands.ranges ∙ stands'.ranges))
    ∙ ap (λ protections. record other { protections = protections; metadata = one.metadata })
    (protections_apart names.sheets one.sheets other.sheets stands.sheets stands'.sheets one.protections
    other.protections
    stands.sound.protections stands'.sound.protections (sym stands.protections ∙ stands'.protections))
    ∙ ap (λ items. record other { metadata = items })
    (items_apart names.sheets one.sheets other.sheets stands.sheets stands'.sheets one.metadata other.metadata
    stands.sound.metadata stands'.sound.metadata (sym stands.metadata ∙ stands'.metadata))
