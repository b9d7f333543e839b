-- Sheets each of whose places holds what becomes of what it held, while sizes stay.
use Rattle.std.proofs.Common.{◌≡◌, ℕ, ◌+◌, ◌*◌, ◌<◌, refl, sym, ap, subst, ◌∙◌, List, [], ◌∷◌, length, get_or, true, arith, inl, inr}
use Rattle.std.specs.Prelude.{IfSome, None, Option, Some, is_some, map, ◌⊎◌}
use Rattle.std.specs.List.{All, AllZip}
use Rattle.std.specs.Option.{option_map}
use Rattle.std.proofs.lemmas.List.Elements.{AllZip-get_or, length_all_zip}
use Rattle.std.proofs.lemmas.List.Sums.{sum_by-cons}
use Rattle.grid_range.specs.Area.{AreaWithin}
use Rattle.grid_range.specs.declared.area.Area.{Area}
use Rattle.grid_range.specs.declared.axis.Axis.TheVariants.{Rows, Columns}
use Rattle.cell_store.specs.Table.{item_at}
use Rattle.named_ranges.specs.declared.range.NamedRange.{NamedRange}
use Rattle.ref_rewrite.specs.declared.cell_content.Content.{Content}
use Rattle.world_model.specs.Area.{area_named}
use Rattle.world_model.specs.Book.{PlaceBook, orders_of}
use Rattle.world_model.specs.Content.{NameContent, content_named}
use Rattle.world_model.specs.Counts.{grid_places}
use Rattle.world_model.specs.Filters.{filter_named}
use Rattle.world_model.specs.Sheet.{NameSheet, PlaceSheet}
use Rattle.world_model.specs.Sound.{IsContentWithin, IsLineCount, IsOnSheet, IsSheetSound, IsSound}
use Rattle.world_model.specs.StandsFor.{SheetStandsFor}
use Rattle.world_model.proofs.Kept.{KeepsTitle, distinct_stay, filter_kept, merges_kept, size_within, still_found, titles_stay, visible_stays}
use Rattle.world_model.proofs.MetadataNamed.{AreWithin as AreItemsWithin, items_stay}
use Rattle.world_model.proofs.ProtectionsNamed.{AreWithin, protections_stay}
use Rattle.world_model.proofs.StillStands.{merges_stand}
use Rattle.world_model.proofs.WrittenSound.{held_within}

-- each place of the sheet holds what becomes of what it held
pub record EachBecomes (becomes : Content → Content) (before after : PlaceSheet) : Type 0 where
  pub id : after.id ≡ before.id
  pub title : after.title ≡ before.title
  pub hidden : after.hidden ≡ before.hidden
  pub rows : after.table.rows ≡ before.table.rows
  pub cols : after.table.cols ≡ before.table.cols
  pub items : (row col : ℕ) → item_at after.table row col ≡ option_map becomes (item_at before.table row col)
  pub merges : after.merges ≡ before.merges
  pub filter : after.filter ≡ before.filter

-- ---- the sheets are sound

-- sheets that keep their sizes have as many places
pub same_places : (Goes : PlaceSheet → PlaceSheet → Type 0)
    → ((one other : PlaceSheet) → Goes one other
    → (other.table.rows ≡ one.table.rows) × (other.table.cols ≡ one.table.cols))
    → (ones others : List PlaceSheet) → AllZip Goes ones others → grid_places others ≡ grid_places ones
same_places Goes sizes [] [] all = refl
same_places Goes sizes [] (o ∷ os) all = absurd all
same_places Goes sizes (s ∷ ss) [] all = absurd all
same_places Goes sizes (s ∷ ss) (o ∷ os) all =
    sum_by-cons (λ (sheet : PlaceSheet). sheet.table.rows * sheet.table.cols) o os
    ∙ ap (λ n. n * o.table.cols + grid_places os) (sizes s o all.0).0
    ∙ ap (λ n. s.table.rows * n + grid_places os) (sizes s o all.0).1
    ∙ ap (λ n. s.table.rows * s.table.cols + n) (same_places Goes sizes ss os all.1)
    ∙ sym (sum_by-cons (λ (sheet : PlaceSheet). sheet.table.rows * sheet.table.cols) s ss)

pub all_sound : (P Q : PlaceSheet → Type 0) (Goes : PlaceSheet → PlaceSheet → Type 0)
    → ((one other : PlaceSheet) → Goes one other → P one → Q other)
    → (ones others : List PlaceSheet) → AllZip Goes ones others → All P ones → All Q others
all_sound P Q Goes also ones others all holds k d there =
    let inside : k < length ones = subst (λ n. k < n) (sym (length_all_zip Goes ones others all)) there in
    also (get_or ones k d) (get_or others k d) (AllZip-get_or Goes ones others k d d all inside) (holds k d inside)

some_before : (becomes : Content → Content) (held : Option Content) → is_some (option_map becomes held) ≡ true
    → is_some held ≡ true
some_before becomes None some = some
some_before becomes (Some one) some = refl

held_becomes : (becomes : Content → Content) (P Q : Content → Type 0) → ((one : Content) → P one → Q (becomes one))
    → (held : Option Content) → IfSome held P → IfSome (option_map becomes held) Q
held_becomes becomes P Q also None holds = tt
held_becomes becomes P Q also (Some one) holds = also one holds

module _ (becomes : Content → Content) where
  pub becomes_keeps : (one other : PlaceSheet) → EachBecomes becomes one other → KeepsTitle one other
  becomes_keeps one other is = record { id = is.id; title = is.title; hidden = is.hidden }

  -- a sheet is sound if what becomes of each content is within
  pub sheet_becomes : (befores afters : List PlaceSheet)
      → ((one : Content) → IsContentWithin befores one → IsContentWithin afters (becomes one))
      → (one other : PlaceSheet) → EachBecomes becomes one other → IsSheetSound befores one → IsSheetSound afters other
  sheet_becomes befores afters contents one other is sound = record {
    titled = subst (λ title. 0 < length title) (sym is.title) sound.titled;
    rows = subst (IsLineCount Rows) (sym is.rows) sound.rows;
    cols = subst (IsLineCount Columns) (sym is.cols) sound.cols;
    inside = λ row col some.
        let place = sound.inside row col
        (some_before becomes (item_at one.table row col) (ap is_some (sym (is.items row col)) ∙ some)) in (
          subst (λ n. row < n) (sym is.rows) place.0,
          subst (λ n. col < n) (sym is.cols) place.1,
        );
    within = λ row col.
        subst (λ held. IfSome held (IsContentWithin afters)) (sym (is.items row col))
        (held_becomes becomes (IsContentWithin befores) (IsContentWithin afters) contents (item_at one.table row col)
        (sound.within row col));
    merges = merges_kept one other is.id is.rows is.cols is.merges sound.merges;
    filter = filter_kept one other is.id is.rows is.cols is.filter sound.filter;
  }

  -- ---- some sheets are so already

  abbrev MayBecome : PlaceSheet → PlaceSheet → Type 0
  MayBecome one other = (other ≡ one) ⊎ EachBecomes becomes one other

  may_keep : (one other : PlaceSheet) → MayBecome one other → KeepsTitle one other
  may_keep one other (inl same) =
      subst (KeepsTitle one) (sym same) (record { id = refl; title = refl; hidden = refl })
  may_keep one other (inr is) = becomes_keeps one other is

  may_size : (one other : PlaceSheet) → MayBecome one other
      → (other.table.rows ≡ one.table.rows) × (other.table.cols ≡ one.table.cols)
  may_size one other (inl same) =
      (ap (λ (s : PlaceSheet). s.table.rows) same, ap (λ (s : PlaceSheet). s.table.cols) same)
  may_size one other (inr is) = (is.rows, is.cols)

  same_sound : (befores afters : List PlaceSheet) → ((area : Area) → IsOnSheet befores area → IsOnSheet afters area)
      → (one : PlaceSheet) → IsSheetSound befores one → IsSheetSound afters one
  same_sound befores afters areas one sound = record {
    titled = sound.titled;
    rows = sound.rows;
    cols = sound.cols;
    inside = sound.inside;
    within = λ row col. held_within befores afters areas (item_at one.table row col) (sound.within row col);
    merges = sound.merges;
    filter = sound.filter;
  }

  module _ (befores afters : List PlaceSheet) (all : AllZip MayBecome befores afters) where
    areas_stay : (area : Area) → IsOnSheet befores area → IsOnSheet afters area
    areas_stay area on =
        still_found MayBecome may_keep area.sheet (λ one. AreaWithin area one.table.rows one.table.cols)
        (λ one. AreaWithin area one.table.rows one.table.cols)
        (λ one other goes is held.
        size_within area one other (may_size one other goes).0 (may_size one other goes).1 held)
        befores afters all on

  may_sound : (befores afters : List PlaceSheet) → ((area : Area) → IsOnSheet befores area → IsOnSheet afters area)
      → ((one : Content) → IsContentWithin befores one → IsContentWithin afters (becomes one))
      → (one other : PlaceSheet) → MayBecome one other → IsSheetSound befores one → IsSheetSound afters other
  may_sound befores afters areas contents one other (inl same) sound =
      subst (IsSheetSound afters) (sym same) (same_sound befores afters areas one sound)
  may_sound befores afters areas contents one other (inr is) sound =
      sheet_becomes befores afters contents one other is sound

  -- what always holds of a spreadsheet holds once that is so of some sheets, if what is within stays within
  pub some_sound : (before after : PlaceBook) → AllZip MayBecome before.sheets after.sheets
      → after.ranges ≡ before.ranges → after.protections ≡ before.protections → after.metadata ≡ before.metadata
      → ((areas : (area : Area) → IsOnSheet before.sheets area → IsOnSheet after.sheets area) (one : Content)
      → IsContentWithin before.sheets one → IsContentWithin after.sheets (becomes one))
      → IsSound before → IsSound after
  some_sound before after all same same' same'' contents sound =
      let long = length_all_zip MayBecome before.sheets after.sheets all in
      let places = same_places MayBecome may_size before.sheets after.sheets all in
      let areas = areas_stay before.sheets after.sheets all in
      let few_sheets = sound.few_sheets in
      let few_places = sound.few_places in
      record {
        distinct = distinct_stay MayBecome may_keep before.sheets after.sheets all sound.distinct;
        titles = titles_stay MayBecome may_keep before.sheets after.sheets all sound.titles;
        visible = visible_stays MayBecome may_keep before.sheets after.sheets all ∙ sound.visible;
        sheets = all_sound (IsSheetSound before.sheets) (IsSheetSound after.sheets) MayBecome
            (may_sound before.sheets after.sheets areas (contents areas)) before.sheets after.sheets all sound.sheets;
        few_sheets = omega (arith, long, few_sheets);
        few_places = omega (arith, places, few_places);
        ranges = subst (λ ranges. All (λ (range : NamedRange). IsOnSheet after.sheets range.area) ranges) (sym same)
            (λ k d there. areas (get_or before.ranges k d).area (sound.ranges k d there));
        protections = subst (AreWithin after.sheets) (sym same')
            (protections_stay before.sheets after.sheets areas before.protections sound.protections);
        metadata = subst (AreItemsWithin after.sheets) (sym same'')
            (items_stay before.sheets after.sheets areas before.metadata sound.metadata);
      }

-- ---- and stand for those by names

module _ (becomes : Content → Content) (by_names : NameContent → NameContent) (sheets sheets' : List NameSheet)
    (same : (one : Content) → by_names (content_named (orders_of sheets) one)
    ≡ content_named (orders_of sheets') (becomes one)) where
  held_named : (held : Option Content)
      → option_map by_names (option_map (content_named (orders_of sheets)) held)
      ≡ option_map (content_named (orders_of sheets')) (option_map becomes held)
  held_named None = refl
  held_named (Some one) = ap Some (same one)

  pub becomes_stands : (one after : PlaceSheet) (names : NameSheet) → SheetStandsFor sheets one names
      → EachBecomes becomes one after
      → map (area_named (orders_of sheets)) one.merges ≡ map (area_named (orders_of sheets')) one.merges
      → option_map (filter_named (orders_of sheets)) one.filter
      ≡ option_map (filter_named (orders_of sheets')) one.filter
      → SheetStandsFor sheets' after (record names { cells = λ row col. option_map by_names (names.cells row col) })
  becomes_stands one after names stands is lines columns = record {
    id = is.id ∙ stands.id;
    title = is.title ∙ stands.title;
    hidden = is.hidden ∙ stands.hidden;
    distinct_rows = stands.distinct_rows;
    distinct_cols = stands.distinct_cols;
    rows = is.rows ∙ stands.rows;
    cols = is.cols ∙ stands.cols;
    cells = λ row col r c at_row at_col.
        ap (option_map by_names) (stands.cells row col r c at_row at_col)
        ∙ held_named (item_at one.table row col)
        ∙ ap (option_map (content_named (orders_of sheets'))) (sym (is.items row col));
    nowhere_else = λ r c out. ap (option_map by_names) (stands.nowhere_else r c out);
    merges = merges_stand (orders_of sheets) (orders_of sheets') one.merges after.merges names.merges names.merges refl
        (lines ∙ ap (map (area_named (orders_of sheets'))) (sym is.merges)) stands.merges;
    filter = stands.filter ∙ columns ∙ ap (option_map (filter_named (orders_of sheets'))) (sym is.filter);
  }
