-- Protections keep a user off the same cells by places and by names.
use Rattle.std.proofs.Common.{◌≡◌, ℕ, zero, suc, ◌+◌, ◌-◌, ◌<◌, ◌≤◌, ◌||◌, refl, sym, ap, subst, ◌∙◌, List, [], ◌∷◌, length, drop, get_or, Bool, false, arith, inl, inr, length-drop}
use Rattle.std.specs.Prelude.{◌↔◌, Any, Contains, Some, map, slice_get}
use Rattle.std.specs.List.{All, AllZip}
use Rattle.std.specs.Str.{bytes_eq}
use Rattle.std.proofs.lemmas.Bool.{false_from_ne_true, false≢true, or_parts}
use Rattle.std.proofs.lemmas.List.{get_or-drop, get_or-map, get_or-take, length-map}
use Rattle.std.proofs.lemmas.List.Elements.{All-map}
use Rattle.std.proofs.lemmas.Option.{get_or_from_slice_get, slice_get-get_or, slice_get_within}
use Rattle.std.proofs.lemmas.Slice.Eq.{bytes_eq-Decides}
use Rattle.cell_value.specs.Elements.{Contains-cons, Contains-cons_cases, Contains-head, nothing_in}
use Rattle.cell_value.specs.Texts.{is_among}
use Rattle.grid_range.specs.Band.{HasLine, Within}
use Rattle.grid_range.specs.Order.{IsOrder}
use Rattle.grid_range.specs.declared.area.Area.{Area}
use Rattle.grid_range.specs.declared.axis.Axis.TheVariants.{Rows, Columns}
use Rattle.grid_range.specs.declared.band.Band.{Band}
use Rattle.grid_range.specs.declared.band.Band.TheVariants.{Whole, From, Span}
use Rattle.protection.specs.Denial.{Denies, HasCell}
use Rattle.protection.specs.declared.range.Protection.{Protection}
use Rattle.world_model.specs.Area.{NameArea, area_named, band_named}
use Rattle.world_model.specs.Book.{NameBook, PlaceBook, orders_of}
use Rattle.world_model.specs.Protected.{CoversCell, HasName, IsProtected, KeepsOff}
use Rattle.world_model.specs.Protections.{NameProtection, protection_named}
use Rattle.world_model.specs.Sheet.{NameSheet, PlaceSheet}
use Rattle.world_model.specs.Sound.{IsOnSheet, IsProtectionWithin}
use Rattle.world_model.specs.StandsFor.{BookStandsFor, SheetStandsFor}
use Rattle.world_model.proofs.BandsApart.{length-range}
use Rattle.world_model.proofs.ContentsApart.{in_orders}
use Rattle.world_model.proofs.Lines.{line_has_one_place}

-- ---- a band has a line by its place just where it has it by its name

module _ (order : List ℕ) (distinct : IsOrder order) (line name : ℕ) (at : slice_get order line ≡ Some name) where
  -- the line at a place behind `start` that has the name
  found_at : (start k : ℕ) → start + k < length order → get_or order (start + k) name ≡ name → start + k ≡ line
  found_at start k there same =
      line_has_one_place order (start + k) line name distinct
      (slice_get-get_or order (start + k) name there ∙ ap Some same) at

  named_at : (start : ℕ) → start ≤ line → get_or order (start + (line - start)) name ≡ name
  named_at start behind =
      let place : start + (line - start) ≡ line = omega (arith, behind) in
      ap (λ n. get_or order n name) place ∙ get_or_from_slice_get order line name name at

  pub has_line : (band : Band) → Within band (length order) → HasName (band_named order band) name → HasLine band line
  has_line Whole within has = tt
  has_line (From start) within (k, there, same) =
      let long = length-drop start order in
      let place = found_at start k (omega (arith, there, long)) (sym (get_or-drop start order k name) ∙ same) in
      omega (arith, place)
  has_line (Span start end) (some, inside) (k, there, same) =
      let long = length-range order start end inside in
      let early : k < end - start = omega (arith, there, long) in
      let place = found_at start k (omega (arith, early, some, inside))
      (sym (get_or-drop start order k name) ∙ sym (get_or-take (end - start) (drop start order) k name early) ∙ same) in
      (omega (arith, place), omega (arith, place, early, some))

  pub has_name : (band : Band) → Within band (length order) → HasLine band line → HasName (band_named order band) name
  has_name Whole within has = tt
  has_name (From start) within behind =
      let inside : line < length order = slice_get_within order line name at in
      let long = length-drop start order in (
        line - start,
        omega (arith, behind, inside, long),
        get_or-drop start order (line - start) name ∙ named_at start behind,
      )
  has_name (Span start end) (some, inside) (behind, before) =
      let long = length-range order start end inside in
      let early : line - start < end - start = omega (arith, behind, before) in (
        line - start,
        omega (arith, early, long),
        get_or-take (end - start) (drop start order) (line - start) name early
            ∙ get_or-drop start order (line - start) name ∙ named_at start behind,
      )

-- ---- a user is an editor by a test just where he is one

among_not : (user : List ℕ) (names : List (List ℕ)) → is_among user names ≡ false → ¬ (Contains names user)
among_not user [] not has = nothing_in user has
among_not user (n ∷ ns) not has =
    let apart = or_parts (bytes_eq n user) (is_among user ns) not in
    elim (Contains-cons_cases n user ns has) [
      | inl same ↦ false≢true (sym apart.0 ∙ (bytes_eq-Decides n user).1 same)
      | inr behind ↦ among_not user ns apart.1 behind
    ]

either_false : (one other : Bool) → one ≡ false → other ≡ false → (one || other) ≡ false
either_false one other not not' = ap (λ b. b || other) not ∙ not'

not_among : (user : List ℕ) (names : List (List ℕ)) → ¬ (Contains names user) → is_among user names ≡ false
not_among user [] none = refl
not_among user (n ∷ ns) none =
    either_false (bytes_eq n user) (is_among user ns)
    (false_from_ne_true (bytes_eq n user) (λ is.
    none (subst (Contains (n ∷ ns)) ((bytes_eq-Decides n user).0 is) (Contains-head n ns))))
    (not_among user ns (λ behind. none (Contains-cons n user ns behind)))

-- ---- protections

module _ (sheets : List NameSheet) (placed : List PlaceSheet) (all : AllZip (SheetStandsFor sheets) placed sheets)
    (id row col r c : ℕ) (at_row : slice_get (orders_of sheets id Rows) row ≡ Some r)
    (at_col : slice_get (orders_of sheets id Columns) col ≡ Some c) where
  abbrev named : Area → NameArea
  named = area_named (orders_of sheets)

  covers : (area : Area) → IsOnSheet placed area → HasCell id row col area → CoversCell id r c (named area)
  covers area on (same, (rows, cols)) =
      let within = in_orders sheets placed area all on in (
        same,
        has_name (orders_of sheets area.sheet Rows) within.distinct_rows row r
            (subst (λ n. slice_get (orders_of sheets n Rows) row ≡ Some r) (sym same) at_row) area.rows
            within.rows rows,
        has_name (orders_of sheets area.sheet Columns) within.distinct_cols col c
            (subst (λ n. slice_get (orders_of sheets n Columns) col ≡ Some c) (sym same) at_col) area.cols
            within.cols cols,
      )

  covered : (area : Area) → IsOnSheet placed area → CoversCell id r c (named area) → HasCell id row col area
  covered area on (same, rows, cols) =
      let within = in_orders sheets placed area all on in (
        same,
        (
          has_line (orders_of sheets area.sheet Rows) within.distinct_rows row r
              (subst (λ n. slice_get (orders_of sheets n Rows) row ≡ Some r) (sym same) at_row) area.rows
              within.rows rows,
          has_line (orders_of sheets area.sheet Columns) within.distinct_cols col c
              (subst (λ n. slice_get (orders_of sheets n Columns) col ≡ Some c) (sym same) at_col) area.cols within.cols
              cols,
        ),
      )

  module _ (user owner : List ℕ) (one : Protection) (within : IsProtectionWithin placed one) where
    keeps_off : Denies user owner id row col one → KeepsOff user owner id r c (protection_named (orders_of sheets) one)
    keeps_off denies =
        let apart = or_parts (one.warning_only || bytes_eq user owner) (is_among user one.editors) denies.kept_off in
        let guards = or_parts one.warning_only (bytes_eq user owner) apart.0 in
        record {
          guards = guards.0;
          covered = covers one.area within.0 denies.covered;
          not_opened = All-map (λ range. ¬ (CoversCell id r c range)) named one.unprotected
              (λ k d there opened. denies.not_opened k d there
              (covered (get_or one.unprotected k d) (within.1 k d there) opened));
          not_editor = among_not user one.editors apart.1;
          not_owner = λ same. false≢true (sym guards.1 ∙ (bytes_eq-Decides user owner).1 same);
        }

    denies : KeepsOff user owner id r c (protection_named (orders_of sheets) one) → Denies user owner id row col one
    denies keeps = record {
      kept_off = either_false (one.warning_only || bytes_eq user owner) (is_among user one.editors)
          (either_false one.warning_only (bytes_eq user owner) keeps.guards
          (false_from_ne_true (bytes_eq user owner) (λ is. keeps.not_owner ((bytes_eq-Decides user owner).0 is))))
          (not_among user one.editors keeps.not_editor);
      covered = covered one.area within.0 keeps.covered;
      not_opened = λ k d there opened.
          keeps.not_opened k (named d) (subst (λ n. k < n) (sym (length-map one.unprotected named)) there)
          (subst (CoversCell id r c) (sym (get_or-map named one.unprotected k d (named d) there))
          (covers (get_or one.unprotected k d) (within.1 k d there) opened));
    }

  module _ (user owner : List ℕ) (protections : List Protection)
      (within : All (IsProtectionWithin placed) protections) where
    abbrev by_names : Protection → NameProtection
    by_names = protection_named (orders_of sheets)

    -- each of them does by names what it does by places
    kept_off : Any (Denies user owner id row col) protections
        → Any (KeepsOff user owner id r c) (map by_names protections)
    kept_off (k, one, there, is, denies_it) = (
      k,
      by_names one,
      subst (λ n. k < n) (sym (length-map protections by_names)) there,
      get_or-map by_names protections k one (by_names one) there ∙ ap by_names is,
      keeps_off user owner one (subst (IsProtectionWithin placed) is (within k one there)) denies_it,
    )

  is_denied : (user owner : List ℕ) (protections : List Protection) → All (IsProtectionWithin placed) protections
      → Any (KeepsOff user owner id r c) (map (protection_named (orders_of sheets)) protections)
      → Any (Denies user owner id row col) protections
  is_denied user owner [] within (k, named_one, there, is, keeps) = absurd (let no : ⊥ = omega (arith, there) in no)
  is_denied user owner (p ∷ ps) within (zero, named_one, there, is, keeps) = (
    0,
    p,
    omega arith,
    refl,
    denies user owner p (within 0 p (omega arith)) (subst (KeepsOff user owner id r c) (sym is) keeps),
  )
  is_denied user owner (p ∷ ps) within (suc k, named_one, there, is, keeps) =
      let (place, one, inside, found, denies_it) =
      is_denied user owner ps (λ i d below. within (suc i) d (omega (arith, below)))
      (k, named_one, omega (arith, there), is, keeps) in
      (suc place, one, omega (arith, inside), found, denies_it)

-- the law
pub denials_by_name : (book : PlaceBook) (names : NameBook) (user : List ℕ) (id row col r c : ℕ)
    → BookStandsFor book names → slice_get (orders_of names.sheets id Rows) row ≡ Some r
    → slice_get (orders_of names.sheets id Columns) col ≡ Some c
    → Any (Denies user book.owner id row col) book.protections ↔ IsProtected user names id r c
denials_by_name book names user id row col r c stands at_row at_col = (
  λ denied. subst (λ owner. Any (KeepsOff user owner id r c) names.protections) stands.owner
      (subst (Any (KeepsOff user book.owner id r c)) (sym stands.protections)
      (kept_off names.sheets book.sheets stands.sheets id row col r c at_row at_col user book.owner book.protections
      stands.sound.protections denied)),
  λ protected. is_denied names.sheets book.sheets stands.sheets id row col r c at_row at_col user book.owner
      book.protections stands.sound.protections
      (subst (Any (KeepsOff user book.owner id r c)) stands.protections
      (subst (λ owner. Any (KeepsOff user owner id r c) names.protections) (sym stands.owner) protected)),
)
