-- The sheet that has an id is changed in a list of shared sheets, and keeps its id.
use Rattle.std.proofs.Common.{◌≡◌, ◌≢◌, ℕ, ◌<◌, refl, sym, ap, ◌∙◌, List, [], ◌∷◌, length, get_or, set, cond, Bool, true, false, inl, inr}
use Rattle.std.specs.Prelude.{None, Option, Some, is_some, map, ◌==◌}
use Rattle.std.specs.Arc.{arc_value}
use Rattle.std.specs.List.{position_from}
use Rattle.std.specs.Option.{IsSome}
use Rattle.std.specs.declared.sync.Arc.{Arc}
use Rattle.std.proofs.Common.{Global}
use Rattle.std.proofs.lemmas.Bool.{cases_order, eqb-true, false_from_ne_true, false≢true}
use Rattle.std.proofs.lemmas.List.{map-set}
use Rattle.dev_metadata.specs.declared.types.Item.{Item}
use Rattle.named_ranges.specs.declared.range.NamedRange.{NamedRange}
use Rattle.protection.specs.declared.range.Protection.{Protection}
use Rattle.world_model.specs.Book.{PlaceBook}
use Rattle.world_model.specs.Sheet.{PlaceSheet}
use Rattle.world_model.specs.Sound.{place_sheet_with}
use Rattle.dimension_ops.specs.declared.book.Book.TheInside.{Inside}
use Rattle.dimension_ops.proofs.Finding.{IsFoundAt, found_at, none_from}
use Rattle.dimension_ops.proofs.Putting.{IdsDiffer, changed_at_place, seen_stands}

-- the spreadsheet of these sheets
abbrev pub as_book : List ℕ → List ℕ → List ℕ → List NamedRange → List Protection → List Item → List PlaceSheet
    → PlaceBook
as_book id title owner ranges protections metadata sheets = record {
  id = id;
  title = title;
  owner = owner;
  sheets = sheets;
  ranges = ranges;
  protections = protections;
  metadata = metadata;
}

-- what is kept of a spreadsheet, with these sheets
abbrev pub kept_book : Inside → List PlaceSheet → PlaceBook
kept_book kept sheets = as_book kept.id kept.title kept.owner kept.names kept.protections kept.metadata sheets

abbrev pub has_id : ℕ → PlaceSheet → Bool
has_id id sheet = sheet.id == id

-- the place among the shared sheets is that of the sheet with the id
pub place_found : (slice items : List (Arc PlaceSheet Global)) (id place : ℕ) → slice ≡ items
    → Some place ≡ position_from (has_id id) 0 (map arc_value slice)
    → IsFoundAt (has_id id) (map arc_value items) place
place_found slice items id place same at = found_at (has_id id) (map arc_value items) place
    (ap (λ list. position_from (has_id id) 0 (map arc_value list)) (sym same) ∙ sym at)

-- a sheet that is there has a place
pub has_place : (slice items : List (Arc PlaceSheet Global)) (id : ℕ) (place : Option ℕ)
    → ((found : ℕ) → place ≡ Some found → ⊥) → slice ≡ items
    → place ≡ position_from (has_id id) 0 (map arc_value slice) → IsSome (place_sheet_with id (map arc_value items)) → ⊥
has_place slice items id (Some found) none same at some = none found refl
has_place slice items id None none same at some =
    false≢true (sym (ap is_some (none_from (has_id id) (map arc_value items) 0
    (ap (λ list. position_from (has_id id) 0 (map arc_value list)) (sym same) ∙ sym at))) ∙ some)

-- another sheet has another id
others : (sheets : List PlaceSheet) (id place : ℕ) → IdsDiffer sheets → IsFoundAt (has_id id) sheets place
    → (i : ℕ) (d : PlaceSheet) → i < length sheets → i ≢ place → has_id id (get_or sheets i d) ≡ false
others sheets id place distinct found i d there apart = false_from_ne_true ((get_or sheets i d).id == id) (λ is.
    let one : (get_or sheets i d).id ≡ id = eqb-true (get_or sheets i d).id id is in
    let other : (get_or sheets place d).id ≡ id = eqb-true (get_or sheets place d).id id (found.passes d) in
    elim (cases_order i place) [
      | inl same ↦ absurd (apart same)
      | inr which ↦ elim which [
        | inl below ↦ absurd (distinct i place d below found.there (one ∙ sym other))
        | inr above ↦ absurd (distinct place i d above there (other ∙ sym one))
      ]
    ])

module _ (items : List (Arc PlaceSheet Global)) (id place : ℕ) (old new : Arc PlaceSheet Global)
    (is : old ≡ get_or items place old) (change : PlaceSheet → PlaceSheet) (distinct : IdsDiffer (map arc_value items))
    (found : IsFoundAt (has_id id) (map arc_value items) place) (made : arc_value new ≡ change (arc_value old)) where
  abbrev changed : PlaceSheet → PlaceSheet
  changed sheet = cond (sheet.id == id) (change sheet) sheet

  pub seen_changed : map arc_value (set items place new) ≡ map changed (map arc_value items)
  seen_changed =
      map-set arc_value items place new
      ∙ ap (set (map arc_value items) place)
      (made ∙ ap change (seen_stands arc_value items place old new is found.there))
      ∙ changed_at_place (has_id id) change (map arc_value items) place found
      (others (map arc_value items) id place distinct found) (arc_value old)

module _ (id : ℕ) (change : PlaceSheet → PlaceSheet) (keeps : (sheet : PlaceSheet) → (change sheet).id ≡ sheet.id) where
  own_id : (b : Bool) (sheet : PlaceSheet) → (cond b (change sheet) sheet).id ≡ sheet.id
  own_id true sheet = keeps sheet
  own_id false sheet = refl

  pub ids_kept : (sheets : List PlaceSheet)
      → map (λ (sheet : PlaceSheet). sheet.id) (map (λ sheet. cond (sheet.id == id) (change sheet) sheet) sheets)
      ≡ map (λ (sheet : PlaceSheet). sheet.id) sheets
  ids_kept [] = refl
  ids_kept (s ∷ ss) =
      ap (λ n. n
      ∷ map (λ (sheet : PlaceSheet). sheet.id) (map (λ sheet. cond (sheet.id == id) (change sheet) sheet) ss))
      (own_id (s.id == id) s)
      ∙ ap (λ ns. s.id ∷ ns) (ids_kept ss)
