-- The protected ranges of a sheet, read one after another in order of id.
use Rattle.std.proofs.Common.{◌≡◌, ◌+◌, ◌++◌, ◌∷◌, ℕ, List, [], sym, ap, ◌∙◌, take}
use Rattle.std.specs.Prelude.{Some, map, filter, slice_get, ◌==◌}
use Rattle.std.proofs.lemmas.List.{map-append}
use Rattle.std.proofs.lemmas.List.Elements.{filter-append}
use Rattle.protection.specs.declared.range.Protection.{Protection}
use Rattle.sheets_json.specs.declared.spreadsheet.ShownProtection.{ShownProtection}
use Rattle.request_kinds.specs.Shown.{shown_protection}
use Rattle.request_kinds.specs.ListingLaws.{one_read}

module _ (user owner : List ℕ) (sheet : ℕ) where
  -- those of the sheet, as the user is shown them
  abbrev pub shown_among : List Protection → List ShownProtection
  shown_among protections = map (shown_protection user owner) (filter (λ one. one.area.sheet == sheet) protections)

  -- one more
  pub shown_next : (all : List Protection) (at : ℕ) (one : Protection) → slice_get all at ≡ Some one
      → shown_among (take at all) ++ shown_among (one ∷ []) ≡ shown_among (take (at + 1) all)
  shown_next all at one is =
      let of_sheet = λ (other : Protection). other.area.sheet == sheet in
      sym (map-append (shown_protection user owner) (filter of_sheet (take at all)) (filter of_sheet (one ∷ [])))
      ∙ ap (map (shown_protection user owner)) (sym (filter-append of_sheet (take at all) (one ∷ [])))
      ∙ ap shown_among (one_read all at one is)
