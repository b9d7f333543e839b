-- addProtectedRange, updateProtectedRange and deleteProtectedRange: where no rule is broken the protected ranges that
-- are set are within their sheets.
use Rattle.std.proofs.Common.{◌≡◌, ℕ, refl, sym, ◌∷◌, [], List, ◌∙◌, false}
use Rattle.std.specs.Prelude.{Option, None, Some, Ok, Err, ◌==◌}
use Rattle.std.specs.Option.{IsSome, is_none, option_map}
use Rattle.std.proofs.lemmas.Bool.{eqb-true, or_parts, true≢false}
use Rattle.cell_value.specs.Ids.{IsLeastUnused, IsNewId}
use Rattle.grid_range.specs.declared.area.Area.{Area}
use Rattle.protection.specs.Listed.{has_id, with_one_more, without_id}
use Rattle.protection.specs.Patch.{is_bad}
use Rattle.protection.specs.declared.range.Protection.{Protection}
use Rattle.protection.specs.declared.range.ProtectionPatch.{ProtectionPatch}
use Rattle.world_model.specs.Book.{PlaceBook}
use Rattle.world_model.specs.BookChange.{BookChange}
use Rattle.world_model.specs.ProtectionLaws.{ProtectionsAreSet, place_protections_set}
use Rattle.world_model.specs.Sheet.{PlaceSheet}
use Rattle.world_model.specs.Sound.{IsSound}
use Rattle.dimension_ops.specs.Broken.{first_broken}
use Rattle.dimension_ops.specs.JudgingLaws.{breaks_none}
use Rattle.dimension_ops.specs.ProtectionLaws.{changed_within, fewer_within, more_within}
use Rattle.dimension_ops.specs.declared.rule.Rule.{Rule}
use Rattle.request_kinds.specs.AddProtectedRange.{IsAddProtectedRange, IsProtectionAdded, protection_added_broken, protection_made, put_among}
use Rattle.request_kinds.specs.AreasWithin.{AreUnbroken, patch_within}
use Rattle.request_kinds.specs.DeleteProtectedRange.{protection_deleted, protection_deleted_broken}
use Rattle.request_kinds.specs.Protections.{area_cut, areas_given, patch_cut}
use Rattle.request_kinds.specs.UpdateProtectedRange.{protection_updated, protection_updated_broken, protections_updated}
use Rattle.sheets_json.specs.declared.spreadsheet.Reply.TheVariants as reply
use Rattle.answered_calls.proofs.Telling.{IsMadeSome, judged_made_some}
use Rattle.answered_calls.proofs.UnusedNumbers.{HasLeast, some_unused}

-- ---- an id that none has

unused_id : (protections : List Protection) → HasLeast (has_id protections)
unused_id protections = some_unused (λ (one : Protection) id. one.id == id) protections
    (λ one m n from from' to to' is is'. sym (eqb-true one.id m is) ∙ eqb-true one.id n is')

id_asked : (protections : List Protection) (given : Option ℕ)
    → (id : ℕ) × IsNewId (IsLeastUnused (has_id protections)) given id
id_asked protections None = unused_id protections
id_asked protections (Some id) = (id, refl)

-- ---- the requests

area_is_given : (sheets : List PlaceSheet) (area : Option Area) → is_none area ≡ false
    → IsSome (option_map (area_cut sheets) area)
area_is_given sheets None none = absurd (true≢false none)
area_is_given sheets (Some area) some = refl

module _ (set : ProtectionsAreSet) (user : List ℕ) (book : PlaceBook) (sound : IsSound book) where
  some_added : (id : Option ℕ) (patch : ProtectionPatch) (first : Option Rule)
      → first_broken (protection_added_broken id patch book) ≡ first
      → IsMadeSome book (IsProtectionAdded user id patch book first)
  some_added id patch (Some broken) is none = none (Err broken) refl tt
  some_added id patch None is none =
      let unbroken = breaks_none (protection_added_broken id patch book) is in
      let (new, is_new) = id_asked book.protections id in
      let areas : AreUnbroken book.sheets (areas_given patch) = record {
        no_sheet = unbroken.no_sheet;
        bad_range = unbroken.bad_range;
        outside_grid = unbroken.outside_grid;
      } in
      let more = with_one_more (protection_made user patch book new) book.protections in
      none (Ok (put_among user book (protection_made user patch book new))) (new, is_new, refl) (
        place_protections_set more book,
        set.changes book more (more_within book.sheets book.protections
            sound.protections user book.owner (patch_cut book.sheets patch) (patch_within book.sheets patch areas)
            (area_is_given book.sheets patch.area
            (or_parts (is_none patch.area) (is_bad patch None) unbroken.bad_shape).0) new),
      )

  pub add_protection_made : (id : Option ℕ) (patch : ProtectionPatch)
      → IsMadeSome book (IsAddProtectedRange user id patch book)
  add_protection_made id patch = some_added id patch (first_broken (protection_added_broken id patch book)) refl

  pub update_protection_made : (id : ℕ) (patch : ProtectionPatch)
      → IsMadeSome book (λ told. told ≡ protection_updated user id patch book)
  update_protection_made id patch =
      let now = protections_updated user id patch book in
      judged_made_some book (protection_updated_broken user id patch book)
      (reply.Empty, BookChange.ProtectionsSet now ∷ []) (λ none.
      let unbroken = breaks_none (protection_updated_broken user id patch book) none in
      let areas : AreUnbroken book.sheets (areas_given patch) = record {
        no_sheet = unbroken.no_sheet;
        bad_range = unbroken.bad_range;
        outside_grid = unbroken.outside_grid;
      } in (
        place_protections_set now book,
        set.changes book now (changed_within book.sheets book.protections sound.protections user book.owner
            (patch_cut book.sheets patch) (patch_within book.sheets patch areas) id),
      ))

  pub delete_protection_made : (id : ℕ) → IsMadeSome book (λ told. told ≡ protection_deleted user id book)
  delete_protection_made id =
      let now = without_id id book.protections in
      judged_made_some book (protection_deleted_broken user id book) (reply.Empty, BookChange.ProtectionsSet now ∷ [])
      (λ none. (
        place_protections_set now book,
        set.changes book now (fewer_within book.sheets book.protections sound.protections id),
      ))
