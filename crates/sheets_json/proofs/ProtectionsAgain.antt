-- Protected ranges that are written are read again.
use Rattle.std.proofs.Common.{◌≡◌, ℕ, List, [], ◌∷◌, Bool, true, false, not, ◌&&◌, Option, None, Some, refl, ap, ◌∙◌, map, inl, inr}
use Rattle.std.specs.Prelude.{◌⊎◌, if◌then◌else◌, Ok, Err}
use Rattle.std.proofs.Math.Bool.{and-false}
use Rattle.std.proofs.lemmas.List.Elements.{All-head, All-tail}
use Rattle.std.specs.List.{All}
use Rattle.serde_json.specs.Data.{no_members}
use Rattle.serde_json.specs.View.{items_of}
use Rattle.grid_range.specs.declared.area.Area.{Area}
use Rattle.grid_range.specs.declared.band.Band.{Band}
use Rattle.grid_range.specs.declared.band.Band.TheVariants.{Whole}
use Rattle.json_shapes.specs.declared.fault.ShapeFault.TheVariants.{BadShape}
use Rattle.json_requests.specs.declared.request.Request.{Request}
use Rattle.json_shapes.specs.Reading.{Reading, both, made}
use Rattle.json_shapes.specs.Members.{nothing_left, first_part, object_of}
use Rattle.json_shapes.specs.Shapes.{each, list_of, one_more}
use Rattle.json_shapes.specs.Scalars.{index}
use Rattle.json_requests.specs.Areas.{grid_range}
use Rattle.json_requests.specs.ProtectedRanges.{editors, is_part, keeps_parts, new_protected_range, new_protection_of}
use Rattle.sheets_json.specs.Written.{count_data, list_data}
use Rattle.sheets_json.specs.Areas.{area_data}
use Rattle.sheets_json.specs.Spreadsheets.{editors_data, protection_data}
use Rattle.sheets_json.specs.Laws.{IsIndexed, IsWhole, ProtectionsAreReadAgain, if_filled, if_some, if_true}
use Rattle.sheets_json.proofs.MetadataAgain.{id_again}
use Rattle.sheets_json.proofs.ReadAgain.{areas_again, each_text_again}

editors_again : (users : List (List ℕ)) → object_of editors (editors_data users) ≡ Ok users
editors_again users = rw (each_text_again users) refl

each_area_again : (areas : List Area) → All IsIndexed areas
    → each (object_of grid_range) (items_of (map area_data areas)) ≡ Ok areas
each_area_again [] all = refl
each_area_again (first ∷ areas) all =
    ap (λ read. made one_more (both read (each (object_of grid_range) (items_of (map area_data areas)))))
    (areas_again first (All-head IsIndexed first areas all))
    ∙ ap (λ read. made one_more (both (Ok first) read)) (each_area_again areas (All-tail IsIndexed first areas all))

-- what is read of editors and of ranges, if they are given
abbrev editors_read : Option (List (List ℕ)) → Reading (Option (List (List ℕ)))
editors_read None = Ok None
editors_read (Some users) = made Some (object_of editors (editors_data users))

abbrev ranges_read : List Area → Reading (Option (List Area))
ranges_read [] = Ok None
ranges_read (first ∷ areas) = made Some (list_of (object_of grid_range) (list_data area_data (first ∷ areas)))

editors_are : (users : Option (List (List ℕ))) → editors_read users ≡ Ok users
editors_are None = refl
editors_are (Some users) = ap (made Some) (editors_again users)

ranges_are : (areas : List Area) → All IsIndexed areas → ranges_read areas ≡ Ok (if_some areas)
ranges_are [] all = refl
ranges_are (first ∷ areas) all = ap (made Some) (each_area_again (first ∷ areas) all)

-- what is read of the parts of a protected range
abbrev read_of : Reading ℕ → Reading Area → Option (List ℕ) → Option Bool → Reading (Option (List Area))
    → Reading (Option (List (List ℕ))) → Reading Request
read_of id area description warns ranges users =
    made first_part (both
    (made new_protection_of (both (both (both (made Some id) area)
    (both (both (Ok description) (Ok warns)) (Ok (Some tt)))) (both ranges users)))
    (nothing_left no_members))

parts_read : (id : ℕ) (area : Area) (description : List ℕ) (warns can_edit : Bool) (ranges : List Area)
    (users : Option (List (List ℕ)))
    → object_of new_protected_range (protection_data (record {
      description = description;
      editors = users;
      protected_range_id = id;
      range = area;
      requesting_user_can_edit = can_edit;
      unprotected_ranges = ranges;
      warning_only = warns;
    }))
    ≡ read_of (index (count_data id)) (object_of grid_range (area_data area)) (if_filled description) (if_true warns)
    (ranges_read ranges) (editors_read users)
parts_read id area [] true can_edit [] None = refl
parts_read id area [] false can_edit [] None = refl
parts_read id area [] true can_edit (first ∷ ranges) None = refl
parts_read id area [] false can_edit (first ∷ ranges) None = refl
parts_read id area (byte ∷ bytes) true can_edit [] None = refl
parts_read id area (byte ∷ bytes) false can_edit [] None = refl
parts_read id area (byte ∷ bytes) true can_edit (first ∷ ranges) None = refl
parts_read id area (byte ∷ bytes) false can_edit (first ∷ ranges) None = refl
parts_read id area [] true can_edit [] (Some users) = refl
parts_read id area [] false can_edit [] (Some users) = refl
parts_read id area [] true can_edit (first ∷ ranges) (Some users) = refl
parts_read id area [] false can_edit (first ∷ ranges) (Some users) = refl
parts_read id area (byte ∷ bytes) true can_edit [] (Some users) = refl
parts_read id area (byte ∷ bytes) false can_edit [] (Some users) = refl
parts_read id area (byte ∷ bytes) true can_edit (first ∷ ranges) (Some users) = refl
parts_read id area (byte ∷ bytes) false can_edit (first ∷ ranges) (Some users) = refl

-- ---- ranges are left open in a whole sheet alone

abbrev has_some : List Area → Bool
has_some [] = false
has_some (first ∷ areas) = true

parts_kept : (id : ℕ) (area : Area) (description : List ℕ) (warns can_edit : Bool) (ranges : List Area)
    (users : Option (List (List ℕ)))
    → keeps_parts (protection_data (record {
      description = description;
      editors = users;
      protected_range_id = id;
      range = area;
      requesting_user_can_edit = can_edit;
      unprotected_ranges = ranges;
      warning_only = warns;
    }))
    ≡ not (is_part (Some (area_data area)) && has_some ranges)
parts_kept id area [] true can_edit [] None = refl
parts_kept id area [] false can_edit [] None = refl
parts_kept id area [] true can_edit (first ∷ ranges) None = refl
parts_kept id area [] false can_edit (first ∷ ranges) None = refl
parts_kept id area (byte ∷ bytes) true can_edit [] None = refl
parts_kept id area (byte ∷ bytes) false can_edit [] None = refl
parts_kept id area (byte ∷ bytes) true can_edit (first ∷ ranges) None = refl
parts_kept id area (byte ∷ bytes) false can_edit (first ∷ ranges) None = refl
parts_kept id area [] true can_edit [] (Some users) = refl
parts_kept id area [] false can_edit [] (Some users) = refl
parts_kept id area [] true can_edit (first ∷ ranges) (Some users) = refl
parts_kept id area [] false can_edit (first ∷ ranges) (Some users) = refl
parts_kept id area (byte ∷ bytes) true can_edit [] (Some users) = refl
parts_kept id area (byte ∷ bytes) false can_edit [] (Some users) = refl
parts_kept id area (byte ∷ bytes) true can_edit (first ∷ ranges) (Some users) = refl
parts_kept id area (byte ∷ bytes) false can_edit (first ∷ ranges) (Some users) = refl

no_part : (sheet : ℕ) (rows cols : Band) → rows ≡ Whole → cols ≡ Whole
    → is_part (Some (area_data (record { sheet = sheet; rows = rows; cols = cols }))) ≡ false
no_part sheet rows cols r c = rw (r, c) refl

none_open : (area : Area) (ranges : List Area) → (ranges ≡ []) ⊎ (IsWhole area)
    → not (is_part (Some (area_data area)) && has_some ranges) ≡ true
none_open area ranges (inl none) = rw (none) (ap not (and-false (is_part (Some (area_data area)))))
none_open area ranges (inr all) = rw (no_part area.sheet area.rows area.cols all.0 all.1) refl

such : (kept : Bool) (read : Reading Request) → kept ≡ true → (if kept then read else Err BadShape) ≡ read
such true read is = refl
such false read is = cc

pub protections_again : ProtectionsAreReadAgain
protections_again shown is =
    such (keeps_parts (protection_data shown)) (object_of new_protected_range (protection_data shown))
    (parts_kept shown.protected_range_id shown.range shown.description shown.warning_only
    shown.requesting_user_can_edit shown.unprotected_ranges shown.editors
    ∙ none_open shown.range shown.unprotected_ranges is.opens)
    ∙ parts_read shown.protected_range_id shown.range shown.description shown.warning_only
    shown.requesting_user_can_edit shown.unprotected_ranges shown.editors
    ∙ ap (λ id. read_of id (object_of grid_range (area_data shown.range)) (if_filled shown.description)
    (if_true shown.warning_only) (ranges_read shown.unprotected_ranges) (editors_read shown.editors))
    (id_again shown.protected_range_id is.id)
    ∙ ap (λ area. read_of (Ok shown.protected_range_id) area (if_filled shown.description) (if_true shown.warning_only)
    (ranges_read shown.unprotected_ranges) (editors_read shown.editors)) (areas_again shown.range is.range)
    ∙ ap (λ ranges. read_of (Ok shown.protected_range_id) (Ok shown.range) (if_filled shown.description)
    (if_true shown.warning_only) ranges (editors_read shown.editors))
    (ranges_are shown.unprotected_ranges is.unprotected)
    ∙ ap (read_of (Ok shown.protected_range_id) (Ok shown.range) (if_filled shown.description)
    (if_true shown.warning_only) (Ok (if_some shown.unprotected_ranges))) (editors_are shown.editors)
