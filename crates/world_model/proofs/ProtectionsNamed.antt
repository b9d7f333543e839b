-- Protected ranges by the places of their lines and by their names.
use Rattle.std.proofs.Common.{◌≡◌, ℕ, refl, ap, ◌∙◌, List, get_or, Bool, true, false, cond, not}
use Rattle.std.specs.Prelude.{IfSome, Option, None, Some, map, ◌==◌}
use Rattle.std.specs.List.{All, AllZip, filter_map}
use Rattle.std.specs.Option.{option_map}
use Rattle.std.proofs.lemmas.Bool.{not-true}
use Rattle.grid_range.specs.Tracking.{area_followed}
use Rattle.grid_range.specs.declared.area.Area.{Area}
use Rattle.grid_range.specs.declared.axis.Axis.{Axis}
use Rattle.grid_range.specs.declared.change.Change.{Change}
use Rattle.protection.specs.Following.{protection_followed, protection_without_sheet, ranges_elsewhere}
use Rattle.protection.specs.declared.range.Protection.{Protection}
use Rattle.world_model.specs.Area.{Orders, area_named}
use Rattle.world_model.specs.Book.{orders_of}
use Rattle.world_model.specs.LineChange.{LineChange, name_area_followed, name_protection_followed}
use Rattle.world_model.specs.Protections.{NameProtection, name_areas_elsewhere, name_protection_without, protection_named}
use Rattle.world_model.specs.Sheet.{NameSheet, PlaceSheet}
use Rattle.world_model.specs.Sound.{IsOnSheet, IsProtectionWithin}
use Rattle.world_model.specs.StandsFor.{SheetStandsFor}
use Rattle.world_model.proofs.ContentsApart.{in_orders, map_apart, same_area}
use Rattle.world_model.proofs.RangesNamed.{All-filter_map, All-left, filter-named, filter_map-named}
use Rattle.world_model.proofs.StillStands.{area_same, map_same}

-- each protection is within the sheets
abbrev pub AreWithin : List PlaceSheet → List Protection → Type 0
AreWithin sheets protections = All (IsProtectionWithin sheets) protections

-- ---- they stay within

-- where areas stay, protections do
pub protections_stay : (befores afters : List PlaceSheet)
    → ((area : Area) → IsOnSheet befores area → IsOnSheet afters area)
    → (protections : List Protection) → AreWithin befores protections → AreWithin afters protections
protections_stay befores afters areas protections within k d there = (
  areas (get_or protections k d).area (within k d there).0,
  λ i e inside. areas (get_or (get_or protections k d).unprotected i e) ((within k d there).1 i e inside),
)

-- where areas that follow do
module _ (id : ℕ) (axis : Axis) (count : ℕ) (change : Change) (befores afters : List PlaceSheet)
    (areas : (area : Area) → IsOnSheet befores area
    → IfSome (area_followed id axis count change area) (IsOnSheet afters)) where
  followed_within : (protection : Protection) → All (IsOnSheet befores) protection.unprotected → (found : Option Area)
      → IfSome found (IsOnSheet afters)
      → IfSome (option_map (λ area. record protection {
        area = area;
        unprotected = filter_map (area_followed id axis count change) protection.unprotected;
      }) found) (IsProtectionWithin afters)
  followed_within protection opened None held = tt
  followed_within protection opened (Some area) held = (
    held,
    All-filter_map (area_followed id axis count change) (IsOnSheet afters) protection.unprotected
        (λ k d there. areas (get_or protection.unprotected k d) (opened k d there)),
  )

  pub all_followed_within : (protections : List Protection) → AreWithin befores protections
      → AreWithin afters (filter_map (protection_followed id axis count change) protections)
  all_followed_within protections within =
      All-filter_map (protection_followed id axis count change) (IsProtectionWithin afters) protections
      (λ k d there.
      let one = get_or protections k d in
      followed_within one (within k d there).1 (area_followed id axis count change one.area)
      (areas one.area (within k d there).0))

-- where those of other sheets do
module _ (deleted : ℕ) (befores afters : List PlaceSheet)
    (areas : (area : Area) → (area.sheet == deleted) ≡ false → IsOnSheet befores area → IsOnSheet afters area) where
  left_within : (b : Bool) (protection : Protection) → (protection.area.sheet == deleted) ≡ b
      → IsProtectionWithin befores protection
      → IfSome
      (cond b None (Some (record protection { unprotected = ranges_elsewhere deleted protection.unprotected })))
      (IsProtectionWithin afters)
  left_within true protection is within = tt
  left_within false protection is within = (
    areas protection.area is within.0,
    All-left (λ area. not (area.sheet == deleted)) (IsOnSheet befores) (IsOnSheet afters)
        (λ area elsewhere on. areas area (not-true (area.sheet == deleted) elsewhere) on)
        protection.unprotected within.1,
  )

  pub all_left_within : (protections : List Protection) → AreWithin befores protections
      → AreWithin afters (filter_map (protection_without_sheet deleted) protections)
  all_left_within protections within =
      All-filter_map (protection_without_sheet deleted) (IsProtectionWithin afters) protections
      (λ k d there.
      let one = get_or protections k d in
      left_within (one.area.sheet == deleted) one refl (within k d there))

-- ---- and name the same lines

-- a protection names the lines of its areas
protection_same : (orders orders' : Orders) (protection : Protection)
    → area_named orders protection.area ≡ area_named orders' protection.area
    → map (area_named orders) protection.unprotected ≡ map (area_named orders') protection.unprotected
    → protection_named orders protection ≡ protection_named orders' protection
protection_same orders orders' protection area opened =
    ap (λ found. record (protection_named orders protection) { area = found }) area
    ∙ ap (λ found. record (protection_named orders' protection) { unprotected = found }) opened

-- where the lines of the sheets stay, protections name the same ones
pub protections_same : (sheets : List PlaceSheet) (orders orders' : Orders)
    → ((area : Area) → IsOnSheet sheets area → orders area.sheet ≡ orders' area.sheet)
    → (protections : List Protection) → AreWithin sheets protections
    → map (protection_named orders) protections ≡ map (protection_named orders') protections
protections_same sheets orders orders' same protections within =
    map_same (protection_named orders) (protection_named orders') protections
    (λ k d there.
    let one = get_or protections k d in
    protection_same orders orders' one (area_same sheets orders orders' same one.area (within k d there).0)
    (map_same (area_named orders) (area_named orders') one.unprotected
    (λ i e inside. area_same sheets orders orders' same (get_or one.unprotected i e)
    ((within k d there).1 i e inside))))

-- a protection follows with its areas
module _ (to : LineChange) (count : ℕ) (change : Change) (before after : Orders) where
  abbrev Follows : Area → Type 0
  Follows area = name_area_followed to (area_named before area)
      ≡ option_map (area_named after) (area_followed to.sheet to.axis count change area)

  protection_follows : (protection : Protection) → Follows protection.area → All Follows protection.unprotected
      → name_protection_followed to (protection_named before protection)
      ≡ option_map (protection_named after) (protection_followed to.sheet to.axis count change protection)
  protection_follows protection area opened =
      ap (option_map (λ found. record (protection_named before protection) {
        area = found;
        unprotected = filter_map (name_area_followed to) (map (area_named before) protection.unprotected);
      })) area
      ∙ with_area (area_followed to.sheet to.axis count change protection.area)
    where
      with_area : (found : Option Area)
          → option_map (λ area. record (protection_named before protection) {
            area = area;
            unprotected = filter_map (name_area_followed to) (map (area_named before) protection.unprotected);
          }) (option_map (area_named after) found)
          ≡ option_map (protection_named after) (option_map (λ area. record protection {
            area = area;
            unprotected = filter_map (area_followed to.sheet to.axis count change) protection.unprotected;
          }) found)
      with_area None = refl
      with_area (Some area) =
          ap (λ areas. Some (record (protection_named before protection) {
            area = area_named after area;
            unprotected = areas;
          }))
          (filter_map-named (name_area_followed to) (area_followed to.sheet to.axis count change) (area_named before)
          (area_named after) protection.unprotected opened)

  pub protections_follow : (sheets : List PlaceSheet) → ((area : Area) → IsOnSheet sheets area → Follows area)
      → (protections : List Protection) → AreWithin sheets protections
      → filter_map (name_protection_followed to) (map (protection_named before) protections)
      ≡ map (protection_named after) (filter_map (protection_followed to.sheet to.axis count change) protections)
  protections_follow sheets follow protections within =
      filter_map-named (name_protection_followed to) (protection_followed to.sheet to.axis count change)
      (protection_named before) (protection_named after) protections
      (λ k d there.
      let one = get_or protections k d in
      protection_follows one (follow one.area (within k d there).0)
      (λ i e inside. follow (get_or one.unprotected i e) ((within k d there).1 i e inside)))

-- those that are left without a sheet name the lines that they named
module _ (deleted : ℕ) (orders orders' : Orders)
    (same : (area : Area) → (area.sheet == deleted) ≡ false → area_named orders area ≡ area_named orders' area) where
  areas_left : (areas : List Area) → name_areas_elsewhere deleted (map (area_named orders) areas)
      ≡ map (area_named orders') (ranges_elsewhere deleted areas)
  areas_left areas =
      filter-named (area_named orders) (area_named orders') (λ area. not (area.sheet == deleted))
      (λ area. not (area.sheet == deleted)) (λ area. refl) areas
      (λ k d there elsewhere. same (get_or areas k d) (not-true ((get_or areas k d).sheet == deleted) elsewhere))

  protection_left : (b : Bool) (protection : Protection) → (protection.area.sheet == deleted) ≡ b
      → cond b None (Some (record (protection_named orders protection) {
        unprotected = name_areas_elsewhere deleted (map (area_named orders) protection.unprotected);
      }))
      ≡ option_map (protection_named orders')
      (cond b None (Some (record protection { unprotected = ranges_elsewhere deleted protection.unprotected })))
  protection_left true protection is = refl
  protection_left false protection is =
      ap (λ area. Some (record (protection_named orders protection) {
        area = area;
        unprotected = name_areas_elsewhere deleted (map (area_named orders) protection.unprotected);
      })) (same protection.area is)
      ∙ ap (λ areas. Some (record (protection_named orders' protection) { unprotected = areas }))
      (areas_left protection.unprotected)

  pub protections_left : (protections : List Protection)
      → filter_map (name_protection_without deleted) (map (protection_named orders) protections)
      ≡ map (protection_named orders') (filter_map (protection_without_sheet deleted) protections)
  protections_left protections =
      filter_map-named (name_protection_without deleted) (protection_without_sheet deleted) (protection_named orders)
      (protection_named orders') protections
      (λ k d there. protection_left ((get_or protections k d).area.sheet == deleted) (get_or protections k d) refl)

-- ---- protections within sheets are known by their names

protection_of_same : (one other : Protection) → one.id ≡ other.id → one.area ≡ other.area
    → one.description ≡ other.description → one.warning_only ≡ other.warning_only → one.unprotected ≡ other.unprotected
    → one.editors ≡ other.editors → one ≡ other
protection_of_same one other id area description warning unprotected editors =
    ap (λ n. record one { id = n }) id
    ∙ ap (λ found. record one { id = other.id; area = found }) area
    ∙ ap (λ text. record one { id = other.id; area = other.area; description = text }) description
    ∙ ap (λ b. record other { warning_only = b; unprotected = one.unprotected; editors = one.editors }) warning
    ∙ ap (λ areas. record other { unprotected = areas; editors = one.editors }) unprotected
    ∙ ap (λ names. record other { editors = names }) editors

module _ (sheets : List NameSheet) (ones others : List PlaceSheet) (stand : AllZip (SheetStandsFor sheets) ones sheets)
    (stand' : AllZip (SheetStandsFor sheets) others sheets) where
  one_area : (one other : Area) → IsOnSheet ones one → IsOnSheet others other
      → area_named (orders_of sheets) one ≡ area_named (orders_of sheets) other → one ≡ other
  one_area one other on on' =
      same_area (orders_of sheets) one other (in_orders sheets ones one stand on)
      (in_orders sheets others other stand' on')

  one_protection : (one other : Protection) → IsProtectionWithin ones one → IsProtectionWithin others other
      → protection_named (orders_of sheets) one ≡ protection_named (orders_of sheets) other → one ≡ other
  one_protection one other within within' same =
      protection_of_same one other (ap (λ (named : NameProtection). named.id) same)
      (one_area one.area other.area within.0 within'.0 (ap (λ (named : NameProtection). named.area) same))
      (ap (λ (named : NameProtection). named.description) same)
      (ap (λ (named : NameProtection). named.warning_only) same)
      (map_apart (area_named (orders_of sheets)) (IsOnSheet ones) (IsOnSheet others) one_area one.unprotected
      other.unprotected within.1 within'.1 (ap (λ (named : NameProtection). named.unprotected) same))
      (ap (λ (named : NameProtection). named.editors) same)

  pub protections_apart : (some more : List Protection) → AreWithin ones some → AreWithin others more
      → map (protection_named (orders_of sheets)) some ≡ map (protection_named (orders_of sheets)) more → some ≡ more
  protections_apart =
      map_apart (protection_named (orders_of sheets)) (IsProtectionWithin ones) (IsProtectionWithin others)
      one_protection
