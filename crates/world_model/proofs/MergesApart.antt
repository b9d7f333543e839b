-- The merges of a sheet are known by the names of their lines.
use Rattle.std.proofs.Common.{◌≡◌, subst, List}
use Rattle.std.specs.Prelude.{Contains, map}
use Rattle.std.specs.List.{All, AllZip}
use Rattle.std.specs.List.Sorted.{IsStrictlySortedBy}
use Rattle.std.proofs.lemmas.List.Elements.{All-contains}
use Rattle.cell_value.specs.Elements.{Contains-map, Contains-map_from}
use Rattle.grid_range.specs.declared.area.Area.{Area}
use Rattle.merge_ranges.specs.Calls.{ListsAreSame}
use Rattle.merge_ranges.specs.Merges.{by_first_cell}
use Rattle.world_model.specs.Area.{NameArea, area_named}
use Rattle.world_model.specs.Book.{orders_of}
use Rattle.world_model.specs.Sheet.{NameSheet, PlaceSheet}
use Rattle.world_model.specs.Sound.{IsOnSheet}
use Rattle.world_model.specs.StandsFor.{SheetStandsFor}
use Rattle.world_model.proofs.ContentsApart.{in_orders, same_area}

-- areas of the same names are the same
module _ (sheets : List NameSheet) (ones others : List PlaceSheet) (stand : AllZip (SheetStandsFor sheets) ones sheets)
    (stand' : AllZip (SheetStandsFor sheets) others sheets) (some more : List Area) (on : All (IsOnSheet ones) some)
    (on' : All (IsOnSheet others) more) where
  abbrev named : Area → NameArea
  named = area_named (orders_of sheets)

  also_listed : ((area : NameArea) → Contains (map named some) area → Contains (map named more) area)
      → (merge : Area) → Contains some merge → Contains more merge
  also_listed also merge has =
      let (other, has', same) = Contains-map_from named more (named merge)
      (also (named merge) (Contains-map named some merge has)) in
      subst (Contains more)
      (same_area (orders_of sheets) other merge
      (in_orders sheets others other stand' (All-contains (IsOnSheet others) more other on' has'))
      (in_orders sheets ones merge stand (All-contains (IsOnSheet ones) some merge on has)) same) has'

pub merges_apart : ListsAreSame → (sheets : List NameSheet) (ones others : List PlaceSheet)
    → AllZip (SheetStandsFor sheets) ones sheets → AllZip (SheetStandsFor sheets) others sheets
    → (some more : List Area) → All (IsOnSheet ones) some → All (IsOnSheet others) more
    → IsStrictlySortedBy by_first_cell some → IsStrictlySortedBy by_first_cell more
    → ((area : NameArea) → Contains (map (area_named (orders_of sheets)) some) area
    → Contains (map (area_named (orders_of sheets)) more) area)
    → ((area : NameArea) → Contains (map (area_named (orders_of sheets)) more) area
    → Contains (map (area_named (orders_of sheets)) some) area)
    → some ≡ more
merges_apart lists sheets ones others stand stand' some more on on' sorted sorted' also also' =
    let there = also_listed sheets ones others stand stand' some more on on' also in
    let back = also_listed sheets others ones stand' stand more some on' on also' in
    lists some more
    record { in_order = sorted; exactly = λ area. (there area, back area) }
    record { in_order = sorted'; exactly = λ area. (back area, there area) }
