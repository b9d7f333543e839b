-- What a band of names becomes when lines of its axis are inserted, deleted or moved. The reference
-- of the Google Sheets API v4 names these changes; what a range becomes after a move is this
-- project's profile.
use Rattle.std.specs.Prelude.{ℕ, List, length, not, ◌==◌, Option, None, Some, if◌then◌else◌}
use Rattle.std.specs.List.{filter, list_all}
use Rattle.std.specs.Option.{option_map}
use Rattle.grid_range.specs.Order.{is_among, first_to_last, first_to_end}
use Rattle.grid_range.specs.NameBand.{NameBand}
use Rattle.grid_range.specs.NameBand.NameBand.{Whole, Closed, Open}

-- those of the names that the order still has, in the order's order
abbrev pub survivors : List ℕ → List ℕ → List ℕ
survivors order names = filter (is_among names) order

-- those of the names that weren't inserted or moved; all of them where none is such
abbrev pub settled : List ℕ → List ℕ → List ℕ
settled changed names =
    let unmoved = filter (λ name. not (is_among changed name)) names in
    if length unmoved == 0 then names else unmoved

-- which lines some names become: none where no name is left; the names that are left where no other
-- line is in their range; else the range of those that weren't inserted or moved. A range goes from
-- the first of its names to the last, as `first_to_last`, or to the end, as `first_to_end`
abbrev pub followed_names : (List ℕ → List ℕ → List ℕ) → List ℕ → List ℕ → List ℕ → Option (List ℕ)
followed_names range order changed names =
    let surviving = survivors order names in
    if length surviving == 0 then None
    else if list_all (is_among surviving) (range order surviving) then Some surviving
    else Some (range order (settled changed surviving))

-- the band at the new order, where `changed` are the lines that were inserted or moved; none where
-- it is lost
unfoldable pub follow : List ℕ → List ℕ → NameBand → Option NameBand
follow order changed Whole = Some Whole
follow order changed (Closed names) =
    option_map Closed (followed_names first_to_last order changed names)
follow order changed (Open names) =
    option_map Open (followed_names first_to_end order changed names)
