-- updateNamedRange (Google Sheets API v4 reference, UpdateNamedRangeRequest): the name and the area are set that the
-- mask takes. That formulas have the new name then in the place of the old one is this project's profile.
use Rattle.std.specs.Prelude.{◌≡◌, ℕ, List, Option, None, Some, Result, MatchResult, Ok, Err}
use Rattle.grid_range.specs.declared.area.Area.{Area}
use Rattle.world_model.specs.Book.{PlaceBook}
use Rattle.world_model.specs.BookChange.{BookChange}
use Rattle.dimension_ops.specs.RangeRequests.{IsRangeUpdated, range_updates}
use Rattle.dimension_ops.specs.declared.rule.Rule.{Rule}
use Rattle.sheets_json.specs.declared.spreadsheet.Reply.{Reply}
use Rattle.sheets_json.specs.declared.spreadsheet.Reply.TheVariants as reply
use Rattle.request_kinds.specs.Rows.{OnArea, area_or_broken}

-- the named range with the id gets that name and that area, as far as they are given, or a rule is broken by its id or
-- its name
pub record IsRangeSet (id : List ℕ) (name : Option (List ℕ)) (book : PlaceBook) (area : Option Area)
    (told : Result (Reply × List BookChange) Rule) : Type 0 where
  pub after : PlaceBook
  pub updated : Result (Unit {0}) Rule
  pub updates : IsRangeUpdated id name area book after updated
  pub tells : MatchResult updated
      (λ done. told ≡ Ok (reply.Empty, range_updates id name area book.ranges))
      (λ broken. told ≡ Err broken)

-- an area that is given is judged first
abbrev pub IsUpdateNamedRange : List ℕ → Option (List ℕ) → Option Area → PlaceBook
    → Result (Reply × List BookChange) Rule → Type 0
IsUpdateNamedRange id name None book = IsRangeSet id name book None
IsUpdateNamedRange id name (Some area) book =
    OnArea (area_or_broken book.sheets area) (λ area. IsRangeSet id name book (Some area))
