-- addNamedRange (Google Sheets API v4 reference, AddNamedRangeRequest): a named range is put behind the others, and is
-- replied. That its area is cut at the grid, and how many there can be, is this project's profile.
use Rattle.std.specs.Prelude.{◌≡◌, ◌+◌, ℕ, false, nat_lt, List, [], ◌∷◌, length, Result, MatchResult, Err}
use Rattle.grid_range.specs.declared.area.Area.{Area}
use Rattle.named_ranges.specs.declared.range.NamedRange.{NamedRange}
use Rattle.world_model.specs.Book.{PlaceBook}
use Rattle.world_model.specs.BookChange.{BookChange}
use Rattle.dimension_ops.specs.Broken.{Broken, Passes, first_passed, judged_by, unbroken}
use Rattle.dimension_ops.specs.RangeRequests.{IsRangeAdded, range_of}
use Rattle.dimension_ops.specs.declared.rule.Limit.TheVariants as limit
use Rattle.dimension_ops.specs.declared.rule.Rule.{Rule}
use Rattle.json_requests.specs.declared.request.NewNamedRange.{NewNamedRange}
use Rattle.sheets_json.specs.declared.spreadsheet.Reply.{Reply}
use Rattle.sheets_json.specs.declared.spreadsheet.Reply.TheVariants as reply
use Rattle.request_kinds.specs.Rows.{OnArea, area_or_broken}

-- the most named ranges that a spreadsheet can have
abbrev pub most_names : ℕ
most_names = 2000

-- so many of them are past that limit
abbrev pub passes_names : ℕ → Passes
passes_names count limit.Names = nat_lt most_names count
passes_names count _ = false

abbrev pub names_broken : ℕ → Broken
names_broken count = record unbroken { past_limit = first_passed (passes_names count) }

-- a named range is replied, and put behind the others
abbrev pub put_behind : NamedRange → Reply × List BookChange
put_behind range = (reply.AddNamedRange range, BookChange.RangeAdded range ∷ [])

-- what is asked for is a named range of the area from then on, unless a rule is broken: by its id or its name, or, once
-- these break none, by one more range
pub record IsRangePut (asked : NewNamedRange) (book : PlaceBook) (area : Area)
    (told : Result (Reply × List BookChange) Rule) : Type 0 where
  pub after : PlaceBook
  pub added : Result (List ℕ) Rule
  pub adds : IsRangeAdded asked.named_range_id asked.name area book after added
  pub tells : MatchResult added
      (λ id. told ≡ judged_by (names_broken (length book.ranges + 1)) (put_behind (range_of id asked.name area)))
      (λ broken. told ≡ Err broken)

-- its area is judged first
abbrev pub IsAddNamedRange : NewNamedRange → PlaceBook → Result (Reply × List BookChange) Rule → Type 0
IsAddNamedRange asked book = OnArea (area_or_broken book.sheets asked.range) (IsRangePut asked book)
