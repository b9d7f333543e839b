use Rattle.std.proofs.Common.{◌≡◌, map, drop}
use Rattle.httparse.specs.Borrowed.{header_parts}
use Rattle.sheets_http.specs.Fields.{sole_value}
use Rattle.sheets_http.proofs.fields.sole_value.Given as goal

-- the fields from here on tell what all of them do
abbrev pub invariant-loop-at : goal.invariant-loop-at
invariant-loop-at l =
    sole_value l.name (map header_parts (drop l.at l.fields)) ≡ sole_value l.name (map header_parts l.fields)
