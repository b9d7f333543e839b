use Rattle.std.proofs.Common.{◌≡◌, map, drop}
use Rattle.httparse.specs.Borrowed.{header_parts}
use Rattle.sheets_http.specs.BodyLengths.{content_length}
use Rattle.sheets_http.proofs.fields.content_length.Given as goal

-- the fields from here on tell what all of them do
abbrev pub invariant-loop-at : goal.invariant-loop-at
invariant-loop-at l =
    content_length (map header_parts (drop l.at l.fields)) ≡ content_length (map header_parts l.fields)
