use Rattle.std.proofs.Common.{◌≡◌, ◌++◌, drop}
use Rattle.sheets_json.specs.Words.{query_values}
use Rattle.sheets_json.proofs.words.query_values.Given as goal

-- the values so far and those of the members from here on are all
abbrev pub invariant-loop-member : goal.invariant-loop-member
invariant-loop-member l =
    l.values.items ++ query_values l.name (drop l.member-index l.query) ≡ query_values l.name l.query
