use Rattle.std.proofs.Common.{◌≡◌, drop}
use Rattle.sheets_json.specs.Words.{query_value}
use Rattle.sheets_json.proofs.words.query_value.Given as goal

-- it is found among the members from here on
abbrev pub invariant-loop-member : goal.invariant-loop-member
invariant-loop-member l = query_value l.name (drop l.member-index l.query) ≡ query_value l.name l.query
