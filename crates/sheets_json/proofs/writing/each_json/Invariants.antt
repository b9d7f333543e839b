use Rattle.std.proofs.Common.{◌≡◌, map, take}
use Rattle.serde_json.specs.View.{view}
use Rattle.sheets_json.proofs.writing.each_json.Given as goal

-- so far the values are those of the items before this place
abbrev pub invariant-loop-item : goal.invariant-loop-item
invariant-loop-item g l =
    map view l.values.items ≡ map g.T.ToJson.json_data (take l.item-index l.items)
