-- The message of a refusal (`message` of Google's API errors): what is wrong with the body, and which place of it is
-- meant, which are this project's profile.
use Rattle.std.specs.Prelude.{ℕ, List, [], ◌++◌, codes}
use Rattle.std.specs.Fmt.{decimal}
use Rattle.sheets_json.specs.declared.call.CallFault.{CallFault}
use Rattle.sheets_json.specs.declared.call.CallFault.TheVariants as call
use Rattle.sheets_json.specs.declared.place.Place.{Place}
use Rattle.sheets_json.specs.declared.place.Place.TheVariants as place

abbrev pub call_fault_text : CallFault → List ℕ
call_fault_text call.BadBody = codes "BadBody"
call_fault_text call.EmptyBatch = codes "EmptyBatch"
call_fault_text call.NoMemory = codes "NoMemory"

-- before it stands the place of the member of a list that breaks a rule
abbrev pub place_text : Place → List ℕ
place_text place.Alone = []
place_text (place.Requests at) = codes "requests[" ++ decimal at ++ codes "]: "
place_text (place.Data at) = codes "data[" ++ decimal at ++ codes "]: "
place_text (place.Ranges at) = codes "ranges[" ++ decimal at ++ codes "]: "
place_text (place.Filters at) = codes "dataFilters[" ++ decimal at ++ codes "]: "
