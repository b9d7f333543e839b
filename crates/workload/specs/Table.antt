-- The table of the work's calls (Google Sheets API v4 reference, spreadsheets.values.update and
-- spreadsheets.batchUpdate).
use Rattle.std.specs.Prelude.{ℕ, ◌+◌, ◌%◌, ◌==◌, List, ◌++◌, codes, decimal, if◌then◌else◌}
use Rattle.workload.specs.declared.table.Call.{Call}

-- the row that call i writes into, counted from 1; after a thousand rows they begin again
abbrev pub row_of : ℕ → ℕ
row_of i = i % 1000 + 1

-- the row that call i moves, counted from 0
abbrev pub moved_row : ℕ → ℕ
moved_row i = i % 7

-- the call writes its number into column A of its row
unfoldable pub number_call : ℕ → Call
number_call i = record {
  target = codes "PUT /v4/spreadsheets/book1/values/A" ++ decimal (row_of i) ++ codes "?valueInputOption=RAW";
  body = codes "{\"values\":[[" ++ decimal i ++ codes "]]}";
}

-- the call writes a formula into column B of its row, as a user enters it, which reads column A
unfoldable pub formula_call : ℕ → Call
formula_call i = record {
  target = codes "PUT /v4/spreadsheets/book1/values/B" ++ decimal (row_of i) ++ codes "?valueInputOption=USER_ENTERED";
  body = codes "{\"values\":[[\"=A" ++ decimal (row_of i) ++ codes "+1\"]]}";
}

-- the body that moves a row, counted from 0, to where row 20 begins
abbrev pub move_text : ℕ → List ℕ
move_text row =
    codes "{\"requests\":[{\"moveDimension\":{\"destinationIndex\":20,\"source\":{\"dimension\":\"ROWS\",\"endIndex\":"
    ++ (decimal (row + 1) ++ (codes ",\"sheetId\":0,\"startIndex\":" ++ (decimal row ++ codes "}}}]}")))

-- the call moves its row
unfoldable pub move_call : ℕ → Call
move_call i = record { target = codes "POST /v4/spreadsheets/book1:batchUpdate"; body = move_text (moved_row i) }

-- the call deletes the first thousand rows
unfoldable pub delete_call : Call
delete_call = record {
  target = codes "POST /v4/spreadsheets/book1:batchUpdate";
  body = codes "{\"requests\":[{\"deleteDimension\":{\"range\":{\"dimension\":\"ROWS\",\"endIndex\":1000,"
      ++ codes "\"sheetId\":0,\"startIndex\":0}}}]}";
}

-- call i: the four take turns
abbrev pub call_of : ℕ → Call
call_of i =
    if i % 4 == 0 then number_call i
    else (if i % 4 == 1 then formula_call i
    else (if i % 4 == 2 then move_call i else delete_call))
