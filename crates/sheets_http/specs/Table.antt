-- The table of calls (Google Sheets API v4 reference, the methods of spreadsheets, spreadsheets.values and
-- spreadsheets.developerMetadata).
use Rattle.std.specs.Prelude.{ℕ, Bool, true, ◌||◌, ◌&&◌, nat_lt, nat_le, List, [], ◌∷◌, length, codes}
use Rattle.std.specs.Str.{bytes_eq}
use Rattle.std.specs.Str.Parse.{digits_value}
use Rattle.sheets_http.specs.declared.verb.Verb.{Verb}
use Rattle.sheets_http.specs.declared.verb.Verb.TheVariants.{Create, Get, Batch, Read, Write, Append, Clear, ReadMany, WriteMany, ClearMany, ReadFiltered, Item, Search}
use Rattle.sheets_http.specs.declared.table.Segment.{Segment}
use Rattle.sheets_http.specs.declared.table.Segment.TheVariants.{Root, Version, Spreadsheets, Values, DeveloperMetadata, SpreadsheetId, Range, MetadataId}
use Rattle.sheets_http.specs.declared.table.Member.{Member}
use Rattle.sheets_http.specs.declared.table.Member.TheVariants.{MajorDimension, ValueRenderOption, ValueInputOption, IncludeValuesInResponse, ResponseValueRenderOption, ResponseDateTimeRenderOption, InsertDataOption, Ranges, IncludeGridData, Alt, PrettyPrint, DateTimeRenderOption}
use Rattle.sheets_http.specs.BodyLengths.{is_numeral}

-- ---- its lines

-- a line of the table: the method, the segments of the path, the verb at its end, the members that the
-- query has, and those that it may have
pub record Line : Type 0 where
  pub method : List ℕ
  pub path : List Segment
  pub verb : List ℕ
  pub required : List Member
  pub optional : List Member

abbrev pub line_of : List ℕ → List Segment → List ℕ → List Member → List Member → Line
line_of method path verb required optional =
    record { method = method; path = path; verb = verb; required = required; optional = optional }

-- /v4/spreadsheets, and what stands below one of them
abbrev pub spreadsheets : List Segment
spreadsheets = Root ∷ Version ∷ Spreadsheets ∷ []

abbrev pub below : List Segment → List Segment
below path = Root ∷ Version ∷ Spreadsheets ∷ SpreadsheetId ∷ path

abbrev pub reading : List Member
reading = MajorDimension ∷ ValueRenderOption ∷ []

abbrev pub writing : List Member
writing = IncludeValuesInResponse ∷ ResponseValueRenderOption ∷ ResponseDateTimeRenderOption ∷ []

abbrev pub appending : List Member
appending = InsertDataOption ∷ writing

abbrev pub input : List Member
input = ValueInputOption ∷ []

abbrev pub line : Verb → Line
line Create = line_of (codes "POST") spreadsheets (codes "") [] []
line Get = line_of (codes "GET") (below []) (codes "") [] (IncludeGridData ∷ [])
line Batch = line_of (codes "POST") (below []) (codes ":batchUpdate") [] []
line Read = line_of (codes "GET") (below (Values ∷ Range ∷ [])) (codes "") [] reading
line Write = line_of (codes "PUT") (below (Values ∷ Range ∷ [])) (codes "") input writing
line Append = line_of (codes "POST") (below (Values ∷ Range ∷ [])) (codes ":append") input appending
line Clear = line_of (codes "POST") (below (Values ∷ Range ∷ [])) (codes ":clear") [] []
line ReadMany = line_of (codes "GET") (below (Values ∷ [])) (codes ":batchGet") [] (Ranges ∷ reading)
line WriteMany = line_of (codes "POST") (below (Values ∷ [])) (codes ":batchUpdate") [] []
line ClearMany = line_of (codes "POST") (below (Values ∷ [])) (codes ":batchClear") [] []
line ReadFiltered = line_of (codes "POST") (below (Values ∷ [])) (codes ":batchGetByDataFilter") [] []
line Item = line_of (codes "GET") (below (DeveloperMetadata ∷ MetadataId ∷ [])) (codes "") [] []
line Search = line_of (codes "POST") (below (DeveloperMetadata ∷ [])) (codes ":search") [] []

-- each query may have these
abbrev pub common : List Member
common = Alt ∷ PrettyPrint ∷ DateTimeRenderOption ∷ []

-- ---- the segments of a path

-- the greatest id of an item of metadata
abbrev pub metadata_id_limit : ℕ
metadata_id_limit = 2147483647

-- a decoded segment is the word that stands there, or a part that the caller gives
abbrev pub fits_segment : Segment → List ℕ → Bool
fits_segment Root text = bytes_eq text (codes "")
fits_segment Version text = bytes_eq text (codes "v4")
fits_segment Spreadsheets text = bytes_eq text (codes "spreadsheets")
fits_segment Values text = bytes_eq text (codes "values")
fits_segment DeveloperMetadata text = bytes_eq text (codes "developerMetadata")
fits_segment SpreadsheetId text = nat_lt 0 (length text)
fits_segment Range text = nat_lt 0 (length text)
fits_segment MetadataId text = is_numeral text && nat_le (digits_value 10 text) metadata_id_limit

-- ---- the members of a query

abbrev pub name_of : Member → List ℕ
name_of MajorDimension = codes "majorDimension"
name_of ValueRenderOption = codes "valueRenderOption"
name_of ValueInputOption = codes "valueInputOption"
name_of IncludeValuesInResponse = codes "includeValuesInResponse"
name_of ResponseValueRenderOption = codes "responseValueRenderOption"
name_of ResponseDateTimeRenderOption = codes "responseDateTimeRenderOption"
name_of InsertDataOption = codes "insertDataOption"
name_of Ranges = codes "ranges"
name_of IncludeGridData = codes "includeGridData"
name_of Alt = codes "alt"
name_of PrettyPrint = codes "prettyPrint"
name_of DateTimeRenderOption = codes "dateTimeRenderOption"

-- how values are rendered
abbrev pub is_rendering : List ℕ → Bool
is_rendering value =
    bytes_eq value (codes "FORMATTED_VALUE") || bytes_eq value (codes "UNFORMATTED_VALUE")
    || bytes_eq value (codes "FORMULA")

-- the values that a member may have
abbrev pub allows : Member → List ℕ → Bool
allows MajorDimension value = bytes_eq value (codes "ROWS") || bytes_eq value (codes "COLUMNS")
allows ValueRenderOption value = is_rendering value
allows ValueInputOption value = bytes_eq value (codes "RAW") || bytes_eq value (codes "USER_ENTERED")
allows IncludeValuesInResponse value = bytes_eq value (codes "false")
allows ResponseValueRenderOption value = is_rendering value
allows ResponseDateTimeRenderOption value = true
allows InsertDataOption value = bytes_eq value (codes "OVERWRITE") || bytes_eq value (codes "INSERT_ROWS")
allows Ranges value = true
allows IncludeGridData value = bytes_eq value (codes "true") || bytes_eq value (codes "false")
allows Alt value = bytes_eq value (codes "json")
allows PrettyPrint value = bytes_eq value (codes "true") || bytes_eq value (codes "false")
allows DateTimeRenderOption value = true
