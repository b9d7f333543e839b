-- What reading the text of a head answers.
use Rattle.std.specs.Prelude.{◌≡◌, ℕ, ◌<◌, ◌≤◌, false, List, [], length, take, Result, Ok, Err, ⊤}
use Rattle.httparse.specs.Grammar.{RequestHead, ReadsRequest}
use Rattle.sheets_http.specs.declared.request.HeadFault.TheVariants.{BadHead}
use Rattle.sheets_http.specs.declared.summary.HeadSummary.{HeadSummary}
use Rattle.sheets_http.specs.declared.summary.HeadError.{HeadError}
use Rattle.sheets_http.specs.declared.summary.HeadError.TheVariants as error
use Rattle.sheets_http.specs.Heads.{ends_with_empty_line, line_feeds, line_limit, IsNoHead}
use Rattle.sheets_http.specs.Fields.{Fields, fields_of, asks_to_close, is_coded}
use Rattle.sheets_http.specs.BodyLengths.{body_length}
use Rattle.sheets_http.specs.Callers.{user_token, project}

-- the first empty line of the text is its end, and it has no more lines than a head may have
pub record IsHeadText (text : List ℕ) : Type 0 where
  pub no_end : (m : ℕ) → m < length text → ends_with_empty_line (take m text) ≡ false
  pub few : line_feeds text ≤ line_limit

-- the summary has the parts of a request line and its fields
pub record IsSummary (method target : List ℕ) (minor : ℕ) (fields : Fields) (summary : HeadSummary) : Type 0 where
  pub method_is : summary.method ≡ method
  pub target_is : summary.target ≡ target
  pub user_token_is : summary.user_token ≡ user_token fields
  pub project_is : summary.project ≡ project fields
  pub coded_is : summary.coded ≡ is_coded fields
  pub close_is : summary.close ≡ asks_to_close minor fields
  pub length_is : body_length method fields ≡ Ok summary.length

-- what is answered to these parts: their summary, or why the request is refused
abbrev pub SummaryOf : List ℕ → List ℕ → ℕ → Fields → Result HeadSummary HeadError → Type 0
SummaryOf method target minor fields (Ok summary) = IsSummary method target minor fields summary
SummaryOf method target minor fields (Err (error.Fault fault)) = body_length method fields ≡ Err fault
SummaryOf method target minor fields (Err error.NoMemory) = ⊤

-- the same of a head of the grammar
abbrev pub SummaryOfHead : RequestHead → Result HeadSummary HeadError → Type 0
SummaryOfHead h result = SummaryOf h.method h.target h.minor (fields_of h) result

-- what is answered to a text: by the head that it is, or since it is none
pub data ReadsHead (text : List ℕ) (result : Result HeadSummary HeadError) : Type 0 where
  of_head_text : (h : RequestHead) → ReadsRequest text h [] → SummaryOfHead h result → ReadsHead text result
  of_other_text : IsNoHead text → result ≡ Err (error.Fault BadHead) → ReadsHead text result
