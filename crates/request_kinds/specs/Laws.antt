-- A law of requests.
use Rattle.std.specs.Prelude.{◌≡◌, ℕ, List, Result}
use Rattle.world_model.specs.Book.{PlaceBook}
use Rattle.world_model.specs.BookChange.{BookChange}
use Rattle.world_model.specs.Sound.{IsSound}
use Rattle.dimension_ops.specs.declared.rule.Rule.{Rule}
use Rattle.json_requests.specs.declared.request.Request.{Request}
use Rattle.sheets_json.specs.declared.spreadsheet.Reply.{Reply}
use Rattle.request_kinds.specs.Requests.{IsDoneAsAsked}

-- a request has one reply and makes one list of changes on a spreadsheet that is sound, or breaks one rule first
pub record RequestsDoneOnce : Type 0 where
  pub once : (user project : List ℕ) (book : PlaceBook) → IsSound book → (asked : Request)
      (told told' : Result (Reply × List BookChange) Rule) → IsDoneAsAsked user project book asked told
      → IsDoneAsAsked user project book asked told' → told ≡ told'
