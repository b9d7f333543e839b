-- The responses that a conversation has of itself: the constant one for want of memory, and the one that closes it at a
-- refused head (RFC 9112, section 9.6).
use Rattle.std.specs.Prelude.{ℕ, Bool, true, List, codes}
use Rattle.serde_json.specs.Written.{compact_text}
use Rattle.sheets_http.specs.Responses.{text_of_response, no_memory_body}
use Rattle.sheets_http.specs.declared.request.HeadFault.{HeadFault}
use Rattle.sheets_http.specs.declared.request.HeadFault.TheVariants.{HeadLong, BadHead, NoLength, BodyLong}
use Rattle.sheets_json.specs.Refusals.{refusal_data}
use Rattle.conversation.specs.declared.replies.Said.{Said}
use Rattle.conversation.specs.declared.replies.Said.TheVariants as said

-- the response where memory runs out
unfoldable pub no_memory_text : Bool → List ℕ
no_memory_text close = text_of_response 507 close no_memory_body

-- what is said in place of a request's response, of which that is true: it, the constant one, or nothing, where no
-- memory was left for it
abbrev pub IsSaid : (List ℕ → Type 0) → Bool → Said → Type 0
IsSaid IsResponse close (said.Response bytes) = IsResponse bytes
IsSaid IsResponse close said.Constant = IsResponse (no_memory_text close)
IsSaid IsResponse close said.Lost = (response : List ℕ) × IsResponse response

-- the status of the refusal of a head (RFC 9110, sections 15.5.1 and 15.5.14; RFC 6585, section 5), and its message
abbrev pub status_of_head : HeadFault → ℕ
status_of_head HeadLong = 431
status_of_head BadHead = 400
status_of_head NoLength = 400
status_of_head BodyLong = 413

abbrev pub message_of_head : HeadFault → List ℕ
message_of_head HeadLong = codes "HeadLong"
message_of_head BadHead = codes "BadHead"
message_of_head NoLength = codes "NoLength"
message_of_head BodyLong = codes "BodyLong"

-- the response that closes a conversation at a refused head
abbrev pub closing_text : HeadFault → List ℕ
closing_text refused =
    text_of_response (status_of_head refused) true
    (compact_text (refusal_data (status_of_head refused) (message_of_head refused)))
