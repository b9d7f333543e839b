-- What a buffer knows of a head, and how far each read brings a request.
use Rattle.std.specs.Prelude.{◌≡◌, ℕ, ◌+◌, ◌<◌, ◌≤◌, List, [], ◌∷◌, length, take, Option, Some, None, IfSome, Result, Ok, Err, ⊤}
use Rattle.httparse.specs.Grammar.{RequestHead, ReadsRequest}
use Rattle.cell_value.specs.declared.failure.NoMemory.{NoMemory}
use Rattle.sheets_http.specs.declared.next.Progress.{Progress}
use Rattle.sheets_http.specs.declared.next.Progress.TheVariants as progress
use Rattle.sheets_http.specs.declared.scanned.Scanned.{Scanned}
use Rattle.sheets_http.specs.declared.scanned.Scanned.TheVariants as scanned
use Rattle.sheets_http.specs.declared.scan.HeadScan.{HeadScan}
use Rattle.sheets_http.specs.declared.scan.HeadState.TheVariants.{Growing, Whole}
use Rattle.sheets_http.specs.Heads.{skip_breaks, head_state, SettledAt, IsUnsettled}
use Rattle.sheets_http.specs.Fields.{fields_of}
use Rattle.sheets_http.specs.Scanning.{IsScan}
use Rattle.sheets_http.specs.HeadReading.{IsSummary}
use Rattle.sheets_http.specs.declared.summary.HeadSummary.{HeadSummary}
use Rattle.sheets_http.specs.declared.request.Next.{Next}
use Rattle.sheets_http.specs.declared.request.Next.TheVariants as next
use Rattle.sheets_http.specs.Framing.{refused_message, BeginsWith}
use Rattle.sheets_http.specs.Requests.{Buffered, room_of, IsRequest, IsAnswer}

-- the scan is at the first bytes, and these don't settle how the head stands
pub record IsReady (scan : HeadScan) (bytes : List ℕ) : Type 0 where
  pub scan_is : IsScan scan bytes
  pub growing : head_state (take scan.seen bytes) ≡ Growing

-- what a scan finds at the front of the bytes: a head that is read, one that is refused, or none yet
abbrev pub IsScanned : List ℕ → Result Scanned NoMemory → Type 0
IsScanned bytes (Ok (scanned.Head summary end)) =
    (h : RequestHead) × SettledAt bytes end Whole × ReadsRequest (skip_breaks (take end bytes)) h []
    × IsSummary h.method h.target h.minor (fields_of h) summary
IsScanned bytes (Ok (scanned.Refused fault)) = BeginsWith bytes (refused_message fault)
IsScanned bytes (Ok scanned.Growing) = IsUnsettled bytes
IsScanned bytes (Err error) = ⊤

-- the answer at the end of a stream whose rest this is, without the empty lines before it
abbrev pub end_answer : List ℕ → Next
end_answer [] = next.End
end_answer (b ∷ bytes) = next.Truncated (length (b ∷ bytes))

-- how far one read brings a request: an answer that is no request, a head that was read, or more bytes are
-- held and the bound isn't met
abbrev pub IsProgress : ℕ → Buffered → Buffered → Option (List ℕ) → Option (List ℕ) → Progress → Type 0
IsProgress most held held_after stream stream_after (progress.Answer answer) =
    IfSome stream (λ bytes. IsAnswer (room_of most held) bytes (room_of most held_after) stream_after answer)
IsProgress most held held_after stream stream_after (progress.Head summary end) =
    (held_after ≡ held) × IsScanned (take (room_of most held) held.pending) (Ok (scanned.Head summary end))
IsProgress most held held_after stream stream_after progress.More =
    (length held.pending < length held_after.pending) × (length held.pending < room_of most held)

-- no request is answered
abbrev pub AnswersNoRequest : Progress → Type 0
AnswersNoRequest (progress.Answer answer) = ¬ (IsRequest answer)
AnswersNoRequest (progress.Head summary end) = ⊤
AnswersNoRequest progress.More = ⊤

-- waiting for a body: an answer, or the body is held behind the same head
abbrev pub IsBody : ℕ → Buffered → Buffered → Option (List ℕ) → Option (List ℕ) → HeadSummary → ℕ → Option Next → Type 0
IsBody most held held_after stream stream_after summary end (Some answer) =
    IfSome stream (λ bytes. IsAnswer (room_of most held) bytes (room_of most held_after) stream_after answer)
IsBody most held held_after stream stream_after summary end None =
    IsScanned (take (room_of most held) held_after.pending) (Ok (scanned.Head summary end))
    × (end + summary.length ≤ length held_after.pending) × (end + summary.length ≤ room_of most held)
