-- What a disk in memory recorded of its calls, and what a crash may leave of it.
use Rattle.std.specs.Prelude.{◌≡◌, ◌+◌, ◌≤◌, ◌<◌, ℕ, true, false, List, [], ◌∷◌, ◌++◌, length, get_or, take, drop}
use Rattle.journal_disk.specs.Disk.{Torn, most_bytes}
use Rattle.journal_disk.specs.declared.calls.Call.{Call}
use Rattle.journal_disk.specs.declared.calls.Call.TheVariants.{Size, Read, Write, Sync}

-- What reads give, what the last sync settled, and the place and the number of bytes of each write since, the last one
-- first.
pub record DiskState : Type 0 where
  pub seen : List ℕ
  pub settled : List ℕ
  pub unsettled : List (ℕ × ℕ)

-- a disk that is new
abbrev pub empty : DiskState
empty = record { seen = []; settled = []; unsettled = [] }

-- these bytes in the place of those from a place on
abbrev pub over : ℕ → List ℕ → List ℕ → List ℕ
over at bytes old = take at old ++ bytes ++ drop (at + length bytes) old

-- What it holds after a call, where written are all bytes that were written.
-- A write that failed counts as written, and isn't read.
abbrev pub state_after_call : List ℕ → DiskState → Call → DiskState
state_after_call written held (Size failed) = held
state_after_call written held (Read failed) = held
state_after_call written held (Write at from count false) =
    record {
      seen = over at (take count (drop from written)) held.seen;
      settled = held.settled;
      unsettled = (at, count) ∷ held.unsettled;
    }
state_after_call written held (Write at from count true) =
    record { seen = held.seen; settled = held.settled; unsettled = (at, count) ∷ held.unsettled }
state_after_call written held (Sync false) = record { seen = held.seen; settled = held.seen; unsettled = [] }
state_after_call written held (Sync true) = held

abbrev pub state_after : List ℕ → DiskState → List Call → DiskState
state_after written held [] = held
state_after written held (call ∷ calls) = state_after written (state_after_call written held call) calls

-- each write that isn't settled was cut short
abbrev pub IsTornBy : List ℕ → List (ℕ × ℕ) → List ℕ → Type 0
IsTornBy settled [] image = image ≡ settled
IsTornBy settled (write ∷ unsettled) image = (earlier : List ℕ) × IsTornBy settled unsettled earlier
    × Torn write.0 write.1 earlier image

-- A crash may leave this image, of at most 2^62 bytes.
pub record MayLeave (written : List ℕ) (calls : List Call) (image : List ℕ) : Type 0 where
  pub torn : IsTornBy (state_after written empty calls).settled (state_after written empty calls).unsettled image
  pub small : length image ≤ most_bytes

-- A crash after so many calls or more may have left this image.
pub record LeftSince (written : List ℕ) (calls : List Call) (least : ℕ) (image : List ℕ) : Type 0 where
  pub count : ℕ
  pub later : least ≤ count
  pub made : count ≤ length calls
  pub left : MayLeave written (take count calls) image

-- where what a call wrote ends among the bytes that were written, and in the image
abbrev pub bytes_end : Call → ℕ
bytes_end (Size failed) = 0
bytes_end (Read failed) = 0
bytes_end (Write at from count failed) = from + count
bytes_end (Sync failed) = 0

abbrev pub place_end : Call → ℕ
place_end (Size failed) = 0
place_end (Read failed) = 0
place_end (Write at from count failed) = at + count
place_end (Sync failed) = 0

-- what each call wrote is among so many bytes, and ends at 2^62 at most
abbrev pub AllSound : ℕ → List Call → Type 0
AllSound size calls =
    (i : ℕ) (d : Call) → i < length calls
    → (bytes_end (get_or calls i d) ≤ size) × (place_end (get_or calls i d) ≤ most_bytes)

-- these are what reads give, and an image that a crash may leave
pub record IsReplayed (held : DiskState) (seen image : List ℕ) : Type 0 where
  pub same : seen ≡ held.seen
  pub torn : IsTornBy held.settled held.unsettled image
  pub seen_small : length seen ≤ most_bytes
  pub small : length image ≤ most_bytes
