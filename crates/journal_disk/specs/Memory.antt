-- What a disk in memory tells of its calls.
use Rattle.std.specs.Prelude.{ℕ, ◌+◌, ◌-◌, Bool, ◌||◌, nat_lt, List, length}
use Rattle.cell_value.specs.Calls.{CallCount}
use Rattle.journal_disk.specs.Disk.{most_bytes}
use Rattle.journal_disk.specs.Failing.{Bounds, call_fails}
use Rattle.journal_disk.specs.Recorded.{MayLeave, LeftSince}
use Rattle.journal_disk.specs.declared.memory.MemoryDisk.{MemoryDisk}

-- its calls, and how many failed
abbrev pub calls_of : MemoryDisk → CallCount
calls_of disk = disk.outages.calls

-- what ends its calls
abbrev pub bounds_of : MemoryDisk → Bounds
bounds_of disk = disk.outages.bounds

-- how many written bytes are in its record
abbrev pub written_to : MemoryDisk → ℕ
written_to disk = length disk.written.items

-- the next call fails
abbrev pub fails : MemoryDisk → Bool
fails disk = call_fails (bounds_of disk) (calls_of disk)

-- so many bytes are more than the record has room for, or end past 2^62
abbrev pub is_too_long : MemoryDisk → ℕ → ℕ → Bool
is_too_long disk at count = nat_lt ((bounds_of disk).bytes - written_to disk) count || nat_lt most_bytes (at + count)

-- the next call fails, if it is this write
abbrev pub write_fails : MemoryDisk → ℕ → ℕ → Bool
write_fails disk at count = fails disk || is_too_long disk at count

-- a crash may leave this image now
abbrev pub MayBeLeft : MemoryDisk → List ℕ → Type 0
MayBeLeft disk image = MayLeave disk.written.items disk.calls.items image

-- a crash after so many calls or more may have left this image
abbrev pub WasLeftSince : MemoryDisk → ℕ → List ℕ → Type 0
WasLeftSince disk count image = LeftSince disk.written.items disk.calls.items count image
