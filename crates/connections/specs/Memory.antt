-- Links in memory in the place of connections.
use Rattle.std.specs.Prelude.{◌≡◌, ℕ, Bool, ◌||◌, ◌==◌, List, [], ◌∷◌, ◌++◌, IfSome, map, length}
use Rattle.std.specs.Option.{option_map}
use Rattle.cell_value.specs.Calls.{CallCount, fails_next}
use Rattle.connections.specs.Doors.{LinkSeen, IsFresh, Connection, Shown}
use Rattle.connections.specs.declared.memory.Visit.{Visit}

-- the links that are still to be accepted, of which the last comes first, the connections that were accepted, the ports
-- on which the doors were opened, how often they were asked for a connection, and their calls
pub record LinksInMemory (L : Type 0) : Type 0 where
  pub coming : List (L × List ℕ)
  pub accepted : List (Visit L)
  pub opened : List ℕ
  pub accepts : ℕ
  pub calls : CallCount

-- a link that tells holds the bytes beside it, nothing was written to it yet, and it hasn't failed
pub record IsComing {L : Type 0} (seen : L → LinkSeen) (link : L × List ℕ) : Type 0 where
  pub fresh : IsFresh (seen link.0)
  pub held : IfSome (seen link.0).left (λ bytes. bytes ≡ link.1)

-- the next call of `accept` fails: it is to fail, or no link is left
abbrev pub refuses_next : {L : Type 0} → LinksInMemory L → Bool
refuses_next doors = fails_next doors.calls || length doors.coming == 0

-- the link came first of those, and the others are left
abbrev pub CameFirst : {L : Type 0} → L → List (L × List ℕ) → List (L × List ℕ) → Type 0
CameFirst link coming left = (held : List ℕ) × (coming ≡ left ++ (link, held) ∷ [])

-- an accepted connection as doors show it
abbrev pub connection_of : {L : Type 0} → (L → LinkSeen) → Visit L → Connection
connection_of seen visit = record {
  came = seen visit.came.value;
  back = option_map (λ back. record { ended = back.0; link = seen back.1 }) visit.back;
}

-- what the doors show
abbrev pub shown_by : {L : Type 0} → (L → LinkSeen) → LinksInMemory L → Shown
shown_by seen doors = record {
  opened = doors.opened;
  accepts = doors.accepts;
  connections = map (connection_of seen) doors.accepted;
}
