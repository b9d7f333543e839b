-- The doors of a server as contracts see them: the connections that they accepted, and how each of them ended.
use Rattle.std.specs.Prelude.{◌≡◌, ℕ, Bool, zero, suc, List, [], ◌∷◌, ◌++◌, Option, None, Some, IfSome}
use Rattle.std.specs.List.{slice_get}
use Rattle.std.specs.Borrow.{GName}
use Rattle.cell_value.specs.Calls.{one_more}
use Rattle.conversation.specs.declared.ended.Ended.{Ended}

-- what a link tells at a moment: what is left to be read and what was written, where it tells these, how often it
-- failed as a source and as a sink, how often a write found no memory, whether it never fails as a source and as a
-- sink, and the references that it is made of
pub record LinkSeen : Type 0 where
  pub left : Option (List ℕ)
  pub written : Option (List ℕ)
  pub read_faults : ℕ
  pub write_faults : ℕ
  pub shortages : ℕ
  pub read_steady : Bool
  pub write_steady : Bool
  pub references : List GName

-- what a link tells, by what it tells of each of these
abbrev pub link_seen : {L : Type 0} → (L → Option (List ℕ)) → (L → Option (List ℕ)) → (L → ℕ) → (L → ℕ) → (L → ℕ)
    → (L → Bool) → (L → Bool) → (L → List GName) → L → LinkSeen
link_seen left written read_faults write_faults shortages read_steady write_steady references link = record {
  left = left link;
  written = written link;
  read_faults = read_faults link;
  write_faults = write_faults link;
  shortages = shortages link;
  read_steady = read_steady link;
  write_steady = write_steady link;
  references = references link;
}

-- nothing has failed and nothing was written yet
pub record IsFresh (link : LinkSeen) : Type 0 where
  pub reads : link.read_faults ≡ 0
  pub writes : link.write_faults ≡ 0
  pub stores : link.shortages ≡ 0
  pub written : IfSome link.written (λ bytes. bytes ≡ [])

-- how a conversation ended, and what its link told then
pub record Ending : Type 0 where
  pub ended : Ended
  pub link : LinkSeen

-- an accepted connection: what its link told as it was accepted, and how it ended, once it is back
pub record Connection : Type 0 where
  pub came : LinkSeen
  pub back : Option Ending

-- what doors show: the ports on which they were opened, how often they were asked for a connection, and the connections
-- that they accepted, in order
pub record Shown : Type 0 where
  pub opened : List ℕ
  pub accepts : ℕ
  pub connections : List Connection

-- the connection of this number, counted from 0, was accepted and isn't back
abbrev pub IsAway : ℕ → List Connection → Type 0
IsAway number connections = (c : Connection) × (slice_get connections number ≡ Some c) × (c.back ≡ None)

-- the same connections, but the one of this number is back with this ending
abbrev pub came_back : ℕ → Ending → List Connection → List Connection
came_back number ending [] = []
came_back zero ending (c ∷ cs) = record { came = c.came; back = Some ending } ∷ cs
came_back (suc number) ending (c ∷ cs) = c ∷ came_back number ending cs

-- ---- what each call leaves of what is shown

abbrev pub after_open : ℕ → Shown → Shown
after_open port shown = record {
  opened = shown.opened ++ port ∷ [];
  accepts = shown.accepts;
  connections = shown.connections;
}

abbrev pub after_accept : LinkSeen → Shown → Shown
after_accept link shown = record {
  opened = shown.opened;
  accepts = one_more shown.accepts;
  connections = shown.connections ++ record { came = link; back = None } ∷ [];
}

-- no connection was accepted
abbrev pub after_refusal : Shown → Shown
after_refusal shown = record {
  opened = shown.opened;
  accepts = one_more shown.accepts;
  connections = shown.connections;
}

abbrev pub after_back : ℕ → Ending → Shown → Shown
after_back number ending shown = record {
  opened = shown.opened;
  accepts = shown.accepts;
  connections = came_back number ending shown.connections;
}
