-- The ports on which doors in memory were opened, of which only contracts know.
use Rattle.std.specs.Prelude.{ℕ, List, [], ◌∷◌, ◌++◌, Option, None, Some}
use Rattle.std.specs.declared.snapshot.Snapshot.{Snapshot}

-- the last one, behind those before it
abbrev pub ports_of : Option (ℕ × Snapshot (List ℕ)) → List ℕ
ports_of None = []
ports_of (Some (port, earlier)) = earlier.value ++ port ∷ []
