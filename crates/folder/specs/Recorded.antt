-- Items that contracts alone see.
use Rattle.std.specs.Prelude.{List, [], ◌∷◌, ◌++◌, Option, None, Some}
use Rattle.std.specs.declared.snapshot.Snapshot.{Snapshot}

-- the last one, behind those before it
abbrev pub recorded_items : {T : Type 0} → Option (T × Snapshot (List T)) → List T
recorded_items None = []
recorded_items (Some (item, earlier)) = earlier.value ++ item ∷ []
