-- What becomes of the entries of a map where its values follow a change.
use Rattle.std.specs.Prelude.{Option}
use Rattle.std.specs.Option.{option_map}

-- an entry follows with its value, and its key stays
abbrev pub entry_followed : {K V : Type 0} → (V → Option V) → K × V → Option (K × V)
entry_followed becomes entry = option_map (λ value. (entry.0, value)) (becomes entry.1)
