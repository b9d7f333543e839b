-- What holds of every conversation that was cut off.
use Rattle.std.specs.Prelude.{◌≡◌, ℕ, List, ◌++◌}
use Rattle.sheets_http.specs.declared.request.Wire.{Wire}
use Rattle.sheets_http.specs.Framing.{End, Talk}
use Rattle.conversation.specs.Conversation.{StartsWithRequests}

-- requests with which a stream begins are the first ones of its talk, whose others and whose end are those
-- of the talk of what is left behind them
abbrev pub BeginsTalk : Type 0
BeginsTalk =
    (room : ℕ) (bytes : List ℕ) (requests : List Wire) (room' : ℕ) (rest : List ℕ) (wires : List Wire) (end : End)
    → StartsWithRequests room bytes requests room' rest → Talk room bytes wires end
    → (others : List Wire) × (wires ≡ requests ++ others) × Talk room' rest others end
