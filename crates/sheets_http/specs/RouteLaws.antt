-- What holds of every request line.
use Rattle.std.specs.Prelude.{◌≢◌, ℕ, List, Result, Err}
use Rattle.sheets_http.specs.Routes.{IsRoute}
use Rattle.sheets_http.specs.declared.routes.Route.{Route}
use Rattle.sheets_http.specs.declared.routes.RouteFault.{RouteFault}
use Rattle.sheets_http.specs.declared.routes.RouteFault.TheVariants as fault

-- no request line is without an answer that isn't want of memory: it can't be that none is there
abbrev pub HasRoute : Type 0
HasRoute =
    (method target : List ℕ)
    → ¬ ((routed : Result Route RouteFault) → routed ≢ Err fault.NoMemory → ¬ (IsRoute method target routed))
