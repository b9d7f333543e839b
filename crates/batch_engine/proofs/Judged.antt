-- What is answered unless memory runs out, by cases.
use Rattle.std.specs.Prelude.{Result, Ok, Err}
use Rattle.dimension_ops.specs.Rules.{IsUnlessNoMemory}
use Rattle.dimension_ops.specs.declared.rule.Rule.{Rule}
use Rattle.batch_engine.specs.Calls.{as_told}

-- an answer for which memory didn't run out
pub judged_so : {A : Type 0} (IsAnswer : Result A Rule → Type 0) (answer : Result A Rule)
    → IsUnlessNoMemory IsAnswer (as_told answer) → IsAnswer answer
judged_so IsAnswer (Ok value) is = is
judged_so IsAnswer (Err broken) is = is
