-- What is printed of a fault.
use Rattle.std.specs.Prelude.{ℕ, List, codes}

abbrev pub spent_text : List ℕ
spent_text = codes "all numbers were given"
