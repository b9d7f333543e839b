-- Laws of named ranges.
use Rattle.std.specs.Prelude.{ℕ, List, []}
use Rattle.a1_notation.specs.Word.{IsWord}
use Rattle.named_ranges.specs.NameRule.{IsName}

-- what may be a name is one whole word of a formula
abbrev pub NamesAreWords : Type 0
NamesAreWords = (name : List ℕ) → IsName name → IsWord name []
