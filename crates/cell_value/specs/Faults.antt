-- What is printed of a fault.
use Rattle.std.specs.Prelude.{ℕ, List, codes}
use Rattle.cell_value.specs.declared.entered.Bad.{Bad}
use Rattle.cell_value.specs.declared.entered.Bad.TheVariants.{NotWhole, TooLong, NotScalar, NoMemory}

abbrev pub no_memory_text : List ℕ
no_memory_text = codes "no memory"

abbrev pub failed_text : List ℕ
failed_text = codes "failed"

abbrev pub bad_text : Bad → List ℕ
bad_text NotWhole = codes "not a whole number within 2^53 either way"
bad_text TooLong = codes "a text of more than 50,000 bytes"
bad_text NotScalar = codes "a list or an object"
bad_text NoMemory = no_memory_text
