-- What is printed of a fault.
use Rattle.std.specs.Prelude.{ℕ, List, codes}
use Rattle.a1_notation.specs.declared.a1.A1Fault.{A1Fault}
use Rattle.a1_notation.specs.declared.a1.A1Fault.TheVariants.{NotA1, PastZZZ, NoMemory}

abbrev pub fault_text : A1Fault → List ℕ
fault_text NotA1 = codes "no range in A1 notation"
fault_text PastZZZ = codes "a column past ZZZ"
fault_text NoMemory = codes "no memory"
