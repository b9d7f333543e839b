-- What is printed of a fault.
use Rattle.std.specs.Prelude.{ℕ, List, codes}
use Rattle.named_ranges.specs.declared.range.NameFault.{NameFault}
use Rattle.named_ranges.specs.declared.range.NameFault.TheVariants.{NoId, IdTaken, BadName, NameTaken, NoMemory}

abbrev pub fault_text : NameFault → List ℕ
fault_text NoId = codes "no named range with the id"
fault_text IdTaken = codes "a named range has the id"
fault_text BadName = codes "no name of a named range"
fault_text NameTaken = codes "another named range has the name"
fault_text NoMemory = codes "no memory"
