-- What is printed of a fault.
use Rattle.std.specs.Prelude.{ℕ, List, codes}
use Rattle.journal_disk.specs.declared.fault.LogFault.{LogFault}
use Rattle.journal_disk.specs.declared.fault.LogFault.TheVariants.{Failed, NoMemory}

abbrev pub fault_text : LogFault → List ℕ
fault_text Failed = codes "the disk failed"
fault_text NoMemory = codes "memory ran out"
