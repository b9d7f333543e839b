-- What is printed of a fault.
use Rattle.std.specs.Prelude.{ℕ, List, codes}
use Rattle.protection.specs.declared.range.ProtectionFault.{ProtectionFault}
use Rattle.protection.specs.declared.range.ProtectionFault.TheVariants.{Bad, NoId, IdTaken, NotEditor, NoMemory}

abbrev pub fault_text : ProtectionFault → List ℕ
fault_text Bad = codes "a bad shape of a protected range"
fault_text NoId = codes "no protected range with the id"
fault_text IdTaken = codes "a protected range has the id"
fault_text NotEditor = codes "the user is no editor of the protected range"
fault_text NoMemory = codes "no memory"
