-- What is printed of a fault.
use Rattle.std.specs.Prelude.{ℕ, List, codes}
use Rattle.dev_metadata.specs.declared.types.MetaFault.{MetaFault}
use Rattle.dev_metadata.specs.declared.types.MetaFault.TheVariants.{NoId, IdTaken, BadLookup, NoMemory}

abbrev pub fault_text : MetaFault → List ℕ
fault_text NoId = codes "no metadata with the id"
fault_text IdTaken = codes "metadata has the id"
fault_text BadLookup = codes "a bad look-up of metadata"
fault_text NoMemory = codes "no memory"
