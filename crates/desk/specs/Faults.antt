-- What is printed of a fault, and what it is for who hands it on.
use Rattle.std.specs.Prelude.{ℕ, List, ◌++◌, codes}
use Rattle.std.specs.Fmt.{decimal}
use Rattle.desk.specs.declared.fault.JournalFault.{JournalFault}
use Rattle.desk.specs.declared.fault.JournalFault.TheVariants as journal
use Rattle.desk.specs.declared.fault.OpenFault.{OpenFault}
use Rattle.desk.specs.declared.fault.OpenFault.TheVariants as opening
use Rattle.desk.specs.declared.keeper.LoadFault.{LoadFault}
use Rattle.desk.specs.declared.keeper.LoadFault.TheVariants as load
use Rattle.desk.specs.declared.keeper.PutFault.{PutFault}
use Rattle.desk.specs.declared.keeper.PutFault.TheVariants as put

abbrev pub load_fault_text : LoadFault → List ℕ
load_fault_text load.Failed = codes "failed"
load_fault_text load.NoMemory = codes "no memory"

abbrev pub put_fault_text : PutFault → List ℕ
put_fault_text put.Failed = codes "failed"
put_fault_text put.NoMemory = codes "no memory"

abbrev pub journal_fault_text : JournalFault → List ℕ
journal_fault_text (journal.Bad number) = codes "bad journal " ++ decimal number
journal_fault_text journal.NoMemory = codes "no memory"

abbrev pub open_fault_text : OpenFault → List ℕ
open_fault_text opening.KeeperFault = codes "unavailable"
open_fault_text opening.JournalLong = codes "journal long"
open_fault_text (opening.BadJournal number) = codes "bad journal " ++ decimal number
open_fault_text opening.NoMemory = codes "no memory"

-- what a load that failed is for an opening
abbrev pub load_failed : LoadFault → OpenFault
load_failed load.Failed = opening.KeeperFault
load_failed load.NoMemory = opening.NoMemory

-- what a journal that wasn't read is for an opening
abbrev pub reading_failed : JournalFault → OpenFault
reading_failed (journal.Bad number) = opening.BadJournal number
reading_failed journal.NoMemory = opening.NoMemory
