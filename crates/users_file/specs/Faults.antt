-- What is printed of a fault.
use Rattle.std.specs.Prelude.{ℕ, List, ◌++◌, codes}
use Rattle.std.specs.Fmt.{decimal}
use Rattle.users_file.specs.declared.fault.UsersFault.{UsersFault}
use Rattle.users_file.specs.declared.fault.UsersFault.TheVariants.{Failed, Long, Bad, NoMemory}

abbrev pub fault_text : UsersFault → List ℕ
fault_text Failed = codes "read fault"
fault_text Long = codes "users long"
fault_text (Bad row) = codes "bad users " ++ decimal row
fault_text NoMemory = codes "no memory"
