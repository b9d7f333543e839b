-- The users that a command serves, and why there are none.
use Rattle.std.specs.Prelude.{◌≡◌, ℕ, ◌<◌, ◌≤◌, ⊤, List, length, Option, None, Some, IfSome, IsSomeAnd}
use Rattle.conversation.specs.declared.ended.Ended.TheVariants.{ReadFault, NoMemory}
use Rattle.connections.specs.Calls.{UserTable}
use Rattle.desk.specs.declared.keeper.LoadFault.{LoadFault}
use Rattle.desk.specs.declared.keeper.LoadFault.TheVariants as load
use Rattle.folder.specs.Folder.{ShownFolder, after_open}
use Rattle.users_file.specs.declared.fault.UsersFault.{UsersFault}
use Rattle.users_file.specs.declared.fault.UsersFault.TheVariants as fault
use Rattle.users_file.specs.Table.{IsTable, IsBadTable}
use Rattle.users_file.specs.declared.reading.TheConstants.{LONGEST_TABLE}
use Rattle.commands.specs.declared.finish.Finish.{Finish}
use Rattle.commands.specs.declared.finish.Finish.TheVariants.{Served, BadUsers, UsersLong}

-- a folder that tells has the name, with such bytes
abbrev pub HasFile : Option ShownFolder → List ℕ → (List ℕ → Type 0) → Type 0
HasFile shown name IsSo = IfSome shown (λ folder. IsSomeAnd (folder.files name) IsSo)

-- The table of users: without a name there is none, and anyone is served; else it is that of the file of this name,
-- where the folder tells.
abbrev pub HasUsers : Option ShownFolder → Option (List ℕ) → UserTable → Type 0
HasUsers shown None users = users ≡ None
HasUsers shown (Some name) users =
    (pairs : List (List ℕ × List ℕ)) × (users ≡ Some pairs)
    × HasFile shown name (λ bytes. (length bytes ≤ LONGEST_TABLE) × IsTable bytes pairs)

-- so a command ends for want of users: their file breaks its grammar or its bound; or it couldn't be read, or memory
-- ran out
abbrev pub IsUsersFault : Option ShownFolder → Option (List ℕ) → Finish → Type 0
IsUsersFault shown None finish = ⊥
IsUsersFault shown (Some name) (BadUsers row) =
    HasFile shown name (λ bytes. (length bytes ≤ LONGEST_TABLE) × IsBadTable bytes row)
IsUsersFault shown (Some name) UsersLong = HasFile shown name (λ bytes. LONGEST_TABLE < length bytes)
IsUsersFault shown (Some name) (Served ReadFault) = ⊤
IsUsersFault shown (Some name) (Served NoMemory) = ⊤
IsUsersFault shown (Some name) finish = ⊥

-- what a folder shows behind the reading of users
abbrev pub after_reading : Option (List ℕ) → ShownFolder → ShownFolder
after_reading None shown = shown
after_reading (Some name) shown = after_open name shown

-- how a command ends to which a folder gave nothing
abbrev pub finish_of_load : LoadFault → Finish
finish_of_load load.Failed = Served ReadFault
finish_of_load load.NoMemory = Served NoMemory

-- how a command ends whose file of users has that fault
abbrev pub finish_of_users : UsersFault → Finish
finish_of_users fault.Failed = Served ReadFault
finish_of_users fault.Long = UsersLong
finish_of_users (fault.Bad row) = BadUsers row
finish_of_users fault.NoMemory = Served NoMemory
