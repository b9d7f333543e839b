-- The file of users that a folder has, and why it is no table of users.
use Rattle.std.proofs.Common.{◌≡◌, ℕ, ◌<◌, ◌≤◌, List, length, subst}
use Rattle.std.specs.Prelude.{Option, None, Some, IfSome, IsSome, IsSomeAnd, Result, Err}
use Rattle.folder.specs.Folder.{ShownFolder}
use Rattle.users_file.specs.declared.fault.UsersFault.{UsersFault}
use Rattle.users_file.specs.declared.fault.UsersFault.TheVariants as fault
use Rattle.users_file.specs.declared.reading.TheConstants.{LONGEST_TABLE}
use Rattle.users_file.specs.Table.{IsBadTable}
use Rattle.commands.specs.Users.{HasFile, IsUsersFault, finish_of_users}

-- what holds of the bytes of a file that is there
is_so : (bytes : Option (List ℕ)) (IsSo : List ℕ → Type 0) → IsSome bytes → IfSome bytes IsSo → IsSomeAnd bytes IsSo
is_so None IsSo some so = cc
is_so (Some bytes) IsSo some so = so

pub has_file : (shown : Option ShownFolder) (name : List ℕ) (left : Option (List ℕ)) (IsSo : List ℕ → Type 0)
    → IfSome shown (λ folder. IsSome (folder.files name)) → IfSome shown (λ folder. left ≡ folder.files name)
    → IfSome left IsSo → HasFile shown name IsSo
has_file None name left IsSo found bytes so = tt
has_file (Some folder) name left IsSo found bytes so =
    is_so (folder.files name) IsSo found (subst (λ (l : Option (List ℕ)). IfSome l IsSo) bytes so)

both : (left : Option (List ℕ)) (One Other : List ℕ → Type 0) → IfSome left One → IfSome left Other
    → IfSome left (λ bytes. One bytes × Other bytes)
both None One Other one other = tt
both (Some bytes) One Other one other = (one, other)

pub fault_told : {A : Type 0} (shown : Option ShownFolder) (name : List ℕ) (left : Option (List ℕ)) (told : UsersFault)
    (read : Result A UsersFault) → read ≡ Err told
    → IfSome shown (λ folder. IsSome (folder.files name)) → IfSome shown (λ folder. left ≡ folder.files name)
    → (read ≡ Err fault.Long → IfSome left (λ bytes. LONGEST_TABLE < length bytes))
    → ((row : ℕ) → read ≡ Err (fault.Bad row) → IfSome left (λ bytes. IsBadTable bytes row))
    → ((row : ℕ) → read ≡ Err (fault.Bad row) → IfSome left (λ bytes. length bytes ≤ LONGEST_TABLE))
    → IsUsersFault shown (Some name) (finish_of_users told)
fault_told shown name left fault.Failed read is found bytes long bad within = tt
fault_told shown name left fault.Long read is found bytes long bad within =
    has_file shown name left _ found bytes (long is)
fault_told shown name left (fault.Bad row) read is found bytes long bad within =
    has_file shown name left _ found bytes (both left _ _ (within row is) (bad row is))
fault_told shown name left fault.NoMemory read is found bytes long bad within = tt
