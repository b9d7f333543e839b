-- The files of the system, of which contracts see how often they have failed.
use Rattle.std.specs.Prelude.{ℕ}
use Rattle.sheets_cli.specs.declared.files.FileFolder.{FileFolder}
use Rattle.sheets_cli.specs.declared.files.FileKeeper.{FileKeeper}

-- how often a call of the folder or a file that came back has failed
abbrev pub folder_faults : {R : Type 0} → FileFolder R → ℕ
folder_faults folder = folder.faults

-- how often a keeper that came back has failed
abbrev pub keepers_faults : {R : Type 0} → FileFolder R → ℕ
keepers_faults folder = folder.keepers

-- how often the keeper of a journal has failed
abbrev pub journal_faults : FileKeeper → ℕ
journal_faults keeper = keeper.faults
