use Rattle.shared_grid.proofs.grid.SharedGridCellStore.change.Given as goal

-- the ledger of the steps
abbrev pub ghosts-change_alone : goal.ghosts-change_alone
ghosts-change_alone g a = record { name = a.blank.name; parts = a.blank.parts }
