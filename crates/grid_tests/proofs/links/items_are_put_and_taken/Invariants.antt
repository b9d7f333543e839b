use Rattle.grid_tests.proofs.links.items_are_put_and_taken.Given as goal

-- the ledger of the steps
abbrev pub ghosts-call_counted : goal.ghosts-call_counted
ghosts-call_counted g a = record { name = a.blank.name; parts = a.blank.parts }
