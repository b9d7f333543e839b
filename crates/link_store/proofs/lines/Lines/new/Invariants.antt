use Rattle.link_store.proofs.lines.Lines.new.Given as goal

-- the ledger of the steps
abbrev pub ghosts-with_steps : goal.ghosts-with_steps
ghosts-with_steps g a = record { name = a.blank.name; parts = a.blank.parts }
