use Rattle.folder.specs.Memory.{IsThere}
use Rattle.folder.proofs.Files.{front_of, stays_there}
use Rattle.folder.proofs.memory.MemoryFolderFolder.kept_back.Goals as goal

pub invariant_of-self : goal.invariant_of-self
invariant_of-self c = λ k d lt.
    stays_there c.self.inside.files.items c.put_under.new.files.items _ _ _
    c.put_under.ensures
    (front_of (IsThere c.self.inside.files.items) c.self.inside.lent.items c.pop.new.self.items _
    c.in-Some.ensures.items c.self.invariant k d lt)
