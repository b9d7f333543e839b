use Rattle.std.proofs.Common.{◌∙◌, ap}
use Rattle.folder.specs.Folder.{found_or_made}
use Rattle.folder.specs.Memory.{FilesInMemory, bytes_under}
use Rattle.folder.proofs.Files.{has_found, make_is, stays_before, is_missing}
use Rattle.folder.proofs.memory.MemoryFolder.make.Goals as goal

pub invariant_of-self-then-is_none : goal.invariant_of-self-then-is_none
invariant_of-self-then-is_none c = λ k d lt.
    stays_before c.self.inside.files.items c.push.new.self.items (c.in_ok-name.name, c.of.result) _
    c.in_ok-push.ensures.items (c.self.invariant k d lt)

pub returns-in_ok-push-clause-files : goal.returns-in_ok-push-clause-files
returns-in_ok-push-clause-files c =
    make_is c.args.self.now.files c.self.inside.files.items c.push.new.self.items c.args.name.now
    (c.in_ok-name.name, c.of.result) c.args.make (ap (λ (folder : FilesInMemory). folder.files) c.self.view_is)
    c.if-make.true
    (is_missing c.bytes_of.result _ c.is_none.result c.bytes_of.ensures c.is_none.ensures c.if-is_none.true)
    c.in_ok-name.ensures (c.of.ensures ∙ c.new.ensures.items) c.in_ok-push.ensures.items

pub returns-in_ok-push-clause-made : goal.returns-in_ok-push-clause-made
returns-in_ok-push-clause-made c =
    has_found c.args.self.now.files c.push.new.self.items c.args.name.now
    (found_or_made c.args.make (bytes_under c.args.self.now.files c.args.name.now))
    (returns-in_ok-push-clause-files c)
