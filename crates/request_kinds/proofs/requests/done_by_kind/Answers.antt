use Rattle.std.proofs.Common.{subst, sym}
use Rattle.dimension_ops.specs.Rules.{IsUnlessNoMemory}
use Rattle.request_kinds.specs.Telling.{IsDoneTo}
use Rattle.request_kinds.specs.Requests.{IsDoneByKind}
use Rattle.request_kinds.proofs.requests.done_by_kind.Goals as goal

pub returns-in-UpdateDeveloperMetadata : goal.returns-in-UpdateDeveloperMetadata
returns-in-UpdateDeveloperMetadata c =
    subst (λ asked. IsUnlessNoMemory
    (IsDoneTo (IsDoneByKind c.args.user.now c.args.project.now c.args.book.now asked)
    c.args.book.now c.update_developer_metadata.new.book) c.update_developer_metadata.result)
    (sym c.in-UpdateDeveloperMetadata.is) (rw c.as_slice-filters.ensures at c.update_developer_metadata.ensures)
