use Rattle.std.proofs.Common.{refl}
use Rattle.dimension_ops.specs.Broken.{first_broken}
use Rattle.dimension_ops.specs.JudgingLaws.{judged_wrong}
use Rattle.dimension_ops.specs.SheetRequests.{sheet_added_broken}
use Rattle.dimension_ops.proofs.sheets.add_sheet.Goals as goal

pub returns-in-Err-clause-judged : goal.returns-in-Err-clause-judged
returns-in-Err-clause-judged c =
    judged_wrong _ c.in-Err.rule tt
    (first_broken (sheet_added_broken c.args.properties.now c.args.book.now.sheets)) refl c.in-Err.ensures
