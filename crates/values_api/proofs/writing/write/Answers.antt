use Rattle.std.proofs.Common.{rules}
use Rattle.world_model.specs.Sound.{place_sheet_with}
use Rattle.values_api.specs.Given.{IsDone, value_uncovered}
use Rattle.values_api.proofs.Told.{done, given_to, same_uncovered, told_nothing}
use Rattle.values_api.proofs.writing.write.Goals as goal

pub put-requires-clause-cells : goal.put-requires-clause-cells
put-requires-clause-cells c =
    let given = c.args.given.now in
    let found = place_sheet_with given.area.now.sheet c.args.book.now.sheets in
    let cells = c.as_slice-cells.result.now in
    given_to given cells found (same_uncovered given cells found _ c.as_slice-cells.ensures c.in_ok-uncovered.ensures)

pub answer-requires-clause-cells : goal.answer-requires-clause-cells
answer-requires-clause-cells c =
    let given = c.args.given.now in
    let found = place_sheet_with given.area.now.sheet c.args.book.now.sheets in
    let cells = c.as_slice-cells.result.now in
    given_to given cells found (same_uncovered given cells found _ c.as_slice-cells.ensures c.in_ok-uncovered.ensures)

pub returns : goal.returns
returns c =
    let given = c.args.given.now in
    let found = place_sheet_with given.area.now.sheet c.args.book.now.sheets in
    let cells = c.as_slice-cells.result.now in
    done given cells found c.in_ok-limit.limit c.args.book.now c.put.new.book c.answer.result
    (same_uncovered given cells found _ c.as_slice-cells.ensures c.in_ok-uncovered.ensures) c.in_ok-limit.ensures
    c.answer.ensures

pub returns-in_err-uncovered : goal.returns-in_err-uncovered
returns-in_err-uncovered c =
    let given = c.args.given.now in
    let book = c.args.book.now in
    told_nothing _ (λ sheet. IsDone given (value_uncovered sheet.merges given) book book)
    (place_sheet_with given.area.now.sheet book.sheets) c.from_residual.result (search rules) c.requires.sheet

pub returns-in_err-limit : goal.returns-in_err-limit
returns-in_err-limit c =
    let given = c.args.given.now in
    let book = c.args.book.now in
    told_nothing _ (λ sheet. IsDone given (value_uncovered sheet.merges given) book c.put.new.book)
    (place_sheet_with given.area.now.sheet book.sheets) c.from_residual-in_err-limit.result (search rules)
    c.requires.sheet
