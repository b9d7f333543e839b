use Rattle.std.proofs.Common.{ℕ, sym, subst, ◌∙◌}
use Rattle.values_api.specs.Appending.{StartsInside}
use Rattle.values_api.proofs.Planning.{few_lines, found_by_own, items_inside, plan_made, plan_refused, starts}
use Rattle.values_api.proofs.appending.plan_of.Goals as goal

pub table_in-requires-clause-few : goal.table_in-requires-clause-few
table_in-requires-clause-few c =
    few_lines c.args.book.now c.stays_sound.ensures c.args.area.now c.in-Some.sheet.now c.in-Some.ensures

pub table_in-requires-clause-inside : goal.table_in-requires-clause-inside
table_in-requires-clause-inside c =
    items_inside c.args.book.now c.stays_sound.ensures c.args.area.now c.in-Some.sheet.now c.in-Some.ensures

pub lines_added-added-requires : goal.lines_added-added-requires
lines_added-added-requires c =
    subst (λ (s : ℕ × ℕ). StartsInside s c.in-Some.sheet.now) (sym c.start_of-start.ensures)
    (starts c.args.book.now c.stays_sound.ensures c.args.area.now c.in-Some.sheet.now c.in-Some.ensures
    c.in_ok-table.table c.requires c.in_ok-table.ensures)

pub limit_passed-requires : goal.limit_passed-requires
limit_passed-requires c = record {
  there = found_by_own c.args.book.now c.stays_sound.ensures c.args.area.now c.in-Some.sheet.now c.in-Some.ensures;
}

pub returns-in-Some-limit_passed : goal.returns-in-Some-limit_passed
returns-in-Some-limit_passed c =
    plan_refused c.args.book.now c.stays_sound.ensures c.args.area.now c.in-Some.sheet.now c.in-Some.ensures
    c.args.insert c.args.block.now c.requires
    (record { table = c.in_ok-table.table; start = c.start_of-start.result; added = c.lines_added-added.result })
    c.in_ok-table.ensures c.start_of-start.ensures c.lines_added-added.ensures c.in-Some-limit_passed.limit
    (sym c.in-Some-limit_passed.is ∙ c.limit_passed.ensures)

pub returns : goal.returns
returns c =
    plan_made c.args.book.now c.stays_sound.ensures c.args.area.now c.in-Some.sheet.now c.in-Some.ensures
    c.args.insert c.args.block.now c.requires
    (record { table = c.in_ok-table.table; start = c.start_of-start.result; added = c.lines_added-added.result })
    c.in_ok-table.ensures c.start_of-start.ensures c.lines_added-added.ensures
    (sym c.in_default-limit_passed.is ∙ c.limit_passed.ensures)
