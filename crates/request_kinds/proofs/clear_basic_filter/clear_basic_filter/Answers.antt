use Rattle.std.proofs.Common.{ap, ◌∙◌, true, false}
use Rattle.std.specs.Prelude.{not}
use Rattle.request_kinds.proofs.FilterPut.{can_be_cleared, clearing_refused, filter_cleared, missing}
use Rattle.request_kinds.proofs.clear_basic_filter.clear_basic_filter.Goals as goal

pub returns-then-is_none : goal.returns-then-is_none
returns-then-is_none c =
    clearing_refused c.args.sheet c.args.book.now.sheets
    (missing c.sheet.result _ true c.sheet.ensures (c.is_none.ensures ∙ ap not c.if-is_none.true))

pub set_filter-requires : goal.set_filter-requires
set_filter-requires c =
    can_be_cleared _ (missing c.sheet.result _ false c.sheet.ensures (c.is_none.ensures ∙ ap not c.if-is_none.false))

pub returns : goal.returns
returns c =
    filter_cleared c.args.sheet c.args.book.now c.set_filter.new.self
    (missing c.sheet.result _ false c.sheet.ensures (c.is_none.ensures ∙ ap not c.if-is_none.false))
    c.in_ok-set_filter.ensures.names
