use Rattle.std.proofs.lemmas.List.Elements.{All-same}
use Rattle.batch_engine.specs.Searches.{IsSearchDone}
use Rattle.batch_engine.proofs.Searching.{all_done, search_broken, search_told}
use Rattle.batch_engine.proofs.searches.search.Goals as goal

pub all_matched-requires : goal.all_matched-requires
all_matched-requires c =
    All-same (IsSearchDone c.args.project.now c.args.book.now.metadata) _ _ c.as_slice.ensures
    (all_done c.args.project.now c.args.book.now c.args.filters.now c.in_ok-searched.field-0 c.in_ok-searched.ensures
    c.in-Ok.searched c.in-Ok.is)

pub returns-in_ok-all-in-Ok : goal.returns-in_ok-all-in-Ok
returns-in_ok-all-in-Ok c =
    search_told c.args.project.now c.args.book.now c.args.filters.now c.in_ok-searched.field-0 c.in_ok-searched.ensures
    c.in-Ok.searched c.in-Ok.is c.in_ok-all-in-Ok.all (rw c.as_slice.ensures at c.in_ok-all-in-Ok.ensures)
    c.unless_empty.result c.unless_empty.ensures

pub returns-in-Err : goal.returns-in-Err
returns-in-Err c =
    search_broken c.args.project.now c.args.book.now c.args.filters.now c.in_ok-searched.field-0
    c.in_ok-searched.ensures
    c.in-Err.at c.in-Err.rule c.in-Err.is
