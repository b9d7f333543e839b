use Rattle.request_kinds.proofs.FilterPut.{can_be_put, filter_put}
use Rattle.request_kinds.proofs.set_basic_filter.put.Goals as goal

pub set_filter-requires : goal.set_filter-requires
set_filter-requires c =
    can_be_put c.args.asked.now c.args.area c.in_ok-criteria.criteria c.in_ok-criteria.ensures _ c.requires

pub returns : goal.returns
returns c =
    filter_put c.args.asked.now c.args.area c.in_ok-criteria.criteria c.in_ok-criteria.ensures c.args.book.now
    c.set_filter.new.self c.in_ok-set_filter.ensures.names
