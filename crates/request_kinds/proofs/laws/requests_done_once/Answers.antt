use Rattle.request_kinds.proofs.RequestsOnce.{done_once}
use Rattle.request_kinds.proofs.laws.requests_done_once.Goals as goal

pub returns : goal.returns
returns c = record {
  once = λ user project book sound asked.
      done_once c.new_sheets_once.ensures c.writes_once.ensures c.changes_apart.ensures c.changes_in_turn.ensures
      c.lists_are_same.ensures user project book sound asked;
}
