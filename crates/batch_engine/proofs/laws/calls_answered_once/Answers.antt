use Rattle.batch_engine.proofs.Once.{answered_once}
use Rattle.batch_engine.proofs.laws.calls_answered_once.Goals as goal

pub returns : goal.returns
returns c = record {
  once = λ caller called books sound.
      answered_once c.a1_laws.ensures.one_reading c.new_sheets_once.ensures c.requests_done_once.ensures
      c.shows_once.ensures c.cells_have_one_value.ensures c.writes_once.ensures
      c.appends_once.ensures c.changes_apart.ensures c.changes_in_turn.ensures books sound caller called;
}
