use Rattle.answered_calls.proofs.Calling.{calls_answered}
use Rattle.answered_calls.proofs.laws.calls_answered.Goals as goal

pub returns : goal.returns
returns c = calls_answered c.looks_answered.ensures (record {
  write = record {
    answered = c.reads_answered.ensures;
    reading = c.has_reading.ensures.some;
    refer = c.has_reading.ensures.there;
    ids = c.ids_find.ensures;
    writes = c.updates_are_writes.ensures;
    stay = c.writes_stay_sound.ensures;
    follow = c.updates_follow.ensures;
    changes = c.updates_are_changes.ensures;
    turns = c.changes_in_turn.ensures;
  };
  lines = record {
    lines = record {
      places = c.places_stay_apart.ensures;
      within = c.tracks_stay_within.ensures;
      spans = c.spans_stay_apart.ensures;
      torn = c.tears_where_torn.ensures;
      whole = c.torn_or_whole.ensures;
    };
    ids = c.ids_find.ensures;
    changes = c.line_changes_are_changes.ensures;
  };
  once = c.changes_apart.ensures;
  some = c.stands_for_some.ensures;
  added = c.sheets_added.ensures;
  titled = c.sheets_titled.ensures;
  hides = c.sheets_hidden.ensures;
  deleted = c.sheets_deleted.ensures;
  merges = c.merges_are_set.ensures;
  ranges = c.ranges_added.ensures;
  ranges_changed = c.ranges_changed.ensures;
  ranges_deleted = c.ranges_deleted.ensures;
  renamed = c.words_are_renamed.ensures;
  protections = c.protections_are_set.ensures;
  metadata = c.metadata_is_set.ensures;
  order = c.have_order.ensures;
  filters = c.filter_is_set.ensures;
})
